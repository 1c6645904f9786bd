use Rattle.std.proofs.Common.{arith, length, subst, sym, ◌<◌, ◌^◌, ◌∙◌, ℕ}
use Rattle.std.specs.Prelude.{filter}
use Rattle.std.proofs.lemmas.List.Sums.{count_by-le-length, length-filter}
use Rattle.std.proofs.Math.ListN.{length-map}
use Rattle.turn_client_proto_allocation.specs.Listed.{is_listed}
use Rattle.turn_client_proto_allocation.specs.declared.allocation.Allocation.{Allocation}
use Rattle.turn_client_proto.proofs.getters.RelayedAddressesIter.new.Goals as goal

pub returns-clause-few : goal.returns-clause-few
returns-clause-few c =
    let most = count_by-le-length is_listed c.args.allocations.now in
    let counted = length-map (filter is_listed c.args.allocations.now) (λ (a : Allocation). (a.transport, a.address))
    ∙ length-filter is_listed c.args.allocations.now in
    subst (λ (n : ℕ). n < 2 ^ 64) (sym counted) (omega (arith, most, c.well_formed.0.0))
