use Rattle.std.proofs.Common.{subst, sym, ◌<◌, ◌^◌, ℕ}
use Rattle.std.proofs.Math.ListN.{length-map}
use Rattle.turn_client_proto_allocation.specs.declared.permission.Permission.{Permission}
use Rattle.turn_client_proto.proofs.getters.PermissionAddressesIter.new.Goals as goal

pub returns-clause-few : goal.returns-clause-few
returns-clause-few c =
    subst (λ (n : ℕ). n < 2 ^ 64) (sym (length-map c.args.permissions.now (λ (p : Permission). p.ip))) c.well_formed.0.0
