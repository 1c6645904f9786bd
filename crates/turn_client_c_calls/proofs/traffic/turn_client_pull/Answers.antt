use Rattle.std.proofs.Common.{rules, ℕ, ℤ, subst}
use Rattle.turn_client_c_calls.specs.Traffic.{IsPulledReported}
use Rattle.turn_client_c_calls.proofs.Calling.{on_client}
use Rattle.turn_client_c_calls.proofs.traffic.turn_client_pull.Goals as goal

pub returns : goal.returns
returns c =
    on_client (λ (s : ℤ). IsPulledReported c.args.now s c.args.payload.now c.pull-status.new.payload) _ _ _ c.pull-status.result c.in-Some.whole.value c.deref_mut.result.now c.pull-status.new.whole
    (search rules) c.in-Some.ensures.client c.deref_mut.ensures.value c.put.ensures
    (subst (λ (n : ℕ). IsPulledReported n c.pull-status.result c.args.payload.now c.pull-status.new.payload c.deref_mut.result.now c.pull-status.new.whole) c.from_nanos.ensures c.pull-status.ensures)
