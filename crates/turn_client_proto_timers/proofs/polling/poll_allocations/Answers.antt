use Rattle.std.proofs.Common.{List, [], subst, ◌∙◌}
use Rattle.std.specs.Prelude.{◌≢◌, OnErr}
use Rattle.turn_client_proto_allocation.proofs.Reported.{always_reported}
use Rattle.turn_client_proto_allocation.specs.declared.allocation.Allocation.{Allocation}
use Rattle.turn_client_proto_connection.specs.Expiring.{all_gone}
use Rattle.turn_client_proto_timers.specs.Polling.{left}
use Rattle.turn_client_proto_timers.proofs.Expires.{closing_reported}
use Rattle.turn_client_proto_timers.proofs.polling.poll_allocations.Goals as goal

pub returns-in_err-close_all_gone-clause-memory : goal.returns-in_err-close_all_gone-clause-memory
returns-in_err-close_all_gone-clause-memory c =
    let ended = c.args.ended.now in
    let now = c.args.now in
    let reported = subst (λ r. OnErr r (all_gone ended now c.as_slice-allocations.result.now ≢ [])) c.in_err-close_all_gone.was c.close_all_gone.ensures.reported in
    let there = c.as_slice-allocations.ensures ∙ c.poll-next.ensures.left in
    always_reported c.from_residual-in_err-close_all_gone.result
    (closing_reported ended now (left ended now c.args.protocol.now) (subst (λ (l : List Allocation). all_gone ended now l ≢ []) there reported))
