use Rattle.std.proofs.Common.{◌≡◌, None, Some, sym, ap, subst, ◌∙◌}
use Rattle.std.specs.Prelude.{MatchOption}
use Rattle.std.specs.Option.{option_and_then}
use Rattle.turn_client_proto_allocation.proofs.Changes.{found_at}
use Rattle.turn_client_proto_allocation.specs.PendingRequests.{pending_request, requested_of, awaits_reply}
use Rattle.turn_client_proto_allocation.proofs.pending.pending_request.Goals as goal

pub returns-in_err-requested-clause-requested : goal.returns-in_err-requested-clause-requested
returns-in_err-requested-clause-requested c =
    let found = found_at (awaits_reply c.args.transaction_id) c.args.allocations.now c.in_ok-index.index c.index-allocations-index.result (sym c.index_awaiting.ensures ∙ c.in_ok-index.was) c.index-allocations-index.is in
    let none = ap (option_and_then (requested_of c.args.transaction_id)) found ∙ sym c.requested_of.ensures ∙ c.in_err-requested.was in
    subst (λ r. MatchOption r (pending_request c.args.transaction_id c.args.allocations.now ≡ None) (λ found. pending_request c.args.transaction_id c.args.allocations.now ≡ Some found.1)) (sym c.from_residual-in_err-requested.ensures) none

pub returns-clause-requested : goal.returns-clause-requested
returns-clause-requested c =
    let found = found_at (awaits_reply c.args.transaction_id) c.args.allocations.now c.in_ok-index.index c.index-allocations-index.result (sym c.index_awaiting.ensures ∙ c.in_ok-index.was) c.index-allocations-index.is in
    ap (option_and_then (requested_of c.args.transaction_id)) found ∙ sym c.requested_of.ensures ∙ c.in_ok-requested.was
