use Rattle.std.proofs.Common.{List, length, None, ap, subst, sym, ◌∙◌}
use Rattle.std.specs.Bool.{◌==◌}
use Rattle.std.specs.Prelude.{IfSome, nat_le, nat_lt}
use Rattle.std.proofs.lemmas.Bool.{leb-true, ltb-true}
use Rattle.turn_client_proto_allocation.specs.declared.allocation.Allocation.{Allocation}
use Rattle.turn_client_proto_api.specs.declared.answer.TurnPollRet.TheVariants.{WaitUntil}
use Rattle.turn_client_proto_timers.specs.Polling.{IsPolledStanding}
use Rattle.turn_client_proto_timers.specs.Quiet.{IsQuiet}
use Rattle.turn_client_proto_timers.proofs.Lasting.{both}
use Rattle.turn_client_proto_timers.proofs.Polls.{nothing_closes}
use Rattle.turn_client_proto_timers.proofs.Spans.{answered_quietly}
use Rattle.turn_client_proto_timers.proofs.polling.answer_quietly.Goals as goal

pub returns-clause-ok : goal.returns-clause-ok
returns-clause-ok c =
    let p = c.args.protocol.now in
    let now = c.args.now in
    let wait = c.args.wait in
    let q = c.in-Some.span in
    let known : IsQuiet p q = subst (λ o. IfSome o (IsQuiet p)) c.in-Some.is c.requires.known in
    let covers = both (nat_le q.since now) (nat_lt now q.until) (sym c.if-not-covers.ensures) in
    let from = leb-true q.since now covers.0 in
    let before = ltb-true now q.until covers.1 in
    let within = leb-true wait q.horizon (sym c.if-not-reaches.ensures) in
    let none = nothing_closes p.closing c.len.result c.len.ensures c.if-len-gt0.false in
    let polled = answered_quietly p q wait now known from before within none (λ empty. Prim.cc (c.if-is_empty.ensures ∙ ap (λ (l : List Allocation). length l == 0) (c.as_slice-allocations.ensures ∙ empty))) in
    subst (λ o. IsPolledStanding o wait p now (WaitUntil c.sooner.result) p) (sym c.in-None.is)
    (subst (λ t. IsPolledStanding None wait p now (WaitUntil t) p) (sym c.sooner.ensures) polled)
