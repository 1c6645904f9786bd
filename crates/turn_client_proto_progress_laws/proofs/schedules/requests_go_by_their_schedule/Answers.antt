use Rattle.std.proofs.Common.{◌≡◌, ◌≢◌, ◌⊎◌, ◌<◌, ◌≤◌, ℕ, List, [], ◌∷◌, Option, None, Some, refl, sym, ap, ◌∙◌, subst, inl, inr}
use Rattle.std.specs.FinMap as map
use Rattle.turn_client_proto_messages.specs.Api.Sent.{Sent}
use Rattle.turn_client_proto_messages.specs.StunProtoAgent.State as agents
use Rattle.turn_client_proto_messages.specs.StunProtoTransaction.Schedule.{transmissions}
use Rattle.turn_client_proto_messages.specs.Api.declared.answer.TurnPollRet.{TurnPollRet}
use Rattle.turn_client_proto_messages.specs.StunTypesBase.declared.transport.TransportType.{TransportType}
use Rattle.turn_client_proto_messages.specs.Api.declared.answer.TurnPollRet.TheVariants as poll
use Rattle.turn_client_proto_core.specs.declared.protocol.Protocol.{Protocol}
use Rattle.turn_client_proto_handshake_laws.specs.Driving.{Call, Draws, DrawFails, IsEventTaken, Looks, Polls, Takes}
use Rattle.turn_client_proto_messages.specs.TurnRuns.Members.{IsIn}
use Rattle.turn_client_proto_messages.specs.Waiting.{Queued}
use Rattle.turn_client_proto_step_laws.specs.Timers.Drawing.{IsTransmitted}
use Rattle.turn_client_proto_step_laws.specs.Timers.Polling.{IsPolled}
use Rattle.turn_client_proto_progress_laws.specs.Schedules.{Again, AreCalled, IsDrawOf, IsDue, IsGivenUp, IsInOrder, IsLeft, IsNoneDue, IsOther, IsOutstanding, IsStillAwaited, IsTraced, Other, Request, Still, count_of, end_of, sent_of, slot_of}
use Rattle.turn_client_proto_progress_laws.proofs.ScheduleDraws.{AreNumbered, IsDrawTo, draws_by}
use Rattle.turn_client_proto_progress_laws.proofs.SchedulePolls.{IsPolledTo, polls_by}
use Rattle.turn_client_proto_progress_laws.proofs.schedules.requests_go_by_their_schedule.Goals as goal

-- ---- a draw that gives nothing

quiet_by : (r : Request) (many now : ℕ) (old new : Protocol) (d : IsDrawTo r many now old None new) → IsDrawOf r many now old None d.next → IsNoneDue r many now old × IsOutstanding r many new
quiet_by r many now old new d (Again due is next) = absurd (Prim.cc is)
quiet_by r many now old new d (Other message is other lesser next) = absurd (Prim.cc is)
quiet_by r many now old new d (Still is none next) = (none, subst (λ (n : ℕ). IsOutstanding r n new) next d.stays_stored)

-- ---- calls in a row

-- The client's transport and own address are as at first, and nothing more is queued.
pub record IsFrom (old p : Protocol) : Type 0 where
  pub transport : p.agent.transport ≡ old.agent.transport
  pub here : p.agent.here ≡ old.agent.here
  pub queue : (one : Queued) → IsIn one p.queue → IsIn one old.queue

module _ (r : Request) (old : Protocol) where
  module _ (many now : ℕ) (p : Protocol) (from : IsFrom old p) (sent : Option Sent) (next : ℕ) where
    count_is : count_of r p ≡ count_of r old
    count_is = ap (λ (transport : TransportType). transmissions (agents.is_tcp transport) r.waits) from.transport

    due_at_first : IsDue r many now p → IsDue r many now old
    due_at_first due = (subst (λ (n : ℕ). many < n) count_is due.0, due.1)

    due_back : IsDue r many now old → IsDue r many now p
    due_back due = (subst (λ (n : ℕ). many < n) (sym count_is) due.0, due.1)

    none_at_first : IsNoneDue r many now p → IsNoneDue r many now old
    none_at_first none left = none (subst (λ (n : ℕ). many < n) (sym count_is) left)

    sent_is : sent_of r p ≡ sent_of r old
    sent_is = Prim.cc (from.transport, from.here)

    other_at_first : (message : Sent) → IsOther r p.queue message → IsOther r old.queue message
    other_at_first message (inl number) = inl number
    other_at_first message (inr queued) = inr (queued.0, from.queue queued.0 queued.1, queued.2)

    pub at_first : IsDrawOf r many now p sent next → IsDrawOf r many now old sent next
    at_first (Again due is more) = Again (due_at_first due) (is ∙ ap Some sent_is) more
    at_first (Other message is other lesser same) = Other message is (other_at_first message other) (λ due. lesser (due_back due)) same
    at_first (Still is none same) = Still is (none_at_first none) same

  -- What is traced of the calls, and the state that they leave.
  abbrev Traces : ℕ → List Call → Protocol → Type 0
  Traces many calls new = (last : Option ℕ) × IsTraced r old many calls last × IsLeft r last new

  module _ (numbered : AreNumbered) where
    traces : (many : ℕ) (p new : Protocol) (calls : List Call) → IsInOrder p → IsOutstanding r many p → IsFrom old p → AreCalled p calls new → Traces many calls new
    unfolding AreCalled IsTraced
    traces many p new [] order there from is = (Some many, refl, subst (λ (x : Protocol). IsOutstanding r many x) (sym is) there)
    traces many p new (Draws now sent ∷ calls) order there from is =
        let d = draws_by numbered r many now p there order sent is.0 is.1 in
        let onward = traces d.next is.0 new calls d.order d.stays_stored (record { transport = d.transport ∙ from.transport; here = d.here ∙ from.here; queue = λ one in_it. from.queue one (d.queue one in_it) }) is.3 in
        (onward.0, (d.next, at_first many now p from sent d.next d.by_draw, onward.1), onward.2)
    traces many p new (DrawFails now ∷ calls) order there from is = absurd is.2
    traces many p new (Polls now ret ∷ calls) order there from is =
        let o = polls_by r many now p there order ret is.0 is.2 is.1 in
        elim o.outcome [
          | inl still ↦ (
              let onward = traces many is.0 new calls o.order still.stays_stored (record { transport = o.transport ∙ from.transport; here = o.here ∙ from.here; queue = λ one in_it. from.queue one (subst (λ (l : List Queued). IsIn one l) o.queue in_it) }) is.3 in
              (onward.0, inl (still.before, onward.1), onward.2))
          | inr over ↦ (None, inr (over.over, refl), tt)
        ]
    traces many p new (Takes event ∷ calls) order there from is =
        let e : IsEventTaken p event is.0 = is.1 in
        traces many is.0 new calls
        (subst (λ (x : Protocol). IsInOrder x) (sym e.others) (record { texts = order.texts; families = order.families; numbers = order.numbers }))
        (ap (λ (x : Protocol). map.get x.agent.outstanding r.number) e.others ∙ there)
        (record {
          transport = ap (λ (x : Protocol). x.agent.transport) e.others ∙ from.transport;
          here = ap (λ (x : Protocol). x.agent.here) e.others ∙ from.here;
          queue = λ one in_it. from.queue one (subst (λ (x : Protocol). IsIn one x.queue) e.others in_it);
        }) is.3
    traces many p new (Looks ∷ calls) order there from is =
        traces many is.0 new calls (subst (λ (x : Protocol). IsInOrder x) (sym is.1) order) (subst (λ (x : Protocol). IsOutstanding r many x) (sym is.1) there) (subst (λ (x : Protocol). IsFrom old x) (sym is.1) from) is.3

pub returns-clause-draws : goal.returns-clause-draws
returns-clause-draws c = λ r many now old new sent order there is.
    let d = draws_by c.proof_requests_are_read.ensures.number r many now old there order sent new is in (d.next, d.by_draw, d.stays_stored, d.order)

pub returns-clause-quiet : goal.returns-clause-quiet
returns-clause-quiet c = λ r many now old new order there is.
    let d = draws_by c.proof_requests_are_read.ensures.number r many now old there order None new is in quiet_by r many now old new d d.by_draw

pub returns-clause-polls : goal.returns-clause-polls
returns-clause-polls c = λ r many now old new ret order there memory is. let o = polls_by r many now old there order ret new memory is in (o.outcome, o.order)

pub returns-clause-calls : goal.returns-clause-calls
returns-clause-calls c = λ r many old new calls order there are.
    traces r old c.proof_requests_are_read.ensures.number many old new calls order there (record { transport = refl; here = refl; queue = λ one in_it. in_it }) are
