-- A client that holds an allocation over TCP: what it returns when it is polled, by the contract of `poll`
-- alone.
use Rattle.std.proofs.Common.{◌≡◌, ◌≢◌, ℕ, ◌<◌, ◌++◌, Bool, true, false, List, [], ◌∷◌, Option, Some, None, refl, sym, ap, ◌∙◌, subst, ◌⊎◌, inl, inr, map as map_list, append-nil}
use Rattle.std.specs.Prelude.{MatchOption, max, min, if◌then◌else◌}
use Rattle.std.specs.FinMap as map
use Rattle.std.specs.List.{list_any}
use Rattle.std.proofs.lemmas.Bool.{lt-leb}
use Rattle.std.specs.declared.net.socket_addr.SocketAddr.{SocketAddr}
use Rattle.turn_client_proto_messages.specs.StunProtoTransaction.Agents.{Transaction, is_ended}
use Rattle.turn_client_proto_messages.specs.StunProtoAgent.State as agents
use Rattle.turn_client_proto_messages.specs.Allocation.Polling.{stored, polled, stays}
use Rattle.turn_client_proto_messages.specs.Allocation.declared.allocation.Allocation.{Allocation}
use Rattle.turn_client_proto_messages.specs.Api.declared.answer.TurnPollRet.{TurnPollRet}
use Rattle.turn_client_proto_messages.specs.Api.declared.answer.TurnPollRet.TheVariants as answer
use Rattle.turn_client_proto_messages.specs.Api.declared.event.TurnEvent.{TurnEvent}
use Rattle.turn_client_proto_step_laws.specs.Connection.Expiring as joined
use Rattle.turn_client_proto_step_laws.specs.Connection.Waiting.{unasked}
use Rattle.turn_client_proto_messages.specs.StunProtoAgent.declared.agent.StunAgentPollRet.{StunAgentPollRet}
use Rattle.turn_client_proto_messages.specs.StunProtoAgent.declared.agent.StunAgentPollRet.TheVariants.{TransactionCancelled, TransactionTimedOut, WaitUntil}
use Rattle.turn_client_proto_messages.specs.Waiting.{Queued, is_answer}
use Rattle.turn_client_proto_handshake_laws.specs.Core.declared.protocol.Phase.{Phase}
use Rattle.turn_client_proto_handshake_laws.specs.Core.declared.protocol.Protocol.{Protocol}
use Rattle.turn_client_proto_step_laws.specs.Timers.Polling.{Answers, HasToReport, HasToReportIn, IsClosing, IsPolled, IsPolledIn, IsPolledStanding, IsAgentPolled, AreAllocationsPolled, after_asking, after_time, answer_of, ended_of, left, socket_for, wait_of}
use Rattle.turn_client_proto_step_laws.specs.Timers.Reporting as reporting
use Rattle.turn_client_proto_handshake_laws.specs.Requested.{Requested, end_of}
use Rattle.turn_client_proto_progress_laws.proofs.TcpBinding.Tools.{clash}
use Rattle.turn_client_proto_progress_laws.proofs.TcpBinding.Tools.{is_ticked, pause, refused_or}
use Rattle.turn_client_proto_progress_laws.specs.Holders.{Holder, IsListed, all_requested}
use Rattle.turn_client_proto_progress_laws.specs.TcpBinding.{IsTcpBinding}

-- Nothing of an allocation ends at this time, and no socket is to be requested: all stays as it is.
pub record IsCalm (now : ℕ) (a : Allocation) : Type 0 where
  pub none_unasked : unasked (a ∷ []) ≡ None
  pub stays_on : stays None now a ≡ true
  pub same : reporting.polled None now (polled None a) ≡ a
  pub as_it_was : polled None a ≡ a
  pub silent : reporting.failures None now a ≡ []
  pub none_gone : joined.sockets_gone None now a.connections ≡ []

-- `poll` returned `WaitUntil` some time, and nothing changed.
pub record IsWaiting (p : Protocol) (ret : TurnPollRet) (q : Protocol) : Type 0 where
  pub time : ℕ
  pub answer_is : ret ≡ answer.WaitUntil time
  pub unchanged : q ≡ p

module _ (h : Holder) (awaited : Option Requested) (older : List Requested) (a : Allocation) (queue : List Queued) (last : ℕ) (p : Protocol) (w : IsTcpBinding h awaited older a queue last [] p) (now : ℕ) (lasts : (x : Requested) → IsListed x (all_requested awaited older) → now < end_of h.started x)
    (unanswered : list_any is_answer queue ≡ false) (ret : TurnPollRet) (q : Protocol) where
  none_over : {A : Type 0} (number : ℕ) (t : Transaction) → map.get p.agent.outstanding number ≡ Some t → is_ended now t ≡ true → A
  none_over number t there is =
      let one = w.outstanding.only number t there in
      clash (is_ended now t) is (ap (is_ended now) one.transaction_is ∙ lt-leb (end_of h.started one.requested) now (lasts one.requested one.listed))

  -- The agent is as it was.
  record IsUnmoved (ticked : StunAgentPollRet) (agent : agents.Agent) : Type 0 where
    until : ℕ
    ticked_is : ticked ≡ WaitUntil until
    unchanged : agent ≡ p.agent

  unmoved : (ticked : StunAgentPollRet) (agent : agents.Agent) → agents.IsPolled p.agent now ticked agent → IsUnmoved ticked agent
  unmoved (TransactionTimedOut number) agent is = none_over number is.transaction is.least.present is.least.passes
  unmoved (TransactionCancelled number) agent is = none_over number is.transaction is.least.present is.least.passes
  unmoved (WaitUntil until) agent is = record { until = until; ticked_is = refl; unchanged = is.2 }

  abbrev pub wait : ℕ → ℕ
  wait until = min (pause p now ret q) until

  -- The client is polled as one that has allocated.
  standing : (k : IsAgentPolled p now ret q) → (until : ℕ) × IsPolledStanding None (wait until) p now ret q
  standing k =
      let u = unmoved k.ticked k.agent k.is_ticked in
      let waits : IsPolledIn p.phase None (wait u.until) (record p { agent = k.agent }) now ret q =
      subst (λ (x : StunAgentPollRet). IsPolledIn p.phase (ended_of x) (wait_of (pause p now ret q) x) (record p { agent = k.agent }) now ret q) u.ticked_is k.outcome in
      let same : IsPolledIn p.phase None (wait u.until) p now ret q =
      subst (λ (x : agents.Agent). IsPolledIn p.phase None (wait u.until) (record p { agent = x }) now ret q) u.unchanged waits in
      (u.until, subst (λ (f : Phase). IsPolledIn f None (wait u.until) p now ret q) w.phase same)

  -- If memory runs out in the poll, no socket is to be requested, and some failure is to be reported.
  to_report : (k : HasToReport p now) → (unasked p.allocations ≡ None) × (reporting.all_failures None now (left None now p) ≢ [])
  to_report k =
      let u = unmoved k.ticked k.agent k.is_ticked in
      let waits : HasToReportIn p.phase None (record p { agent = k.agent }) now =
      subst (λ (x : StunAgentPollRet). HasToReportIn p.phase (ended_of x) (record p { agent = k.agent }) now) u.ticked_is k.decodes in
      let same : HasToReportIn p.phase None p now = subst (λ (x : agents.Agent). HasToReportIn p.phase None (record p { agent = x }) now) u.unchanged waits in
      subst (λ (f : Phase). HasToReportIn f None p now) w.phase same

  abbrev pub Outcome : Type 0
  Outcome = ((until : ℕ) × IsPolledStanding None (wait until) p now ret q) ⊎ ((unasked p.allocations ≡ None) × (reporting.all_failures None now (left None now p) ≢ []))

  pub outcome : IsPolled p now ret q → Outcome
  outcome is = elim (refused_or p now ret q is) [
    | inl by ↦ inl (standing (is_ticked p now ret q w.events_are (ap (list_any is_answer) w.queue_is ∙ unanswered) by))
    | inr refused ↦ inr (to_report refused.1.has_to_report)
  ]

  -- ---- where a socket is to be requested

  unasked_is : unasked p.allocations ≡ unasked (a ∷ [])
  unasked_is = ap unasked w.allocations

  -- ---- where nothing is to be done

  module _ (calm : IsCalm now a) where
    left_is : left None now p ≡ a ∷ []
    left_is =
        ap (λ (l : List Allocation). map_list (polled None) (stored None now l)) w.allocations
        ∙ (ap (λ (b : Bool). map_list (polled None) (if b then a ∷ [] else [])) calm.stays_on
        ∙ ap (λ (x : Allocation). x ∷ []) calm.as_it_was)

    none_decoded : reporting.all_failures None now (left None now p) ≡ []
    none_decoded = ap (reporting.all_failures None now) left_is ∙ (append-nil (reporting.failures None now a) ∙ calm.silent)

    none_closed : p.closing ++ joined.all_gone None now (left None now p) ≡ []
    none_closed =
        ap (λ (l : List SocketAddr). l ++ joined.all_gone None now (left None now p)) w.closing
        ∙ (ap (joined.all_gone None now) left_is ∙ (append-nil (joined.sockets_gone None now a.connections) ∙ calm.none_gone))

    still_so : after_time None now p ≡ p
    unfolding after_time
    still_so =
        ap (λ (l : List Allocation). record p { allocations = l; events = p.events ++ reporting.all_failures None now (left None now p); closing = p.closing ++ joined.all_gone None now (left None now p) })
        (ap (map_list (reporting.polled None now)) left_is ∙ (ap (λ (x : Allocation). x ∷ []) (ap (reporting.polled None now) (sym calm.as_it_was) ∙ calm.same) ∙ sym w.allocations))
        ∙ (ap (λ (l : List TurnEvent). record p { events = p.events ++ l; closing = p.closing ++ joined.all_gone None now (left None now p) }) none_decoded
        ∙ (ap (λ (l : List TurnEvent). record p { events = l; closing = p.closing ++ joined.all_gone None now (left None now p) }) (append-nil p.events)
        ∙ ap (λ (l : List SocketAddr). record p { closing = l }) (none_closed ∙ sym w.closing)))

    walked : (wait : ℕ) → IsPolledStanding None wait p now ret q → IsWaiting p ret q
    walked wait is =
        let k : AreAllocationsPolled None wait p now ret q =
        subst (λ o. MatchOption o (AreAllocationsPolled None wait p now ret q) (λ w. Answers (socket_for p w) (after_asking p) ret q)) (unasked_is ∙ calm.none_unasked) is in
        let one : IsClosing [] (answer_of (left None now p) None now k.first) (after_time None now p) ret q =
        subst (λ (l : List SocketAddr). IsClosing l (answer_of (left None now p) None now k.first) (after_time None now p) ret q) none_closed k.outcome in
        record {
          time = max k.first now;
          answer_is = one.0 ∙ ap (λ (l : List Allocation). answer_of l None now k.first) left_is;
          unchanged = one.1 ∙ still_so;
        }

    pub calm_waits : IsPolled p now ret q → IsWaiting p ret q
    calm_waits is = elim (outcome is) [
      | inl s ↦ walked (wait s.0) s.1
      | inr reported ↦ absurd (reported.1 none_decoded)
    ]
