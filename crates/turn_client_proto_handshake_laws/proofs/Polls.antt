-- What `poll` returns for a client with one outstanding request or none.
use Rattle.std.proofs.Common.{◌≡◌, ℕ, ◌<◌, ◌≤◌, arith, true, false, List, [], ◌∷◌, Option, Some, None, refl, sym, ap, ◌∙◌, subst, ◌⊎◌, inl, inr}
use Rattle.std.specs.Prelude.{max, min}
use Rattle.std.specs.FinMap as map
use Rattle.std.specs.List.{list_any}
use Rattle.turn_client_proto_api.specs.Options.{cadence}
use Rattle.stun_types_base.specs.Times.{time_after}
use Rattle.turn_client_proto_api.specs.StunProtoAgent.State as agents
use Rattle.turn_client_proto_api.specs.StunProtoAgent.declared.agent.StunAgentPollRet.{StunAgentPollRet}
use Rattle.turn_client_proto_api.specs.StunProtoAgent.declared.agent.StunAgentPollRet.TheVariants.{TransactionCancelled, TransactionTimedOut, WaitUntil}
use Rattle.turn_client_proto_messages.specs.Allocation.Awaited.{is_among}
use Rattle.turn_client_proto_api.specs.declared.answer.TurnPollRet.{TurnPollRet}
use Rattle.turn_client_proto_api.specs.declared.answer.TurnPollRet.TheVariants as answer
use Rattle.turn_client_proto_api.specs.declared.event.TurnEvent.{TurnEvent}
use Rattle.turn_client_proto_core.specs.Ending.{HasFailed, ended}
use Rattle.turn_client_proto_messages.specs.Waiting.{Queued, is_answer}
use Rattle.turn_client_proto_core.specs.declared.protocol.Phase.{Phase}
use Rattle.turn_client_proto_core.specs.declared.protocol.Phase.TheVariants.{InitialSent, Authenticating}
use Rattle.turn_client_proto_core.specs.declared.protocol.Protocol.{Protocol}
use Rattle.turn_client_proto_timers.specs.Polling.{Answers, HasToReportIn, IsPolled, IsPolledBy, IsPolledIn, IsPolledSent, IsRefused, IsAgentPolled, ended_of, longest_pause, pace_of, wait_of, wait_to_send, waits_until}
use Rattle.turn_client_proto_handshake_laws.specs.Requested.{Requested, IsOnlyRequested, IsPatient, IsQuiet, count_of, end_of, slot_of}
use Rattle.turn_client_proto_handshake_laws.specs.Stages.{IsOf}
use Rattle.turn_client_proto_handshake_laws.proofs.Only.{IsGivenUp, IsStillRequested, given_up, still_requested, where_false, where_true}
use Rattle.turn_client_proto_handshake_laws.specs.Driving.{client_end}
use Rattle.turn_client_proto_handshake_laws.specs.Sent.{Beginning}

-- Memory ran out, or it did not.
pub refused_or : (p : Protocol) (now : ℕ) (ret : TurnPollRet) (q : Protocol) → IsPolled p now ret q → IsPolledBy p.events p now ret q ⊎ ((ret ≡ answer.NoMemory) × IsRefused p now q)
refused_or p now (answer.WaitUntil time) q is = inl is
refused_or p now (answer.AllocateTcpSocket connection socket peer) q is = inl is
refused_or p now (answer.TcpClose near far) q is = inl is
refused_or p now answer.Closed q is = inl is
refused_or p now answer.NoMemory q is = inr (refl, is)

-- An ALLOCATE with these transaction IDs was sent.
abbrev pub HasSent : List ℕ → Phase → Type 0
HasSent numbers phase = (phase ≡ InitialSent numbers) ⊎ (phase ≡ Authenticating numbers)

module _ (p : Protocol) (now : ℕ) (ret : TurnPollRet) (q : Protocol) where
  -- No event and no reply is queued: the agent is polled.
  pub is_ticked : p.events ≡ [] → list_any is_answer p.queue ≡ false → IsPolledBy p.events p now ret q → IsAgentPolled p now ret q
  is_ticked silent unanswered is =
      let none : IsPolledBy [] p now ret q = subst (λ (l : List TurnEvent). IsPolledBy l p now ret q) silent is in
      where_false (Answers (answer.WaitUntil now) p ret q) (IsAgentPolled p now ret q) (list_any is_answer p.queue) unanswered none

  abbrev pub pause : ℕ
  pause = wait_to_send (pace_of p) p.last_send p.queue now (time_after now longest_pause)

  in_phase : (numbers : List ℕ) → HasSent numbers p.phase → (over : Option ℕ) (wait : ℕ) (x : Protocol) → IsPolledIn p.phase over wait x now ret q → IsPolledSent numbers over wait x now ret q
  in_phase numbers (inl first) over wait x is = subst (λ (f : Phase). IsPolledIn f over wait x now ret q) first is
  in_phase numbers (inr signed) over wait x is = subst (λ (f : Phase). IsPolledIn f over wait x now ret q) signed is

  reports_in : (numbers : List ℕ) → HasSent numbers p.phase → (over : Option ℕ) (x : Protocol) → HasToReportIn p.phase over x now → is_among over numbers ≡ true
  reports_in numbers (inl first) over x is = (subst (λ (f : Phase). HasToReportIn f over x now) first is).0
  reports_in numbers (inr signed) over x is = (subst (λ (f : Phase). HasToReportIn f over x now) signed is).0

  module _ (b : Beginning) (a : Requested) (many : ℕ) (of : IsOf b p) (requested : IsOnlyRequested b a many p.agent) (numbers : List ℕ) (sent : HasSent numbers p.phase)
      (silent : p.events ≡ []) (unanswered : list_any is_answer p.queue ≡ false) where
    abbrev IsOut : StunAgentPollRet → agents.Agent → Type 0
    IsOut ticked agent = IsPolledIn p.phase (ended_of ticked) (wait_of pause ticked) (record p { agent = agent }) now ret q

    -- ---- before the end

    -- The client waits for the agent's next time, or for the time at which a queued message is transmitted.
    pub record IsAwaiting : Type 0 where
      pub until : ℕ
      pub answer_is : ret ≡ answer.WaitUntil (min pause until)
      pub by_slot : many < count_of b → until ≤ max now (slot_of b a many)
      pub by_end : until ≤ end_of b a
      pub later : now ≤ client_end → IsQuiet b a many now → now < until
      pub unchanged : q ≡ p

    awaits_by : (ticked : StunAgentPollRet) (agent : agents.Agent) → IsStillRequested b a many p of requested now ticked agent → IsOut ticked agent → IsAwaiting
    awaits_by ticked agent s out =
        let here = subst (λ (x : StunAgentPollRet). IsOut x agent) s.ticked_is out in
        let by_sent = in_phase numbers sent None (min pause s.until) (record p { agent = agent }) here in
        record {
          until = s.until;
          answer_is = by_sent.0;
          by_slot = s.by_slot;
          by_end = s.by_end;
          later = s.later;
          unchanged = by_sent.1 ∙ ap (λ (y : agents.Agent). record p { agent = y }) s.unchanged;
        }

    none_among : {A : Type 0} (ticked : StunAgentPollRet) (agent : agents.Agent) → IsStillRequested b a many p of requested now ticked agent → is_among (ended_of ticked) numbers ≡ true → A
    none_among ticked agent s among =
        absurd (Prim.cc (subst (λ (x : StunAgentPollRet). is_among (ended_of x) numbers ≡ true) s.ticked_is among))

    pub awaits : now < end_of b a → IsPolled p now ret q → IsAwaiting
    awaits before polled = elim (refused_or p now ret q polled) [
      | inl by ↦ (let k = is_ticked silent unanswered by in awaits_by k.ticked k.agent (still_requested b a many p of requested now k.ticked k.agent before k.is_ticked) k.outcome)
      | inr refused ↦ (let k = refused.1.has_to_report in
          none_among k.ticked k.agent (still_requested b a many p of requested now k.ticked k.agent before k.is_ticked) (reports_in numbers sent (ended_of k.ticked) (record p { agent = k.agent }) k.decodes))
    ]

    -- If no message is queued, it waits as `IsPatient` says.
    pub patient : p.queue ≡ [] → IsAwaiting → IsPatient b a many None now p ret q
    patient empty w =
        let pause_is : pause ≡ time_after now longest_pause = ap (λ (l : List Queued). wait_to_send (pace_of p) p.last_send l now (time_after now longest_pause)) empty in
        let slots = w.by_slot in
        let ends = w.by_end in
        record {
          time = min pause w.until;
          answer_is = w.answer_is;
          by_slot = λ left. (let slot = slots left in omega (arith, slot));
          by_end = omega (arith, ends);
          by_ready = tt;
          later = λ early quiet none. (let more = w.later early quiet in omega (arith, more, pause_is, early));
          unchanged = w.unchanged;
        }

    -- If one message is queued, it waits at the latest until that may be transmitted.
    pub patient_for : (one : Queued) (last : ℕ) → p.queue ≡ one ∷ [] → p.last_send ≡ Some last → IsAwaiting → IsPatient b a many (Some (time_after last cadence)) now p ret q
    patient_for one last waits sent_last w =
        let pause_is : pause ≡ min (time_after now longest_pause) (time_after last cadence) =
        ap (λ (l : List Queued). wait_to_send (pace_of p) p.last_send l now (time_after now longest_pause)) waits
        ∙ ap (λ (l : Option ℕ). wait_to_send (pace_of p) l (one ∷ []) now (time_after now longest_pause)) sent_last
        ∙ ap (λ (n : ℕ). wait_to_send n (Some last) (one ∷ []) now (time_after now longest_pause)) (of.pace ∙ of.usual.pace) in
        let slots = w.by_slot in
        let ends = w.by_end in
        record {
          time = min pause w.until;
          answer_is = w.answer_is;
          by_slot = λ left. (let slot = slots left in omega (arith, slot));
          by_end = omega (arith, ends);
          by_ready = omega (arith, pause_is);
          later = λ early quiet before. (let more = w.later early quiet in omega (arith, more, pause_is, early, before));
          unchanged = w.unchanged;
        }

    -- ---- at the end

    -- The client is closed, and has ended.
    pub record IsClosed : Type 0 where
      pub closed : ret ≡ answer.Closed
      pub after : q ≡ ended (record p { agent = record p.agent { outstanding = map.remove p.agent.outstanding a.number } })

    closes_by : is_among (Some a.number) numbers ≡ true → (ticked : StunAgentPollRet) (agent : agents.Agent) → IsGivenUp b a many p of requested ticked agent → IsOut ticked agent → IsClosed
    closes_by among ticked agent g out =
        let here = subst (λ (x : StunAgentPollRet). IsOut x agent) g.ticked_is out in
        let by_sent = in_phase numbers sent (Some a.number) pause (record p { agent = agent }) here in
        let is = where_true (Answers answer.Closed (ended (record p { agent = agent })) ret q) (Answers (waits_until (Some a.number) now pause) (record p { agent = agent }) ret q) (is_among (Some a.number) numbers) among by_sent in
        record {
          closed = is.0;
          after = is.1 ∙ ap (λ (y : agents.Agent). ended (record p { agent = y })) g.agent_is;
        }

    pub closes : is_among (Some a.number) numbers ≡ true → end_of b a ≤ now → IsPolled p now ret q → IsClosed ⊎ ((ret ≡ answer.NoMemory) × HasFailed p q)
    closes among reached polled = elim (refused_or p now ret q polled) [
      | inl by ↦ (let k = is_ticked silent unanswered by in inl (closes_by among k.ticked k.agent (given_up b a many p of requested now k.ticked k.agent reached k.is_ticked) k.outcome))
      | inr refused ↦ inr (refused.0, refused.1.failed)
    ]

  -- ---- none is outstanding

  -- An agent that awaits nothing stays as it is.
  pub record IsIdle (ticked : StunAgentPollRet) (agent : agents.Agent) : Type 0 where
    pub until : ℕ
    pub ticked_is : ticked ≡ WaitUntil until
    pub unchanged : agent ≡ p.agent

  pub idles : ((number : ℕ) → map.get p.agent.outstanding number ≡ None) → (ticked : StunAgentPollRet) (agent : agents.Agent) → agents.IsPolled p.agent now ticked agent → IsIdle ticked agent
  idles none (TransactionTimedOut number) agent is = absurd (Prim.cc (sym (none number) ∙ is.least.present))
  idles none (TransactionCancelled number) agent is = absurd (Prim.cc (sym (none number) ∙ is.least.present))
  idles none (WaitUntil until) agent is = record { until = until; ticked_is = refl; unchanged = is.2 }
