-- A client that transmitted the first request `used` times and got no response: what it transmits and what
-- its calls return next, by the contracts of `poll_transmit` and `poll` alone.
use Rattle.std.proofs.Common.{◌≡◌, ℕ, ◌+◌, ◌-◌, ◌<◌, ◌≤◌, arith, Bool, true, false, cond, ◌++◌, map as map_list, List, [], ◌∷◌, Option, Some, None, refl, sym, ap, ◌∙◌, subst, ◌⊎◌, inl, inr}
use Rattle.std.specs.Prelude.{◌==◌, nat_le, nat_lt, ◌&&◌, ◌||◌, if◌then◌else◌, min, find}
use Rattle.std.specs.Bool.{MatchBool}
use Rattle.std.specs.List.{list_any, sum}
use Rattle.std.specs.Cmp.{eq_by_cmp_equiv, nat_cmp_total}
use Rattle.std.specs.FinMap as map
use Rattle.std.specs.Ordering.{is_eq, nat_cmp}
use Rattle.std.proofs.lemmas.Bool.{lt-ltb, le-leb, lt-leb, ltb-true, ltb-false, eq-eqb}
use Rattle.turn_client_proto_api.specs.StunProtoTransaction.Agents.{Transaction, is_due, is_ended, is_over, next_time, transmitted}
use Rattle.stun_types_base.specs.Times.{time_after}
use Rattle.turn_client_proto_api.specs.StunProtoTransaction.Schedule.{slot_at, transmissions, waits_after}
use Rattle.turn_client_proto_api.specs.StunProtoAgent.Sending.{is_due_of, stored_under}
use Rattle.turn_client_proto_api.specs.StunProtoAgent.State as agents
use Rattle.turn_client_proto_api.proofs.StunProtoTransaction.Leasts.{same_number}
use Rattle.turn_client_proto_api.proofs.StunProtoAgent.Quiet.{slot_before_end}
use Rattle.turn_client_proto_api.proofs.StunProtoTransaction.Summing.{sum_grows}
use Rattle.turn_client_proto_api.specs.StunProtoAgent.declared.agent.StunAgentPollRet.{StunAgentPollRet}
use Rattle.turn_client_proto_api.specs.StunProtoAgent.declared.agent.StunAgentPollRet.TheVariants.{TransactionCancelled, TransactionTimedOut, WaitUntil}
use Rattle.turn_client_proto_api.specs.StunProtoTransaction.declared.transaction.Cancelled.TheVariants.{Nothing}
use Rattle.turn_client_proto_messages.specs.Allocation.Awaited.{is_among}
use Rattle.turn_client_proto_api.specs.declared.answer.TurnPollRet.{TurnPollRet}
use Rattle.turn_client_proto_api.specs.declared.answer.TurnPollRet.TheVariants as answer
use Rattle.turn_client_proto_api.specs.declared.event.TurnEvent.{TurnEvent}
use Rattle.turn_client_proto_api.specs.declared.event.TurnEvent.TheVariants.{AllocationCreateFailed}
use Rattle.turn_client_proto_core.specs.Ending.{HasFailed, ended}
use Rattle.turn_client_proto_messages.specs.Waiting.{Queued, is_answer}
use Rattle.turn_client_proto_core.specs.declared.protocol.Phase.{Phase}
use Rattle.turn_client_proto_core.specs.declared.protocol.Phase.TheVariants.{InitialSent, Ended}
use Rattle.turn_client_proto_core.specs.declared.protocol.Protocol.{Protocol}
use Rattle.turn_client_proto_timers.specs.Drawing.{Again, Fresh, HasToBegin, HasToSend, IsAnswerSent, IsStarted, IsTransmitted, IsFreshSent, IsNextSent, IsStill, after_sending, is_resting}
use Rattle.turn_client_proto_api.specs.Sent.{Sent}
use Rattle.turn_client_proto_timers.specs.Polling.{Answers, HasToReportIn, IsPolled, IsPolledBy, IsPolledIn, IsRefused, IsAgentPolled, ended_of, longest_pause, pace_of, wait_of, wait_to_send, waits_until}
use Rattle.turn_client_proto_handshake_laws.specs.Driving.{client_end}
use Rattle.turn_client_proto_handshake_laws.specs.Sent.{Beginning, end_of, first_request, first_sent}

-- ---- tools

where_true : (A B : Type 0) (b : Bool) → b ≡ true → MatchBool b A B → A
where_true A B true so is = is
where_true A B false so is = absurd (Prim.cc so)

either : (A : Type 0) (b : Bool) → MatchBool b A A → A
either A true is = is
either A false is = is

pub clash : {A : Type 0} (b : Bool) → b ≡ true → b ≡ false → A
clash b t f = absurd (Prim.cc (sym t ∙ f))

-- ---- the schedule

-- How often the first request is transmitted.
abbrev pub count_of : Beginning → ℕ
count_of b = transmissions (agents.is_tcp b.transport) b.config.waits

abbrev pub slot_of : Beginning → ℕ → ℕ
slot_of b index = slot_at b.made b.config.waits index

-- It is transmitted at least once.
pub some_sent : (b : Beginning) → 1 ≤ count_of b
some_sent b = by (agents.is_tcp b.transport)
  where
    by : (tcp : Bool) → 1 ≤ transmissions tcp b.config.waits
    by true = omega arith
    by false = omega arith

-- The first slot is the time at which the request is made.
pub slots_begin : (b : Beginning) → b.made ≤ client_end → slot_of b 0 ≡ b.made
slots_begin b early = omega (arith, early)

-- A later slot comes no earlier.
pub slots_grow : (b : Beginning) (index later : ℕ) → index ≤ later → slot_of b index ≤ slot_of b later
slots_grow b index later less =
    let grows = sum_grows b.config.waits index (later - index) in
    let same : index + (later - index) ≡ later = omega (arith, less) in
    let longer : sum (waits_after b.config.waits index) ≤ sum (waits_after b.config.waits later) = subst (λ (n : ℕ). sum (waits_after b.config.waits index) ≤ sum (waits_after b.config.waits n)) same grows in
    omega (arith, longer)

-- The end comes no earlier than the time at which the request is made.
pub ends_later : (b : Beginning) → b.made ≤ client_end → b.made ≤ end_of b
ends_later b early = omega (arith, early)

-- ---- such a client

-- The request's transaction.
abbrev pub transaction_of : Beginning → (used : ℕ) → Transaction
transaction_of b used = record {
  bytes = first_request b;
  to = b.server;
  sent = b.made;
  used = used;
  waits = b.config.waits;
  cancelled = Nothing;
}

pub record IsWaiting (b : Beginning) (used : ℕ) (p : Protocol) : Type 0 where
  pub number : ℕ
  pub there : map.get p.agent.outstanding number ≡ Some (transaction_of b used)
  pub only : (other : ℕ) (t : Transaction) → map.get p.agent.outstanding other ≡ Some t → (other ≡ number) × (t ≡ transaction_of b used)
  pub phase : p.phase ≡ InitialSent (number ∷ [])
  pub queue : p.queue ≡ []
  pub events : p.events ≡ []
  pub families : p.families ≡ b.config.families
  pub transport : p.agent.transport ≡ b.transport
  pub here : p.agent.here ≡ b.here

-- No transmission is due at this time.
abbrev pub IsQuiet : Beginning → (used now : ℕ) → Type 0
IsQuiet b used now = used < count_of b → now < slot_of b used

module _ (b : Beginning) (used : ℕ) where
  abbrev tcp : Bool
  tcp = agents.is_tcp b.transport

  abbrev t : Transaction
  t = transaction_of b used

  -- ---- its transaction

  due : used < count_of b → (now : ℕ) → slot_of b used ≤ now → is_due tcp now t ≡ true
  due left now reached =
      let some : nat_lt used (count_of b) ≡ true = lt-ltb used (count_of b) left in
      ap (λ (x : Bool). x && nat_le (slot_of b used) now) some ∙ le-leb (slot_of b used) now reached

  not_due : (now : ℕ) → IsQuiet b used now → is_due tcp now t ≡ false
  not_due now quiet = elim (nat_lt used (count_of b)) as (λ (x : Bool). nat_lt used (count_of b) ≡ x → (x && nat_le (slot_of b used) now) ≡ false) [
    | true ↦ λ left. lt-leb (slot_of b used) now (quiet (ltb-true used (count_of b) left))
    | false ↦ λ none. refl
  ] refl

  over : (now : ℕ) → end_of b ≤ now → is_ended now t ≡ true
  over now reached = le-leb (end_of b) now reached

  not_over : (now : ℕ) → now < end_of b → is_ended now t ≡ false
  not_over now before = lt-leb (end_of b) now before

  one_more : used < count_of b → transmitted tcp t ≡ transaction_of b (used + 1)
  one_more left = ap (λ (x : Bool). if x then transaction_of b (used + 1) else t) (lt-ltb used (count_of b) left)

  -- The next time is the next slot, if one is left, and otherwise the end.
  next_is : (bound : ℕ) → (used < count_of b → slot_of b used ≤ bound) → (count_of b ≤ used → end_of b ≤ bound) → next_time tcp t ≤ bound
  next_is bound left none = elim (nat_lt used (count_of b)) as (λ (x : Bool). nat_lt used (count_of b) ≡ x → (if x then slot_of b used else end_of b) ≤ bound) [
    | true ↦ λ is. left (ltb-true used (count_of b) is)
    | false ↦ λ is. none (ltb-false used (count_of b) is)
  ] refl

  -- The next time is later than now, if no transmission is due and the end is later.
  next_later : (now : ℕ) → IsQuiet b used now → now < end_of b → now < next_time tcp t
  next_later now quiet before = elim (nat_lt used (count_of b)) as (λ (x : Bool). nat_lt used (count_of b) ≡ x → now < (if x then slot_of b used else end_of b)) [
    | true ↦ λ is. quiet (ltb-true used (count_of b) is)
    | false ↦ λ is. before
  ] refl

  slot_to_end : used < count_of b → slot_of b used ≤ end_of b
  slot_to_end left = slot_before_end tcp t (lt-ltb used (count_of b) left)

  module _ (p : Protocol) (w : IsWaiting b used p) where
    tcp_is : agents.is_tcp p.agent.transport ≡ tcp
    tcp_is = ap agents.is_tcp w.transport

    due_in : (now : ℕ) (x : Transaction) → x ≡ t → is_due_of p.agent now x ≡ is_due tcp now t
    due_in now x same = ap (λ (y : Transaction). is_due (agents.is_tcp p.agent.transport) now y) same ∙ ap (λ (y : Bool). is_due y now t) tcp_is

    pub same_waiting : (q : Protocol) → q ≡ p → IsWaiting b used q
    same_waiting q same = subst (λ (x : Protocol). IsWaiting b used x) (sym same) w

    -- ---- what it sends

    -- No queued message and no new request is transmitted.
    nothing_fresh : (now : ℕ) (sent : Option Sent) (q : Protocol) → IsFreshSent p now sent q → IsStill p sent q
    nothing_fresh now sent q is =
        either (IsStill p sent q) (is_resting (pace_of p) p.last_send now)
        (subst (λ (f : Phase). MatchBool (is_resting (pace_of p) p.last_send now) (IsStill p sent q) (IsStarted f p now sent q)) w.phase
        (subst (λ (l : List Queued). MatchBool (is_resting (pace_of p) p.last_send now) (IsAnswerSent (find is_answer l) p sent q) (IsNextSent l p now sent q)) w.queue is))

    -- If no transmission is due, nothing is transmitted.
    pub nothing_sent : (now : ℕ) (sent : Option Sent) (q : Protocol) → IsQuiet b used now → IsTransmitted p now sent q → (sent ≡ None) × (q ≡ p)
    nothing_sent now sent q quiet (Again one is r) =
        let found = w.only r.number r.transaction r.least.present in
        clash (is_due_of p.agent now r.transaction) r.least.passes (due_in now r.transaction found.1 ∙ not_due now quiet)
    nothing_sent now sent q quiet (Fresh none is) = nothing_fresh now sent q is

    -- If no transmission is due, memory does not run out.
    pub nothing_to_send : {A : Type 0} (now : ℕ) → IsQuiet b used now → HasToSend p now → A
    nothing_to_send now quiet (inl r) =
        let found = w.only r.number r.transaction r.least.present in
        clash (is_due_of p.agent now r.transaction) r.least.passes (due_in now r.transaction found.1 ∙ not_due now quiet)
    nothing_to_send now quiet (inr m) =
        let here : HasToBegin (InitialSent (w.number ∷ [])) p.allocations now = subst (λ (f : Phase). HasToBegin f p.allocations now) w.phase m.begins in
        absurd here

    stored_there : (number : ℕ) (x : Transaction) → map.get (stored_under p.agent number x).outstanding number ≡ Some x
    stored_there number x =
        let same : is_eq (nat_cmp number number) ≡ true = (eq_by_cmp_equiv nat_cmp_total).refl number in
        map.get-insert nat_cmp_total p.agent.outstanding number x number ∙ ap (λ (y : Bool). cond y (Some x) (map.get p.agent.outstanding number)) same

    stored_only : (number : ℕ) (x : Transaction) → number ≡ w.number → (other : ℕ) (y : Transaction) → map.get (stored_under p.agent number x).outstanding other ≡ Some y → (other ≡ number) × (y ≡ x)
    stored_only number x is other y there =
        elim (is_eq (nat_cmp other number)) as (λ (z : Bool). is_eq (nat_cmp other number) ≡ z → cond z (Some x) (map.get p.agent.outstanding other) ≡ Some y → (other ≡ number) × (y ≡ x)) [
          | true ↦ λ same found. (same_number other number same, Prim.cc (sym found))
          | false ↦ λ apart found. (
              let old = w.only other y found in
              let here : other ≡ number = old.0 ∙ sym is in
              clash (is_eq (nat_cmp other number)) (ap (λ (n : ℕ). is_eq (nat_cmp n number)) here ∙ (eq_by_cmp_equiv nat_cmp_total).refl number) apart)
        ] refl (sym (map.get-insert nat_cmp_total p.agent.outstanding number x other) ∙ there)

    -- If a transmission is due, the first request is transmitted once more.
    pub sent_again : (now : ℕ) (sent : Option Sent) (q : Protocol) → used < count_of b → slot_of b used ≤ now → IsTransmitted p now sent q
        → (sent ≡ Some (first_sent b)) × IsWaiting b (used + 1) q
    sent_again now sent q left reached (Again one is r) =
        let found = w.only r.number r.transaction r.least.present in
        let counted : transmitted (agents.is_tcp p.agent.transport) r.transaction ≡ transaction_of b (used + 1) =
        ap (λ (y : Bool). transmitted y r.transaction) tcp_is ∙ (ap (λ (x : Transaction). transmitted tcp x) found.1 ∙ one_more left) in
        let sent_is : one ≡ first_sent b = r.is_sent ∙ Prim.cc (w.transport, w.here, found.1) in
        let after : q ≡ after_sending now (record p { agent = stored_under p.agent r.number (transaction_of b (used + 1)) }) =
        r.after ∙ ap (λ (x : Transaction). after_sending now (record p { agent = stored_under p.agent r.number x })) counted in (
          is ∙ ap Some sent_is,
          subst (λ (x : Protocol). IsWaiting b (used + 1) x) (sym after) (record {
            number = r.number;
            there = stored_there r.number (transaction_of b (used + 1));
            only = stored_only r.number (transaction_of b (used + 1)) found.0;
            phase = w.phase ∙ ap (λ (n : ℕ). InitialSent (n ∷ [])) (sym found.0);
            queue = w.queue;
            events = w.events;
            families = w.families;
            transport = w.transport;
            here = w.here;
          }),
        )
    sent_again now sent q left reached (Fresh none is) =
        clash (is_due_of p.agent now t) (due_in now t refl ∙ due left now reached) (none w.number t w.there)

    -- ---- what it results

    module _ (now : ℕ) (ret : TurnPollRet) (q : Protocol) where
      -- No event and no reply is queued: the agent is polled.
      is_ticked : IsPolledBy p.events p now ret q → IsAgentPolled p now ret q
      is_ticked is =
          let none : IsPolledBy [] p now ret q = subst (λ (l : List TurnEvent). IsPolledBy l p now ret q) w.events is in
          subst (λ (l : List Queued). MatchBool (list_any is_answer l) (Answers (answer.WaitUntil now) p ret q) (IsAgentPolled p now ret q)) w.queue none

      -- Memory ran out, or it did not.
      cases : (r : TurnPollRet) → IsPolled p now r q → IsPolledBy p.events p now r q ⊎ ((r ≡ answer.NoMemory) × IsRefused p now q)
      cases (answer.WaitUntil time) is = inl is
      cases (answer.AllocateTcpSocket connection socket peer) is = inl is
      cases (answer.TcpClose near far) is = inl is
      cases answer.Closed is = inl is
      cases answer.NoMemory is = inr (refl, is)

      abbrev pause : ℕ
      pause = wait_to_send (pace_of p) p.last_send p.queue now (time_after now longest_pause)

      -- What follows from the agent's result.
      abbrev IsOut : StunAgentPollRet → agents.Agent → Type 0
      IsOut ticked agent = IsPolledIn p.phase (ended_of ticked) (wait_of pause ticked) (record p { agent = agent }) now ret q

      -- ---- at the end

      -- The client is closed, and queues the events that it allocated no address.
      pub record IsClosed : Type 0 where
        pub closed : ret ≡ answer.Closed
        pub phase : q.phase ≡ Ended
        pub events : q.events ≡ map_list AllocationCreateFailed b.config.families

      ends : (number : ℕ) (agent : agents.Agent) → number ≡ w.number → IsPolledIn p.phase (Some number) pause (record p { agent = agent }) now ret q → IsClosed
      unfolding ended
      ends number agent same is =
          let here = subst (λ (f : Phase). IsPolledIn f (Some number) pause (record p { agent = agent }) now ret q) w.phase is in
          let among : is_among (Some number) (w.number ∷ []) ≡ true = ap (λ (n : ℕ). (w.number == n) || false) same ∙ ap (λ (x : Bool). x || false) (eq-eqb w.number w.number refl) in
          let out = where_true (Answers answer.Closed (ended (record p { agent = agent })) ret q) (Answers (waits_until (Some number) now pause) (record p { agent = agent }) ret q) (is_among (Some number) (w.number ∷ [])) among here in
          record {
            closed = out.0;
            phase = ap (λ (x : Protocol). x.phase) out.1;
            events = ap (λ (x : Protocol). x.events) out.1
                ∙ (ap (λ (l : List TurnEvent). l ++ map_list AllocationCreateFailed p.families) w.events
                ∙ ap (map_list AllocationCreateFailed) w.families);
          }

      ended_by : end_of b ≤ now → (ticked : StunAgentPollRet) (agent : agents.Agent) → agents.IsPolled p.agent now ticked agent → IsOut ticked agent → IsClosed
      ended_by reached (TransactionTimedOut number) agent is out = ends number agent (w.only number is.transaction is.least.present).0 out
      ended_by reached (TransactionCancelled number) agent is out =
          let same = (w.only number is.transaction is.least.present).1 in
          clash (is_over is.transaction.cancelled) is.cause (ap (λ (x : Transaction). is_over x.cancelled) same)
      ended_by reached (WaitUntil time) agent is out = clash (is_ended now t) (over now reached) (is.0 w.number t w.there)

      pub gives_up : end_of b ≤ now → IsPolled p now ret q → IsClosed ⊎ ((ret ≡ answer.NoMemory) × HasFailed p q)
      gives_up reached polled = elim (cases ret polled) [
        | inl by ↦ inl (let k = is_ticked by in ended_by reached k.ticked k.agent k.is_ticked k.outcome)
        | inr refused ↦ inr (refused.0, refused.1.failed)
      ]

      -- ---- before the end

      -- The client waits for a later time, which is not after the next slot or, if none is left, the end.
      pub record IsAwaiting : Type 0 where
        pub time : ℕ
        pub ret_is : ret ≡ answer.WaitUntil time
        pub later : now < time
        pub by_end : time ≤ end_of b
        pub by_slot : used < count_of b → time ≤ slot_of b used
        pub waits : IsWaiting b used q

      none_over : {A : Type 0} (number : ℕ) (x : Transaction) → now < end_of b → map.get p.agent.outstanding number ≡ Some x → is_ended now x ≡ true → A
      none_over number x before there is =
          let same = (w.only number x there).1 in
          clash (is_ended now x) is (ap (λ (y : Transaction). is_ended now y) same ∙ not_over now before)

      until_later : (until : ℕ) → now ≤ client_end → IsQuiet b used now → now < end_of b → agents.IsNext p.agent now until → now < until
      until_later until early quiet before next = elim next.reached [
        | inl longest ↦ omega (arith, longest, early)
        | inr some ↦ (
            let same : next_time (agents.is_tcp p.agent.transport) some.1 ≡ next_time tcp t = ap (λ (x : Transaction). next_time (agents.is_tcp p.agent.transport) x) (w.only some.0 some.1 some.2).1 ∙ ap (λ (y : Bool). next_time y t) tcp_is in
            let more = next_later now quiet before in
            let is = some.3 in
            omega (arith, same, more, is))
      ]

      pause_later : now ≤ client_end → now < pause
      pause_later early =
          let same : pause ≡ time_after now longest_pause = ap (λ (l : List Queued). wait_to_send (pace_of p) p.last_send l now (time_after now longest_pause)) w.queue in
          omega (arith, same, early)

      awaits_by : now ≤ client_end → IsQuiet b used now → now < end_of b → (ticked : StunAgentPollRet) (agent : agents.Agent) → agents.IsPolled p.agent now ticked agent → IsOut ticked agent → IsAwaiting
      awaits_by early quiet before (TransactionTimedOut number) agent is out = none_over number is.transaction before is.least.present is.least.passes
      awaits_by early quiet before (TransactionCancelled number) agent is out = none_over number is.transaction before is.least.present is.least.passes
      awaits_by early quiet before (WaitUntil until) agent is out =
          let here = subst (λ (f : Phase). IsPolledIn f None (min pause until) (record p { agent = agent }) now ret q) w.phase out in
          let next = is.1.no_later w.number t w.there in
          let same : next_time (agents.is_tcp p.agent.transport) t ≡ next_time tcp t = ap (λ (y : Bool). next_time y t) tcp_is in
          let to_end = next_is (end_of b) slot_to_end (λ none. omega arith) in
          record {
            time = min pause until;
            ret_is = here.0;
            later = (let a = until_later until early quiet before is.1 in let c = pause_later early in omega (arith, a, c));
            by_end = omega (arith, next, same, to_end, before);
            by_slot = λ left. (let to_slot = next_is (slot_of b used) (λ l. omega arith) (λ none. absurd (omega (arith, none, left))) in let soon = quiet left in omega (arith, next, same, to_slot, soon));
            waits = same_waiting q (here.1 ∙ ap (λ (a : agents.Agent). record p { agent = a }) is.2);
          }

      -- No event is to be queued before the end, so memory does not run out.
      nothing_reported : {A : Type 0} → now < end_of b → (ticked : StunAgentPollRet) (agent : agents.Agent) → agents.IsPolled p.agent now ticked agent → HasToReportIn p.phase (ended_of ticked) (record p { agent = agent }) now → A
      nothing_reported before (TransactionTimedOut number) agent is decodes = none_over number is.transaction before is.least.present is.least.passes
      nothing_reported before (TransactionCancelled number) agent is decodes = none_over number is.transaction before is.least.present is.least.passes
      nothing_reported before (WaitUntil until) agent is decodes =
          let here = subst (λ (f : Phase). HasToReportIn f None (record p { agent = agent }) now) w.phase decodes in
          absurd (Prim.cc here.0)

      pub awaits : now ≤ client_end → IsQuiet b used now → now < end_of b → IsPolled p now ret q → IsAwaiting
      awaits early quiet before polled = elim (cases ret polled) [
        | inl by ↦ (let k = is_ticked by in awaits_by early quiet before k.ticked k.agent k.is_ticked k.outcome)
        | inr refused ↦ (let k = refused.1.has_to_report in nothing_reported before k.ticked k.agent k.is_ticked k.decodes)
      ]
