-- What `poll` does with an outstanding request, by its contract alone.
use Rattle.std.proofs.Common.{◌≡◌, ◌≢◌, ℕ, ◌+◌, ◌<◌, ◌≤◌, arith, Bool, true, false, List, [], ◌∷◌, ◌++◌, Option, Some, None, refl, sym, ap, ◌∙◌, subst, ◌⊎◌, inl, inr}
use Rattle.std.specs.Prelude.{nat_le, nat_lt, length, max, min, MatchOption, if◌then◌else◌}
use Rattle.std.specs.Bool.{MatchBool}
use Rattle.std.specs.Cmp.{nat_cmp_total}
use Rattle.std.specs.FinMap as map
use Rattle.std.specs.List.{list_any}
use Rattle.std.specs.Ordering.{is_eq, nat_cmp}
use Rattle.std.specs.declared.net.socket_addr.SocketAddr.{SocketAddr}
use Rattle.std.proofs.lemmas.Bool.{cases_Bool, le-leb, leb-false, leb-true, lt-ltb}
use Rattle.turn_client_proto_messages.specs.StunTypesBase.Times.{time_after}
use Rattle.turn_client_proto_messages.specs.StunProtoAgent.Numbers.{ShowsNumbers}
use Rattle.turn_client_proto_messages.specs.StunProtoAgent.State as agents
use Rattle.turn_client_proto_messages.specs.StunProtoAgent.declared.agent.StunAgentPollRet.{StunAgentPollRet}
use Rattle.turn_client_proto_messages.specs.StunProtoAgent.declared.agent.StunAgentPollRet.TheVariants.{TransactionCancelled, TransactionTimedOut, WaitUntil}
use Rattle.turn_client_proto_messages.specs.StunProtoTransaction.Agents.{Transaction, is_ended, is_over, next_time}
use Rattle.turn_client_proto_messages.specs.Api.declared.answer.TurnPollRet.{TurnPollRet}
use Rattle.turn_client_proto_messages.specs.Api.declared.answer.TurnPollRet.TheVariants as answer
use Rattle.turn_client_proto_messages.specs.Api.declared.event.TurnEvent.{TurnEvent}
use Rattle.turn_client_proto_messages.proofs.StunProtoAgent.Quiet.{slot_before_end}
use Rattle.turn_client_proto_messages.proofs.StunProtoTransaction.Leasts.{same_number}
use Rattle.turn_client_proto_core.specs.Ending.{ended}
use Rattle.turn_client_proto_core.specs.declared.protocol.Phase.{Phase}
use Rattle.turn_client_proto_core.specs.declared.protocol.Phase.TheVariants.{Initial, InitialSent, Authenticating, Authenticated, Ended}
use Rattle.turn_client_proto_core.specs.declared.protocol.Protocol.{Protocol}
use Rattle.turn_client_proto_handshake_laws.proofs.Only.{clash, stays_there, taken_out, none_found}
use Rattle.turn_client_proto_handshake_laws.proofs.Polls.{refused_or}
use Rattle.turn_client_proto_messages.specs.Allocation.Awaited.{is_among}
use Rattle.turn_client_proto_messages.specs.Allocation.declared.allocation.Allocation.{Allocation}
use Rattle.turn_client_proto_messages.specs.Allocation.declared.connection.Waiting.{Waiting}
use Rattle.turn_client_proto_messages.specs.ShortTexts.{HasShortTexts}
use Rattle.turn_client_proto_messages.specs.StunProtoClient.Client as auth
use Rattle.turn_client_proto_messages.specs.TurnRuns.Members.{IsIn}
use Rattle.turn_client_proto_messages.specs.Waiting.{Queued, is_answer}
use Rattle.turn_client_proto_step_laws.specs.Connection.Expiring as joined
use Rattle.turn_client_proto_step_laws.specs.Connection.Waiting.{unasked}
use Rattle.turn_client_proto_step_laws.specs.Timers.Polling.{Answers, AreAllocationsPolled, IsAgentPolled, IsClosing, IsPolled, IsPolledBy, IsPolledIn, IsPolledSent, IsPolledStanding, after_asking, after_time, answer_of, ended_of, left, longest_pause, pace_of, socket_for, wait_of, wait_to_send, waits_until}
use Rattle.turn_client_proto_progress_laws.specs.Schedules.{ComesFirst, IsGivenUp, IsGone, IsInOrder, IsOutstanding, IsStillAwaited, Request, count_of, end_of, slot_of, transaction_of}
use Rattle.turn_client_proto_progress_laws.proofs.ScheduleDraws.{less_of, same_key}

-- ---- what a poll leaves as it is

-- The agent, the authenticator, the families and the queue are those of this client.
pub record HasParts (p q : Protocol) : Type 0 where
  pub agent : q.agent ≡ p.agent
  pub auth_is : q.auth ≡ p.auth
  pub families : q.families ≡ p.families
  pub queue : q.queue ≡ p.queue

parts_of : (p q : Protocol) → q ≡ p → HasParts p q
parts_of p q same = record {
  agent = ap (λ (x : Protocol). x.agent) same;
  auth_is = ap (λ (x : Protocol). x.auth) same;
  families = ap (λ (x : Protocol). x.families) same;
  queue = ap (λ (x : Protocol). x.queue) same;
}

module _ (over : Option ℕ) (wait now : ℕ) (x : Protocol) (ret : TurnPollRet) (q : Protocol) where
  ended_parts : q ≡ ended x → HasParts x q
  unfolding ended
  ended_parts same = record {
    agent = ap (λ (y : Protocol). y.agent) same;
    auth_is = ap (λ (y : Protocol). y.auth) same;
    families = ap (λ (y : Protocol). y.families) same;
    queue = ap (λ (y : Protocol). y.queue) same;
  }

  sent_parts : (numbers : List ℕ) → IsPolledSent numbers over wait x now ret q → HasParts x q
  sent_parts numbers is = by (is_among over numbers) is
    where
      by : (b : Bool) → MatchBool b (Answers answer.Closed (ended x) ret q) (Answers (waits_until over now wait) x ret q) → HasParts x q
      by true closed = ended_parts closed.1
      by false waits = parts_of x q waits.1

  asking_parts : q ≡ after_asking x → HasParts x q
  unfolding after_asking
  asking_parts same = record {
    agent = ap (λ (y : Protocol). y.agent) same;
    auth_is = ap (λ (y : Protocol). y.auth) same;
    families = ap (λ (y : Protocol). y.families) same;
    queue = ap (λ (y : Protocol). y.queue) same;
  }

  closing_parts : (closing : List SocketAddr) (wanted : TurnPollRet) → IsClosing closing wanted (after_time over now x) ret q → HasParts x q
  unfolding after_time
  closing_parts [] wanted is = record {
    agent = ap (λ (y : Protocol). y.agent) is.1;
    auth_is = ap (λ (y : Protocol). y.auth) is.1;
    families = ap (λ (y : Protocol). y.families) is.1;
    queue = ap (λ (y : Protocol). y.queue) is.1;
  }
  closing_parts (here ∷ rest) wanted is = record {
    agent = ap (λ (y : Protocol). y.agent) is.1;
    auth_is = ap (λ (y : Protocol). y.auth) is.1;
    families = ap (λ (y : Protocol). y.families) is.1;
    queue = ap (λ (y : Protocol). y.queue) is.1;
  }

  standing_parts : (o : Option Waiting) → MatchOption o (AreAllocationsPolled over wait x now ret q) (λ (w : Waiting). Answers (socket_for x w) (after_asking x) ret q) → HasParts x q
  standing_parts None is = closing_parts (x.closing ++ joined.all_gone over now (left over now x)) (answer_of (left over now x) over now is.first) is.outcome
  standing_parts (Some w) is = asking_parts is.1

  pub polled_parts : (f : Phase) → IsPolledIn f over wait x now ret q → HasParts x q
  polled_parts Initial is = parts_of x q is.1
  polled_parts (InitialSent numbers) is = sent_parts numbers is
  polled_parts (Authenticating numbers) is = sent_parts numbers is
  polled_parts Authenticated is = standing_parts (unasked x.allocations) is
  polled_parts Ended is = parts_of x q is.1

-- ---- when it waits

-- A later time is returned only if no request has ended, and then no later than the wait so far.
module _ (wait now : ℕ) (x : Protocol) (ret : TurnPollRet) (q : Protocol) (time : ℕ) (is_wait : ret ≡ answer.WaitUntil time) (later : now < time) where
  not_now : {A : Type 0} → ret ≡ answer.WaitUntil now → A
  not_now is = let same : time ≡ now = Prim.cc (sym is_wait ∙ is) in absurd (omega (arith, same, later))

  as_wait : (t : ℕ) → ret ≡ answer.WaitUntil t → time ≡ t
  as_wait t is = Prim.cc (sym is_wait ∙ is)

  over_sent : {A : Type 0} (number : ℕ) (numbers : List ℕ) → IsPolledSent numbers (Some number) wait x now ret q → A
  over_sent {A = A} number numbers is = by (is_among (Some number) numbers) is
    where
      by : (b : Bool) → MatchBool b (Answers answer.Closed (ended x) ret q) (Answers (waits_until (Some number) now wait) x ret q) → A
      by true closed = absurd (Prim.cc (sym is_wait ∙ closed.0))
      by false waits = not_now waits.0

  over_answer : {A : Type 0} (number : ℕ) (all : List Allocation) (next : ℕ) → ret ≡ answer_of all (Some number) now next → A
  over_answer number [] next is = absurd (Prim.cc (sym is_wait ∙ is))
  over_answer number (a ∷ rest) next is = not_now is

  over_closing : {A : Type 0} (number : ℕ) (closing : List SocketAddr) (all : List Allocation) (next : ℕ) (p : Protocol) → IsClosing closing (answer_of all (Some number) now next) p ret q → A
  over_closing number [] all next p is = over_answer number all next is.0
  over_closing number (here ∷ rest) all next p is = absurd (Prim.cc (sym is_wait ∙ is.0))

  over_standing : {A : Type 0} (number : ℕ) (o : Option Waiting) → MatchOption o (AreAllocationsPolled (Some number) wait x now ret q) (λ (w : Waiting). Answers (socket_for x w) (after_asking x) ret q) → A
  over_standing number None is = over_closing number (x.closing ++ joined.all_gone (Some number) now (left (Some number) now x)) (left (Some number) now x) is.first (after_time (Some number) now x) is.outcome
  over_standing number (Some w) is = absurd (Prim.cc (sym is_wait ∙ is.0))

  pub never_over : {A : Type 0} (number : ℕ) (f : Phase) → IsPolledIn f (Some number) wait x now ret q → A
  never_over number Initial is = not_now is.0
  never_over number (InitialSent numbers) is = over_sent number numbers is
  never_over number (Authenticating numbers) is = over_sent number numbers is
  never_over number Authenticated is = over_standing number (unasked x.allocations) is
  never_over number Ended is = absurd (Prim.cc (sym is_wait ∙ is.0))

  none_answer : (all : List Allocation) (next : ℕ) → next ≤ wait → ret ≡ answer_of all None now next → time ≤ wait
  none_answer [] next within is = absurd (Prim.cc (sym is_wait ∙ is))
  none_answer (a ∷ rest) next within is = let same : time ≡ max next now = as_wait (max next now) is in omega (arith, same, later, within)

  none_closing : (closing : List SocketAddr) (all : List Allocation) (next : ℕ) (p : Protocol) → next ≤ wait → IsClosing closing (answer_of all None now next) p ret q → time ≤ wait
  none_closing [] all next p within is = none_answer all next within is.0
  none_closing (here ∷ rest) all next p within is = absurd (Prim.cc (sym is_wait ∙ is.0))

  none_standing : (o : Option Waiting) → MatchOption o (AreAllocationsPolled None wait x now ret q) (λ (w : Waiting). Answers (socket_for x w) (after_asking x) ret q) → time ≤ wait
  none_standing None is =
      let least = is.least.within in
      let permissions = is.least_of_permissions.within in
      let channels = is.least_of_channels.within in
      let connections = is.least_of_connections.within in
      let within : is.first ≤ wait = omega (arith, least, permissions, channels, connections) in
      none_closing (x.closing ++ joined.all_gone None now (left None now x)) (left None now x) is.first (after_time None now x) within is.outcome
  none_standing (Some w) is = absurd (Prim.cc (sym is_wait ∙ is.0))

  pub within_wait : (f : Phase) → IsPolledIn f None wait x now ret q → time ≤ wait
  within_wait Initial is = not_now is.0
  within_wait (InitialSent numbers) is = let same = as_wait wait is.0 in omega (arith, same)
  within_wait (Authenticating numbers) is = let same = as_wait wait is.0 in omega (arith, same)
  within_wait Authenticated is = none_standing (unasked x.allocations) is
  within_wait Ended is = absurd (Prim.cc (sym is_wait ∙ is.0))

-- ---- a poll

-- The request is still outstanding, or it was given up.
pub record IsPolledTo (r : Request) (many now : ℕ) (p : Protocol) (ret : TurnPollRet) (q : Protocol) : Type 0 where
  pub outcome : IsStillAwaited r many now p ret q ⊎ IsGivenUp r now q
  pub order : IsInOrder q
  pub transport : q.agent.transport ≡ p.agent.transport
  pub here : q.agent.here ≡ p.agent.here
  pub queue : q.queue ≡ p.queue

module _ (r : Request) (many now : ℕ) (p : Protocol) (there : IsOutstanding r many p) (order : IsInOrder p) (ret : TurnPollRet) (q : Protocol) where
  abbrev t : Transaction
  t = transaction_of r many

  abbrev tcp : Bool
  tcp = agents.is_tcp p.agent.transport

  -- Something else comes first, and the client stays as it was.
  module _ (first : ComesFirst r now p) (same : q ≡ p) (at_once : ret ≡ answer.WaitUntil now) where
    put_off : IsPolledTo r many now p ret q
    put_off = record {
      outcome = inl (record {
        stays_stored = subst (λ (x : Protocol). IsOutstanding r many x) (sym same) there;
        over = λ reached. first;
        before = λ time is later. not_now now now p ret q time is later at_once;
        by_slot = λ time is later left. not_now now now p ret q time is later at_once;
      });
      order = subst (λ (x : Protocol). IsInOrder x) (sym same) order;
      transport = ap (λ (x : Protocol). x.agent.transport) same;
      here = ap (λ (x : Protocol). x.agent.here) same;
      queue = ap (λ (x : Protocol). x.queue) same;
    }

  -- The agent was polled.
  module _ (over : Option ℕ) (wait : ℕ) (agent : agents.Agent) (out : IsPolledIn p.phase over wait (record p { agent = agent }) now ret q) where
    parts : HasParts (record p { agent = agent }) q
    parts = polled_parts over wait now (record p { agent = agent }) ret q p.phase out

    polled_to : ShowsNumbers agent → agent.transport ≡ p.agent.transport → agent.here ≡ p.agent.here → IsStillAwaited r many now p ret q ⊎ IsGivenUp r now q → IsPolledTo r many now p ret q
    polled_to numbers transport here outcome = record {
      outcome = outcome;
      order = record {
        texts = subst (λ (x : auth.Client). HasShortTexts x) (sym parts.auth_is) order.texts;
        families = subst (λ (n : ℕ). n ≤ 2) (ap length (sym parts.families)) order.families;
        numbers = subst (λ (x : agents.Agent). ShowsNumbers x) (sym parts.agent) numbers;
      };
      transport = ap (λ (x : agents.Agent). x.transport) parts.agent ∙ transport;
      here = ap (λ (x : agents.Agent). x.here) parts.agent ∙ here;
      queue = parts.queue;
    }

  -- ---- no request has ended

  module _ (until : ℕ) (agent : agents.Agent) (none : agents.NoneEnded p.agent now) (next : agents.IsNext p.agent now until) (same : agent ≡ p.agent) (pause : ℕ) (out : IsPolledIn p.phase None (min pause until) (record p { agent = agent }) now ret q) where
    before_end : now < end_of r
    before_end = leb-false (end_of r) now (none r.number t there)

    to_end : next_time tcp t ≤ end_of r
    to_end = elim (nat_lt many (count_of r p)) as (λ (b : Bool). nat_lt many (count_of r p) ≡ b → (if b then slot_of r many else end_of r) ≤ end_of r) [
      | true ↦ λ left. slot_before_end tcp t left
      | false ↦ λ none. omega arith
    ] refl

    to_slot : many < count_of r p → next_time tcp t ≤ slot_of r many
    to_slot left = elim (nat_lt many (count_of r p)) as (λ (b : Bool). nat_lt many (count_of r p) ≡ b → (if b then slot_of r many else end_of r) ≤ slot_of r many) [
      | true ↦ λ is. omega arith
      | false ↦ λ is. clash (nat_lt many (count_of r p)) (lt-ltb many (count_of r p) left) is
    ] refl

    awaits : IsPolledTo r many now p ret q
    awaits =
        let soon = next.no_later r.number t there in
        let by = to_end in
        let before = before_end in
        polled_to None (min pause until) agent out (subst (λ (x : agents.Agent). ShowsNumbers x) (sym same) order.numbers) (ap (λ (x : agents.Agent). x.transport) same) (ap (λ (x : agents.Agent). x.here) same)
        (inl (record {
          stays_stored = ap (λ (x : agents.Agent). map.get x.outstanding r.number) ((parts None (min pause until) agent out).agent ∙ same) ∙ there;
          over = λ reached. absurd (omega (arith, before, reached));
          before = λ time is later. (before_end, (let within = within_wait (min pause until) now (record p { agent = agent }) ret q time is later p.phase out in omega (arith, within, soon, by, before)));
          by_slot = λ time is later left. (let within = within_wait (min pause until) now (record p { agent = agent }) ret q time is later p.phase out in let slot = to_slot left in omega (arith, within, soon, slot));
        }))

  -- ---- a request has ended

  module _ (number : ℕ) (agent : agents.Agent) (over : Bool) (e : agents.IsEnd p.agent now number over agent) (pause : ℕ) (out : IsPolledIn p.phase (Some number) pause (record p { agent = agent }) now ret q) where
    numbers_left : ShowsNumbers agent
    numbers_left = subst (λ (x : agents.Agent). ShowsNumbers x) (sym e.gone) (λ other x found. order.numbers other x (taken_out p.agent.outstanding number other x found).1)

    to : IsStillAwaited r many now p ret q ⊎ IsGivenUp r now q → IsPolledTo r many now p ret q
    to = polled_to (Some number) pause agent out numbers_left (ap (λ (x : agents.Agent). x.transport) e.gone) (ap (λ (x : agents.Agent). x.here) e.gone)

    agent_after : q.agent ≡ record p.agent { outstanding = map.remove p.agent.outstanding number }
    agent_after = (parts (Some number) pause agent out).agent ∙ e.gone

    own : number ≡ r.number → IsPolledTo r many now p ret q
    own same =
        let found : e.transaction ≡ t = Prim.cc (sym e.least.present ∙ (ap (λ (n : ℕ). map.get p.agent.outstanding n) same ∙ there)) in
        to (inr (record {
          over = leb-true (end_of r) now (ap (λ (x : Transaction). is_ended now x) (sym found) ∙ e.least.passes);
          gone = ap (λ (x : agents.Agent). map.get x.outstanding r.number) agent_after ∙ ap (λ (n : ℕ). map.get (map.remove p.agent.outstanding n) r.number) same
              ∙ none_found (map.remove p.agent.outstanding r.number) r.number (λ x taken. clash (is_eq (nat_cmp r.number r.number)) (same_key r.number r.number refl) (taken_out p.agent.outstanding r.number r.number x taken).0);
        }))

    other : is_eq (nat_cmp r.number number) ≡ false → IsPolledTo r many now p ret q
    other apart =
        let differ : number ≡ r.number → ⊥ = λ same. clash (is_eq (nat_cmp r.number number)) (same_key r.number number (sym same)) apart in
        to (inl (record {
          stays_stored = ap (λ (x : agents.Agent). map.get x.outstanding r.number) agent_after ∙ stays_there p.agent.outstanding number r.number apart ∙ there;
          over = λ reached. inr (inr (number, e.transaction, e.least.present, e.least.passes, less_of number r.number (e.least.least r.number t there (le-leb (end_of r) now reached)) differ));
          before = λ time is later. never_over pause now (record p { agent = agent }) ret q time is later number p.phase out;
          by_slot = λ time is later left. never_over pause now (record p { agent = agent }) ret q time is later number p.phase out;
        }))

    either : IsPolledTo r many now p ret q
    either = elim (cases_Bool (is_eq (nat_cmp r.number number))) [
      | inl same ↦ own (sym (same_number r.number number same))
      | inr apart ↦ other apart
    ]

  abbrev pause : ℕ
  pause = wait_to_send (pace_of p) p.last_send p.queue now (time_after now longest_pause)

  ticks : (ticked : StunAgentPollRet) (agent : agents.Agent) → agents.IsPolled p.agent now ticked agent → IsPolledIn p.phase (ended_of ticked) (wait_of pause ticked) (record p { agent = agent }) now ret q → IsPolledTo r many now p ret q
  ticks (TransactionTimedOut number) agent is out = either number agent false is pause out
  ticks (TransactionCancelled number) agent is out = either number agent true is pause out
  ticks (WaitUntil until) agent is out = awaits until agent is.0 is.1 is.2 pause out

  by_events : (events : List TurnEvent) → p.events ≡ events → IsPolledBy events p now ret q → IsPolledTo r many now p ret q
  by_events (e ∷ events) some is = put_off (inl (λ none. Prim.cc (sym some ∙ none))) is.1 is.0
  by_events [] none is = by (list_any is_answer p.queue) refl is
    where
      by : (b : Bool) → list_any is_answer p.queue ≡ b → MatchBool b (Answers (answer.WaitUntil now) p ret q) (IsAgentPolled p now ret q) → IsPolledTo r many now p ret q
      by true waits polled = put_off (inr (inl waits)) polled.1 polled.0
      by false empty polled = ticks polled.ticked polled.agent polled.is_ticked polled.outcome

  pub polls_by : ret ≢ answer.NoMemory → IsPolled p now ret q → IsPolledTo r many now p ret q
  polls_by memory is = elim (refused_or p now ret q is) [
    | inl by ↦ by_events p.events refl by
    | inr refused ↦ absurd (memory refused.0)
  ]
