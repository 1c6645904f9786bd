-- A client with one outstanding request: what is transmitted again, and what its agent returns when it is
-- polled.
use Rattle.std.proofs.Common.{◌≡◌, ℕ, ◌+◌, ◌<◌, ◌≤◌, arith, Bool, true, false, Option, Some, refl, sym, ap, ◌∙◌, ◌⊎◌, inl, inr}
use Rattle.std.specs.Prelude.{nat_le, nat_lt, ◌&&◌, if◌then◌else◌, max}
use Rattle.std.specs.FinMap as map
use Rattle.std.proofs.lemmas.Bool.{cases_Bool, le-leb, leb-false, leb-true, lt-leb, lt-ltb, ltb-false, ltb-true}
use Rattle.turn_client_proto_messages.specs.StunProtoTransaction.Agents.{Transaction, is_due, is_ended, next_time, transmitted}
use Rattle.turn_client_proto_messages.specs.StunProtoAgent.Sending.{is_due_of, stored_under}
use Rattle.turn_client_proto_messages.specs.StunProtoAgent.State as agents
use Rattle.turn_client_proto_messages.proofs.StunProtoAgent.Quiet.{slot_before_end}
use Rattle.turn_client_proto_messages.specs.StunProtoAgent.declared.agent.StunAgentPollRet.{StunAgentPollRet}
use Rattle.turn_client_proto_messages.specs.StunProtoAgent.declared.agent.StunAgentPollRet.TheVariants.{TransactionCancelled, TransactionTimedOut, WaitUntil}
use Rattle.turn_client_proto_handshake_laws.specs.Core.declared.protocol.Protocol.{Protocol}
use Rattle.turn_client_proto_step_laws.specs.Timers.Drawing.{Again, Fresh, IsTransmitted, IsFreshSent, after_sending}
use Rattle.turn_client_proto_messages.specs.Api.Sent.{Sent}
use Rattle.turn_client_proto_handshake_laws.specs.Requested.{Requested, IsOnlyRequested, IsDue, IsQuiet, count_of, end_of, sent_of, slot_of, transaction_of}
use Rattle.turn_client_proto_handshake_laws.specs.Stages.{IsOf}
use Rattle.turn_client_proto_handshake_laws.specs.Driving.{client_end}
use Rattle.turn_client_proto_handshake_laws.specs.Sent.{Beginning}
use Rattle.turn_client_proto_progress_laws.proofs.Renewing.Tools.{clash, put_or, put_there}

-- ---- its transaction

module _ (b : Beginning) (a : Requested) (many : ℕ) where
  abbrev tcp : Bool
  tcp = agents.is_tcp b.transport

  abbrev t : Transaction
  t = transaction_of b a many

  due : (now : ℕ) → IsDue b a many now → is_due tcp now t ≡ true
  due now is =
      let some : nat_lt many (count_of b) ≡ true = lt-ltb many (count_of b) is.0 in
      ap (λ (x : Bool). x && nat_le (slot_of b a many) now) some ∙ le-leb (slot_of b a many) now is.1

  not_due : (now : ℕ) → IsQuiet b a many now → is_due tcp now t ≡ false
  not_due now quiet = elim (nat_lt many (count_of b)) as (λ (x : Bool). nat_lt many (count_of b) ≡ x → (x && nat_le (slot_of b a many) now) ≡ false) [
    | true ↦ λ left. lt-leb (slot_of b a many) now (quiet (ltb-true many (count_of b) left))
    | false ↦ λ none. refl
  ] refl

  one_more : many < count_of b → transmitted tcp t ≡ transaction_of b a (many + 1)
  one_more left = ap (λ (x : Bool). if x then transaction_of b a (many + 1) else t) (lt-ltb many (count_of b) left)

  next_is : (bound : ℕ) → (many < count_of b → slot_of b a many ≤ bound) → (count_of b ≤ many → end_of b a ≤ bound) → next_time tcp t ≤ bound
  next_is bound left none = elim (nat_lt many (count_of b)) as (λ (x : Bool). nat_lt many (count_of b) ≡ x → (if x then slot_of b a many else end_of b a) ≤ bound) [
    | true ↦ λ is. left (ltb-true many (count_of b) is)
    | false ↦ λ is. none (ltb-false many (count_of b) is)
  ] refl

  -- The next time is later than now, if no transmission is due and the end is later.
  next_later : (now : ℕ) → IsQuiet b a many now → now < end_of b a → now < next_time tcp t
  next_later now quiet before = elim (nat_lt many (count_of b)) as (λ (x : Bool). nat_lt many (count_of b) ≡ x → now < (if x then slot_of b a many else end_of b a)) [
    | true ↦ λ is. quiet (ltb-true many (count_of b) is)
    | false ↦ λ is. before
  ] refl

  slot_to_end : many < count_of b → slot_of b a many ≤ end_of b a
  slot_to_end left = slot_before_end tcp t (lt-ltb many (count_of b) left)

  module _ (p : Protocol) (of : IsOf b p) (requested : IsOnlyRequested b a many p.agent) where
    tcp_is : agents.is_tcp p.agent.transport ≡ tcp
    tcp_is = ap agents.is_tcp of.transport

    -- What is outstanding is that request.
    pub found : (number : ℕ) (x : Transaction) → map.get p.agent.outstanding number ≡ Some x → (number ≡ a.number) × (x ≡ t)
    found number x there =
        let same = requested.only number x there in
        (same, Prim.cc (sym there ∙ (ap (λ (n : ℕ). map.get p.agent.outstanding n) same ∙ requested.there)))

    due_in : (now : ℕ) (x : Transaction) → x ≡ t → is_due_of p.agent now x ≡ is_due tcp now t
    due_in now x same = ap (λ (y : Transaction). is_due (agents.is_tcp p.agent.transport) now y) same ∙ ap (λ (y : Bool). is_due y now t) tcp_is

    -- ---- what is sent

    -- If a transmission is due, the request is transmitted once more.
    pub record IsSentAgain (now : ℕ) (sent : Option Sent) (q : Protocol) : Type 0 where
      pub sent_is : sent ≡ Some (sent_of b a)
      pub after : q ≡ after_sending now (record p { agent = stored_under p.agent a.number (transaction_of b a (many + 1)) })
      pub is_requested : IsOnlyRequested b a (many + 1) (stored_under p.agent a.number (transaction_of b a (many + 1)))

    stored : (x : Transaction) (other : ℕ) (y : Transaction) → map.get (stored_under p.agent a.number x).outstanding other ≡ Some y → other ≡ a.number
    stored x other y there = elim (put_or p.agent.outstanding a.number x other y there) [
      | inl same ↦ same
      | inr old ↦ requested.only other y old
    ]

    pub sent_again : (now : ℕ) (sent : Option Sent) (q : Protocol) → IsDue b a many now → IsTransmitted p now sent q → IsSentAgain now sent q
    sent_again now sent q is_due_now (Again one is r) =
        let same = found r.number r.transaction r.least.present in
        let counted : transmitted (agents.is_tcp p.agent.transport) r.transaction ≡ transaction_of b a (many + 1) =
        ap (λ (y : Bool). transmitted y r.transaction) tcp_is ∙ (ap (λ (x : Transaction). transmitted tcp x) same.1 ∙ one_more is_due_now.0) in
        record {
          sent_is = is ∙ ap Some (r.is_sent ∙ Prim.cc (of.transport, of.here, same.1));
          after = r.after ∙ (ap (λ (x : Transaction). after_sending now (record p { agent = stored_under p.agent r.number x })) counted
              ∙ ap (λ (n : ℕ). after_sending now (record p { agent = stored_under p.agent n (transaction_of b a (many + 1)) })) same.0);
          is_requested = record {
            there = put_there p.agent.outstanding a.number (transaction_of b a (many + 1));
            only = stored (transaction_of b a (many + 1));
          };
        }
    sent_again now sent q is_due_now (Fresh none is) =
        clash (is_due_of p.agent now t) (due_in now t refl ∙ due now is_due_now) (none a.number t requested.there)

    -- If none is due, something else is transmitted, or nothing.
    pub sent_fresh : (now : ℕ) (sent : Option Sent) (q : Protocol) → IsQuiet b a many now → IsTransmitted p now sent q → IsFreshSent p now sent q
    sent_fresh now sent q quiet (Again one is r) =
        let same = found r.number r.transaction r.least.present in
        clash (is_due_of p.agent now r.transaction) r.least.passes (due_in now r.transaction same.1 ∙ not_due now quiet)
    sent_fresh now sent q quiet (Fresh none is) = is

    -- ---- what the agent results

    none_over : {A : Type 0} (now number : ℕ) (x : Transaction) → now < end_of b a → map.get p.agent.outstanding number ≡ Some x → is_ended now x ≡ true → A
    none_over now number x before there is =
        clash (is_ended now x) is (ap (λ (y : Transaction). is_ended now y) (found number x there).1 ∙ lt-leb (end_of b a) now before)

    until_later : (now until : ℕ) → now ≤ client_end → IsQuiet b a many now → now < end_of b a → agents.IsNext p.agent now until → now < until
    until_later now until early quiet before next = elim next.reached [
      | inl longest ↦ omega (arith, longest, early)
      | inr some ↦ (
          let same : next_time (agents.is_tcp p.agent.transport) some.1 ≡ next_time tcp t =
          ap (λ (x : Transaction). next_time (agents.is_tcp p.agent.transport) x) (found some.0 some.1 some.2).1 ∙ ap (λ (y : Bool). next_time y t) tcp_is in
          let more = next_later now quiet before in
          let is = some.3 in
          omega (arith, same, more, is))
    ]

    -- Before the end the agent returns a time to wait for.
    pub record IsStillRequested (now : ℕ) (ticked : StunAgentPollRet) (agent : agents.Agent) : Type 0 where
      pub until : ℕ
      pub ticked_is : ticked ≡ WaitUntil until
      pub by_slot : many < count_of b → until ≤ max now (slot_of b a many)
      pub by_end : until ≤ end_of b a
      pub later : now ≤ client_end → IsQuiet b a many now → now < until
      pub from_now : now ≤ until
      pub unchanged : agent ≡ p.agent

    pub still_requested : (now : ℕ) (ticked : StunAgentPollRet) (agent : agents.Agent) → now < end_of b a → agents.IsPolled p.agent now ticked agent → IsStillRequested now ticked agent
    still_requested now (TransactionTimedOut number) agent before is = none_over now number is.transaction before is.least.present is.least.passes
    still_requested now (TransactionCancelled number) agent before is = none_over now number is.transaction before is.least.present is.least.passes
    still_requested now (WaitUntil until) agent before is =
        let next = is.1.no_later a.number t requested.there in
        let same : next_time (agents.is_tcp p.agent.transport) t ≡ next_time tcp t = ap (λ (y : Bool). next_time y t) tcp_is in
        let to_end = next_is (end_of b a) slot_to_end (λ none. omega arith) in
        record {
          until = until;
          ticked_is = refl;
          by_slot = λ left. (let to_slot = next_is (slot_of b a many) (λ l. omega arith) (λ none. absurd (omega (arith, none, left))) in omega (arith, next, same, to_slot));
          by_end = omega (arith, next, same, to_end, before);
          later = λ early quiet. until_later now until early quiet before is.1;
          from_now = is.1.from_now;
          unchanged = is.2;
        }

-- At any time a transmission is due or it isn't.
pub due_or_quiet : (b : Beginning) (a : Requested) (many now : ℕ) → IsDue b a many now ⊎ IsQuiet b a many now
due_or_quiet b a many now = elim (cases_Bool (nat_lt many (count_of b))) [
  | inl left ↦ elim (cases_Bool (nat_le (slot_of b a many) now)) [
    | inl reached ↦ inl (ltb-true many (count_of b) left, leb-true (slot_of b a many) now reached)
    | inr before ↦ inr (λ _. leb-false (slot_of b a many) now before)
  ]
  | inr none ↦ inr (λ left. clash (nat_lt many (count_of b)) (lt-ltb many (count_of b) left) none)
]
