-- The result of polling an agent and the agent afterwards are determined.
use Rattle.std.proofs.Common.{◌≡◌, ℕ, ◌≤◌, arith, Bool, true, false, sym, ap, ◌∙◌, inl, inr}
use Rattle.std.specs.FinMap as map
use Rattle.turn_client_proto_timers.specs.StunProtoAgent.declared.agent.StunAgentPollRet.{StunAgentPollRet}
use Rattle.turn_client_proto_timers.specs.StunProtoAgent.declared.agent.StunAgentPollRet.TheVariants.{TransactionCancelled, TransactionTimedOut, WaitUntil}
use Rattle.turn_client_proto_timers.specs.StunProtoTransaction.Agents.{Transaction, is_ended, is_over}
use Rattle.turn_client_proto_timers.specs.StunProtoAgent.State.{Agent, IsEnd, IsNext, IsPolled, NoneEnded}
use Rattle.turn_client_proto_step_laws.proofs.Once.Least.{least_number, least_value}

module _ (old : Agent) (now : ℕ) where
  -- ---- transactions that ended

  ended_number : (number other : ℕ) (over again : Bool) (one two : Agent) → IsEnd old now number over one → IsEnd old now other again two → number ≡ other
  ended_number number other over again one two a b = least_number (is_ended now) old.outstanding number other a.transaction b.transaction a.least b.least

  ended_over : (number other : ℕ) (over again : Bool) (one two : Agent) → IsEnd old now number over one → IsEnd old now other again two → over ≡ again
  ended_over number other over again one two a b =
      sym a.cause ∙ ap (λ (t : Transaction). is_over t.cancelled) (least_value (is_ended now) old.outstanding number other a.transaction b.transaction a.least b.least) ∙ b.cause

  ended_agent : (number other : ℕ) (over again : Bool) (one two : Agent) → IsEnd old now number over one → IsEnd old now other again two → one ≡ two
  ended_agent number other over again one two a b =
      a.gone ∙ ap (λ (n : ℕ). record old { outstanding = map.remove old.outstanding n }) (ended_number number other over again one two a b) ∙ sym b.gone

  ended_not : {A : Type 0} (number : ℕ) (over : Bool) (new : Agent) → IsEnd old now number over new → NoneEnded old now → A
  ended_not number over new is none = absurd (Prim.cc (sym (none number is.transaction is.least.present) ∙ is.least.passes))

  not_both : {A : Type 0} → true ≡ false → A
  not_both is = absurd (Prim.cc is)

  -- ---- the next time

  no_later : (until other : ℕ) → IsNext old now until → IsNext old now other → until ≤ other
  no_later until other a b = elim b.reached [
    | inl is ↦ omega (arith, is, a.within)
    | inr some ↦ let below = a.no_later some.0 some.1 some.2 in omega (arith, below, some.3)
  ]

  next_same : (until other : ℕ) → IsNext old now until → IsNext old now other → until ≡ other
  next_same until other a b =
      let less = no_later until other a b in
      let more = no_later other until b a in
      omega (arith, less, more)

  -- ---- all of it

  pub polled_same : (ret again : StunAgentPollRet) (one two : Agent) → IsPolled old now ret one → IsPolled old now again two → (ret ≡ again) × (one ≡ two)
  polled_same (TransactionTimedOut n) (TransactionTimedOut m) one two a b = (ap TransactionTimedOut (ended_number n m false false one two a b), ended_agent n m false false one two a b)
  polled_same (TransactionTimedOut n) (TransactionCancelled m) one two a b = not_both (sym (ended_over n m false true one two a b))
  polled_same (TransactionTimedOut n) (WaitUntil until) one two a b = ended_not n false one a b.0
  polled_same (TransactionCancelled n) (TransactionTimedOut m) one two a b = not_both (ended_over n m true false one two a b)
  polled_same (TransactionCancelled n) (TransactionCancelled m) one two a b = (ap TransactionCancelled (ended_number n m true true one two a b), ended_agent n m true true one two a b)
  polled_same (TransactionCancelled n) (WaitUntil until) one two a b = ended_not n true one a b.0
  polled_same (WaitUntil until) (TransactionTimedOut m) one two a b = ended_not m false two b a.0
  polled_same (WaitUntil until) (TransactionCancelled m) one two a b = ended_not m true two b a.0
  polled_same (WaitUntil until) (WaitUntil other) one two a b = (ap WaitUntil (next_same until other a.1 b.1), a.2 ∙ sym b.2)
