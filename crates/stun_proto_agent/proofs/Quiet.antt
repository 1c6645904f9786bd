-- When transmissions are due, and when nothing is.
use Rattle.std.proofs.Common.{◌≡◌, ℕ, suc, ◌+◌, ◌<◌, ◌≤◌, arith, Bool, true, false, Some, refl, ap, ◌∙◌}
use Rattle.std.specs.Prelude.{nat_le, ◌&&◌, ◌||◌, if◌then◌else◌}
use Rattle.std.specs.FinMap as map
use Rattle.std.proofs.lemmas.Bool.{lt-leb}
use Rattle.stun_proto_transaction.specs.Base.Times.{time_after}
use Rattle.stun_proto_transaction.specs.Schedule.{Waits, end_at, slot_at, wait_at}
pub use Rattle.stun_proto_transaction.proofs.Slots.{slot_before_end}
use Rattle.stun_proto_transaction.proofs.Summing.{sum_more}
use Rattle.stun_proto_transaction.specs.Agents.{Transaction, has_left, is_due, is_ended, is_over, next_time, next_slot}
use Rattle.stun_proto_agent.specs.Sending.{is_due_of}
use Rattle.stun_proto_agent.specs.State.{Agent, IsNext, NoneEnded, is_tcp}

-- A transmission is scheduled one wait after the one before.
pub slots_apart : (sent index : ℕ) (waits : Waits) → slot_at sent waits (index + 1) ≡ time_after (slot_at sent waits index) (wait_at waits index)
slots_apart sent index waits =
    let more = sum_more waits index in
    let same : index + 1 ≡ suc index = omega arith in
    ap (slot_at sent waits) same ∙ (let all : slot_at sent waits (suc index) ≡ time_after (slot_at sent waits index) (wait_at waits index) = omega (arith, more) in all)

-- The next time at which something is to be done is no later than the transaction's end.
next_before_end : (tcp : Bool) (t : Transaction) → next_time tcp t ≤ end_at t.sent t.waits
next_before_end tcp t =
    elim (has_left tcp t) as (λ b. has_left tcp t ≡ b → (if b then next_slot t else end_at t.sent t.waits) ≤ end_at t.sent t.waits) [
      | true ↦ λ left. slot_before_end tcp t left
      | false ↦ λ none. omega arith
    ] refl

-- Before the next time at which something is to be done, no transmission is due.
none_due : (tcp : Bool) (time : ℕ) (t : Transaction) → time < next_time tcp t → is_due tcp time t ≡ false
none_due tcp time t later =
    elim (has_left tcp t) as (λ b. time < (if b then next_slot t else end_at t.sent t.waits) → (b && nat_le (next_slot t) time) ≡ false) [
      | true ↦ λ before. lt-leb (next_slot t) time before
      | false ↦ λ before. refl
    ] later

not_over : (a b : Bool) → (a || b) ≡ false → a ≡ false
not_over true b is = absurd (Prim.cc is)
not_over false b is = refl

-- Before that time, a transaction that had not ended has not ended.
none_ended : (tcp : Bool) (now time : ℕ) (t : Transaction) → is_ended now t ≡ false → time < next_time tcp t → is_ended time t ≡ false
none_ended tcp now time t before later =
    let going = not_over (is_over t.cancelled) (nat_le (end_at t.sent t.waits) now) before in
    let last = next_before_end tcp t in
    let less : time < end_at t.sent t.waits = omega (arith, later, last) in
    ap (λ b. b || nat_le (end_at t.sent t.waits) time) going ∙ lt-leb (end_at t.sent t.waits) time less

-- Before the time until which an agent waits, nothing is due and nothing ends.
pub quiet : (agent : Agent) (now until time number : ℕ) (t : Transaction) → NoneEnded agent now → IsNext agent now until → now ≤ time → time < until → map.get agent.outstanding number ≡ Some t
    → (is_due_of agent time t ≡ false) × (is_ended time t ≡ false)
quiet agent now until time number t none next from_now before there =
    let tcp = is_tcp agent.transport in
    let least = next.no_later number t there in
    let later : time < next_time tcp t = omega (arith, from_now, before, least) in
    (none_due tcp time t later, none_ended tcp now time t (none number t there) later)
