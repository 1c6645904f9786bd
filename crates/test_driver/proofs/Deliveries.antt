-- The deliveries over a network that takes time.
use Rattle.std.proofs.Common.{◌≡◌, ◌≢◌, ◌≤◌, ◌++◌, ℕ, List, [], length, refl, sym, ap, ◌∙◌, subst, arith, Vec, Global}
use Rattle.std.specs.Prelude.{Bool, true, false, IfOk, IsTrue, Result, Ok, Err}
use Rattle.stun_types_base.specs.Data.{data_bytes}
use Rattle.stun_types_base.specs.Times.{time_after}
use Rattle.stun_types_base.specs.declared.data.Data.{Data}
use Rattle.stun_types_base.specs.declared.transmit.Transmit.{Transmit}
use Rattle.stun_types_base.specs.declared.transport.TransportType.{TransportType}
use Rattle.stun_types_base.specs.declared.transport.TransportType.TheVariants.{Udp, Tcp}
use Rattle.turn_desk_core.specs.declared.decision.Decision.{Decision}
use Rattle.turn_desk_event.specs.declared.answer.Answer.TheVariants as answer
use Rattle.turn_desk_event.specs.declared.event.Event.TheVariants.{ToDesk}
use Rattle.turn_desk_world.specs.Model.{World}
use Rattle.test_driver.specs.Driving.{Drives, Happened, HasTransmitted, HasWaited, IsAlike, IsAny, IsStill}
use Rattle.test_driver.specs.Carrying.{HasBrought, HasCome, HasExchanged, HasPassed, HasReturned, IfReplied, IsCutInTwo, IsGiven}
use Rattle.test_driver.specs.declared.carrying.Answered.{Answered}
use Rattle.test_driver.specs.declared.carrying.Answered.TheVariants.{Neither, Success, Error}
use Rattle.test_driver.specs.declared.carrying.TheConstants.{PAUSE}
use Rattle.test_driver.specs.declared.network.Network.{Network}
use Rattle.test_driver.proofs.Parts.{alike_on, from_still, same_network}

-- What holds, holds if there was a reply.
pub if_replied : (answered : Answered) (Is : Type 0) → Is → IfReplied answered Is
if_replied Neither Is is = tt
if_replied Success Is is = is
if_replied (Error code) Is is = is

pub replied_on : (Is Other : Type 0) → (Is → Other) → (answered : Answered) → IfReplied answered Is → IfReplied answered Other
replied_on Is Other onward Neither is = tt
replied_on Is Other onward Success is = onward is
replied_on Is Other onward (Error code) is = onward is

pub is_still : (a : Network) → IsStill a a
is_still a = record { time = refl; alike = same_network a }

true_of : (b : Bool) → b ≡ true → IsTrue b
true_of b is = is

-- The loop went on until that time came.
pub passed : (nanos : ℕ) (a b : Network) (until : ℕ) (u : World) (came : Bool) (c : Network) (v : World) → IsStill a b → until ≡ time_after b.time nanos → HasWaited until b u came c v → IsTrue came → HasPassed nanos a u c v
passed nanos a b until u came c v still until_is waited holds =
    let is : HasWaited (time_after b.time nanos) b u came c v = subst (λ (n : ℕ). HasWaited n b u came c v) until_is waited in
    let later : time_after b.time nanos ≡ time_after a.time nanos = ap (λ (n : ℕ). time_after n nanos) still.time in
    record {
      drives = from_still IsAny (time_after a.time nanos) a b u c v still (subst (λ (n : ℕ). Drives IsAny n b u c v) later is.drives);
      late = subst (λ (n : ℕ). n ≤ c.time) later (is.late holds);
    }

pub not_forged : (a b : Network) → a.forges ≡ false → IsAlike a b → b.forges ≡ false
not_forged a b none alike = alike.forges ∙ none

module _ (reply : List ℕ) (sent : Transmit Data) (a : Network) (u : World) (until : ℕ) (until_is : until ≡ time_after a.time a.latency) (b : Network) (v : World) (came : Bool) (holds : IsTrue came) (waited : HasWaited until a u came b v) (w : World)
    (none : w ≡ v) where
  returned : (c : Network) (x : World) → HasCome sent.transport reply sent b w c x → HasReturned reply sent a u c x
  returned c x is = record {
    arrived = b;
    reached = v;
    passes = passed a.latency a a until u came b v (is_still a) until_is waited holds;
    came = subst (λ (z : World). HasCome sent.transport reply sent b z c x) none is;
  }

  pub came_at_once : sent.transport ≡ Udp → (x : World) → IsGiven reply sent b.time w x → (answered : Answered) → IfReplied answered (HasReturned reply sent a u b x)
  came_at_once udp x given answered = if_replied answered (HasReturned reply sent a u b x)
      (returned b x (subst (λ (t : TransportType). HasCome t reply sent b w b x) (sym udp) (is_still b, given)))

  pub came_in_two : sent.transport ≡ Tcp → (c : Network) (x : World) → IsCutInTwo reply sent b w c x → (answered : Answered) → IfReplied answered (HasReturned reply sent a u c x)
  came_in_two tcp c x cut answered = if_replied answered (HasReturned reply sent a u c x)
      (returned c x (subst (λ (t : TransportType). HasCome t reply sent b w c x) (sym tcp) cut))

pub still_on : (a b c : Network) → IsStill a b → IsStill b c → IsStill a c
still_on a b c first second = record { time = second.time ∙ first.time; alike = alike_on a b c first.alike second.alike }

-- ---- two chunks

pub some : (l : List ℕ) (n : ℕ) → length l ≡ n → 1 ≤ n → l ≢ []
some l n is positive = λ none. absurd (never (length l) n is positive (ap (λ (x : List ℕ). length x) none))
  where
    never : (m n : ℕ) → m ≡ n → 1 ≤ n → m ≡ 0 → ⊥
    never m n same positive none = omega (arith, same, positive, none)

pub cut_in_two : (bytes head rest : List ℕ) (sent : Transmit Data) (a b : Network) (u v w x : World) (c : Network) (until : ℕ) (came : Bool) → bytes ≡ head ++ rest → head ≢ [] → rest ≢ [] → IsStill a b → IsGiven head sent b.time u v
    → until ≡ time_after b.time PAUSE → HasWaited until b v came c w → IsTrue came → IsGiven rest sent c.time w x → IsCutInTwo bytes sent a u c x
cut_in_two bytes head rest sent a b u v w x c until came parts some_head some_rest still first until_is waited holds second = record {
  head = head;
  rest = rest;
  parts = parts;
  some_head = some_head;
  some_rest = some_rest;
  middle = v;
  first = subst (λ (n : ℕ). IsGiven head sent n u v) still.time first;
  resumed = w;
  passes = passed PAUSE a b until v came c w still until_is waited holds;
  second = second;
}

-- ---- an exchange

pub brought_on : {E : Type 0} (decision : Decision) (sent : Transmit Data) (a b : Network) (u : World) (until : ℕ) (came : Bool) (c : Network) (v : World) → IsStill a b → until ≡ time_after b.time b.latency → HasWaited until b u came c v → IsTrue came
    → (bytes reply : Vec ℕ Global) (slice seed : List ℕ) (at : ℕ) (replied : World) → bytes.items ≡ data_bytes sent.bytes → at ≡ time_after c.time c.lead → Happened (ToDesk bytes sent.from at decision seed) v (answer.Reply reply) replied
    → slice ≡ reply.items → (d : Network) (w : World) (result : Result Answered E) → IfOk result (λ answered. IfReplied answered (HasReturned slice sent c replied d w)) → IfOk result (λ answered. IfReplied answered (HasBrought decision sent a u d w))
brought_on decision sent a b u until came c v still until_is waited holds bytes reply slice seed at replied same at_is step slice_is d w (Ok answered) is =
    replied_on (HasReturned slice sent c replied d w) (HasBrought decision sent a u d w) (λ returned. record {
      arrived = c;
      reached = v;
      passes = passed a.latency a b until u came c v still (until_is ∙ ap (λ (n : ℕ). time_after b.time n) still.alike.latency) waited holds;
      bytes = bytes;
      same = same;
      seed = seed;
      reply = reply;
      replied = replied;
      requested = subst (λ (n : ℕ). Happened (ToDesk bytes sent.from n decision seed) v (answer.Reply reply) replied) at_is step;
      returned = subst (λ (l : List ℕ). HasReturned l sent c replied d w) slice_is returned;
    }) answered is
brought_on decision sent a b u until came c v still until_is waited holds bytes reply slice seed at replied same at_is step slice_is d w (Err error) is = tt

pub exchanged_on : {E : Type 0} (patience : ℕ) (decision : Decision) (sent : Transmit Data) (a : Network) (u : World) (until : ℕ) (b : Network) (v : World) → until ≡ time_after a.time patience → HasTransmitted until a u sent b v → (c : Network) (w : World)
    (result : Result Answered E) → IfOk result (λ answered. IfReplied answered (HasBrought decision sent b v c w)) → IfOk result (λ answered. IfReplied answered (HasExchanged patience decision a u c w))
exchanged_on patience decision sent a u until b v until_is transmits c w (Ok answered) is =
    replied_on (HasBrought decision sent b v c w) (HasExchanged patience decision a u c w) (λ brought. record {
      sent = sent;
      ready = b;
      transmitted = v;
      transmits = subst (λ (n : ℕ). HasTransmitted n a u sent b v) until_is transmits;
      brought = brought;
    }) answered is
exchanged_on patience decision sent a u until b v until_is transmits c w (Err error) is = tt
