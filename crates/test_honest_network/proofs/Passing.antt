-- The events of a client that is only polled after its allocation, and what they lead to.
use Rattle.std.proofs.Common.{◌≡◌, ℕ, Bool, true, false, subst, Vec, Global}
use Rattle.std.specs.Prelude.{IfOk, Result, Ok, Err}
use Rattle.stun_types_base.specs.declared.data.Data.{Data}
use Rattle.stun_types_base.specs.declared.transmit.Transmit.{Transmit}
use Rattle.turn_desk_event.specs.declared.answer.Answer.TheVariants as answer
use Rattle.turn_desk_core.specs.declared.decision.Decision.TheVariants as by
use Rattle.turn_desk_event.specs.declared.event.Event.TheVariants.{Draw}
use Rattle.turn_desk_world.specs.Model.{World}
use Rattle.test_honest_network.specs.Courses.{IsCourse, IsGiven, IsGranted, IsRefreshed, IsRest, IsListed, IsStill, IsWait, Where}
use Rattle.test_driver.specs.Driving.{Happened}
use Rattle.test_honest_network.specs.Exchanges.{IsRequested}
use Rattle.test_honest_network.specs.Replies.{IsTaken}
use Rattle.test_honest_network.specs.declared.simulation.TheConstants.{LIFETIME, SECOND}
use Rattle.test_honest_network.specs.declared.renewing.TheConstants.{AGAIN, DUE}

-- A statement that holds if the function returned true.
pub so : {A : Type 0} (b : Bool) → b ≡ true → Where b A → A
so true is there = there
so false is there = absurd (Prim.cc is)

pub granted_on : {E : Type 0} (sent : Transmit Data) (now : ℕ) (old middle new : World) (reply : Vec ℕ Global) → IsRequested sent now (by.Refresh LIFETIME) old (answer.Reply reply) middle
    → (result : Result Bool E) → IfOk result (λ gives. Where gives (IsGiven sent now reply middle new)) → IfOk result (λ grants. Where grants (IsGranted sent now old new))
granted_on sent now old middle new reply requested (Ok true) is = record {
  answered = record { replied = middle; reply = reply; requested = requested; ret = is.ret; given = is.step };
  success = is.success;
}
granted_on sent now old middle new reply requested (Ok false) is = tt
granted_on sent now old middle new reply requested (Err error) is = tt

pub refreshed_on : {E : Type 0} (now : ℕ) (old transmitted new : World) (sent : Transmit Data) → Happened (Draw now) old (answer.Transmit sent) transmitted
    → (result : Result Bool E) → IfOk result (λ grants. Where grants (IsGranted sent now transmitted new)) → IfOk result (λ renews. Where renews (IsRefreshed now old new))
refreshed_on now old transmitted new sent step (Ok true) is = record { sent = sent; transmitted = transmitted; step = step; granted = is }
refreshed_on now old transmitted new sent step (Ok false) is = tt
refreshed_on now old transmitted new sent step (Err error) is = tt

pub rested_on : {E : Type 0} (now due : ℕ) (old one two transmitted new : World) → IsTaken now old one → IsTaken now one two → Happened (Draw now) two answer.Nothing transmitted
    → (result : Result Bool E) → IfOk result (λ waits. Where waits (IsWait now due transmitted new)) → IfOk result (λ rests. Where rests (IsRest now due old new))
rested_on now due old one two transmitted new first second nothing (Ok true) is = record { one = one; first = first; two = two; second = second; transmitted = transmitted; nothing = nothing; wait = is }
rested_on now due old one two transmitted new first second nothing (Ok false) is = tt
rested_on now due old one two transmitted new first second nothing (Err error) is = tt

pub still_on : {E : Type 0} (now : ℕ) (old polled new : World) → IsWait now now old polled
    → (result : Result Bool E) → IfOk result (λ shows. Where shows (IsListed now polled new)) → IfOk result (λ holds. Where holds (IsStill now old new))
still_on now old polled new waits (Ok true) is = record { polled = polled; wait = waits; visible = is }
still_on now old polled new waits (Ok false) is = tt
still_on now old polled new waits (Err error) is = tt

pub course_of : (second due again : ℕ) (old rested renewed new : World) → second ≡ SECOND → due ≡ DUE → again ≡ AGAIN → IsRest second due old rested → IsRefreshed due rested renewed → IsStill again renewed new → IsCourse old new
course_of second due again old rested renewed new second_is due_is again_is rest refreshed still = record {
  rested = rested;
  rest = subst (λ (n : ℕ). IsRest n DUE old rested) second_is (subst (λ (n : ℕ). IsRest second n old rested) due_is rest);
  renewed = renewed;
  refreshed = subst (λ (n : ℕ). IsRefreshed n rested renewed) due_is refreshed;
  still = subst (λ (n : ℕ). IsStill n renewed new) again_is still;
}
