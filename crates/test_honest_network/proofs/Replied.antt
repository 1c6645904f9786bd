-- The replies to what a client sent.
use Rattle.std.proofs.Common.{◌≡◌, ℕ, List, Vec, Global}
use Rattle.std.specs.Prelude.{IfOk, Result, Ok, Err}
use Rattle.stun_types_base.specs.Data.{data_bytes}
use Rattle.stun_types_base.specs.declared.data.Data.{Data}
use Rattle.stun_types_base.specs.declared.transmit.Transmit.{Transmit}
use Rattle.turn_desk_event.specs.declared.answer.Answer.TheVariants as answer
use Rattle.turn_desk_core.specs.declared.decision.Decision.{Decision}
use Rattle.turn_desk_event.specs.declared.event.Event.TheVariants.{Draw, ToDesk}
use Rattle.turn_desk_world.specs.Model.{World}
use Rattle.test_driver.specs.Driving.{Happened}
use Rattle.test_honest_network.specs.Replies.{IsBrought, IsGiven, IsReplied}
use Rattle.test_honest_network.specs.declared.replying.Reply.{Reply}
use Rattle.test_honest_network.specs.declared.replying.Reply.TheVariants.{Neither, Success, Challenge}

module _ {E : Type 0} (now : ℕ) (decision : Decision) (old new : World) (sent : Transmit Data) where
  pub brought : (bytes reply : Vec ℕ Global) (seed : List ℕ) (replied : World) → bytes.items ≡ data_bytes sent.bytes → Happened (ToDesk bytes sent.from now decision seed) old (answer.Reply reply) replied
      → (result : Result Reply E) → IfOk result (λ kind. IsGiven sent now reply replied kind new) → IfOk result (λ kind. IsBrought sent now decision old kind new)
  brought bytes reply seed replied same step (Ok Neither) is = tt
  brought bytes reply seed replied same step (Ok Success) is = record { bytes = bytes; same = same; seed = seed; answered = reply; replied = replied; requested = step; taken = is }
  brought bytes reply seed replied same step (Ok Challenge) is = record { bytes = bytes; same = same; seed = seed; answered = reply; replied = replied; requested = step; taken = is }
  brought bytes reply seed replied same step (Err error) is = tt

  pub sent_on : (transmitted : World) → Happened (Draw now) old (answer.Transmit sent) transmitted → (result : Result Reply E) → IfOk result (λ kind. IsBrought sent now decision transmitted kind new) → IfOk result (λ kind. IsReplied now decision old kind new)
  sent_on transmitted step (Ok Neither) is = tt
  sent_on transmitted step (Ok Success) is = record { sent = sent; transmitted = transmitted; step = step; brought = is }
  sent_on transmitted step (Ok Challenge) is = record { sent = sent; transmitted = transmitted; step = step; brought = is }
  sent_on transmitted step (Err error) is = tt
