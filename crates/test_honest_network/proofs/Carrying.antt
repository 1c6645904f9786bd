-- The deliveries over an honest network.
use Rattle.std.proofs.Common.{◌≡◌, ℕ, refl, Vec, Global}
use Rattle.std.specs.Prelude.{IfOk, Result, Ok, Err}
use Rattle.stun_types_base.specs.declared.data.Data.{Data}
use Rattle.stun_types_base.specs.declared.transmit.Transmit.{Transmit}
use Rattle.turn_desk_event.specs.declared.answer.Answer.{Answer}
use Rattle.turn_desk_event.specs.declared.answer.Answer.TheVariants as answer
use Rattle.turn_desk_core.specs.declared.decision.Decision.{Decision}
use Rattle.turn_desk_event.specs.declared.event.Event.TheVariants.{Draw}
use Rattle.turn_desk_world.specs.Model.{World}
use Rattle.test_driver.specs.Driving.{Happened}
use Rattle.test_honest_network.specs.Exchanges.{IsCarried, IsDelivered, IsNoReply}
use Rattle.test_honest_network.specs.declared.exchange.Carried.{Carried}
use Rattle.test_honest_network.specs.declared.exchange.Carried.TheVariants.{Unsent, Unanswered, Replied}

-- An answer that equals no reply is not a reply.
pub no_reply : (ret : Answer) → ((bytes : Vec ℕ Global) → ret ≡ answer.Reply bytes → ⊥) → IsNoReply ret
no_reply (answer.Reply bytes) other = other bytes refl
no_reply _ other = tt

-- If the client transmitted a message and it was delivered, the exchange took place.
pub sent_on : {E : Type 0} (now : ℕ) (decision : Decision) (old transmitted new : World) (sent : Transmit Data) → Happened (Draw now) old (answer.Transmit sent) transmitted
    → (result : Result Carried E) → IfOk result (λ carried. IsDelivered sent now decision transmitted carried new) → IfOk result (λ carried. IsCarried now decision old carried new)
sent_on now decision old transmitted new sent step (Ok Unsent) is = absurd is
sent_on now decision old transmitted new sent step (Ok Unanswered) is = record { sent = sent; transmitted = transmitted; step = step; delivered = is }
sent_on now decision old transmitted new sent step (Ok Replied) is = record { sent = sent; transmitted = transmitted; step = step; delivered = is }
sent_on now decision old transmitted new sent step (Err error) is = tt
