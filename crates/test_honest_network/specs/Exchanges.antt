-- One exchange over an honest network: the client is polled for a message, the message reaches the server
-- core, and its reply reaches the client, all at one time.
use Rattle.std.specs.Prelude.{◌≡◌, ℕ, List, Vec}
use Rattle.std.specs.declared.alloc.Global.{Global}
use Rattle.stun_types_base.specs.Data.{data_bytes}
use Rattle.stun_types_base.specs.declared.data.Data.{Data}
use Rattle.stun_types_base.specs.declared.transmit.Transmit.{Transmit}
use Rattle.turn_desk_event.specs.declared.answer.Answer.{Answer}
use Rattle.turn_desk_event.specs.declared.answer.Answer.TheVariants as answer
use Rattle.turn_desk_core.specs.declared.decision.Decision.{Decision}
use Rattle.turn_desk_event.specs.declared.event.Event.TheVariants.{Draw, ToClient, ToDesk}
use Rattle.turn_desk_world.specs.Model.{World}
use Rattle.test_driver.specs.Driving.{Happened}
use Rattle.test_honest_network.specs.declared.exchange.Carried.{Carried}
use Rattle.test_honest_network.specs.declared.exchange.Carried.TheVariants.{Unsent, Unanswered, Replied}

-- An answer that transmits nothing; and, for `IsNoReply`, an answer that is not a reply.
abbrev pub SendsNothing : Answer → Type 0
SendsNothing (answer.Transmit sent) = ⊥
SendsNothing _ = Unit {0}

abbrev pub IsNoReply : Answer → Type 0
IsNoReply (answer.Reply bytes) = ⊥
IsNoReply _ = Unit {0}

-- The client's message reached the server core, with this answer.
pub record IsRequested (sent : Transmit Data) (now : ℕ) (decision : Decision) (old : World) (ret : Answer) (new : World)
    : Type 0 where
  pub bytes : Vec ℕ Global
  pub same : bytes.items ≡ data_bytes sent.bytes
  pub seed : List ℕ
  pub step : Happened (ToDesk bytes sent.from now decision seed) old ret new

-- The server core replied, and the reply reached the client.
pub record IsAnswered (sent : Transmit Data) (now : ℕ) (decision : Decision) (old new : World) : Type 0 where
  pub replied : World
  pub reply : Vec ℕ Global
  pub requested : IsRequested sent now decision old (answer.Reply reply) replied
  pub ret : Answer
  pub given : Happened (ToClient reply sent.to sent.from now) replied ret new

pub record IsUnanswered (sent : Transmit Data) (now : ℕ) (decision : Decision) (old new : World) : Type 0 where
  pub ret : Answer
  pub requested : IsRequested sent now decision old ret new
  pub none : IsNoReply ret

abbrev pub IsDelivered : Transmit Data → ℕ → Decision → World → Carried → World → Type 0
IsDelivered sent now decision old Unsent new = ⊥
IsDelivered sent now decision old Unanswered new = IsUnanswered sent now decision old new
IsDelivered sent now decision old Replied new = IsAnswered sent now decision old new

-- The client was polled for a message and sent one, which was delivered.
pub record IsSent (now : ℕ) (decision : Decision) (old : World) (carried : Carried) (new : World) : Type 0 where
  pub sent : Transmit Data
  pub transmitted : World
  pub step : Happened (Draw now) old (answer.Transmit sent) transmitted
  pub delivered : IsDelivered sent now decision transmitted carried new

-- The client was polled for a message and sent none.
pub record IsUnsent (now : ℕ) (old new : World) : Type 0 where
  pub ret : Answer
  pub step : Happened (Draw now) old ret new
  pub none : SendsNothing ret

abbrev pub IsCarried : ℕ → Decision → World → Carried → World → Type 0
IsCarried now decision old Unsent new = IsUnsent now old new
IsCarried now decision old Unanswered new = IsSent now decision old Unanswered new
IsCarried now decision old Replied new = IsSent now decision old Replied new
