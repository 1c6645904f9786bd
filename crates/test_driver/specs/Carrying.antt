-- An exchange over a network that takes time.
use Rattle.std.specs.Prelude.{◌≡◌, ◌≢◌, ◌≤◌, ◌++◌, ℕ, List, [], Vec}
use Rattle.std.specs.declared.alloc.Global.{Global}
use Rattle.stun_types_base.specs.Data.{data_bytes}
use Rattle.stun_types_base.specs.Times.{time_after}
use Rattle.stun_types_base.specs.declared.data.Data.{Data}
use Rattle.stun_types_base.specs.declared.transmit.Transmit.{Transmit}
use Rattle.stun_types_base.specs.declared.transport.TransportType.{TransportType}
use Rattle.stun_types_base.specs.declared.transport.TransportType.TheVariants.{Udp, Tcp}
use Rattle.turn_desk_core.specs.declared.decision.Decision.{Decision}
use Rattle.turn_desk_event.specs.declared.answer.Answer.{Answer}
use Rattle.turn_desk_event.specs.declared.answer.Answer.TheVariants as answer
use Rattle.turn_desk_event.specs.declared.event.Event.TheVariants.{ToClient, ToDesk}
use Rattle.turn_desk_world.specs.Model.{World}
use Rattle.test_driver.specs.Driving.{Drives, Happened, HasTransmitted, IsAny, IsStill}
use Rattle.test_driver.specs.declared.carrying.Answered.{Answered}
use Rattle.test_driver.specs.declared.carrying.Answered.TheVariants.{Neither, Success, Error}
use Rattle.test_driver.specs.declared.carrying.TheConstants.{PAUSE}
use Rattle.test_driver.specs.declared.network.Network.{Network}

-- The driver's loop goes on for this long at least; nothing else happens.
pub record HasPassed (nanos : ℕ) (before : Network) (old : World) (after : Network) (new : World) : Type 0 where
  pub drives : Drives IsAny (time_after before.time nanos) before old after new
  pub late : time_after before.time nanos ≤ after.time

-- These bytes reach the client, from the address to which the message was sent.
pub record IsGiven (bytes : List ℕ) (sent : Transmit Data) (now : ℕ) (old new : World) : Type 0 where
  pub chunk : Vec ℕ Global
  pub same : chunk.items ≡ bytes
  pub ret : Answer
  pub step : Happened (ToClient chunk sent.to sent.from now) old ret new

-- The bytes reach the client in two chunks, neither of which is empty.
pub record IsCutInTwo (bytes : List ℕ) (sent : Transmit Data) (before : Network) (old : World) (after : Network)
    (new : World) : Type 0 where
  pub head : List ℕ
  pub rest : List ℕ
  pub parts : bytes ≡ head ++ rest
  pub some_head : head ≢ []
  pub some_rest : rest ≢ []
  pub middle : World
  pub first : IsGiven head sent before.time old middle
  pub resumed : World
  pub passes : HasPassed PAUSE before middle after resumed
  pub second : IsGiven rest sent after.time resumed new

-- A whole reply reaches the client: over UDP as one datagram, over TCP in two chunks.
abbrev pub HasCome : TransportType → List ℕ → Transmit Data → Network → World → Network → World → Type 0
HasCome Udp reply sent before old after new = IsStill before after × IsGiven reply sent before.time old new
HasCome Tcp reply sent before old after new = IsCutInTwo reply sent before old after new

-- A reply is under way for the latency, and then reaches the client.
pub record HasReturned (reply : List ℕ) (sent : Transmit Data) (before : Network) (old : World) (after : Network)
    (new : World) : Type 0 where
  pub arrived : Network
  pub reached : World
  pub passes : HasPassed before.latency before old arrived reached
  pub came : HasCome sent.transport reply sent arrived reached after new

-- A message is under way for the latency, and reaches the server core unaltered, whose clock has its lead. The
-- reply returns.
pub record HasBrought (decision : Decision) (sent : Transmit Data) (before : Network) (old : World) (after : Network)
    (new : World) : Type 0 where
  pub arrived : Network
  pub reached : World
  pub passes : HasPassed before.latency before old arrived reached
  pub bytes : Vec ℕ Global
  pub same : bytes.items ≡ data_bytes sent.bytes
  pub seed : List ℕ
  pub reply : Vec ℕ Global
  pub replied : World
  pub requested : Happened (ToDesk bytes sent.from (time_after arrived.time arrived.lead) decision seed) reached (answer.Reply reply) replied
  pub returned : HasReturned reply.items sent arrived replied after new

-- The client transmits a message within this time, and none before it; the message is brought.
pub record HasExchanged (patience : ℕ) (decision : Decision) (before : Network) (old : World) (after : Network)
    (new : World) : Type 0 where
  pub sent : Transmit Data
  pub ready : Network
  pub transmitted : World
  pub transmits : HasTransmitted (time_after before.time patience) before old sent ready transmitted
  pub brought : HasBrought decision sent ready transmitted after new

-- The statement holds if there was a reply. Otherwise nothing is said.
abbrev pub IfReplied : Answered → Type 0 → Type 0
IfReplied Neither Is = Unit {0}
IfReplied Success Is = Is
IfReplied (Error code) Is = Is
