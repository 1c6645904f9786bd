-- The handshake of a client and a server core over a network that takes time.
use Rattle.std.specs.Prelude.{◌≡◌, ◌≤◌, List, [], ◌∷◌, ℕ, false}
use Rattle.std.specs.declared.net.socket_addr.SocketAddr.{SocketAddr}
use Rattle.stun_types_base.specs.declared.data.Data.{Data}
use Rattle.stun_types_base.specs.declared.transmit.Transmit.{Transmit}
use Rattle.turn_client_proto_api.specs.Sent.{Sent}
use Rattle.turn_desk_progress_laws.specs.Loops.{IsLoop, MayBegin, Position, start}
use Rattle.turn_desk_progress_laws.specs.Promises.{IsAllocated, events_in}
use Rattle.turn_desk_progress_laws.specs.Scripts.{Done, Plan}
use Rattle.turn_desk_core.specs.declared.decision.Decision.TheVariants as by
use Rattle.turn_desk_event.specs.declared.answer.Answer.{Answer}
use Rattle.turn_desk_event.specs.declared.answer.Answer.TheVariants as answer
use Rattle.turn_desk_event.specs.declared.event.Event.{Event}
use Rattle.turn_desk_event.specs.declared.event.Event.TheVariants.{Draw}
use Rattle.turn_desk_world.specs.Model.{World}
use Rattle.turn_desk_world.specs.Runs.{IsRun}
use Rattle.test_driver.specs.Carrying.{HasBrought, HasExchanged}
use Rattle.test_driver.specs.Driving.{Happened}
use Rattle.test_driver.specs.declared.network.Network.{Network}
use Rattle.test_honest_network.specs.declared.latency.TheConstants.{PATIENCE}
use Rattle.test_honest_network.specs.declared.simulation.Outcome.{Outcome}
use Rattle.test_honest_network.specs.declared.simulation.Outcome.TheVariants as outcome
use Rattle.test_honest_network.specs.declared.simulation.TheConstants.{LIFETIME}

-- The statement holds if the client holds the address. For any other outcome nothing is said.
abbrev pub IfAllocated : Outcome → Type 0 → Type 0
IfAllocated outcome.Silent Is = Unit {0}
IfAllocated outcome.CannotAgree Is = Unit {0}
IfAllocated outcome.Allocated Is = Is

-- ---- what happened

-- The client's first message was brought, and then its second one, with the decision to allocate the address.
pub record HasShaken (address : SocketAddr) (before : Network) (old : World) (after : Network) (new : World)
    : Type 0 where
  pub sent : Transmit Data
  pub transmitted : World
  pub step : Happened (Draw before.time) old (answer.Transmit sent) transmitted
  pub ready : Network
  pub challenged : World
  pub first : HasBrought (by.Refuse 400) sent before transmitted ready challenged
  pub second : HasExchanged PATIENCE (by.Allocate (address ∷ []) LIFETIME) ready challenged after new

-- A message takes at most three seconds, nothing is forged, and client and server core begin at time 0.
pub record IsTimely (network : Network) : Type 0 where
  pub time : network.time ≡ 0
  pub lead : network.lead ≡ 0
  pub forges : network.forges ≡ false
  pub latency : network.latency ≤ 3_000_000_000

-- ---- what it is for the theorem

-- The run satisfies every premise of the theorem on a client that a driver's loop calls, and all of the second
-- reply has come. So the conclusion of the theorem holds (`promised`).
pub record HasLooped (plan : Plan) (address : SocketAddr) (old new : World) : Type 0 where
  pub begins : MayBegin plan old
  pub pairs : List (Event × Answer)
  pub run : IsRun old pairs new
  pub position : Position
  pub loop : IsLoop plan old.desk.auth start pairs position
  pub request : Sent
  pub reply : List ℕ
  pub done : position.progress ≡ Done request address LIFETIME reply
  pub promised : IsAllocated plan old (events_in pairs) request address LIFETIME reply new
