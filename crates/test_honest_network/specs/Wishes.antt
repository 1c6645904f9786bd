-- A client that has an allocation over an honest network requests something, and the server core grants it
-- (RFC 8656, sections 10 to 12).
use Rattle.std.specs.Prelude.{◌≡◌, ◌<◌, ℕ, List, [], Vec}
use Rattle.std.specs.declared.alloc.Global.{Global}
use Rattle.std.specs.declared.net.ip_addr.IpAddr.{IpAddr}
use Rattle.std.specs.declared.net.socket_addr.SocketAddr.{SocketAddr}
use Rattle.turn_client_proto_api.specs.StunProtoTransaction.Schedule.{end_at}
use Rattle.stun_types_wire.specs.Attributes.{kind_at}
use Rattle.stun_types_base.specs.Data.{data_bytes}
use Rattle.stun_types_wire.specs.declared.class.MessageClass.TheVariants.{Success}
use Rattle.stun_types_wire.specs.Types.{class_of}
use Rattle.stun_types_base.specs.declared.data.Data.{Data}
use Rattle.stun_types_base.specs.declared.transmit.Transmit.{Transmit}
use Rattle.turn_desk_event.specs.declared.answer.Answer.{Answer}
use Rattle.turn_desk_event.specs.declared.answer.Answer.TheVariants as answer
use Rattle.turn_desk_core.specs.declared.decision.Decision.TheVariants as by
use Rattle.turn_desk_event.specs.declared.event.ClientCall.{ClientCall}
use Rattle.turn_desk_event.specs.declared.event.ClientCall.TheVariants.{BindChannel, CreatePermission}
use Rattle.turn_desk_event.specs.declared.event.Event.{Event}
use Rattle.turn_desk_event.specs.declared.event.Event.TheVariants.{Call, Draw, ToClient, ToDesk}
use Rattle.turn_desk_world.specs.Model.{World}
use Rattle.turn_desk_world.specs.Runs.{IsRun, IsStep}
use Rattle.turn_desk_progress_laws.specs.TurnClientProtoProgressLaws.Speaking.{AreHeldBeyond}
use Rattle.turn_client_proto_api.specs.Sent.{Sent}
use Rattle.turn_desk_progress_laws.specs.Promises.{HasClient}
use Rattle.turn_desk_progress_laws.specs.Scripts.{Done, IsScript, Plan, Start}
use Rattle.turn_desk_progress_laws.specs.Asking.{Got, Idle, IsAskingScript, IsCleanRun, IsRequestOf, Pending, replies_in}
use Rattle.turn_desk_progress_laws.specs.RequestPromises.{IsChannelHeld, IsPermissionHeld}
use Rattle.test_driver.specs.Driving.{Happened}
use Rattle.test_honest_network.specs.declared.asking.Wish.{Wish}
use Rattle.test_honest_network.specs.declared.asking.Wish.TheVariants.{Unheld, Held}
use Rattle.test_honest_network.specs.declared.asking.TheConstants.{CALLED, TRANSMITTED}
use Rattle.test_honest_network.specs.declared.simulation.TheConstants.{LIFETIME}

-- ---- what happened

-- The reply is a success response, and reached the client.
pub record HasGiven (reply : Vec ℕ Global) (here server : SocketAddr) (old new : World) : Type 0 where
  pub success : class_of (kind_at reply.items) ≡ Success
  pub ret : Answer
  pub given : Happened (ToClient reply server here TRANSMITTED) old ret new

abbrev pub IsGiven : Vec ℕ Global → (here server : SocketAddr) → World → Wish → World → Type 0
IsGiven reply here server old Unheld new = Unit {0}
IsGiven reply here server old Held new = HasGiven reply here server old new

-- The client's message reached the server core, which replied with a success response, and this reached the
-- client.
pub record HasBrought (sent : Transmit Data) (here server : SocketAddr) (old new : World) : Type 0 where
  pub bytes : Vec ℕ Global
  pub same : bytes.items ≡ data_bytes sent.bytes
  pub seed : List ℕ
  pub reply : Vec ℕ Global
  pub replied : World
  pub requested : Happened (ToDesk bytes here TRANSMITTED by.Grant seed) old (answer.Reply reply) replied
  pub taken : HasGiven reply here server replied new

abbrev pub IsBrought : Transmit Data → (here server : SocketAddr) → World → Wish → World → Type 0
IsBrought sent here server old Unheld new = Unit {0}
IsBrought sent here server old Held new = HasBrought sent here server old new

-- The client was polled for a message, which was delivered.
pub record HasSent (here server : SocketAddr) (old new : World) : Type 0 where
  pub sent : Transmit Data
  pub transmitted : World
  pub step : Happened (Draw TRANSMITTED) old (answer.Transmit sent) transmitted
  pub brought : HasBrought sent here server transmitted new

abbrev pub IsSent : (here server : SocketAddr) → World → Wish → World → Type 0
IsSent here server old Unheld new = Unit {0}
IsSent here server old Held new = HasSent here server old new

-- The client had nothing to send, the call succeeded, and the client sent its request, which was granted.
pub record IsGranted (what : ClientCall) (here server : SocketAddr) (old new : World) : Type 0 where
  pub resting : World
  pub rests : Happened (Draw CALLED) old answer.Nothing resting
  pub requested : World
  pub call : Happened (Call what CALLED) resting answer.Done requested
  pub sent : HasSent here server requested new

abbrev pub IsSimulated : ClientCall → (here server : SocketAddr) → World → Wish → World → Type 0
IsSimulated what here server old Unheld new = Unit {0}
IsSimulated what here server old Held new = IsGranted what here server old new

-- ---- what it is for the theorem

-- The run satisfies every premise of the theorem on requests.
pub record HasRequested (plan : Plan) (address : SocketAddr) (what : ClientCall) (old new : World) : Type 0 where
  pub one : World
  pub two : World
  pub three : World
  pub first : List (Event × Answer)
  pub second : List (Event × Answer)
  pub third : List (Event × Answer)
  pub signed : Sent
  pub reply : List ℕ
  pub request : List ℕ
  pub grant : List ℕ
  pub met : IsRun old first one
  pub script : IsScript plan Start first (Done signed address LIFETIME reply)
  pub on : IsRun one second two
  pub clean : IsCleanRun plan (replies_in first []) Idle second Idle
  pub beyond : HasClient plan [] two (λ p. AreHeldBeyond TRANSMITTED p.allocations)
  pub early : TRANSMITTED < end_at CALLED plan.client.config.waits
  pub call : IsStep (Call what CALLED) two answer.Done three
  pub of : IsRequestOf two three request
  pub carried : IsRun three third new
  pub asking : IsAskingScript plan request TRANSMITTED Pending third (Got grant)

-- The run satisfies the premises, so the client has the permission.
pub record HasPermitted (plan : Plan) (address : SocketAddr) (ip : IpAddr) (old new : World) : Type 0 where
  pub requested : HasRequested plan address (CreatePermission plan.client.config.transport ip) old new
  pub held : IsPermissionHeld plan ip TRANSMITTED new

abbrev pub IsPermitted : Plan → SocketAddr → IpAddr → World → Wish → World → Type 0
IsPermitted plan address ip old Unheld new = Unit {0}
IsPermitted plan address ip old Held new = HasPermitted plan address ip old new

-- The run satisfies the premises, so the client has the channel.
pub record HasBound (plan : Plan) (address peer : SocketAddr) (old new : World) : Type 0 where
  pub requested : HasRequested plan address (BindChannel plan.client.config.transport peer) old new
  pub held : IsChannelHeld plan peer TRANSMITTED new

abbrev pub IsBound : Plan → (address peer : SocketAddr) → World → Wish → World → Type 0
IsBound plan address peer old Unheld new = Unit {0}
IsBound plan address peer old Held new = HasBound plan address peer old new
