-- A client that has an allocation over TCP requests a connection to a peer and binds it (RFC 8656, section
-- 10; RFC 6062, section 4.3).
use Rattle.std.specs.Prelude.{ℕ, List, [], Some, replicate}
use Rattle.std.specs.Net.Socket.{socket_ip}
use Rattle.std.specs.declared.net.socket_addr.SocketAddr.{SocketAddr}
use Rattle.stun_types_base.specs.declared.transport.TransportType.TheVariants.{Tcp}
use Rattle.turn_client_proto_api.specs.Sent.{Sent}
use Rattle.turn_desk_progress_laws.specs.Promises.{IsFresh}
use Rattle.turn_desk_progress_laws.specs.Scripts.{Done, IsScript, Plan, Start, plan_over}
use Rattle.turn_desk_progress_laws.specs.Joining.{KeepsOwn}
use Rattle.turn_desk_progress_laws.specs.Linked.{IsOverTcp}
use Rattle.turn_desk_progress_laws.specs.Links.{Bound, Held, IsTimelyLink, Link}
use Rattle.turn_desk_progress_laws.specs.Rebinding.{At, HasRelinked, IsRelinkScript}
use Rattle.turn_client_proto_api.specs.Config.{Config}
use Rattle.turn_desk_event.specs.declared.answer.Answer.{Answer}
use Rattle.turn_desk_core.specs.declared.decision.Decision.{Decision}
use Rattle.turn_desk_core.specs.declared.decision.Decision.TheVariants as by
use Rattle.turn_desk_event.specs.declared.event.ClientCall.{ClientCall}
use Rattle.turn_desk_event.specs.declared.event.ClientCall.TheVariants.{AllocatedTcpSocket, CreatePermission, TcpConnect}
use Rattle.turn_desk_event.specs.declared.event.Event.{Event}
use Rattle.turn_desk_world.specs.Model.{World}
use Rattle.turn_desk_world.specs.Runs.{IsRun}
use Rattle.test_honest_network.specs.Replies.{HasReplied, IsCall, IsPoll, IsTaken, Then}
use Rattle.test_honest_network.specs.Settings.{config_of}
use Rattle.test_honest_network.specs.declared.tcp_binding.TheConstants.{AGAIN, REQUESTED, MADE, NUMBER, TURNED}
use Rattle.test_honest_network.specs.declared.simulation.TheConstants.{LIFETIME, SECOND}
use Rattle.test_honest_network.specs.declared.replying.Reply.TheVariants.{Success, Challenge}
use Rattle.test_honest_network.specs.declared.setting.Setting.{Setting}

-- The client requests an allocation over TCP, and is itself connected over TCP.
abbrev pub stream_config_of : Setting → Config
stream_config_of s = record (config_of s) { transport = Tcp }

abbrev pub stream_plan_of : Setting → Plan
stream_plan_of s = plan_over Tcp s.here s.server (stream_config_of s) (replicate 32 0) 0 SECOND

-- A connection to a peer through a socket with this local address.
abbrev pub link_of : (peer local : SocketAddr) → Link
link_of peer local = record {
  peer = peer;
  number = NUMBER;
  local = local;
  requested = REQUESTED;
  granted = REQUESTED;
  made = MADE;
  first = MADE;
}

-- ---- what happened

-- A call succeeded, and its request was transmitted and granted.
abbrev pub IsRequested : ClientCall → ℕ → Decision → World → World → Type 0
IsRequested what now decision old new = Then (IsCall what now) (HasReplied now decision Success) old new

-- Events were taken twice, the client asked for a socket, and one was reported to it.
abbrev pub IsOpened : (peer local : SocketAddr) → ℕ → World → World → Type 0
IsOpened peer local now old new = Then (IsTaken now) (Then (IsTaken now) (Then (IsPoll now)
    (IsCall (AllocatedTcpSocket NUMBER peer (Some local)) now))) old new

-- The repeated CONNECTION_BIND was granted; in `IsBound` it was challenged before.
abbrev pub IsBoundAgain : World → World → Type 0
IsBoundAgain old new = HasReplied AGAIN by.Grant Success old new

abbrev pub IsBound : World → World → Type 0
IsBound old new = Then (HasReplied TURNED by.Grant Challenge) IsBoundAgain old new

-- The whole run after the handshake: the permission, the connection, its socket and its binding.
abbrev pub IsGone : (peer local : SocketAddr) → World → World → Type 0
IsGone peer local old new = Then (IsRequested (CreatePermission Tcp (socket_ip peer)) REQUESTED by.Grant)
    (Then (IsRequested (TcpConnect peer) MADE (by.Connect NUMBER)) (Then (IsOpened peer local MADE) IsBound)) old new

-- ---- what it is for the theorem

-- The run satisfies every premise of the theorem on a challenged CONNECTION_BIND, so its conclusion holds
-- (`promised`).
pub record HasBound (plan : Plan) (address : SocketAddr) (link : Link) (old new : World) : Type 0 where
  pub fresh : IsFresh plan old
  pub stream : IsOverTcp plan
  pub keeps : KeepsOwn link old.desk.auth
  pub timely : IsTimelyLink plan LIFETIME link
  pub one : World
  pub first : List (Event × Answer)
  pub pairs : List (Event × Answer)
  pub request : Sent
  pub reply : List ℕ
  pub met : IsRun old first one
  pub script : IsScript plan Start first (Done request address LIFETIME reply)
  pub run : IsRun one pairs new
  pub links : IsRelinkScript plan LIFETIME link (At Held) pairs (At (Bound []))
  pub promised : HasRelinked plan old address link (At (Bound [])) new
