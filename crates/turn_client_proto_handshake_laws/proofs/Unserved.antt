-- A client to which nothing is allocated yet.
use Rattle.std.proofs.Common.{ℕ, List, ap, ◌≡◌, None, refl}
use Rattle.std.specs.declared.net.socket_addr.SocketAddr.{SocketAddr}
use Rattle.turn_client_proto_recv.specs.SocketChunks.{raw_waiting}
use Rattle.turn_client_proto_api.specs.StunProtoAgent.State as agents
use Rattle.turn_client_proto_api.specs.declared.event.TurnEvent.{TurnEvent}
use Rattle.turn_client_proto_core.specs.Deleting.{is_authenticated}
use Rattle.turn_client_proto_messages.specs.Waiting.{Queued}
use Rattle.turn_client_proto_core.specs.declared.protocol.Protocol.{Protocol}
use Rattle.turn_client_proto_handshake_laws.specs.Choosing.{Choice}
use Rattle.turn_client_proto_handshake_laws.specs.Coming.{HasAddresses, IsUnserved}
use Rattle.turn_client_proto_handshake_laws.specs.Stages.{HasEnded, Holds, IsAsking, IsOf, IsSigning}
use Rattle.turn_client_proto_handshake_laws.specs.Sent.{Beginning, Begins}

pub fresh_unserved : (b : Beginning) (p : Protocol) → Begins b p → IsUnserved b p
fresh_unserved b p is = record {
  settings = record {
    server = is.server_is;
    remote = ap (λ (a : agents.Agent). a.remote) is.agent;
    transport = ap (λ (a : agents.Agent). a.transport) is.agent;
    here = ap (λ (a : agents.Agent). a.here) is.agent;
  };
  allocations = is.allocations;
  phase = ap is_authenticated is.phase;
}

addresses_of : (b : Beginning) (p : Protocol) → IsOf b p → HasAddresses b p
addresses_of b p of = record { server = of.server; remote = of.remote; transport = of.transport; here = of.here }

pub asking_unserved : (b : Beginning) (many last : ℕ) (p : Protocol) → IsAsking b many last p → IsUnserved b p
asking_unserved b many last p w = record { settings = addresses_of b p w.settings; allocations = w.allocations; phase = ap is_authenticated w.phase }

pub signing_unserved : (b : Beginning) (c : Choice) (many last : ℕ) (queue : List Queued) (p : Protocol) → IsSigning b c many last queue p → IsUnserved b p
signing_unserved b c many last queue p w = record { settings = addresses_of b p w.settings; allocations = w.allocations; phase = ap is_authenticated w.phase }

pub ended_unserved : (b : Beginning) (events : List TurnEvent) (p : Protocol) → HasEnded b events p → IsUnserved b p
ended_unserved b events p w = record { settings = addresses_of b p w.settings; allocations = w.allocations; phase = ap is_authenticated w.phase }

-- If nothing is allocated, no bytes of a connection's peer are buffered.
pub none_raw : (b : Beginning) (p : Protocol) → IsUnserved b p → raw_waiting p ≡ None
none_raw b p u = rw u.allocations refl

-- Nor are they in an allocation that was just granted.
pub holding_none_raw : (b : Beginning) (c : Choice) (address : SocketAddr) (lifetime now last : ℕ) (queue : List Queued) (events : List TurnEvent) (p : Protocol)
    → Holds b c address lifetime now last queue events p → raw_waiting p ≡ None
holding_none_raw b c address lifetime now last queue events p w = rw w.allocations refl
