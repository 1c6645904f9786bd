-- What the setup lines of a trace create.
use Rattle.std.specs.Prelude.{◌≡◌, ℕ, List, [], Option, Some, None}
use Rattle.std.specs.Duration.{as_nanos}
use Rattle.std.specs.FinMap as map
use Rattle.stun_types_wire.specs.declared.algorithm.IntegrityAlgorithm.{IntegrityAlgorithm}
use Rattle.stun_types_base.specs.declared.transport.TransportType.{TransportType}
use Rattle.stun_types_base.specs.declared.transport.TransportType.TheVariants.{Udp, Tcp}
use Rattle.std.specs.declared.net.socket_addr.SocketAddr.{SocketAddr}
use Rattle.turn_client_proto_api.specs.TurnTypesFrame.Streams.{alive}
use Rattle.turn_client_proto.specs.Core.Beginning.{IsNew}
use Rattle.turn_client_proto.specs.Recv.Control.{Open}
use Rattle.stun_proto_auth.specs.declared.feature.Feature.{Feature}
use Rattle.turn_client_proto.specs.Recv.ClientState.{ClientState, over_udp}
use Rattle.turn_desk_core.specs.State.{State}
use Rattle.turn_client_proto_api.specs.Config.{Config, default_config}
use Rattle.turn_desk_trace.specs.Setup.{families_in_order}
use Rattle.turn_desk_trace.specs.declared.setup.Client.{Client}
use Rattle.turn_desk_world.specs.declared.setting.Rto.{Rto}

-- A server core for a realm, without users, clients and grants. Its nonces are valid for an hour.
abbrev pub desk_of : List ℕ → List IntegrityAlgorithm → Feature → Option ℕ → State
desk_of realm algorithms anonymity clients = record {
  auth = record {
    realm = realm;
    users = map.empty;
    clients = map.empty;
    nonce_expiry = 3_600_000_000_000;
    algorithms = algorithms;
    anonymous_username = anonymity;
    max_clients = clients;
  };
  grants = [];
}

-- The server core with one more user.
abbrev pub with_user : State → List ℕ → List ℕ → State
with_user desk name password = record desk {
  auth = record desk.auth { users = map.insert desk.auth.users name password };
}

-- The settings with these retransmission timeouts, or unchanged if none are given.
abbrev pub waiting : Option Rto → Config → Config
waiting None config = config
waiting (Some rto) config = record config {
  waits = record {
    initial = as_nanos rto.initial;
    most = Some (as_nanos rto.max);
    retransmits = rto.retransmits;
    final = as_nanos rto.last;
  };
}

-- The settings of a client that requests an allocation over this transport.
abbrev pub config_of : TransportType → Client → Option Rto → Config
config_of over client rto =
    waiting rto (record (default_config (record { username = client.name.now; password = client.password.now })) {
      transport = over;
      families = families_in_order client.families;
      algorithms = client.algorithms;
      anonymous_username = client.anonymity;
      hardened = client.hardened;
      max_connection_attempts = client.attempts;
      short_lifetimes = client.short_lifetimes;
      attempt_indications = client.indications;
    })

-- A new client over a transport, with these settings. Over TCP its stream has received nothing.
abbrev pub IsNewBy : TransportType → (here server : SocketAddr) → Config → (seed : List ℕ) → ClientState → Type 0
IsNewBy Udp here server config seed client = IsNew Udp here server config seed client.core × (client ≡ over_udp client.core)
IsNewBy Tcp here server config seed client =
    IsNew Tcp here server config seed client.core × (client.control ≡ Open (alive []))
