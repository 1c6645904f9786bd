-- A new client.
use Rattle.std.specs.Prelude.{◌≡◌, ℕ, List, [], Some, None}
use Rattle.std.specs.Duration.{as_nanos}
use Rattle.std.specs.FinMap as map
use Rattle.std.specs.declared.net.socket_addr.SocketAddr.{SocketAddr}
use Rattle.rand_chacha.specs.ChaCha.{of_seed}
use Rattle.stun_types_base.specs.declared.transport.TransportType.{TransportType}
use Rattle.turn_client_proto_api.specs.Config.{Config}
use Rattle.turn_client_proto_messages.specs.Judging.{signer_of}
use Rattle.turn_client_proto_core.specs.declared.protocol.Phase.TheVariants.{Initial}
use Rattle.turn_client_proto_core.specs.declared.protocol.Protocol.{Protocol}

-- A new client with these settings, over this transport, from its own address to the server's.
pub record IsNew (transport : TransportType) (here server : SocketAddr) (config : Config) (seed : List ℕ) (p : Protocol)
    : Type 0 where
  pub server_is : p.server ≡ server
  pub allocates : p.allocates ≡ config.transport
  pub families : p.families ≡ config.families
  pub auth : p.auth ≡ signer_of config
  pub agent : p.agent ≡ record {
    transport = transport;
    here = here;
    remote = Some server;
    waits = config.waits;
    outstanding = map.empty;
    validated = map.empty;
  }
  pub phase : p.phase ≡ Initial
  pub allocations : p.allocations ≡ []
  pub queue : p.queue ≡ []
  pub last_send : p.last_send ≡ None
  pub events : p.events ≡ []
  pub closing : p.closing ≡ []
  pub max_connection_attempts : p.max_connection_attempts ≡ config.max_connection_attempts
  pub short_lifetimes : p.short_lifetimes ≡ config.short_lifetimes
  pub attempt_indications : p.attempt_indications ≡ config.attempt_indications
  pub options : p.options ≡ config.options
  pub pace : as_nanos p.pace ≡ config.pace
  pub resends : p.resends ≡ 0
  pub rng : p.rng ≡ of_seed seed
