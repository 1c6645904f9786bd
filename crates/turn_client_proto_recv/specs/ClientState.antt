-- The state of a client, over either transport.
use Rattle.std.specs.Prelude.{◌≡◌}
pub use Rattle.turn_client_proto_core.specs.declared.protocol.Protocol.{Protocol}
use Rattle.turn_client_proto_recv.specs.Control.{Control, Datagrams}

pub record ClientState : Type 0 where
  -- The state without the framing of its transport.
  pub core : Protocol
  -- How bytes come from the server.
  pub control : Control

-- A call that does this to the core, and leaves `control` unchanged.
abbrev pub Leaves : (Protocol → Protocol → Type 0) → ClientState → ClientState → Type 0
Leaves Does old new = Does old.core new.core × (new.control ≡ old.control)

-- A client over UDP.
abbrev pub over_udp : Protocol → ClientState
over_udp core = record { core = core; control = Datagrams }
