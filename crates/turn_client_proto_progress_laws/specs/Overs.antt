-- How bytes from the server come over a socket of a client (RFC 6062, section 4.3).
use Rattle.std.specs.Prelude.{◌≡◌}
use Rattle.std.specs.declared.net.socket_addr.SocketAddr.{SocketAddr}
use Rattle.turn_client_proto_messages.specs.StunTypesBase.declared.transmit.Transmit.{Transmit}
use Rattle.turn_client_proto_handshake_laws.specs.Sent.{Beginning}

-- The bytes come from the client's server to this own address, by the client's transport.
pub record IsFromServerTo {T : Type 0} (b : Beginning) (here : SocketAddr) (came : Transmit T) : Type 0 where
  pub transport : came.transport ≡ b.transport
  pub from : came.from ≡ b.server
  pub to : came.to ≡ here
