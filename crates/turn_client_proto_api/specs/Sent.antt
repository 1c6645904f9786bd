-- What a client sends, as its caller gets it.
use Rattle.std.specs.Prelude.{ℕ, List}
use Rattle.std.specs.declared.net.socket_addr.SocketAddr.{SocketAddr}
use Rattle.stun_types_base.specs.Data.{data_bytes}
use Rattle.stun_types_base.specs.declared.data.Data.{Data}
use Rattle.stun_types_base.specs.declared.transmit.Transmit.{Transmit}
use Rattle.stun_types_base.specs.declared.transport.TransportType.{TransportType}

-- Bytes to send, over a transport, from the client's own address to another.
pub record Sent : Type 0 where
  pub bytes : List ℕ
  pub transport : TransportType
  pub from : SocketAddr
  pub to : SocketAddr

-- The value of a `Transmit`.
abbrev pub sent_of : Transmit Data → Sent
sent_of t = record { bytes = data_bytes t.bytes; transport = t.transport; from = t.from; to = t.to }
