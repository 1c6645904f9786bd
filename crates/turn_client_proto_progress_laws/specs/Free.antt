-- When a client's calls succeed unless memory runs out (RFC 8656, section 10.1; RFC 6062, section 4.3).
use Rattle.std.specs.Prelude.{◌≡◌, ◌<◌, ◌*◌, ℕ}
use Rattle.std.specs.Net.Socket.{socket_ip}
use Rattle.std.specs.declared.net.ip_addr.IpAddr.{IpAddr}
use Rattle.std.specs.declared.net.socket_addr.SocketAddr.{SocketAddr}
use Rattle.turn_client_proto_messages.specs.StunTypesBase.Family.{family_of_ip, family_of_socket}
use Rattle.turn_client_proto_messages.specs.StunTypesBase.Times.{time_after}
use Rattle.turn_client_proto_messages.specs.Allocation.Refreshing.{second}
use Rattle.turn_client_proto_progress_laws.specs.Holders.{Holder}

-- The end of the client's allocation.
abbrev pub allocation_end : Holder → ℕ
allocation_end h = time_after h.since (h.lifetime * second)

-- A permission for this IP can be requested: it has the family of the relayed address, and the allocation has
-- not ended.
pub record CanPermit (h : Holder) (ip : IpAddr) (now : ℕ) : Type 0 where
  pub family : family_of_ip ip ≡ family_of_socket h.address
  pub before : now < allocation_end h

-- If the client's one active permission is for this IP, a connection to this peer can be requested: the peer
-- has that IP and the family of the relayed address, and the allocation has not ended.
pub record CanConnect (h : Holder) (ip : IpAddr) (peer : SocketAddr) (now : ℕ) : Type 0 where
  pub family : family_of_socket peer ≡ family_of_socket h.address
  pub own : socket_ip peer ≡ ip
  pub before : now < allocation_end h
