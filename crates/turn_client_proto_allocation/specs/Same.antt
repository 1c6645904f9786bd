-- Equality of addresses and transports.
use Rattle.std.specs.Prelude.{Bool, true, false}
use Rattle.std.specs.contracts.net.ip_addr.IpAddrPartialEq.TheImpl as ip
use Rattle.std.specs.contracts.net.socket_addr.SocketAddrPartialEq.TheImpl as address
use Rattle.std.specs.declared.net.ip_addr.IpAddr.{IpAddr}
use Rattle.std.specs.declared.net.socket_addr.SocketAddr.{SocketAddr}
use Rattle.stun_types_base.specs.declared.transport.TransportType.{TransportType}
use Rattle.stun_types_base.specs.declared.transport.TransportType.TheVariants.{Udp, Tcp}

-- The two addresses are equal, as `std` compares them.
abbrev pub is_same_ip : IpAddr → IpAddr → Bool
is_same_ip = (ip.eq-value).it

-- The two socket addresses are equal, as `std` compares them.
abbrev pub is_same_address : SocketAddr → SocketAddr → Bool
is_same_address = (address.eq-value).it

abbrev pub is_same_transport : TransportType → TransportType → Bool
is_same_transport Udp Udp = true
is_same_transport Tcp Tcp = true
is_same_transport Udp Tcp = false
is_same_transport Tcp Udp = false
