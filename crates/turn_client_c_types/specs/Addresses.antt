-- Addresses and transports, as C passes and gets them.
use Rattle.std.specs.Prelude.{ℕ, ◌==◌, List, [], ◌∷◌, ◌++◌, take, Option, Some, None, option_map, if◌then◌else◌}
use Rattle.std.specs.Net.Addr.{ipv4_octets, ipv6_octets, segments_of}
use Rattle.std.specs.Net.Socket.{socket_ip, v4_ip, v4_port, v6_ip, v6_port}
use Rattle.std.specs.declared.net.ip_addr.IpAddr.{IpAddr}
use Rattle.std.specs.declared.net.ip_addr.IpAddr.TheVariants as ip
use Rattle.std.specs.declared.net.socket_addr.SocketAddr.{SocketAddr}
use Rattle.std.specs.declared.net.socket_addr.SocketAddr.TheVariants.{V4, V6}
use Rattle.stun_types_base.specs.declared.transport.TransportType.{TransportType}
use Rattle.stun_types_base.specs.declared.transport.TransportType.TheVariants.{Udp, Tcp}
use Rattle.turn_types_attributes.specs.TurnRegistry.{tcp_protocol, udp_protocol}
use Rattle.turn_client_c_types.specs.declared.address.TurnAddress.{TurnAddress}

-- The numbers of the address families.
abbrev pub ipv4 : ℕ
ipv4 = 4

abbrev pub ipv6 : ℕ
ipv6 = 6

-- The address that C passes. Of IPv4 only the first four octets count. Of IPv6 flow information and scope are
-- zero. `None` if the family is neither 4 nor 6.
unfoldable pub address_of : TurnAddress → Option SocketAddr
address_of a =
    if a.family == ipv4 then Some (V4 (record { ip = record { octets = take 4 a.ip }; port = a.port }))
    else if a.family == ipv6 then
    Some (V6 (record { ip = record { segments = segments_of a.ip }; port = a.port; flowinfo = 0; scope_id = 0 }))
    else None

abbrev pub zeros : List ℕ
zeros = 0 ∷ 0 ∷ 0 ∷ 0 ∷ 0 ∷ 0 ∷ 0 ∷ 0 ∷ 0 ∷ 0 ∷ 0 ∷ 0 ∷ []

-- An address, as C gets it.
abbrev pub reported_address : SocketAddr → TurnAddress
reported_address (V4 a) = record { ip = ipv4_octets (v4_ip a) ++ zeros; port = v4_port a; family = ipv4 }
reported_address (V6 a) = record { ip = ipv6_octets (v6_ip a); port = v6_port a; family = ipv6 }

-- An IP address, as C gets it: with port 0.
abbrev pub reported_ip : IpAddr → TurnAddress
reported_ip (ip.V4 a) = record { ip = ipv4_octets a ++ zeros; port = 0; family = ipv4 }
reported_ip (ip.V6 a) = record { ip = ipv6_octets a; port = 0; family = ipv6 }

-- No address, with a family only.
abbrev pub no_address : ℕ → TurnAddress
no_address family = record { ip = 0 ∷ 0 ∷ 0 ∷ 0 ∷ zeros; port = 0; family = family }

-- The protocol number of a transport in IP.
abbrev pub number_of : TransportType → ℕ
number_of Udp = udp_protocol
number_of Tcp = tcp_protocol

unfoldable pub transport_of : ℕ → Option TransportType
transport_of number = if number == udp_protocol then Some Udp else if number == tcp_protocol then Some Tcp else None

-- The own address of a socket. Family 0 means that there is no socket. `None` if the family is none of 0, 4
-- and 6.
unfoldable pub socket_of : TurnAddress → Option (Option SocketAddr)
socket_of a = if a.family == 0 then Some None else option_map Some (address_of a)

-- The IP addresses, with that of one more address before them; `None` if it is no address.
abbrev pub ip_before : Option SocketAddr → Option (List IpAddr) → Option (List IpAddr)
ip_before None ips = None
ip_before (Some a) ips = option_map (λ (l : List IpAddr). socket_ip a ∷ l) ips

-- The IP addresses of the addresses that C passes. `None` if the family of one is neither 4 nor 6.
unfoldable pub ips_of : List TurnAddress → Option (List IpAddr)
ips_of [] = Some []
ips_of (a ∷ others) = ip_before (address_of a) (ips_of others)
