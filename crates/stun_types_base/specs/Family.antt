-- The family of an address.
use Rattle.std.specs.Prelude.{ℕ, List, codes}
use Rattle.std.specs.declared.net.socket_addr.SocketAddr.{SocketAddr}
use Rattle.std.specs.declared.net.socket_addr.SocketAddr.TheVariants.{V4 as SocketV4, V6 as SocketV6}
use Rattle.std.specs.declared.net.ip_addr.IpAddr.{IpAddr}
use Rattle.std.specs.declared.net.ip_addr.IpAddr.TheVariants.{V4 as IpV4, V6 as IpV6}
use Rattle.stun_types_base.specs.declared.family.AddressFamily.{AddressFamily}
use Rattle.stun_types_base.specs.declared.family.AddressFamily.TheVariants.{IPV4, IPV6}

abbrev pub family_of_socket : SocketAddr → AddressFamily
family_of_socket (SocketV4 _) = IPV4
family_of_socket (SocketV6 _) = IPV6

abbrev pub family_of_ip : IpAddr → AddressFamily
family_of_ip (IpV4 _) = IPV4
family_of_ip (IpV6 _) = IPV6

-- The name of a family, as it is printed.
abbrev pub name_of_family : AddressFamily → List ℕ
name_of_family IPV4 = codes "IPV4"
name_of_family IPV6 = codes "IPV6"
