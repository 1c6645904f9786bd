-- Addresses and families that compare as equal.
use Rattle.std.proofs.Common.{◌≡◌, Bool, true, false, refl, subst}
use Rattle.std.specs.Cmp.Lexicographic.{bytes_decides}
use Rattle.std.specs.Net.Addr.{ipv4_octets, ipv6_segments}
use Rattle.std.specs.Net.Socket.{socket_ip}
use Rattle.std.specs.declared.net.ip_addr.IpAddr.{IpAddr}
use Rattle.std.specs.declared.net.ip_addr.IpAddr.TheVariants.{V4, V6}
use Rattle.std.specs.declared.net.socket_addr.SocketAddr.{SocketAddr}
use Rattle.std.specs.declared.net.socket_addr.SocketAddr.TheVariants as socket
use Rattle.turn_client_proto_messages.specs.StunTypesBase.Family.{family_of_ip, family_of_socket}
use Rattle.turn_client_proto_messages.specs.StunTypesBase.declared.family.AddressFamily.{AddressFamily}
use Rattle.turn_client_proto_messages.specs.StunTypesBase.declared.family.AddressFamily.TheVariants.{IPV4, IPV6}
use Rattle.turn_client_proto_messages.specs.Api.Families.{is_same_family}
use Rattle.turn_client_proto_messages.specs.Allocation.Same.{is_same_address, is_same_ip}
use Rattle.turn_client_proto_step_laws.proofs.SameSockets.{same_address}

pub itself_ip : (a : IpAddr) → is_same_ip a a ≡ true
itself_ip (V4 a) = (bytes_decides (ipv4_octets a) (ipv4_octets a)).1 refl
itself_ip (V6 a) = (bytes_decides (ipv6_segments a) (ipv6_segments a)).1 refl

pub itself_family : (f : AddressFamily) → is_same_family f f ≡ true
itself_family IPV4 = refl
itself_family IPV6 = refl

pub same_family : (f g : AddressFamily) → is_same_family f g ≡ true → f ≡ g
same_family IPV4 IPV4 is = refl
same_family IPV6 IPV6 is = refl
same_family IPV4 IPV6 is = absurd (Prim.cc is)
same_family IPV6 IPV4 is = absurd (Prim.cc is)

pub equal_families : (f g : AddressFamily) → f ≡ g → is_same_family f g ≡ true
equal_families f g is = subst (λ (x : AddressFamily). is_same_family f x ≡ true) is (itself_family f)

-- The family of an address is that of its IP.
pub family_of_peer : (peer : SocketAddr) → family_of_socket peer ≡ family_of_ip (socket_ip peer)
family_of_peer (socket.V4 a) = refl
family_of_peer (socket.V6 a) = refl

-- Addresses that differ compare as different.
pub apart_address : (a b : SocketAddr) → (a ≡ b → ⊥) → is_same_address a b ≡ false
apart_address a b differ = by (is_same_address a b) refl
  where
    by : (x : Bool) → is_same_address a b ≡ x → is_same_address a b ≡ false
    by true is = absurd (differ (same_address a b is))
    by false is = is
