-- The order of std's socket addresses, by which maps keyed by address are sorted.
use Rattle.std.specs.Prelude.{◌≡◌, refl}
use Rattle.std.specs.Ordering.{nat_cmp, ordering_then}
use Rattle.std.specs.Cmp.{IsTotalOrder}
use Rattle.std.specs.Cmp.Lexicographic.{slice_cmp}
use Rattle.std.specs.FinMap.{IsAntisymmetric, slice_cmp-IsAntisymmetric, nat_cmp-IsAntisymmetric}
use Rattle.std.specs.declared.cmp.Ordering.{Ordering}
use Rattle.std.specs.declared.cmp.Ordering.TheVariants.{Less, Equal, Greater}
use Rattle.std.specs.declared.net.socket_addr.SocketAddrV4.{SocketAddrV4}
use Rattle.std.specs.declared.net.socket_addr.SocketAddrV6.{SocketAddrV6}
use Rattle.std.specs.declared.net.socket_addr.SocketAddr.{SocketAddr}
use Rattle.std.specs.declared.net.socket_addr.SocketAddr.TheVariants.{V4, V6}
use Rattle.std.specs.Net.Addr.{ipv4_octets, ipv6_segments}
use Rattle.std.specs.Net.Socket.{v4_ip, v4_port, v6_ip, v6_port, v6_flowinfo, v6_scope_id}
use Rattle.std.specs.contracts.net.socket_addr.SocketAddrOrd.TheImpl as order
use Rattle.std.specs.contracts.net.socket_addr.SocketAddrOrd.TheImpl.Laws as order_laws
use Rattle.std.proofs.Common.{ap}

-- The result of `cmp` for two addresses.
abbrev pub socket_addr_cmp : SocketAddr → SocketAddr → Ordering
socket_addr_cmp = (order.cmp-value).it

-- The order is total.
pub socket_addr_cmp_total : IsTotalOrder socket_addr_cmp
socket_addr_cmp_total = order_laws.total-law

-- If one comparison followed by another gives equal, each of them gives equal.
both_equal : (first then : Ordering) → ordering_then first then ≡ Equal → (first ≡ Equal) × (then ≡ Equal)
both_equal Equal then tie = (refl, tie)
both_equal Less then tie = absurd (Prim.cc tie)
both_equal Greater then tie = absurd (Prim.cc tie)

-- IPv4 socket addresses are equal if their octets and their ports are.
same_v4 : (a b : SocketAddrV4) → ipv4_octets (v4_ip a) ≡ ipv4_octets (v4_ip b) → v4_port a ≡ v4_port b → a ≡ b
same_v4 a b octets port i = record { ip = record { octets = octets i }; port = port i }

-- IPv6 socket addresses are equal if their segments, ports, flow information and scopes are.
same_v6 : (a b : SocketAddrV6) → ipv6_segments (v6_ip a) ≡ ipv6_segments (v6_ip b) → v6_port a ≡ v6_port b
    → v6_flowinfo a ≡ v6_flowinfo b → v6_scope_id a ≡ v6_scope_id b → a ≡ b
same_v6 a b segments port flowinfo scope_id i =
    record { ip = record { segments = segments i }; port = port i; flowinfo = flowinfo i; scope_id = scope_id i }

-- Only equal addresses compare as equal.
pub socket_addr_cmp-IsAntisymmetric : IsAntisymmetric socket_addr_cmp
socket_addr_cmp-IsAntisymmetric (V4 a) (V4 b) tie =
    let parts = both_equal (slice_cmp nat_cmp (ipv4_octets (v4_ip a)) (ipv4_octets (v4_ip b)))
    (nat_cmp (v4_port a) (v4_port b)) tie in
    ap V4 (same_v4 a b (slice_cmp-IsAntisymmetric nat_cmp-IsAntisymmetric _ _ parts.0)
    (nat_cmp-IsAntisymmetric _ _ parts.1))
socket_addr_cmp-IsAntisymmetric (V6 a) (V6 b) tie =
    let scope = nat_cmp (v6_scope_id a) (v6_scope_id b) in
    let flow = nat_cmp (v6_flowinfo a) (v6_flowinfo b) in
    let port = nat_cmp (v6_port a) (v6_port b) in
    let segments = slice_cmp nat_cmp (ipv6_segments (v6_ip a)) (ipv6_segments (v6_ip b)) in
    let ip_parts = both_equal segments (ordering_then port (ordering_then flow scope)) tie in
    let port_parts = both_equal port (ordering_then flow scope) ip_parts.1 in
    let flow_parts = both_equal flow scope port_parts.1 in
    ap V6 (same_v6 a b (slice_cmp-IsAntisymmetric nat_cmp-IsAntisymmetric _ _ ip_parts.0)
    (nat_cmp-IsAntisymmetric _ _ port_parts.0)
    (nat_cmp-IsAntisymmetric _ _ flow_parts.0) (nat_cmp-IsAntisymmetric _ _ flow_parts.1))
socket_addr_cmp-IsAntisymmetric (V4 a) (V6 b) tie = absurd (Prim.cc tie)
socket_addr_cmp-IsAntisymmetric (V6 a) (V4 b) tie = absurd (Prim.cc tie)
