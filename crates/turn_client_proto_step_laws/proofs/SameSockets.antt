-- Socket addresses that std compares as equal are equal.
use Rattle.std.proofs.Common.{◌≡◌, ℕ, true, eqb, List, refl, ap, ◌∙◌}
use Rattle.std.specs.Prelude.{◌&&◌, nat_eq}
use Rattle.std.proofs.lemmas.Bool.{eq-eqb, eqb-true}
use Rattle.std.specs.Cmp.Lexicographic.{bytes_decides, pointwise}
use Rattle.std.specs.Net.Addr.{ipv4_octets, ipv6_segments}
use Rattle.std.specs.declared.net.socket_addr.SocketAddr.{SocketAddr}
use Rattle.std.specs.declared.net.socket_addr.SocketAddr.TheVariants.{V4, V6}
use Rattle.std.specs.declared.net.socket_addr.SocketAddrV4.{SocketAddrV4}
use Rattle.std.specs.declared.net.socket_addr.SocketAddrV6.{SocketAddrV6}
use Rattle.turn_client_proto_timers.specs.Allocation.Same.{is_same_address}
use Rattle.turn_client_proto_step_laws.proofs.Lists.{both_so}

four : (a b : SocketAddrV4) → (pointwise nat_eq (ipv4_octets a.ip) (ipv4_octets b.ip) && eqb a.port b.port) ≡ true → a ≡ b
four a b is =
    let both = both_so (pointwise nat_eq (ipv4_octets a.ip) (ipv4_octets b.ip)) (eqb a.port b.port) is in
    ap (λ (o : List ℕ). record { ip = record { octets = o }; port = a.port }) ((bytes_decides (ipv4_octets a.ip) (ipv4_octets b.ip)).0 both.0)
    ∙ ap (λ (n : ℕ). record { ip = b.ip; port = n }) (eqb-true a.port b.port both.1)

six : (a b : SocketAddrV6) → (pointwise nat_eq (ipv6_segments a.ip) (ipv6_segments b.ip) && (eqb a.port b.port && (eqb a.flowinfo b.flowinfo && eqb a.scope_id b.scope_id))) ≡ true → a ≡ b
six a b is =
    let first = both_so (pointwise nat_eq (ipv6_segments a.ip) (ipv6_segments b.ip)) (eqb a.port b.port && (eqb a.flowinfo b.flowinfo && eqb a.scope_id b.scope_id)) is in
    let second = both_so (eqb a.port b.port) (eqb a.flowinfo b.flowinfo && eqb a.scope_id b.scope_id) first.1 in
    let third = both_so (eqb a.flowinfo b.flowinfo) (eqb a.scope_id b.scope_id) second.1 in
    ap (λ (o : List ℕ). record { ip = record { segments = o }; port = a.port; flowinfo = a.flowinfo; scope_id = a.scope_id }) ((bytes_decides (ipv6_segments a.ip) (ipv6_segments b.ip)).0 first.0)
    ∙ ap (λ (n : ℕ). record { ip = b.ip; port = n; flowinfo = a.flowinfo; scope_id = a.scope_id }) (eqb-true a.port b.port second.0)
    ∙ ap (λ (n : ℕ). record { ip = b.ip; port = b.port; flowinfo = n; scope_id = a.scope_id }) (eqb-true a.flowinfo b.flowinfo third.0)
    ∙ ap (λ (n : ℕ). record { ip = b.ip; port = b.port; flowinfo = b.flowinfo; scope_id = n }) (eqb-true a.scope_id b.scope_id third.1)

pub same_address : (a b : SocketAddr) → is_same_address a b ≡ true → a ≡ b
same_address (V4 a) (V4 b) is = ap V4 (four a b is)
same_address (V6 a) (V6 b) is = ap V6 (six a b is)
same_address (V4 a) (V6 b) is = absurd (Prim.cc is)
same_address (V6 a) (V4 b) is = absurd (Prim.cc is)

-- Each address compares as equal to itself.
pub same_itself : (a : SocketAddr) → is_same_address a a ≡ true
same_itself (V4 a) =
    let octets : pointwise nat_eq (ipv4_octets a.ip) (ipv4_octets a.ip) ≡ true = (bytes_decides (ipv4_octets a.ip) (ipv4_octets a.ip)).1 refl in
    rw (octets, eq-eqb a.port a.port refl) refl
same_itself (V6 a) =
    let segments : pointwise nat_eq (ipv6_segments a.ip) (ipv6_segments a.ip) ≡ true = (bytes_decides (ipv6_segments a.ip) (ipv6_segments a.ip)).1 refl in
    rw (segments, eq-eqb a.port a.port refl, eq-eqb a.flowinfo a.flowinfo refl, eq-eqb a.scope_id a.scope_id refl) refl
