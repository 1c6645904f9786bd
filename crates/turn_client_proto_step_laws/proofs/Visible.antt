-- What a client's getters list is held.
use Rattle.std.proofs.Common.{◌≡◌, ℕ, Bool, true, false, not, ◌&&◌, List, Option, Some, None, refl, sym, ap, ◌∙◌, subst}
use Rattle.std.specs.List.{filter, find, list_any}
use Rattle.std.specs.Cmp.Lexicographic.{bytes_decides}
use Rattle.std.specs.Net.Addr.{ipv4_octets, ipv6_segments}
use Rattle.std.specs.declared.net.ip_addr.IpAddr.{IpAddr}
use Rattle.std.specs.declared.net.ip_addr.IpAddr.TheVariants.{V4, V6}
use Rattle.std.specs.declared.net.ipv4_addr.Ipv4Addr.{Ipv4Addr}
use Rattle.std.specs.declared.net.ipv6_addr.Ipv6Addr.{Ipv6Addr}
use Rattle.std.specs.declared.net.socket_addr.SocketAddr.{SocketAddr}
use Rattle.turn_client_proto_timers.specs.StunTypesBase.declared.transport.TransportType.{TransportType}
use Rattle.turn_client_proto_timers.specs.StunTypesBase.declared.transport.TransportType.TheVariants.{Udp, Tcp}
use Rattle.turn_client_proto_timers.specs.TurnRuns.Members.{IsIn}
use Rattle.turn_client_proto_timers.specs.TurnRuns.Messages as run
use Rattle.turn_client_proto_timers.specs.Allocation.Listed.{is_listed, relayed_listed}
use Rattle.turn_client_proto_timers.specs.Peers.Permission.Asking.{permits_over}
use Rattle.turn_client_proto_timers.specs.Allocation.Permits.{is_for, permits}
use Rattle.turn_client_proto_timers.specs.Allocation.Same.{is_same_ip, is_same_transport}
use Rattle.turn_client_proto_timers.specs.Peers.Permission.Visible.{addresses_of, is_at, permissions_at, permissions_in}
use Rattle.turn_client_proto_step_laws.specs.ClientWords.{Has, HasItself, HasPermission, HasChannel, HasConnection, IsHeld}
use Rattle.turn_client_proto_step_laws.specs.Held.{Allocation, Permission}
use Rattle.turn_client_proto_step_laws.proofs.Lists.{any_passes, found_in, found_passes, in_filter, in_map, passes_one}

-- The first of two conditions that hold.
first_so : (x y : Bool) → (x && y) ≡ true → x ≡ true
first_so true y h = refl
first_so false y h = absurd (Prim.cc h)

second_so : (x y : Bool) → (x && y) ≡ true → y ≡ true
second_so true y h = h
second_so false y h = absurd (Prim.cc h)

same_transport : (a b : TransportType) → is_same_transport a b ≡ true → a ≡ b
same_transport Udp Udp is = refl
same_transport Tcp Tcp is = refl
same_transport Udp Tcp is = absurd (Prim.cc is)
same_transport Tcp Udp is = absurd (Prim.cc is)

isnt : (b : Bool) → not b ≡ true → b ≡ false
isnt true h = absurd (Prim.cc h)
isnt false h = refl

pub listed_held : (allocations : List Allocation) (transport : TransportType) (address : SocketAddr) → IsIn (transport, address) (relayed_listed allocations) → IsHeld allocations (run.Allocation transport address)
listed_held allocations transport address h =
    let image = in_map (λ (a : Allocation). (a.transport, a.address)) (transport, address) (filter is_listed allocations) h in
    let was = in_filter is_listed image.source allocations image.listed in
    record {
      allocation = image.source;
      listed = was.0;
      occurs = isnt image.source.is_expired was.1;
      has = subst (λ (p : TransportType × SocketAddr). Has image.source (run.Allocation p.0 p.1)) (sym image.is) HasItself;
    }

-- An address whose permission is listed.
pub permission_held : (allocations : List Allocation) (transport : TransportType) (relayed : SocketAddr) (ip : IpAddr) → IsIn ip (addresses_of (permissions_at transport relayed allocations))
    → IsHeld allocations (run.Permission transport ip)
permission_held allocations transport relayed ip h = by (find (is_at transport relayed) allocations) refl h
  where
    by : (found : Option Allocation) → find (is_at transport relayed) allocations ≡ found → IsIn ip (addresses_of (permissions_in found)) → IsHeld allocations (run.Permission transport ip)
    by None at listed = absurd listed
    by (Some a) at listed =
        let image = in_map (λ (p : Permission). p.ip) ip a.permissions listed in
        let passes = found_passes (is_at transport relayed) allocations a at in
        let own : a.transport ≡ transport = same_transport a.transport transport (first_so (is_same_transport a.transport transport) _ (second_so (not a.is_expired) _ passes)) in
        record {
          allocation = a;
          listed = found_in (is_at transport relayed) allocations a at;
          occurs = isnt a.is_expired (first_so (not a.is_expired) _ passes);
          has = subst (λ (t : TransportType). Has a (run.Permission t ip)) own
              (subst (λ (x : IpAddr). Has a (run.Permission a.transport x)) (sym image.is) (HasPermission image.source image.listed));
        }

-- ---- a permission that a client says it has

same_v4 : (a b : Ipv4Addr) → ipv4_octets a ≡ ipv4_octets b → a ≡ b
same_v4 a b is = ap (λ (o : List ℕ). record { octets = o }) is

same_v6 : (a b : Ipv6Addr) → ipv6_segments a ≡ ipv6_segments b → a ≡ b
same_v6 a b is = ap (λ (s : List ℕ). record { segments = s }) is

pub same_ip : (a b : IpAddr) → is_same_ip a b ≡ true → a ≡ b
same_ip (V4 a) (V4 b) is = ap V4 (same_v4 a b ((bytes_decides (ipv4_octets a) (ipv4_octets b)).0 is))
same_ip (V6 a) (V6 b) is = ap V6 (same_v6 a b ((bytes_decides (ipv6_segments a) (ipv6_segments b)).0 is))
same_ip (V4 a) (V6 b) is = absurd (Prim.cc is)
same_ip (V6 a) (V4 b) is = absurd (Prim.cc is)

pub itself_ip : (a : IpAddr) → is_same_ip a a ≡ true
itself_ip (V4 a) = (bytes_decides (ipv4_octets a) (ipv4_octets a)).1 refl
itself_ip (V6 a) = (bytes_decides (ipv6_segments a) (ipv6_segments a)).1 refl

itself_transport : (t : TransportType) → is_same_transport t t ≡ true
itself_transport Udp = refl
itself_transport Tcp = refl

pub had_held : (allocations : List Allocation) (transport : TransportType) (ip : IpAddr) → list_any (permits_over transport ip) allocations ≡ true → IsHeld allocations (run.Permission transport ip)
had_held allocations transport ip h =
    let a = passes_one (permits_over transport ip) allocations h in
    let of_it = second_so (not a.one.is_expired) (is_same_transport a.one.transport transport && permits ip a.one) a.passes in
    let own : a.one.transport ≡ transport = same_transport a.one.transport transport (first_so (is_same_transport a.one.transport transport) (permits ip a.one) of_it) in
    let p = passes_one (is_for ip) a.one.permissions (second_so (is_same_transport a.one.transport transport) (permits ip a.one) of_it) in
    record {
      allocation = a.one;
      listed = a.listed;
      occurs = isnt a.one.is_expired (first_so (not a.one.is_expired) _ a.passes);
      has = subst (λ (t : TransportType). Has a.one (run.Permission t ip)) own
          (subst (λ (x : IpAddr). Has a.one (run.Permission a.one.transport x)) (same_ip p.one.ip ip p.passes) (HasPermission p.one p.listed));
    }

both_so : (x y z : Bool) → x ≡ true → y ≡ true → z ≡ true → (x && (y && z)) ≡ true
both_so false y z p q r = absurd (Prim.cc p)
both_so true false z p q r = absurd (Prim.cc q)
both_so true true false p q r = absurd (Prim.cc r)
both_so true true true p q r = refl

held_had_in : (a : Allocation) (transport : TransportType) (ip : IpAddr) (h : run.Held) → h ≡ run.Permission transport ip → a.is_expired ≡ false → Has a h → permits_over transport ip a ≡ true
held_had_in a transport ip h is occurs HasItself = absurd (Prim.cc is)
held_had_in a transport ip h is occurs (HasPermission p listed) =
    let own : a.transport ≡ transport = Prim.cc is in
    let same : p.ip ≡ ip = Prim.cc is in
    both_so (not a.is_expired) (is_same_transport a.transport transport) (permits ip a) (ap not occurs)
    (ap (λ (t : TransportType). is_same_transport t transport) own ∙ itself_transport transport)
    (any_passes (is_for ip) a.permissions p listed (ap (λ (x : IpAddr). is_same_ip x ip) same ∙ itself_ip ip))
held_had_in a transport ip h is occurs (HasChannel c listed) = absurd (Prim.cc is)
held_had_in a transport ip h is occurs (HasConnection c listed bound) = absurd (Prim.cc is)

pub held_had : (allocations : List Allocation) (transport : TransportType) (ip : IpAddr) → IsHeld allocations (run.Permission transport ip) → list_any (permits_over transport ip) allocations ≡ true
held_had allocations transport ip h =
    any_passes (permits_over transport ip) allocations h.allocation h.listed (held_had_in h.allocation transport ip (run.Permission transport ip) refl h.occurs h.has)
