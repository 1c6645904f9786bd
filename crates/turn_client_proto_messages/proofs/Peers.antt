-- An address is decoded unchanged from XOR-PEER-ADDRESS.
use Rattle.std.proofs.Common.{◌≡◌, ℕ, ◌+◌, ◌≤◌, List, [], ◌∷◌, ◌++◌, length, bit_xor, Some, None, refl, sym, ap, ◌∙◌, arith}
use Rattle.std.specs.Net.Addr.{IsIpv4Addr, IsIpv6Addr, MatchIp, ipv4_octets, ipv6_octets, ipv6_segments, octets_of}
use Rattle.std.specs.Net.Socket.{IsSocketAddr, socket_flowinfo, socket_scope_id, v4_ip, v4_port, v6_ip, v6_port}
use Rattle.std.specs.declared.net.ip_addr.IpAddr.{IpAddr}
use Rattle.std.specs.declared.net.ip_addr.IpAddr.TheVariants as Ip
use Rattle.std.specs.declared.net.socket_addr.SocketAddr.{SocketAddr}
use Rattle.std.specs.declared.net.socket_addr.SocketAddr.TheVariants as Socket
use Rattle.stun_types_attributes.specs.Addresses.{address_again, address_of, address_refusal, address_value, value_of_parts}
use Rattle.stun_types_attributes.specs.Xor.{octets_mask, xor_bytes, xored}
use Rattle.stun_types_attributes.proofs.Bytes.{port_again, segments_again, v4_is_accepted, v6_is_accepted, value_accepted}
use Rattle.stun_types_attributes.proofs.Masks.{port_xored, xored_again}
use Rattle.turn_types_attributes.specs.TurnRegistry.{xor_peer_address_kind}
use Rattle.turn_types_peer.specs.TurnShows.{unless_refused}
use Rattle.turn_client_proto_messages.specs.Requests.{peer_of}
use Rattle.turn_client_proto_messages.specs.ReportedRequests.{IsReadBack}

xor_length : (bytes mask : List ℕ) → length bytes ≤ length mask → length (xor_bytes bytes mask) ≡ length bytes
xor_length [] mask enough = refl
xor_length (b ∷ bytes) [] enough = absurd (omega arith)
xor_length (b ∷ bytes) (m ∷ mask) enough = let rest = xor_length bytes mask (omega arith) in omega (arith, rest)

mask_length : (number : ℕ) → length (octets_mask number) ≡ 16
unfolding octets_mask
mask_length number = refl

octets_length : (segments : List ℕ) → length (octets_of segments) ≡ length segments + length segments
octets_length [] = refl
octets_length (s ∷ segments) = let rest = octets_length segments in omega (arith, rest)

-- The xored value consists of the xored port and the xored octets.
xored_v4 : (number port : ℕ) (octets : List ℕ) → xored number (value_of_parts 1 port octets) ≡ value_of_parts 1 (bit_xor port 0x2112) (xor_bytes octets (octets_mask number))
xored_v4 number port octets = ap (λ (l : List ℕ). 0 ∷ 1 ∷ (l ++ xor_bytes octets (octets_mask number))) (sym (port_xored port))

xored_v6 : (number port : ℕ) (octets : List ℕ) → xored number (value_of_parts 2 port octets) ≡ value_of_parts 2 (bit_xor port 0x2112) (xor_bytes octets (octets_mask number))
xored_v6 number port octets = ap (λ (l : List ℕ). 0 ∷ 2 ∷ (l ++ xor_bytes octets (octets_mask number))) (sym (port_xored port))

v4_accepted : (number port : ℕ) (octets : List ℕ) → length octets ≡ 4 → address_refusal (xored number (value_of_parts 1 port octets)) ≡ None
v4_accepted number port octets four =
    let mask = mask_length number in
    let size = xor_length octets (octets_mask number) (omega (arith, mask, four)) in
    ap address_refusal (xored_v4 number port octets) ∙ v4_is_accepted (bit_xor port 0x2112) (xor_bytes octets (octets_mask number)) (size ∙ four)

v6_accepted : (number port : ℕ) (octets : List ℕ) → length octets ≡ 16 → address_refusal (xored number (value_of_parts 2 port octets)) ≡ None
v6_accepted number port octets sixteen =
    let mask = mask_length number in
    let size = xor_length octets (octets_mask number) (omega (arith, mask, sixteen)) in
    ap address_refusal (xored_v6 number port octets) ∙ v6_is_accepted (bit_xor port 0x2112) (xor_bytes octets (octets_mask number)) (size ∙ sixteen)

-- An address whose value is decoded unchanged.
record IsReadable (number : ℕ) (addr : SocketAddr) : Type 0 where
  accepted : address_refusal (xored number (address_value addr)) ≡ None
  same : address_again (xored number (address_value addr)) ≡ xored number (address_value addr)
  short : length (address_value addr) ≤ 20
  reported : address_of (address_value addr) ≡ Some addr

read_again : (number : ℕ) (addr : SocketAddr) → IsReadable number addr → IsReadBack number addr
read_again number addr r =
    let value = xored number (address_value addr) in
    ap (λ refused. unless_refused refused (address_of (xored number (address_again value)))) (value_accepted xor_peer_address_kind value r.accepted)
    ∙ ap (λ (l : List ℕ). address_of (xored number l)) r.same
    ∙ ap address_of (xored_again number (address_value addr) r.short)
    ∙ r.reported

-- An address without flow information and scope is decoded unchanged.
pub peer_read : (number : ℕ) (peer : SocketAddr) → IsSocketAddr peer → socket_flowinfo peer ≡ 0 → socket_scope_id peer ≡ 0 → IsReadBack number peer
peer_read number (Socket.V4 a) own flow scope =
    let four = own.0.0 in
    let octets = ipv4_octets (v4_ip a) in
    read_again number (Socket.V4 a) (record {
      accepted = v4_accepted number (v4_port a) octets four;
      same = refl;
      short = omega (arith, four);
      reported = rw (port_again (v4_port a) octets own.1) refl;
    })
peer_read number (Socket.V6 a) own flow scope =
    let eight = own.0.0 in
    let octets = ipv6_octets (v6_ip a) in
    let size = octets_length (ipv6_segments (v6_ip a)) in
    read_again number (Socket.V6 a) (record {
      accepted = v6_accepted number (v6_port a) octets (omega (arith, eight, size));
      same = refl;
      short = omega (arith, eight, size);
      reported = rw (port_again (v6_port a) octets own.1, segments_again (ipv6_segments (v6_ip a)) own.0.1, flow, scope) refl;
    })

-- So is the peer of an IP address.
pub ip_read : (address : IpAddr) (number : ℕ) → MatchIp address IsIpv4Addr IsIpv6Addr → IsReadBack number (peer_of address)
ip_read (Ip.V4 a) number own = peer_read number (peer_of (Ip.V4 a)) (own, omega arith) refl refl
ip_read (Ip.V6 a) number own = peer_read number (peer_of (Ip.V6 a)) (own, omega arith, omega arith) refl refl
