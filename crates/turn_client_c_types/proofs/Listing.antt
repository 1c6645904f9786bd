-- The IP addresses of a list of addresses, written one after another.
use Rattle.std.proofs.Common.{◌≡◌, ◌<◌, ◌≤◌, ◌+◌, ℕ, zero, suc, List, [], ◌∷◌, ◌++◌, length, take, drop, slice_index_or, slice_set, Option, Some, None, refl, sym, ap, ◌∙◌, arith}
use Rattle.std.proofs.lemmas.List.{append-nil, append_assoc, drop_all, take_more_set}
use Rattle.std.specs.Prelude.{option_map}
use Rattle.std.specs.Net.Socket.{socket_ip}
use Rattle.std.specs.declared.net.ip_addr.IpAddr.{IpAddr}
use Rattle.std.specs.declared.net.socket_addr.SocketAddr.{SocketAddr}
use Rattle.turn_client_c_types.specs.Addresses.{address_of, ip_before, ips_of}
use Rattle.turn_client_c_types.specs.declared.address.TurnAddress.{TurnAddress}

-- With the IP addresses that are written so far before them.
abbrev pub after_ips : List IpAddr → Option (List IpAddr) → Option (List IpAddr)
after_ips done ips = option_map (λ (l : List IpAddr). done ++ l) ips

-- The addresses before the index i are written.
abbrev pub AreWritten : (addresses : List TurnAddress) (room : List IpAddr) → ℕ → Type 0
AreWritten addresses room i = ips_of addresses ≡ after_ips (take i room) (ips_of (drop i addresses))

pub starts : (addresses : List TurnAddress) (room : List IpAddr) → AreWritten addresses room 0
starts addresses room = same (ips_of addresses)
  where
    same : (ips : Option (List IpAddr)) → ips ≡ after_ips [] ips
    same None = refl
    same (Some l) = refl

next : (addresses : List TurnAddress) (d : TurnAddress) (i : ℕ) → i < length addresses
    → ips_of (drop i addresses) ≡ ip_before (address_of (slice_index_or addresses i d)) (ips_of (drop (suc i) addresses))
unfolding ips_of
next [] d i less = absurd (omega (arith, less))
next (a ∷ others) d zero less = refl
next (a ∷ others) d (suc i) less = next others d i (omega (arith, less))

-- An address that is none, at an index that is reached.
pub stops : (addresses : List TurnAddress) (room : List IpAddr) (d : TurnAddress) (i : ℕ) → i < length addresses
    → address_of (slice_index_or addresses i d) ≡ None → AreWritten addresses room i → ips_of addresses ≡ None
stops addresses room d i less none written =
    written ∙ ap (after_ips (take i room)) (next addresses d i less ∙ ap (λ (a : Option SocketAddr). ip_before a (ips_of (drop (suc i) addresses))) none)

joined : (done : List IpAddr) (ip : IpAddr) (ips : Option (List IpAddr))
    → after_ips done (option_map (λ (l : List IpAddr). ip ∷ l) ips) ≡ after_ips (done ++ ip ∷ []) ips
joined done ip None = refl
joined done ip (Some l) = ap Some (sym (append_assoc done (ip ∷ []) l))

-- One address more is written.
pub continues : (addresses : List TurnAddress) (room : List IpAddr) (d : TurnAddress) (a : SocketAddr) (i : ℕ)
    → i < length addresses → length addresses ≤ length room → address_of (slice_index_or addresses i d) ≡ Some a
    → AreWritten addresses room i → AreWritten addresses (slice_set room i (socket_ip a)) (i + 1)
continues addresses room d a i less fits is written =
    let more : take (i + 1) (slice_set room i (socket_ip a)) ≡ take i room ++ socket_ip a ∷ [] = take_more_set room i (socket_ip a) (omega (arith, less, fits)) in
    let one : i + 1 ≡ suc i = omega arith in
    rw (more, one)
    (written ∙ ap (after_ips (take i room)) (next addresses d i less ∙ ap (λ (a : Option SocketAddr). ip_before a (ips_of (drop (suc i) addresses))) is)
    ∙ joined (take i room) (socket_ip a) (ips_of (drop (suc i) addresses)))

-- All are written.
pub ends : (addresses : List TurnAddress) (room : List IpAddr) (i : ℕ) → i ≡ length addresses → AreWritten addresses room i
    → ips_of addresses ≡ Some (take (length addresses) room)
unfolding ips_of
ends addresses room i is written =
    let none_left : drop i addresses ≡ [] = drop_all i addresses (omega (arith, is)) in
    written ∙ ap (λ (l : List TurnAddress). after_ips (take i room) (ips_of l)) none_left
    ∙ ap Some (append-nil (take i room)) ∙ ap (λ (n : ℕ). Some (take n room)) is
