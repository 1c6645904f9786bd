-- Addresses and their encodings.
use Rattle.std.proofs.Common.{◌≡◌, ℕ, suc, ◌+◌, ◌-◌, ◌*◌, ◌/◌, ◌%◌, ◌<◌, ◌≤◌, List, [], ◌∷◌, ◌++◌, length, drop, slice_index, refl, sym, ap, ◌∙◌, arith}
use Rattle.std.specs.declared.net.socket_addr.SocketAddr.{SocketAddr}
use Rattle.std.specs.declared.net.socket_addr.SocketAddr.TheVariants.{V4, V6}
use Rattle.std.specs.Net.Addr.{segments_of, octets_of}
use Rattle.std.specs.Prelude.{None}
use Rattle.byteorder.specs.Endian.{big_bytes, big_number}
use Rattle.byteorder.specs.Numbers.{big_number-reads_back}
use Rattle.std.proofs.lemmas.Grind.{common_steps}
use Rattle.stun_types_auth_attributes.specs.Write.Adding.{attr_of}
use Rattle.stun_types_attributes.specs.Addresses.{value_of_parts, address_value, address_refusal, address_read_refusal, address_again}

-- The octets of segments that were made of octets are these octets.
pub octets_again : (n : ℕ) (xs : List ℕ) → length xs ≡ 2 * n → ((k : ℕ) → slice_index xs k < 256) → octets_of (segments_of xs) ≡ xs
octets_again n [] even small = refl
octets_again n (a ∷ []) even small = absurd (omega arith)
octets_again n (a ∷ b ∷ xs) even small =
    let b_small : b < 256 = small 1 in
    let high : (a * 256 + b) / 256 ≡ a = omega arith in
    let low : (a * 256 + b) % 256 ≡ b = omega arith in
    let rest = octets_again (n - 1) xs (omega arith) (λ k. small (suc (suc k))) in
    ap (λ x. x ∷ ((a * 256 + b) % 256) ∷ octets_of (segments_of xs)) high ∙ (ap (λ x. a ∷ x ∷ octets_of (segments_of xs)) low ∙ ap (λ (l : List ℕ). a ∷ b ∷ l) rest)

-- The octets of the segments of sixteen octets are these octets.
pub sixteen_again : (xs : List ℕ) → length xs ≡ 16 → ((k : ℕ) → slice_index xs k < 256) → octets_of (segments_of xs) ≡ xs
sixteen_again xs even small = octets_again 8 xs even small

-- The segments of octets that were made of segments are these segments.
pub segments_again : (xs : List ℕ) → ((k : ℕ) → slice_index xs k < 65536) → segments_of (octets_of xs) ≡ xs
segments_again [] small = refl
segments_again (s ∷ xs) small =
    let whole : s / 256 * 256 + s % 256 ≡ s = omega arith in
    ap (λ x. x ∷ segments_of (octets_of xs)) whole ∙ ap (λ (l : List ℕ). s ∷ l) (segments_again xs (λ k. small (suc k)))

-- Decoding the two bytes of a port gives the port.
pub port_again : (port : ℕ) (rest : List ℕ) → port < 65536 → big_number 2 (big_bytes 2 port ++ rest) ≡ port
port_again port rest small = big_number-reads_back 2 port rest small

-- Encoding a port that is decoded from two bytes gives these bytes.
pub port_bytes : (c d : ℕ) → c < 256 → d < 256 → big_bytes 2 (c * 256 + d) ≡ c ∷ d ∷ []
port_bytes c d cs ds =
    let high : (c * 256 + d) / 256 % 256 ≡ c = omega arith in
    let low : (c * 256 + d) % 256 ≡ d = omega arith in
    ap (λ x. x ∷ ((c * 256 + d) % 256) ∷ []) high ∙ ap (λ x. c ∷ x ∷ []) low

-- The encoding of an address is not refused.
pub v4_is_accepted : (port : ℕ) (octets : List ℕ) → length octets ≡ 4 → address_refusal (value_of_parts 1 port octets) ≡ None
unfolding address_refusal
v4_is_accepted port octets four = rw four refl

pub v6_is_accepted : (port : ℕ) (octets : List ℕ) → length octets ≡ 16 → address_refusal (value_of_parts 2 port octets) ≡ None
unfolding address_refusal
v6_is_accepted port octets sixteen = rw sixteen refl

-- Encoding the parts of a value gives the value again, with 0 as its first byte.
pub parts_again : (value : List ℕ) (family port : ℕ) → 4 ≤ length value → ((k : ℕ) → slice_index value k < 256) → slice_index value 1 ≡ family → port ≡ slice_index value 2 * 256 + slice_index value 3
    → value_of_parts family port (drop 4 value) ≡ address_again value
parts_again [] family port four small f p = absurd (omega arith)
parts_again (a ∷ []) family port four small f p = absurd (omega arith)
parts_again (a ∷ b ∷ []) family port four small f p = absurd (omega arith)
parts_again (a ∷ b ∷ c ∷ []) family port four small f p = absurd (omega arith)
parts_again (a ∷ b ∷ c ∷ d ∷ rest) family port four small f p =
    ap (λ x. 0 ∷ family ∷ (big_bytes 2 x ++ rest)) p ∙ (ap (λ (l : List ℕ). 0 ∷ family ∷ (l ++ rest)) (port_bytes c d (small 2) (small 3)) ∙ ap (λ x. 0 ∷ x ∷ c ∷ d ∷ rest) (sym f))

-- The first byte of an encoded address is 0.
pub value_stored : (addr : SocketAddr) → address_again (address_value addr) ≡ address_value addr
value_stored (V4 a) = refl
value_stored (V6 a) = refl

-- A value that is accepted as an address is accepted in an attribute of any type.
pub value_accepted : (kind : ℕ) (value : List ℕ) → address_refusal value ≡ None → address_read_refusal kind (attr_of kind value) ≡ None
unfolding address_read_refusal
value_accepted kind value h = grind (arith, common_steps, h)
