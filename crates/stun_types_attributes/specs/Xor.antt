-- Addresses xored with the magic cookie and the transaction ID (RFC 8489, section 14.2).
use Rattle.std.specs.Prelude.{ℕ, List, [], ◌∷◌, ◌++◌, bit_xor}
use Rattle.byteorder.specs.Endian.{big_bytes}
use Rattle.stun_types_wire.specs.Registry.{cookie, cookie_head}

-- Bytes xored with a mask, up to the shorter length of the two.
abbrev pub xor_bytes : List ℕ → List ℕ → List ℕ
xor_bytes [] mask = []
xor_bytes (b ∷ bytes) [] = []
xor_bytes (b ∷ bytes) (m ∷ mask) = bit_xor b m ∷ xor_bytes bytes mask

-- What the octets of an address are xored with: the magic cookie, followed for IPv6 by the transaction ID.
unfoldable pub octets_mask : ℕ → List ℕ
octets_mask transaction_id = cookie ++ big_bytes 12 transaction_id

-- A value whose port is xored with the top 16 bits of the magic cookie, and whose octets are xored with the
-- cookie and the transaction ID.
abbrev pub xored : ℕ → List ℕ → List ℕ
xored transaction_id value = xor_bytes value (0 ∷ 0 ∷ (cookie_head ++ octets_mask transaction_id))
