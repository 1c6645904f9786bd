-- HMAC (RFC 2104) over any digest of whole messages.
use Rattle.std.specs.Prelude.{ℕ, ◌-◌, List, ◌++◌, map, length, nat_le, if◌then◌else◌, bit_xor, replicate}

-- The byte that ipad repeats (RFC 2104, section 2).
abbrev pub inner_pad : ℕ
inner_pad = 0x36

-- The byte that opad repeats (RFC 2104, section 2).
abbrev pub outer_pad : ℕ
outer_pad = 0x5c

-- Each byte xored with the byte of a pad.
abbrev pub xor_each : ℕ → List ℕ → List ℕ
xor_each pad bytes = map (λ byte. bit_xor byte pad) bytes

-- The bytes, padded with zeros to the length of a block.
abbrev pub filled : ℕ → List ℕ → List ℕ
filled block bytes = bytes ++ replicate (block - length bytes) 0

-- K, padded with zeros to the length of a block. A key longer than a block is replaced by its digest first
-- (RFC 2104, sections 2 and 3).
abbrev pub block_key : (List ℕ → List ℕ) → ℕ → List ℕ → List ℕ
block_key digest block key = filled block (if nat_le (length key) block then key else digest key)

-- H((K xor opad) ++ H((K xor ipad) ++ text)) (RFC 2104, section 2)
unfoldable pub hmac : (List ℕ → List ℕ) → ℕ → List ℕ → List ℕ → List ℕ
hmac digest block key text =
    let whole_key = block_key digest block key in
    digest (xor_each outer_pad whole_key ++ digest (xor_each inner_pad whole_key ++ text))
