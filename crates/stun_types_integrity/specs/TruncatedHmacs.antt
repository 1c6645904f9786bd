-- The value of MESSAGE-INTEGRITY-SHA256 (RFC 8489, section 14.6): an HMAC of 32 bytes, truncated to at least
-- 16 bytes and a multiple of four. MESSAGE-INTEGRITY-SHA512 does the same with an HMAC of 64 bytes.
use Rattle.std.specs.Prelude.{ℕ, Bool, ◌==◌, ◌&&◌, ◌%◌, nat_le, nat_lt, List, length, Option, Some, None, if◌then◌else◌}
use Rattle.std.specs.Option.{option_or}
use Rattle.stun_types_write.specs.Wire.declared.error.StunParseError.{StunParseError}
use Rattle.stun_types_write.specs.Wire.declared.error.StunParseError.TheVariants.{InvalidAttributeData}
use Rattle.stun_types_write.specs.Wire.declared.error.StunWriteError.{StunWriteError}
use Rattle.stun_types_write.specs.Wire.declared.error.StunWriteError.TheVariants.{IntegrityFailed, TooLarge, TooSmall}
use Rattle.stun_types_write.specs.Wire.Attributes.{Attr}
use Rattle.stun_types_write.specs.Wire.Registry.{sha256_kind, least_sha256_length, sha256_length, sha512_kind, least_sha512_length, sha512_length}
use Rattle.stun_types_write.specs.ValueReading.{value_refusal}

-- An HMAC of `whole` bytes may be truncated to this length.
abbrev pub is_truncated_length : ℕ → ℕ → ℕ → Bool
is_truncated_length least whole len = nat_le least len && (nat_le len whole && len % 4 == 0)

-- The error, if any, when an attribute is made from an HMAC of this length: the first one that applies.
unfoldable pub truncated_refusal : ℕ → ℕ → ℕ → Option StunWriteError
truncated_refusal least whole len =
    if nat_lt len least then Some (TooSmall least len)
    else if nat_lt whole len then Some (TooLarge whole len)
    else if len % 4 == 0 then None
    else Some IntegrityFailed

-- The error, if any, when the length of a value is not a multiple of four.
unfoldable pub fours_refusal : List ℕ → Option StunParseError
fours_refusal value = if length value % 4 == 0 then None else Some InvalidAttributeData

-- The error, if any, when an attribute is read as a possibly truncated HMAC in an attribute of type `kind`.
unfoldable pub truncated_read_refusal : ℕ → ℕ → ℕ → Attr → Option StunParseError
truncated_read_refusal kind least whole a = option_or (value_refusal kind least whole a) (fours_refusal a.value)

-- ---- of the two attributes

abbrev pub sha256_len_refusal : ℕ → Option StunWriteError
sha256_len_refusal len = truncated_refusal least_sha256_length sha256_length len

abbrev pub sha512_len_refusal : ℕ → Option StunWriteError
sha512_len_refusal len = truncated_refusal least_sha512_length sha512_length len

abbrev pub sha256_read_refusal : Attr → Option StunParseError
sha256_read_refusal a = truncated_read_refusal sha256_kind least_sha256_length sha256_length a

abbrev pub sha512_read_refusal : Attr → Option StunParseError
sha512_read_refusal a = truncated_read_refusal sha512_kind least_sha512_length sha512_length a
