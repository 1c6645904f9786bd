-- FINGERPRINT (RFC 8489, section 14.7).
use Rattle.std.specs.Prelude.{ℕ, ◌+◌, ◌-◌, ◌==◌, ◌&&◌, Bool, not, List, length, bit_xor, bytes_eq}
use Rattle.std.specs.List.{list_any}
use Rattle.byteorder.specs.Endian.{big_bytes}
use Rattle.stun_types_digest.specs.Crc.{crc32}
use Rattle.stun_types_wire.specs.Attributes.{Attr}
use Rattle.stun_types_wire.specs.Registry.{fingerprint_kind, fingerprint_mask, fingerprint_size, header_size}
use Rattle.stun_types_wire.specs.Covered.{covered_text, with_length}

-- The value of a FINGERPRINT over a text: four bytes, the CRC-32 of the text xored with `STUN`.
unfoldable pub fingerprint_value : List ℕ → List ℕ
fingerprint_value text = big_bytes 4 (bit_xor (crc32 text) fingerprint_mask)

-- The FINGERPRINT to be added at the end of a message with these bytes.
unfoldable pub fingerprint_of : List ℕ → Attr
fingerprint_of bytes = record {
  kind = fingerprint_kind;
  value = fingerprint_value
      (with_length bytes (length bytes - header_size + fingerprint_size));
}

-- Whether one of the attributes is a FINGERPRINT.
abbrev pub shows_fingerprint : List Attr → Bool
shows_fingerprint all = list_any (λ a. a.kind == fingerprint_kind) all

-- Whether the attribute at this offset is a FINGERPRINT with another value than that of the bytes that it
-- covers.
abbrev pub is_wrong_fingerprint : List ℕ → ℕ × Attr → Bool
is_wrong_fingerprint bytes entry = entry.1.kind == fingerprint_kind && not
    (bytes_eq entry.1.value (fingerprint_value (covered_text bytes entry.0)))
