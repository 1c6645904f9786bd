-- The message after an attribute is added, and why adding fails (RFC 8489, sections 14.5 to 14.7).
use Rattle.std.specs.Prelude.{◌≡◌, ℕ, ◌+◌, ◌-◌, ◌≤◌, Bool, ◌||◌, ◌==◌, nat_lt, List, ◌++◌, length, Option, Some, None, if◌then◌else◌}
use Rattle.std.specs.List.{list_any}
use Rattle.stun_types_wire.specs.declared.error.StunWriteError.{StunWriteError}
use Rattle.stun_types_wire.specs.declared.error.StunWriteError.TheVariants.{FingerprintExists, MessageIntegrityExists, TooLarge, TooSmall}
use Rattle.stun_types_wire.specs.Attributes.{Attr, attr_size}
use Rattle.stun_types_wire.specs.Covered.{with_length}
use Rattle.stun_types_wire.specs.Grammar.{header_refusal}
use Rattle.stun_types_wire.specs.Text.{attribute_text}
use Rattle.stun_types_write.specs.Drafts.{Draft}
use Rattle.stun_types_wire.specs.Registry.{fingerprint_size, greatest_data, greatest_size, header_size}

-- The attribute of a type and a value.
abbrev pub attr_of : ℕ → List ℕ → Attr
attr_of kind value = record { kind = kind; value = value }

-- A message after an attribute was added at its end.
unfoldable pub after_add : List ℕ → Attr → List ℕ
after_add bytes a = with_length bytes (length bytes - header_size + attr_size a) ++ attribute_text a

-- Whether a type is in a list.
abbrev pub has_kind : ℕ → List ℕ → Bool
has_kind kind kinds = list_any (λ k. k == kind) kinds

-- Whether a type is one of the requested types.
abbrev pub is_among : List ℕ → ℕ → Bool
is_among requested kind = list_any (λ k. k == kind) requested

-- Why a message that ends at `end` doesn't fit in the maximum size of the writer.
abbrev pub room_refusal : Option ℕ → ℕ → Option StunWriteError
room_refusal None end = None
room_refusal (Some most) end = if nat_lt most end then Some (TooSmall end most) else None

-- Why a message that ends at `end` can't be written: it is too long for its length field, or doesn't fit in
-- the maximum size of the writer.
abbrev pub size_refusal : Option ℕ → ℕ → Option StunWriteError
size_refusal limit end = if nat_lt greatest_size end then Some (TooLarge greatest_data (end - header_size))
    else room_refusal limit end

-- Why `size` more bytes don't fit.
abbrev pub growth_refusal : Draft → ℕ → Option StunWriteError
growth_refusal draft size = size_refusal draft.limit (length draft.bytes + size)

-- The first reason why an attribute of this size can't be added.
unfoldable pub add_refusal : Draft → ℕ → Option StunWriteError
add_refusal draft size =
    if draft.ended.fingerprint then Some FingerprintExists
    else if draft.ended.integrity || (draft.ended.sha256 || draft.ended.sha512) then Some MessageIntegrityExists
    else growth_refusal draft size

-- The first reason why a FINGERPRINT can't be added.
unfoldable pub fingerprint_add_refusal : Draft → Option StunWriteError
fingerprint_add_refusal draft =
    if draft.ended.fingerprint then Some FingerprintExists else growth_refusal draft fingerprint_size

-- A message has been started and can be added to: it has a valid header, and is not longer than a message may
-- be.
pub record IsStarted (bytes : List ℕ) : Type 0 where
  pub header : header_refusal bytes ≡ None
  pub size : length bytes ≤ greatest_size
