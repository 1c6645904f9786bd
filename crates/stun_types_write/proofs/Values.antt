-- What holds for an attribute that is not refused, and which texts are not refused.
use Rattle.std.proofs.Common.{◌≡◌, ◌≢◌, ℕ, ◌≤◌, true, false, List, length, Some, None, refl, arith}
use Rattle.std.proofs.lemmas.Grind.{common_steps}
use Rattle.std.specs.Str.{IsUtf8, is_utf8}
use Rattle.std.proofs.lemmas.Str.{IsUtf8-from_is_utf8, is_utf8-from_IsUtf8}
use Rattle.stun_types_wire.specs.declared.error.StunParseError.{StunParseError}
use Rattle.stun_types_wire.specs.declared.error.StunParseError.TheVariants.{InvalidAttributeData, NoMemory}
use Rattle.stun_types_wire.specs.Attributes.{Attr}
use Rattle.stun_types_wire.specs.RawBytes.{type_and_len_refusal}
use Rattle.stun_types_write.specs.Adding.{attr_of}
use Rattle.stun_types_write.specs.ValueReading.{value_refusal, utf8_refusal, text_read_refusal}

-- An attribute that is not refused has the type.
pub kind_decoded : (kind least most : ℕ) (a : Attr) → value_refusal kind least most a ≡ None → a.kind ≡ kind
unfolding type_and_len_refusal
kind_decoded kind least most a h = grind (arith, common_steps, h)

-- An attribute that is not refused has a value of at least the minimum length.
pub least_decoded : (kind least most : ℕ) (a : Attr) → value_refusal kind least most a ≡ None → least ≤ length a.value
unfolding type_and_len_refusal
least_decoded kind least most a h = grind (arith, common_steps, h)

-- An attribute that is not refused has a value of at most the maximum length.
pub most_decoded : (kind least most : ℕ) (a : Attr) → value_refusal kind least most a ≡ None → length a.value ≤ most
unfolding type_and_len_refusal
most_decoded kind least most a h = grind (arith, common_steps, h)

-- A refusal of a type or a length is not the error of a failed allocation.
pub never_memory : (kind least most : ℕ) (a : Attr) (error : StunParseError) → value_refusal kind least most a ≡ Some error → error ≢ NoMemory
unfolding type_and_len_refusal
never_memory kind least most a error h is = absurd (let p = rw is at h in grind (arith, common_steps, p))

-- An attribute of the type, with a value whose length is within the limits, is not refused.
pub value_is_accepted : (kind least most : ℕ) (value : List ℕ) → least ≤ length value → length value ≤ most → value_refusal kind least most (attr_of kind value) ≡ None
unfolding type_and_len_refusal
value_is_accepted kind least most value enough short = grind (arith, common_steps, enough, short)

-- Bytes that are UTF-8 are not refused.
pub utf8_is_accepted : (bs : List ℕ) → IsUtf8 bs → utf8_refusal bs ≡ None
unfolding utf8_refusal
utf8_is_accepted bs h = rw (is_utf8-from_IsUtf8 bs h) refl

not_utf8 : (bs : List ℕ) → ¬ (IsUtf8 bs) → is_utf8 bs ≡ false
not_utf8 bs h = (elim (is_utf8 bs) as (λ b. is_utf8 bs ≡ b → b ≡ false) [ true ↦ λ e. absurd (h (IsUtf8-from_is_utf8 bs e)) | false ↦ λ e. refl ]) refl

-- Bytes that are not UTF-8 are refused.
pub not_utf8_is_refused : (bs : List ℕ) → ¬ (IsUtf8 bs) → utf8_refusal bs ≡ Some InvalidAttributeData
unfolding utf8_refusal
not_utf8_is_refused bs h = rw (not_utf8 bs h) refl

-- A text of at most `most` bytes is not refused.
pub text_is_accepted : (kind most : ℕ) (bs : List ℕ) → length bs ≤ most → utf8_refusal bs ≡ None → text_read_refusal kind most (attr_of kind bs) ≡ None
unfolding text_read_refusal
text_is_accepted kind most bs short text = rw (value_is_accepted kind 0 most bs (omega arith) short) text

-- The rules on the refusals of a value.
pub ruleset decoded = (kind_decoded, least_decoded, most_decoded, never_memory)

-- The rules on UTF-8.
pub ruleset texts = (utf8_is_accepted, not_utf8_is_refused)
