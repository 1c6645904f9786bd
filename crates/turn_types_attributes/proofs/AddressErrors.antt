-- An encoded ADDRESS-ERROR-CODE is decoded as the same family, code and reason phrase.
use Rattle.std.proofs.Common.{◌≡◌, ℕ, ◌+◌, ◌≤◌, List, length, slice_index, drop, None, refl, sym, ap, ◌∙◌, arith}
use Rattle.std.specs.Option.{option_or}
use Rattle.stun_types_attributes.specs.Base.declared.family.AddressFamily.{AddressFamily}
use Rattle.stun_types_attributes.specs.Wire.Attributes.{Attr}
use Rattle.stun_types_attributes.specs.Wire.Registry.{error_code_kind, greatest_code, least_code, longest_text}
use Rattle.stun_types_integrity.specs.Write.Adding.{attr_of}
use Rattle.stun_types_integrity.specs.Write.ValueReading.{utf8_refusal}
use Rattle.stun_types_integrity.proofs.Write.Values.{value_is_accepted}
use Rattle.stun_types_attributes.specs.ErrorCodes.{CodeAndReason, error_value}
use Rattle.stun_types_attributes.specs.ErrorCodeReading.{code_refusal, error_decoded, error_read_refusal}
use Rattle.stun_types_attributes.proofs.Codes.{code_is_accepted, decoded_again, same_error}
use Rattle.turn_types_attributes.specs.AddressErrors.{AddressError, address_error_again, address_error_read_refusal, address_error_refusal, address_error_value}
use Rattle.turn_types_attributes.specs.FamilyValues.{family_number}
use Rattle.turn_types_attributes.specs.TurnRegistry.{address_error_code_kind}
use Rattle.turn_types_attributes.proofs.Families.{number_is_known, same_number}

-- The value of an ADDRESS-ERROR-CODE is refused as an ERROR-CODE only for its code or its reason phrase.
pub as_error_code : (a : Attr) → a.kind ≡ error_code_kind → 4 ≤ length a.value → length a.value ≤ 4 + longest_text → error_read_refusal a ≡ option_or (code_refusal a.value) (utf8_refusal (drop 4 a.value))
unfolding error_read_refusal
as_error_code a typed enough short =
    rw (sym typed) (rw (value_is_accepted a.kind 4 (4 + longest_text) a.value enough short) refl)

-- An ERROR-CODE with the value that an ADDRESS-ERROR-CODE is decoded to has its code and its reason phrase.
pub as_decoded : (e : CodeAndReason) (value : List ℕ) → error_value e ≡ error_value (error_decoded value) → e ≡ error_decoded value
as_decoded e value h = same_error e (error_decoded value) h

-- The rules for decoding the code and the reason phrase.
pub ruleset as_error = (as_error_code, as_decoded)

-- The value is encoded again unchanged.
pub stored_again : (a : AddressError) → address_error_again (address_error_value a) ≡ address_error_value a
stored_again a = ap (λ e. address_error_value (record { family = a.family; error = e })) (decoded_again a.error)

number_in : (a b : AddressError) → address_error_value a ≡ address_error_value b → family_number a.family ≡ family_number b.family
number_in a b h = ap (λ (value : List ℕ). slice_index value 0) h

error_in : (a b : AddressError) → address_error_value a ≡ address_error_value b → a.error ≡ b.error
error_in a b h = sym (decoded_again a.error) ∙ (ap error_decoded h ∙ decoded_again b.error)

both : (f g : AddressFamily) (d e : CodeAndReason) → f ≡ g → d ≡ e → let a : AddressError = record { family = f; error = d } in let b : AddressError = record { family = g; error = e } in a ≡ b
both f g d e families errors = rw families (rw errors refl)

-- Two ADDRESS-ERROR-CODEs with the same value are equal.
pub same_address_error : (a b : AddressError) → address_error_value a ≡ address_error_value b → a ≡ b
same_address_error a b h =
    both a.family b.family a.error b.error (same_number a.family b.family (number_in a b h)) (error_in a b h)

code_is_known : (a : AddressError) → least_code ≤ a.error.code → a.error.code ≤ greatest_code → code_refusal (address_error_value a) ≡ None
unfolding code_refusal
code_is_known a least most = code_is_accepted a.error least most

-- Reading does not reject a written ADDRESS-ERROR-CODE.
pub address_error_is_accepted : (a : AddressError) → least_code ≤ a.error.code → a.error.code ≤ greatest_code → length a.error.reason ≤ longest_text → utf8_refusal a.error.reason ≡ None → address_error_read_refusal (attr_of address_error_code_kind (address_error_value a)) ≡ None
unfolding address_error_read_refusal address_error_refusal
address_error_is_accepted a least most short text =
    rw (value_is_accepted address_error_code_kind 4 (4 + longest_text) (address_error_value a) (omega arith) (omega arith))
    (rw (number_is_known a.family) (rw (code_is_known a least most) text))

-- A written ADDRESS-ERROR-CODE is accepted and is read back.
pub ruleset address_errors = (address_error_is_accepted, stored_again, same_address_error)
