-- Error responses to malformed requests: their attributes, their size, and the errors of writing them.
use Rattle.std.specs.Prelude.{◌≡◌, ℕ, ◌+◌, ◌*◌, List, [], ◌∷◌, length, Option, Some, None}
use Rattle.std.proofs.Common.{refl, sym, ap, ◌∙◌, arith}
use Rattle.std.proofs.lemmas.List.{length-append}
use Rattle.byteorder.specs.Endian.{big_bytes}
use Rattle.stun_types_attributes.specs.Wire.declared.error.StunWriteError.{StunWriteError}
use Rattle.stun_types_attributes.specs.Wire.Attributes.{Attr, attr_size, padded}
use Rattle.stun_types_attributes.specs.Wire.Text.{header_text, attribute_text, body_text, message_text}
use Rattle.stun_types_add.specs.Write.Adding.{add_refusal, attr_of, room_refusal, size_refusal}
use Rattle.stun_types_add.specs.Write.Drafts.{Draft, none_ended}
use Rattle.stun_types_add.proofs.Adds.{length-attribute_text}
use Rattle.stun_types_attributes.specs.ErrorCodes.{CodeAndOther, CodeAndReason, error_value, reason_for, reason_of}
use Rattle.stun_types_attributes.specs.UnknownTypes.{types_refusal, types_value}
use Rattle.stun_types_message.specs.Objections.{error_attribute, unknown_attribute, unknown_refusal, unknown_response_attributes}
use Rattle.stun_types_attributes.specs.Wire.Registry.{error_code_kind}
use Rattle.stun_types_attributes.specs.ErrorCodes.{error_refusal}

-- ---- sizes

text-length : (kind number : ℕ) (all : List Attr) → length (message_text kind number all) ≡ 20 + length (body_text all)
unfolding message_text header_text
text-length kind number all = omega arith

body-length : (all : List Attr) (a : Attr) → length (body_text (a ∷ all)) ≡ attr_size a + length (body_text all)
unfolding body_text
body-length all a = omega (arith, length-append (attribute_text a) (body_text all), length-attribute_text a)

no_body : length (body_text []) ≡ 0
unfolding body_text
no_body = refl

-- The length of a message with one attribute.
pub one-length : (bytes : List ℕ) (kind number : ℕ) (a : Attr) → bytes ≡ message_text kind number (a ∷ []) → length bytes ≡ 20 + attr_size a
one-length bytes kind number a text =
    let all = text-length kind number (a ∷ []) in
    let body = body-length [] a in
    ap length text ∙ omega (arith, all, body, no_body)

types_value-length : (kinds : List ℕ) → length (types_value kinds) ≡ 2 * length kinds
unfolding types_value
types_value-length [] = refl
types_value-length (kind ∷ kinds) =
    let rest = types_value-length kinds in
    omega (arith, rest, length-append (big_bytes 2 kind) (types_value kinds))

-- The size of UNKNOWN-ATTRIBUTES with `count` types.
pub unknown-size : (kinds : List ℕ) (count : ℕ) → length kinds ≡ count → attr_size (unknown_attribute kinds) ≡ 4 + padded (2 * count)
unknown-size kinds count counted = ap (λ (n : ℕ). 4 + padded n) (types_value-length kinds ∙ ap (λ (n : ℕ). 2 * n) counted)

-- The length of a 420 response with `count` types: 48 bytes and UNKNOWN-ATTRIBUTES.
pub unknown-length : (bytes : List ℕ) (kind number count : ℕ) (kinds : List ℕ) → length kinds ≡ count → bytes ≡ message_text kind number (unknown_response_attributes kinds) → length bytes ≡ 52 + padded (2 * count)
unknown-length bytes kind number count kinds counted text =
    let all = text-length kind number (unknown_response_attributes kinds) in
    let first = body-length (unknown_attribute kinds ∷ []) (error_attribute 420) in
    let second = body-length [] (unknown_attribute kinds) in
    let size = unknown-size kinds count counted in
    ap length text ∙ omega (arith, all, first, second, no_body, size)

-- ---- the error code

-- An ERROR-CODE made without a reason has the code's default reason.
pub default_error : (b : CodeAndOther) (made : CodeAndReason) (code : ℕ) → b.code ≡ code → b.reason ≡ None → made.code ≡ b.code → made.reason ≡ reason_of b → attr_of error_code_kind (error_value made) ≡ error_attribute code
default_error b made code own none is decoded =
    let number : made.code ≡ code = is ∙ own in
    let reason : made.reason ≡ reason_for code = rw (decoded, none, own) refl in
    λ i. attr_of error_code_kind (error_value (record { code = number i; reason = reason i }))

-- ---- refusals

-- If neither an integrity attribute nor FINGERPRINT was added, an add fails only because of its size.
open_add : (draft : Draft) (size : ℕ) → draft.ended ≡ none_ended → add_refusal draft size ≡ size_refusal draft.limit (length draft.bytes + size)
unfolding add_refusal
open_add draft size none = rw none refl

-- The result of adding the first attribute of a message, as an error due to its size or none.
pub first_answer : (draft : Draft) (own : Option ℕ) (a b : Attr) (answer : Option StunWriteError) → draft.ended ≡ none_ended → draft.limit ≡ own → length draft.bytes ≡ 20 → a ≡ b → add_refusal draft (attr_size a) ≡ answer → size_refusal own (20 + attr_size b) ≡ answer
first_answer draft own a b answer none same counted is h =
    let moved : size_refusal draft.limit (length draft.bytes + attr_size a) ≡ size_refusal own (20 + attr_size b) = λ i. size_refusal (same i) (counted i + attr_size (is i)) in
    sym moved ∙ sym (open_add draft (attr_size a) none) ∙ h

-- Too many types: the 420 response fails with that error.
pub too_many : (limit : Option ℕ) (count : ℕ) (error : StunWriteError) → types_refusal count ≡ Some error → unknown_refusal limit count ≡ Some error
unfolding unknown_refusal
too_many limit count error h = rw h refl

-- No room for the header and ERROR-CODE: the 420 response fails with that error.
pub no_room : (limit : Option ℕ) (count : ℕ) (error : StunWriteError) → types_refusal count ≡ None → room_refusal limit 48 ≡ Some error → unknown_refusal limit count ≡ Some error
unfolding unknown_refusal
no_room limit count error few h = rw (few, h) refl

-- Otherwise the result of adding UNKNOWN-ATTRIBUTES is that of the 420 response.
pub second_answer : (draft : Draft) (list : List ℕ) (own : Option ℕ) (count : ℕ) (answer : Option StunWriteError) → draft.ended ≡ none_ended → draft.limit ≡ own → length draft.bytes ≡ 48 → length list ≡ count → types_refusal count ≡ None → room_refusal own 48 ≡ None
    → add_refusal draft (attr_size (unknown_attribute list)) ≡ answer → unknown_refusal own count ≡ answer
unfolding unknown_refusal
second_answer draft list own count answer one same counted many few room h =
    let size = unknown-size list count many in
    let end : length draft.bytes + attr_size (unknown_attribute list) ≡ 52 + padded (2 * count) = omega (arith, counted, size) in
    let moved : size_refusal draft.limit (length draft.bytes + attr_size (unknown_attribute list)) ≡ size_refusal own (52 + padded (2 * count)) = λ i. size_refusal (same i) (end i) in
    rw (few, room) (sym moved ∙ sym (open_add draft (attr_size (unknown_attribute list)) one) ∙ h)

-- No room for the header and ERROR-CODE, checked before anything is written.
pub no_room_first : (limit : Option ℕ) (len count : ℕ) (error : StunWriteError) → len ≡ 0 → types_refusal count ≡ None → size_refusal limit (len + 48) ≡ Some error → unknown_refusal limit count ≡ Some error
no_room_first limit len count error none few h =
    let end : 48 ≡ len + 48 = omega (arith, none) in
    no_room limit count error few (ap (size_refusal limit) end ∙ h)

-- If there are not too many types and 48 bytes fit, the size of the whole response decides.
pub types_answer : (limit : Option ℕ) (len count : ℕ) (answer : Option StunWriteError) → len ≡ 0 → types_refusal count ≡ None → room_refusal limit 48 ≡ None → size_refusal limit (len + (52 + padded (2 * count))) ≡ answer → unknown_refusal limit count ≡ answer
unfolding unknown_refusal
types_answer limit len count answer none few room h =
    let end : 52 + padded (2 * count) ≡ len + (52 + padded (2 * count)) = omega (arith, none) in
    rw (few, room) (ap (size_refusal limit) end ∙ h)

-- The size of a response whose only attribute is ERROR-CODE decides, checked before anything is written.
pub room_first : (limit : Option ℕ) (len code : ℕ) (reason : List ℕ) (answer : Option StunWriteError) → len ≡ 0 → reason ≡ reason_for code → size_refusal limit (len + (24 + padded (4 + length reason))) ≡ answer → size_refusal limit (20 + attr_size (error_attribute code)) ≡ answer
room_first limit len code reason answer none is h =
    let size : 20 + attr_size (error_attribute code) ≡ len + (24 + padded (4 + length reason)) = rw (none, is) (omega arith) in
    ap (size_refusal limit) size ∙ h

-- Lemmas on the room for a response.
pub ruleset room = (too_many, no_room, room_first)

-- A group of errors for proofs: unfolding it unfolds both definitions named on its `unfolding` line.
unfoldable pub added : Type 0
unfolding add_refusal error_refusal
added = Unit {0}
