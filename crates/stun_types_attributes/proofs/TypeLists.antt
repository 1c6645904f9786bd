-- Encoding a list of attribute types, and decoding it.
use Rattle.std.proofs.Common.{◌≡◌, ℕ, suc, ◌+◌, ◌*◌, ◌/◌, ◌%◌, ◌<◌, ◌≤◌, List, [], ◌∷◌, ◌++◌, length, slice_index, false, None, Some, refl, sym, ap, ◌∙◌, arith}
use Rattle.std.proofs.lemmas.Grind.{common_steps}
use Rattle.std.proofs.lemmas.List.{length-append}
use Rattle.byteorder.specs.Endian.{big_bytes}
use Rattle.stun_types_wire.specs.declared.error.StunWriteError.TheVariants.{TooLarge}
use Rattle.stun_types_auth_attributes.specs.Write.Adding.{attr_of, has_kind}
use Rattle.stun_types_auth_attributes.proofs.Write.Values.{value_is_accepted}
use Rattle.stun_types_attributes.specs.UnknownTypes.{types_value, types_decoded, odd_refusal, types_read_refusal, types_refusal, with_type}
use Rattle.stun_types_wire.specs.Registry.{longest_value}

-- Encoding the types that are decoded from an even number of bytes gives these bytes.
pub bytes_again : (bytes : List ℕ) → length bytes % 2 ≡ 0 → ((k : ℕ) → slice_index bytes k < 256) → types_value (types_decoded bytes) ≡ bytes
unfolding types_value types_decoded
bytes_again [] even small = refl
bytes_again (a ∷ []) even small = absurd (omega arith)
bytes_again (a ∷ b ∷ rest) even small =
    let a_small : a < 256 = small 0 in
    let b_small : b < 256 = small 1 in
    let high : (a * 256 + b) / 256 % 256 ≡ a = omega arith in
    let low : (a * 256 + b) % 256 ≡ b = omega arith in
    let left = bytes_again rest (omega arith) (λ k. small (suc (suc k))) in
    ap (λ x. x ∷ ((a * 256 + b) % 256) ∷ types_value (types_decoded rest)) high ∙ (ap (λ x. a ∷ x ∷ types_value (types_decoded rest)) low ∙ ap (λ (l : List ℕ). a ∷ b ∷ l) left)

-- Appending the two bytes of a type appends the type to the decoded list.
pub decoded_more : (bytes : List ℕ) (kind : ℕ) → length bytes % 2 ≡ 0 → kind < 65536 → types_decoded (bytes ++ big_bytes 2 kind) ≡ types_decoded bytes ++ kind ∷ []
unfolding types_decoded
decoded_more [] kind even small =
    let whole : kind / 256 % 256 * 256 + kind % 256 ≡ kind = omega arith in
    ap (λ x. x ∷ []) whole
decoded_more (a ∷ []) kind even small = absurd (omega arith)
decoded_more (a ∷ b ∷ rest) kind even small = ap (λ (l : List ℕ). (a * 256 + b) ∷ l) (decoded_more rest kind (omega arith) small)

-- Each decoded type takes two bytes.
pub decoded_length : (bytes : List ℕ) → length bytes % 2 ≡ 0 → 2 * length (types_decoded bytes) ≡ length bytes
unfolding types_decoded
decoded_length [] even = refl
decoded_length (a ∷ []) even = absurd (omega arith)
decoded_length (a ∷ b ∷ rest) even = let left = decoded_length rest (omega arith) in omega arith

-- Fewer than two bytes encode no type.
pub none_decoded : (bytes : List ℕ) → length bytes < 2 → types_decoded bytes ≡ []
unfolding types_decoded
none_decoded [] short = refl
none_decoded (a ∷ []) short = refl
none_decoded (a ∷ b ∷ rest) short = absurd (omega arith)

-- If a type is not in the list, and two more bytes are too many, adding it is refused.
pub more_is_refused : (kind bytes : ℕ) (kinds : List ℕ) → has_kind kind kinds ≡ false → 2 * length kinds ≡ bytes → longest_value < bytes + 2 → types_refusal (length (with_type kind kinds)) ≡ Some (TooLarge longest_value (bytes + 2))
more_is_refused kind bytes kinds new counted over =
    let size : 2 * length (kinds ++ kind ∷ []) ≡ bytes + 2 = omega (arith, length-append kinds (kind ∷ [])) in
    rw new (rw size (grind (arith, common_steps, over)))

-- If a type is not in the list, and two more bytes fit, adding it is not refused.
pub more_fits : (kind bytes : ℕ) (kinds : List ℕ) → has_kind kind kinds ≡ false → 2 * length kinds ≡ bytes → bytes + 2 ≤ longest_value → types_refusal (length (with_type kind kinds)) ≡ None
more_fits kind bytes kinds new counted fits =
    let size : 2 * length (kinds ++ kind ∷ []) ≡ bytes + 2 = omega (arith, length-append kinds (kind ∷ [])) in
    rw new (rw size (grind (arith, common_steps, fits)))

-- Two lists with the same value are equal.
pub same_types : (some others : List ℕ) → types_decoded (types_value some) ≡ some → types_decoded (types_value others) ≡ others → types_value some ≡ types_value others → some ≡ others
same_types some others a b h = sym a ∙ ap types_decoded h ∙ b

-- An even number of bytes, up to the maximum length, is not refused.
pub types_are_accepted : (value : List ℕ) → length value % 2 ≡ 0 → length value ≤ longest_value → types_read_refusal (attr_of 10 value) ≡ None
unfolding types_read_refusal odd_refusal
types_are_accepted value even short = rw (value_is_accepted 10 0 longest_value value (omega arith) short) (grind (arith, common_steps, even))

-- The rules for encoding a list of types and decoding it.
pub ruleset lists = (types_are_accepted, same_types)

-- Unfolding this name unfolds both definitions on its line, those of the refusals of a value.
unfoldable pub refusals : Type 0
unfolding types_read_refusal odd_refusal
refusals = Unit {0}

-- Unfolding this name unfolds the types that are decoded from a value.
unfoldable pub decoded : Type 0
unfolding types_decoded
decoded = Unit {0}

-- The rule for a value that encodes no type.
pub ruleset none = (none_decoded)
