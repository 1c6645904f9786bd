-- The FINGERPRINT at the start of the rest of a message, in the terms of the code.
use Rattle.std.proofs.Common.{◌≡◌, ℕ, ◌+◌, ◌-◌, ◌≤◌, false, bytes_eq, List, [], ◌∷◌, length, take, drop, refl, sym, ap, ◌∙◌, arith, inl, inr}
use Rattle.std.proofs.lemmas.Bool.{cases_Bool}
use Rattle.std.proofs.lemmas.List.{length-drop, length-take}
use Rattle.std.proofs.lemmas.Slice.Eq.{bytes_eq-Decides}
use Rattle.stun_types_attributes.specs.Wire.Attributes.{attr_at, length_at, size_at, padded}
use Rattle.stun_types_attributes.specs.Wire.Covered.{covered_text, with_length}
use Rattle.stun_types_attributes.specs.Wire.Fingerprints.{fingerprint_value}

-- A complete value has the length in its header.
value_length : (rest : List ℕ) → size_at rest ≤ length rest → length (attr_at rest).value ≡ length_at rest
value_length rest whole = omega (arith, length-take (length_at rest) (drop 4 rest), length-drop 4 rest)

value_size : (text : List ℕ) → length (fingerprint_value text) ≡ 4
unfolding fingerprint_value
value_size text = refl

-- A value that does not have four bytes is not a FINGERPRINT's value.
pub other_length : (rest text : List ℕ) → size_at rest ≤ length rest → (length_at rest ≡ 4 → ⊥) → bytes_eq (attr_at rest).value (fingerprint_value text) ≡ false
other_length rest text whole other =
    let value = (attr_at rest).value in
    elim (cases_Bool (bytes_eq value (fingerprint_value text))) [
      | inl same ↦ absurd (other (sym (value_length rest whole) ∙ ap length ((bytes_eq-Decides value (fingerprint_value text)).0 same) ∙ value_size text))
      | inr not_same ↦ not_same
    ]

-- The four bytes after the header of an attribute.
four_after : (rest : List ℕ) → drop 4 (take 8 rest) ≡ take 4 (drop 4 rest)
four_after [] = refl
four_after (a ∷ []) = refl
four_after (a ∷ b ∷ []) = refl
four_after (a ∷ b ∷ c ∷ []) = refl
four_after (a ∷ b ∷ c ∷ d ∷ rest) = refl

-- A value of four bytes, as the code slices it.
pub value_of_four : (rest attribute value : List ℕ) → length_at rest ≡ 4 → attribute ≡ take 8 rest → value ≡ drop 4 attribute → value ≡ (attr_at rest).value
value_of_four rest attribute value four attribute-is value-is =
    value-is ∙ ap (drop 4) attribute-is ∙ four_after rest ∙ ap (λ n. take n (drop 4 rest)) (sym four)

-- A FINGERPRINT covers the bytes before it, with the length field counting through it.
pub covered_by_four : (bytes rest attribute_head : List ℕ) (n : ℕ) → length_at rest ≡ 4 → drop (length bytes - length rest) bytes ≡ rest → attribute_head ≡ take (length bytes - length rest) bytes
    → 20 + length rest ≤ length bytes → n ≡ length bytes - length rest + 8 - 20
    → with_length attribute_head n ≡ covered_text bytes (length bytes - length rest)
unfolding covered_text
covered_by_four bytes rest attribute_head n four occurs attribute_head-is within n-is =
    let offset = length bytes - length rest in
    let size : size_at rest ≡ 8 = ap (λ m. 4 + padded m) four in
    let there : size_at (drop offset bytes) ≡ 8 = ap size_at occurs ∙ size in
    let decoded : n ≡ offset - 20 + size_at (drop offset bytes) = omega (arith, n-is, there, within) in
    rw (attribute_head-is, decoded) refl
