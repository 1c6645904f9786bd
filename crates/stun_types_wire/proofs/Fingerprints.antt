-- Which FINGERPRINT is right, and that the one that a writer adds is.
use Rattle.std.proofs.Common.{◌≡◌, ℕ, ◌+◌, ◌-◌, ◌^◌, ◌<◌, false, eqb, bytes_eq, List, [], ◌∷◌, ◌++◌, length, None, refl, sym, ap, subst, ◌∙◌, arith, inl, inr}
use Rattle.std.specs.Prelude.{sum_by}
use Rattle.std.specs.List.{list_any}
use Rattle.std.proofs.lemmas.Bool.{cases_Bool, eq-eqb, eqb-true}
use Rattle.std.proofs.lemmas.Slice.Eq.{bytes_eq-Decides}
use Rattle.stun_types_wire.specs.Attributes.{Attr, attr_size, numbered}
use Rattle.stun_types_wire.specs.Registry.{fingerprint_kind}
use Rattle.stun_types_wire.specs.Covered.{covered_text, with_length}
use Rattle.stun_types_wire.specs.Fingerprints.{fingerprint_of, fingerprint_value, is_wrong_fingerprint, shows_fingerprint}
use Rattle.stun_types_wire.specs.Grammar.{fingerprint_refusal}
use Rattle.stun_types_wire.specs.Text.{message_text}
use Rattle.stun_types_wire.specs.Fingerprinted.{AreRightFingerprints, EndsWithFingerprint, HasOwnFingerprint, IsRightFingerprint}
use Rattle.stun_types_wire.proofs.Ends.{covered_at, numbered_both, text_length}

-- ---- what the refusal says

wrong_from : (bytes : List ℕ) (entry : ℕ × Attr) → IsRightFingerprint bytes entry → is_wrong_fingerprint bytes entry ≡ false
wrong_from bytes entry h =
    elim (cases_Bool (eqb entry.1.kind fingerprint_kind)) [
      | inl is ↦ rw (is, (bytes_eq-Decides entry.1.value (fingerprint_value (covered_text bytes entry.0))).1 (h (eqb-true entry.1.kind fingerprint_kind is))) refl
      | inr other ↦ rw other refl
    ]

right_from : (bytes : List ℕ) (entry : ℕ × Attr) → is_wrong_fingerprint bytes entry ≡ false → IsRightFingerprint bytes entry
right_from bytes entry h is =
    elim (cases_Bool (bytes_eq entry.1.value (fingerprint_value (covered_text bytes entry.0)))) [
      | inl same ↦ (bytes_eq-Decides entry.1.value (fingerprint_value (covered_text bytes entry.0))).0 same
      | inr other ↦ absurd (let p = rw (eq-eqb entry.1.kind fingerprint_kind is, other) at h in cc)
    ]

none_wrong : (bytes : List ℕ) (entries : List (ℕ × Attr)) → AreRightFingerprints bytes entries → list_any (is_wrong_fingerprint bytes) entries ≡ false
none_wrong bytes [] h = refl
none_wrong bytes (e ∷ entries) h = rw (wrong_from bytes e h.0) (none_wrong bytes entries h.1)

all_right : (bytes : List ℕ) (entries : List (ℕ × Attr)) → list_any (is_wrong_fingerprint bytes) entries ≡ false → AreRightFingerprints bytes entries
all_right bytes [] h = tt
all_right bytes (e ∷ entries) h =
    elim (cases_Bool (is_wrong_fingerprint bytes e)) [
      | inl wrong ↦ absurd (let p = rw wrong at h in cc)
      | inr right ↦ (right_from bytes e right, all_right bytes entries (let p = rw right at h in p))
    ]

pub not_refused : (bytes : List ℕ) (entries : List (ℕ × Attr)) → AreRightFingerprints bytes entries → fingerprint_refusal bytes entries ≡ None
unfolding fingerprint_refusal
not_refused bytes entries h = rw (none_wrong bytes entries h) refl

pub right_where_not_refused : (bytes : List ℕ) (entries : List (ℕ × Attr)) → fingerprint_refusal bytes entries ≡ None → AreRightFingerprints bytes entries
unfolding fingerprint_refusal
right_where_not_refused bytes entries h =
    elim (cases_Bool (list_any (is_wrong_fingerprint bytes) entries)) [
      | inl wrong ↦ absurd (let p = rw wrong at h in cc)
      | inr right ↦ all_right bytes entries right
    ]

-- ---- what a writer leaves

other_kinds : (bytes : List ℕ) (offset : ℕ) (all : List Attr) → shows_fingerprint all ≡ false → AreRightFingerprints bytes (numbered offset all)
other_kinds bytes offset [] h = tt
other_kinds bytes offset (a ∷ all) h =
    elim (cases_Bool (eqb a.kind fingerprint_kind)) [
      | inl is ↦ absurd (let p = rw is at h in cc)
      | inr other ↦ (
        λ is. absurd (let p = eq-eqb a.kind fingerprint_kind is in let q = sym p ∙ other in cc),
        other_kinds bytes (offset + attr_size a) all (let p = rw other at h in p),
      )
    ]

both_right : (bytes : List ℕ) (xs ys : List (ℕ × Attr)) → AreRightFingerprints bytes xs → AreRightFingerprints bytes ys → AreRightFingerprints bytes (xs ++ ys)
both_right bytes [] ys h k = k
both_right bytes (x ∷ xs) ys h k = (h.0, both_right bytes xs ys h.1 k)

pub fingerprint_size : (bytes : List ℕ) → length (fingerprint_of bytes).value ≡ 4
unfolding fingerprint_of fingerprint_value
fingerprint_size bytes = refl

fingerprint_covers : (bytes : List ℕ) → (fingerprint_of bytes).value ≡ fingerprint_value (with_length bytes (length bytes - 20 + attr_size (fingerprint_of bytes)))
unfolding fingerprint_of fingerprint_value
fingerprint_covers bytes = refl

last_right : (kind number : ℕ) (all : List Attr) → EndsWithFingerprint kind number all → AreRightFingerprints (message_text kind number all) (numbered 20 all)
last_right kind number all h =
    let before = message_text kind number h.before in
    let own = fingerprint_of before in
    let bytes = message_text kind number (h.before ++ own ∷ []) in
    let index : 20 + sum_by attr_size h.before ≡ length before = omega (arith, text_length kind number h.before) in
    let short : length own.value < 2 ^ 16 = omega (arith, fingerprint_size before) in
    let covers : own.value ≡ fingerprint_value (covered_text bytes (length before)) = fingerprint_covers before ∙ ap fingerprint_value (sym (covered_at kind number h.before own [] short)) in
    let there : AreRightFingerprints bytes ((20 + sum_by attr_size h.before, own) ∷ []) = subst (λ n. AreRightFingerprints bytes ((n, own) ∷ [])) (sym index) ((λ _. covers), tt) in
    let whole : AreRightFingerprints bytes (numbered 20 (h.before ++ own ∷ [])) =
    subst (AreRightFingerprints bytes) (sym (numbered_both 20 h.before (own ∷ []))) (both_right bytes (numbered 20 h.before) ((20 + sum_by attr_size h.before, own) ∷ []) (other_kinds bytes 20 h.before h.none) there) in
    subst (λ (l : List Attr). AreRightFingerprints (message_text kind number l) (numbered 20 l)) (sym h.parts) whole

pub written_right : (kind number : ℕ) (all : List Attr) → HasOwnFingerprint kind number all → AreRightFingerprints (message_text kind number all) (numbered 20 all)
written_right kind number all (inl none) = other_kinds (message_text kind number all) 20 all none
written_right kind number all (inr ends) = last_right kind number all ends
