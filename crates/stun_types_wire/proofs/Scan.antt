-- One step of the scan over the attributes of a message: what it adds to the visible attributes and to the
-- refusals.
use Rattle.std.proofs.Common.{◌≡◌, ℕ, ◌+◌, ◌-◌, ◌<◌, ◌≤◌, Bool, true, false, not, eqb, cond, bytes_eq, List, [], ◌∷◌, length, drop, Some, None, refl, sym, ap, ◌∙◌, arith, inl, inr}
use Rattle.std.specs.Prelude.{sum_by}
use Rattle.std.specs.List.{list_any}
use Rattle.std.proofs.lemmas.Bool.{cases_Bool, lt-ltb, le-ltb, eq-eqb, ne_eqb}
use Rattle.std.proofs.lemmas.List.{drop-drop, length-drop}
use Rattle.std.proofs.lemmas.List.Sums.{sum_by-cons}
use Rattle.stun_types_wire.specs.declared.error.StunParseError.TheVariants.{Truncated, FingerprintMismatch}
use Rattle.stun_types_wire.specs.Attributes.{Attr, attr_size, attr_at, kind_at, size_at, is_whole, numbered}
use Rattle.stun_types_wire.specs.Shape.{rank, may_follow, shape_prefix, last_rank, visible_after, after_visible, visible_rank}
use Rattle.stun_types_wire.specs.Registry.{fingerprint_kind}
use Rattle.stun_types_wire.specs.Covered.{covered_text}
use Rattle.stun_types_wire.specs.Fingerprints.{fingerprint_value, is_wrong_fingerprint}
use Rattle.stun_types_wire.specs.Grammar.{rest_refusal, body_refusal, fingerprint_refusal}
use Rattle.stun_types_wire.proofs.Whole.{whole_from, whole_long, not_whole, attributes_whole, attributes_short, size_whole}

-- ---- what is visible

pub visible_step : (before : ℕ) (bytes : List ℕ) → is_whole bytes ≡ true → may_follow before (rank (kind_at bytes)) ≡ true
    → visible_after before bytes ≡ attr_at bytes ∷ visible_after (rank (kind_at bytes)) (drop (size_at bytes) bytes)
unfolding visible_after shape_prefix
visible_step before bytes whole follows = rw (attributes_whole bytes whole, follows) refl

pub visible_stops : (before : ℕ) (bytes : List ℕ) → may_follow before (rank (kind_at bytes)) ≡ false → visible_after before bytes ≡ []
unfolding visible_after shape_prefix
visible_stops before bytes h =
    elim (cases_Bool (is_whole bytes)) [
      | inl w ↦ rw (attributes_whole bytes w, h) refl
      | inr w ↦ rw (attributes_short bytes w) refl
    ]

pub visible_short : (before : ℕ) (bytes : List ℕ) → is_whole bytes ≡ false → visible_after before bytes ≡ []
unfolding visible_after shape_prefix
visible_short before bytes w = rw (attributes_short bytes w) refl

-- ---- its last rank, and what is after it

pub rank_step : (before : ℕ) (bytes : List ℕ) → is_whole bytes ≡ true → may_follow before (rank (kind_at bytes)) ≡ true
    → visible_rank before bytes ≡ visible_rank (rank (kind_at bytes)) (drop (size_at bytes) bytes)
unfolding visible_rank last_rank
rank_step before bytes whole follows = rw (visible_step before bytes whole follows) refl

pub rank_stops : (before : ℕ) (bytes : List ℕ) → visible_after before bytes ≡ [] → visible_rank before bytes ≡ before
unfolding visible_rank last_rank
rank_stops before bytes h = rw h refl

pub after_step : (before : ℕ) (bytes : List ℕ) → is_whole bytes ≡ true → may_follow before (rank (kind_at bytes)) ≡ true
    → after_visible before bytes ≡ after_visible (rank (kind_at bytes)) (drop (size_at bytes) bytes)
unfolding after_visible
after_step before bytes whole follows =
    let rest = drop (size_at bytes) bytes in
    let later = visible_after (rank (kind_at bytes)) rest in
    let sizes : sum_by attr_size (attr_at bytes ∷ later) ≡ size_at bytes + sum_by attr_size later =
    sum_by-cons attr_size (attr_at bytes) later ∙ ap (λ n. n + sum_by attr_size later) (size_whole bytes whole) in
    rw (visible_step before bytes whole follows, sizes) (sym (drop-drop (sum_by attr_size later) (size_at bytes) bytes))

pub after_stops : (before : ℕ) (bytes : List ℕ) → visible_after before bytes ≡ [] → after_visible before bytes ≡ bytes
unfolding after_visible
after_stops before bytes h = rw h refl

-- ---- whether a wrong FINGERPRINT is visible

-- The offset at which the rest of some bytes begins.
abbrev pub index_of : List ℕ → List ℕ → ℕ
index_of bytes rest = length bytes - length rest

-- Whether the rest begins with a wrong FINGERPRINT.
abbrev pub is_wrong_at : List ℕ → List ℕ → Bool
is_wrong_at bytes rest = is_wrong_fingerprint bytes (index_of bytes rest, attr_at rest)

-- The visible attributes in the rest, each with its offset.
abbrev entries_of : List ℕ → ℕ → List ℕ → List (ℕ × Attr)
entries_of bytes before rest = numbered (index_of bytes rest) (visible_after before rest)

entries_step : (bytes : List ℕ) (before : ℕ) (rest : List ℕ) → is_whole rest ≡ true → may_follow before (rank (kind_at rest)) ≡ true → length rest ≤ length bytes
    → entries_of bytes before rest ≡ (index_of bytes rest, attr_at rest) ∷ entries_of bytes (rank (kind_at rest)) (drop (size_at rest) rest)
entries_step bytes before rest whole follows within =
    let later = visible_after (rank (kind_at rest)) (drop (size_at rest) rest) in
    let fits : size_at rest ≤ length rest = whole_long rest whole in
    let index : index_of bytes rest + attr_size (attr_at rest) ≡ index_of bytes (drop (size_at rest) rest) = omega (arith, size_whole rest whole, length-drop (size_at rest) rest) in
    ap (numbered (index_of bytes rest)) (visible_step before rest whole follows) ∙ ap (λ n. (index_of bytes rest, attr_at rest) ∷ numbered n later) index

fingerprint_step : (bytes : List ℕ) (before : ℕ) (rest : List ℕ) → is_whole rest ≡ true → may_follow before (rank (kind_at rest)) ≡ true → length rest ≤ length bytes → is_wrong_at bytes rest ≡ false
    → fingerprint_refusal bytes (entries_of bytes before rest) ≡ fingerprint_refusal bytes (entries_of bytes (rank (kind_at rest)) (drop (size_at rest) rest))
unfolding fingerprint_refusal
fingerprint_step bytes before rest whole follows within right =
    ap (λ (l : List (ℕ × Attr)). cond (list_any (is_wrong_fingerprint bytes) l) (Some FingerprintMismatch) None) (entries_step bytes before rest whole follows within)
    ∙ rw right refl

fingerprint_visible : (bytes : List ℕ) (before : ℕ) (rest : List ℕ) → is_whole rest ≡ true → may_follow before (rank (kind_at rest)) ≡ true → length rest ≤ length bytes → is_wrong_at bytes rest ≡ true
    → fingerprint_refusal bytes (entries_of bytes before rest) ≡ Some FingerprintMismatch
unfolding fingerprint_refusal
fingerprint_visible bytes before rest whole follows within wrong =
    ap (λ (l : List (ℕ × Attr)). cond (list_any (is_wrong_fingerprint bytes) l) (Some FingerprintMismatch) None) (entries_step bytes before rest whole follows within)
    ∙ rw wrong refl

fingerprint_none : (bytes : List ℕ) (before : ℕ) (rest : List ℕ) → visible_after before rest ≡ [] → fingerprint_refusal bytes (entries_of bytes before rest) ≡ None
unfolding fingerprint_refusal
fingerprint_none bytes before rest h = rw h refl

-- An attribute of another type is not a wrong FINGERPRINT.
pub other_is_right : (bytes rest : List ℕ) → eqb (kind_at rest) fingerprint_kind ≡ false → is_wrong_at bytes rest ≡ false
other_is_right bytes rest other = rw other refl

-- A FINGERPRINT is wrong if and only if its value is not that of what it covers.
pub fingerprint_is : (bytes rest : List ℕ) → eqb (kind_at rest) fingerprint_kind ≡ true → is_wrong_at bytes rest ≡ not (bytes_eq (attr_at rest).value (fingerprint_value (covered_text bytes (index_of bytes rest))))
fingerprint_is bytes rest is = rw is refl

-- ---- what the scan refuses

-- The invariant of the scan, for the rest of some bytes and the rank of the attribute before it.
pub record Continues (before : ℕ) (rest bytes : List ℕ) : Type 0 where
  pub within : 20 + length rest ≤ length bytes
  pub occurs : drop (index_of bytes rest) bytes ≡ rest
  pub last : visible_rank before rest ≡ visible_rank 0 (drop 20 bytes)
  pub following : after_visible before rest ≡ after_visible 0 (drop 20 bytes)
  pub fingerprint : fingerprint_refusal bytes (entries_of bytes before rest) ≡ fingerprint_refusal bytes (numbered 20 (visible_after 0 (drop 20 bytes)))

pub begins : (bytes : List ℕ) → 20 ≤ length bytes → Continues 0 (drop 20 bytes) bytes
begins bytes long =
    let index : index_of bytes (drop 20 bytes) ≡ 20 = omega (arith, length-drop 20 bytes) in
    record {
      within = omega (arith, length-drop 20 bytes);
      occurs = ap (λ n. drop n bytes) index;
      last = refl;
      following = refl;
      fingerprint = ap (λ n. fingerprint_refusal bytes (numbered n (visible_after 0 (drop 20 bytes)))) index;
    }

continues : (before : ℕ) (rest bytes : List ℕ) → Continues before rest bytes → 4 ≤ length rest → size_at rest ≤ length rest → may_follow before (rank (kind_at rest)) ≡ true → is_wrong_at bytes rest ≡ false
    → Continues (rank (kind_at rest)) (drop (size_at rest) rest) bytes
continues before rest bytes so_far four size follows right =
    let whole = whole_from rest four size in
    let within = so_far.within in
    let occurs = so_far.occurs in
    let index : index_of bytes (drop (size_at rest) rest) ≡ index_of bytes rest + size_at rest = omega (arith, length-drop (size_at rest) rest) in
    record {
      within = omega (arith, length-drop (size_at rest) rest);
      occurs = ap (λ n. drop n bytes) index ∙ sym (drop-drop (size_at rest) (index_of bytes rest) bytes) ∙ ap (drop (size_at rest)) occurs;
      last = sym (rank_step before rest whole follows) ∙ so_far.last;
      following = sym (after_step before rest whole follows) ∙ so_far.following;
      fingerprint = sym (fingerprint_step bytes before rest whole follows (omega (arith, within)) right) ∙ so_far.fingerprint;
    }

stops : (before : ℕ) (rest bytes : List ℕ) → Continues before rest bytes → visible_after before rest ≡ [] → body_refusal bytes ≡ rest_refusal before rest
unfolding body_refusal
stops before rest bytes so_far none =
    let no_fingerprint = sym so_far.fingerprint ∙ fingerprint_none bytes before rest none in
    rw (no_fingerprint, ← so_far.last, ← so_far.following, rank_stops before rest none, after_stops before rest none) refl

pub refuses_short : (before : ℕ) (rest bytes : List ℕ) → Continues before rest bytes → 0 < length rest → length rest < 4 → body_refusal bytes ≡ Some (Truncated 4 (length rest))
unfolding rest_refusal
refuses_short before rest bytes so_far pos lt =
    rw (stops before rest bytes so_far (visible_short before rest (not_whole rest (inl lt))), ne_eqb (length rest) 0 (λ e. omega arith), lt-ltb (length rest) 4 lt) refl

pub refuses_cut : (before : ℕ) (rest bytes : List ℕ) → Continues before rest bytes → 4 ≤ length rest → may_follow before (rank (kind_at rest)) ≡ true → length rest < size_at rest
    → body_refusal bytes ≡ Some (Truncated (size_at rest) (length rest))
unfolding rest_refusal
refuses_cut before rest bytes so_far four follows lt =
    rw (stops before rest bytes so_far (visible_short before rest (not_whole rest (inr lt))), ne_eqb (length rest) 0 (λ e. omega arith), le-ltb (length rest) 4 four, follows) refl

pub refuses_fingerprint : (before : ℕ) (rest bytes : List ℕ) → Continues before rest bytes → 4 ≤ length rest → may_follow before (rank (kind_at rest)) ≡ true → size_at rest ≤ length rest → is_wrong_at bytes rest ≡ true
    → body_refusal bytes ≡ Some FingerprintMismatch
unfolding body_refusal
refuses_fingerprint before rest bytes so_far four follows size wrong =
    let within = so_far.within in
    let shows = sym so_far.fingerprint ∙ fingerprint_visible bytes before rest (whole_from rest four size) follows (omega (arith, within)) wrong in
    rw shows refl

pub ends_other : (before : ℕ) (rest bytes : List ℕ) → Continues before rest bytes → 4 ≤ length rest → may_follow before (rank (kind_at rest)) ≡ false → body_refusal bytes ≡ None
unfolding rest_refusal
ends_other before rest bytes so_far four follows =
    rw (stops before rest bytes so_far (visible_stops before rest follows), ne_eqb (length rest) 0 (λ e. omega arith), le-ltb (length rest) 4 four, follows) refl

pub ends_all : (before : ℕ) (rest bytes : List ℕ) → Continues before rest bytes → length rest ≡ 0 → body_refusal bytes ≡ None
unfolding rest_refusal
ends_all before rest bytes so_far zero_left =
    rw (stops before rest bytes so_far (visible_short before rest (not_whole rest (inl (omega arith)))), eq-eqb (length rest) 0 zero_left) refl

-- One step keeps the invariant, stated with the names that the code has for the parts of the rest.
pub continues_at : (before next size kind : ℕ) (rest after bytes : List ℕ) → Continues before rest bytes → 4 ≤ length rest → kind ≡ kind_at rest → next ≡ rank kind → may_follow before next ≡ true
    → size ≡ size_at rest → size ≤ length rest → is_wrong_at bytes rest ≡ false → after ≡ drop size rest
    → Continues next after bytes
continues_at before next size kind rest after bytes so_far four kind-is next-is follows size-is long right after-is =
    let rank-is : next ≡ rank (kind_at rest) = next-is ∙ ap rank kind-is in
    let follows' : may_follow before (rank (kind_at rest)) ≡ true = rw (← rank-is) follows in
    rw (after-is, rank-is, size-is) (continues before rest bytes so_far four (rw size-is at long) follows' right)
