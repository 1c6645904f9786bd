-- Lists of password algorithms, read entry by entry.
use Rattle.std.proofs.Common.{◌≡◌, ℕ, ◌+◌, ◌<◌, ◌≤◌, Bool, true, false, drop, List, length, refl, ap, ◌∙◌, arith, inl, inr, eqb, ◌==◌}
use Rattle.std.specs.Prelude.{◌&&◌, ◌||◌, sum_by}
use Rattle.std.specs.List.{list_any}
use Rattle.std.proofs.lemmas.Bool.{cases_Bool, eqb-true, eqb-false, eq-eqb, ne_eqb}
use Rattle.std.proofs.lemmas.List.{length-drop, length-take}
use Rattle.std.proofs.lemmas.List.Sums.{sum_by-cons}
use Rattle.stun_types_message.specs.Wire.declared.algorithm.IntegrityAlgorithm.{IntegrityAlgorithm}
use Rattle.stun_types_message.specs.Wire.Attributes.{Attr, attr_at, attr_size, attributes, is_whole, kind_at, length_at, size_at}
use Rattle.stun_types_message.proofs.Wire.Whole.{attributes_short, attributes_whole, not_whole, size_whole, whole_from, whole_long}
use Rattle.stun_proto_auth.specs.SupportedAlgorithms.{number_by}
use Rattle.stun_proto_auth.specs.Lists.{is_entry_of, is_list, lists}

-- ---- the first entry

pub cut_short : (bytes : List ℕ) → length bytes < 4 → is_whole bytes ≡ false
cut_short bytes short = not_whole bytes (inl short)

pub cut_off : (bytes : List ℕ) → length bytes < size_at bytes → is_whole bytes ≡ false
cut_off bytes short = not_whole bytes (inr short)

pub is_complete : (bytes : List ℕ) → 4 ≤ length bytes → size_at bytes ≤ length bytes → is_whole bytes ≡ true
is_complete bytes four size = whole_from bytes four size

-- The cases of the first entry.
pub ruleset split = (cut_short, cut_off, is_complete)

-- After a complete entry fewer bytes are left.
pub goes_on : (left : List ℕ) → is_whole left ≡ true → length (drop (size_at left) left) < length left
goes_on left whole =
    let long = whole_long left whole in
    omega (arith, long, length-drop (size_at left) left)

-- ---- looking for an algorithm

pub none_listed : (left : List ℕ) (algorithm : IntegrityAlgorithm) → is_whole left ≡ false → lists left algorithm ≡ false
none_listed left algorithm cut = ap (list_any (is_entry_of algorithm)) (attributes_short left cut)

-- The first entry is the algorithm exactly if its header says so.
first_is : (left : List ℕ) (algorithm : IntegrityAlgorithm) → is_whole left ≡ true
    → is_entry_of algorithm (attr_at left) ≡ (kind_at left == number_by algorithm && length_at left == 0)
first_is left algorithm whole =
    let long = whole_long left whole in
    let size : length (attr_at left).value ≡ length_at left = omega (arith, long, length-take (length_at left) (drop 4 left), length-drop 4 left) in
    ap (λ (n : ℕ). kind_at left == number_by algorithm && n == 0) size

by_first : (left : List ℕ) (algorithm : IntegrityAlgorithm) → is_whole left ≡ true
    → lists left algorithm ≡ ((kind_at left == number_by algorithm && length_at left == 0) || lists (drop (size_at left) left) algorithm)
by_first left algorithm whole =
    ap (list_any (is_entry_of algorithm)) (attributes_whole left whole)
    ∙ ap (λ (b : Bool). b || lists (drop (size_at left) left) algorithm) (first_is left algorithm whole)

pub first_listed : (left : List ℕ) (algorithm : IntegrityAlgorithm) → is_whole left ≡ true
    → (kind_at left == number_by algorithm && length_at left == 0) ≡ true → lists left algorithm ≡ true
first_listed left algorithm whole same = by_first left algorithm whole ∙ ap (λ (b : Bool). b || lists (drop (size_at left) left) algorithm) same

pub other_listed : (left : List ℕ) (algorithm : IntegrityAlgorithm) → is_whole left ≡ true
    → (kind_at left == number_by algorithm && length_at left == 0) ≡ false → lists left algorithm ≡ lists (drop (size_at left) left) algorithm
other_listed left algorithm whole other = by_first left algorithm whole ∙ ap (λ (b : Bool). b || lists (drop (size_at left) left) algorithm) other

-- The cases of what the remaining bytes list.
pub ruleset looked = (none_listed, first_listed, other_listed, goes_on)

-- ---- complete entries only

pub ends_list : (left : List ℕ) → is_whole left ≡ false → is_list left ≡ (length left == 0)
ends_list left cut = ap (λ (l : List Attr). length left == sum_by attr_size l) (attributes_short left cut)

same_sums : (s m n : ℕ) → (s + m == s + n) ≡ (m == n)
same_sums s m n =
    elim (cases_Bool (m == n)) [
      | inl same ↦ let equal : m ≡ n = eqb-true m n same in eq-eqb (s + m) (s + n) (ap (λ (k : ℕ). s + k) equal) ∙ (rw same refl)
      | inr differ ↦ let apart = eqb-false m n differ in ne_eqb (s + m) (s + n) (λ sums. apart (omega (arith, sums))) ∙ (rw differ refl)
    ]

pub first_counted : (left : List ℕ) → is_whole left ≡ true → is_list left ≡ is_list (drop (size_at left) left)
first_counted left whole =
    let long = whole_long left whole in
    let rest = drop (size_at left) left in
    let own : length left ≡ size_at left + length rest = omega (arith, long, length-drop (size_at left) left) in
    let all : List Attr = attributes rest in
    let counted : sum_by attr_size (attributes left) ≡ size_at left + sum_by attr_size all =
    ap (sum_by attr_size) (attributes_whole left whole) ∙ omega (arith, sum_by-cons attr_size (attr_at left) all, size_whole left whole) in
    ap (λ (n : ℕ). length left == n) counted
    ∙ (ap (λ (n : ℕ). n == size_at left + sum_by attr_size all) own
    ∙ same_sums (size_at left) (length rest) (sum_by attr_size all))

-- The cases of whether the remaining bytes are complete entries.
pub ruleset counted = (ends_list, first_counted, goes_on)
