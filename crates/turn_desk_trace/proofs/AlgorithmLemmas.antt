-- Words that name algorithms, and the algorithms that they name.
use Rattle.std.specs.Prelude.{IfSome, MatchOption}
use Rattle.std.proofs.Common.{◌≡◌, ℕ, ◌+◌, ◌<◌, eqb, Bool, if◌then◌else◌, List, [], ◌∷◌, ◌++◌, length, map, Option, Some, None, Bor, refl, sym, ap, ◌∙◌, subst, arith}
use Rattle.std.specs.List.{IsDistinct, after_first, before_first, position_or_len, slice_split}
use Rattle.std.proofs.lemmas.List.{append-nil, length-drop}
use Rattle.std.proofs.lemmas.List.Splits.{slice_split_first, slice_split_none}
use Rattle.std.proofs.lemmas.List.Sums.{fails_before_first}
use Rattle.stun_proto_auth.specs.SupportedAlgorithms.{is_same_algorithm}
use Rattle.stun_types_wire.specs.declared.algorithm.IntegrityAlgorithm.{IntegrityAlgorithm}
use Rattle.stun_types_wire.specs.declared.algorithm.IntegrityAlgorithm.TheVariants.{Sha1, Sha256, Sha512}
use Rattle.stun_proto_auth.proofs.Adding.{not_before}
use Rattle.stun_proto_auth.proofs.Keeping.{more_distinct}
use Rattle.turn_desk_trace.specs.Algorithms.{AreAlgorithms, IsAnother, algorithm_word}

abbrev is_comma : ℕ → Bool
is_comma b = eqb b 44

-- The algorithm of a word.
reported : List ℕ → IntegrityAlgorithm
reported (s ∷ h ∷ a ∷ digit ∷ rest) = if eqb digit 49 then Sha1 else if eqb digit 50 then Sha256 else Sha512
reported word = Sha1

decoded_again : (a : IntegrityAlgorithm) → reported (algorithm_word a) ≡ a
unfolding reported
decoded_again Sha1 = refl
decoded_again Sha256 = refl
decoded_again Sha512 = refl

-- Two algorithms with equal words are equal.
own_word : (a b : IntegrityAlgorithm) → algorithm_word a ≡ algorithm_word b → a ≡ b
own_word a b same = sym (decoded_again a) ∙ ap reported same ∙ decoded_again b

first_same : {A : Type 0} {x y : A} {xs ys : List A} → x ∷ xs ≡ y ∷ ys → x ≡ y
first_same p = Prim.cc p

rest_same : {A : Type 0} {x y : A} {xs ys : List A} → x ∷ xs ≡ y ∷ ys → xs ≡ ys
rest_same p = Prim.cc p

-- If the words of some algorithms begin with the words of others, the algorithms begin with those others.
record Begins (before : List IntegrityAlgorithm) (name : List ℕ) (all : List IntegrityAlgorithm) : Type 0 where
  algorithm : IntegrityAlgorithm
  more : List IntegrityAlgorithm
  named : name ≡ algorithm_word algorithm
  whole : before ++ algorithm ∷ more ≡ all

begins : (before : List IntegrityAlgorithm) (name : List ℕ) (rest : List (List ℕ)) (all : List IntegrityAlgorithm) → map algorithm_word before ++ name ∷ rest ≡ map algorithm_word all → Begins before name all
begins [] name rest [] is = absurd (Prim.cc is)
begins [] name rest (a ∷ all) is = record { algorithm = a; more = all; named = first_same is; whole = refl }
begins (b ∷ before) name rest [] is = absurd (Prim.cc is)
begins (b ∷ before) name rest (a ∷ all) is =
    let following = begins before name rest all (rest_same is) in
    let same : b ≡ a = own_word b a (first_same is) in
    record {
      algorithm = following.algorithm;
      more = following.more;
      named = following.named;
      whole = ap (λ (x : IntegrityAlgorithm). x ∷ before ++ following.algorithm ∷ following.more) same ∙ ap (λ (l : List IntegrityAlgorithm). a ∷ l) following.whole;
    }

-- If a name is not that of a new algorithm, no list of algorithms has these names.
pub none_named : (before : List IntegrityAlgorithm) (name : List ℕ) (rest words : List (List ℕ)) → map algorithm_word before ++ name ∷ rest ≡ words → ((all : List IntegrityAlgorithm) → IsAnother before name all → ⊥) → (all : List IntegrityAlgorithm) → AreAlgorithms words all → ⊥
none_named before name rest words parts none all are =
    let b = begins before name rest all (parts ∙ are.0) in
    none (before ++ b.algorithm ∷ []) (record {
      algorithm = b.algorithm;
      named = b.named;
      new = not_before before b.algorithm b.more (subst (λ (l : List IntegrityAlgorithm). IsDistinct is_same_algorithm l) (sym b.whole) are.1);
      whole = refl;
    })

words_both : (one two : List IntegrityAlgorithm) → map algorithm_word (one ++ two) ≡ map algorithm_word one ++ map algorithm_word two
words_both [] two = refl
words_both (a ∷ one) two = ap (λ (l : List (List ℕ)). algorithm_word a ∷ l) (words_both one two)

nested : (one two three : List (List ℕ)) → (one ++ two) ++ three ≡ one ++ (two ++ three)
nested [] two three = refl
nested (w ∷ one) two three = ap (λ (l : List (List ℕ)). w ∷ l) (nested one two three)

-- One more word gives one more algorithm.
pub words_and : (before all : List IntegrityAlgorithm) (name : List ℕ) (rest words : List (List ℕ)) → map algorithm_word before ++ name ∷ rest ≡ words → IsAnother before name all → map algorithm_word all ++ rest ≡ words
words_and before all name rest words parts next =
    ap (λ (l : List IntegrityAlgorithm). map algorithm_word l ++ rest) next.whole
    ∙ (ap (λ (l : List (List ℕ)). l ++ rest) (words_both before (next.algorithm ∷ []))
    ∙ (nested (map algorithm_word before) (algorithm_word next.algorithm ∷ []) rest
    ∙ (ap (λ (w : List ℕ). map algorithm_word before ++ w ∷ rest) (sym next.named) ∙ parts)))

pub still_distinct : (before all : List IntegrityAlgorithm) (name : List ℕ) → IsDistinct is_same_algorithm before → IsAnother before name all → IsDistinct is_same_algorithm all
still_distinct before all name d next = subst (λ (l : List IntegrityAlgorithm). IsDistinct is_same_algorithm l) (sym next.whole) (more_distinct before next.algorithm d next.new)

-- ---- chunks

none_cut : (s : List ℕ) → position_or_len is_comma s ≡ length s → slice_split is_comma s ≡ s ∷ []
none_cut s whole = slice_split_none is_comma s (λ k e m. fails_before_first is_comma s k e (omega (arith, whole, m)))

pub cut_chunks : (s : List ℕ) (r : Option (Bor (List ℕ) × Bor (List ℕ)))
    → MatchOption r (position_or_len is_comma s ≡ length s) (λ x. (x.0.now ≡ before_first is_comma s) × (x.1.now ≡ after_first is_comma s) × (position_or_len is_comma s < length s))
    → MatchOption r (slice_split is_comma s ≡ s ∷ []) (λ x. slice_split is_comma s ≡ x.0.now ∷ slice_split is_comma x.1.now)
cut_chunks s None is = none_cut s is
cut_chunks s (Some x) is =
    slice_split_first is_comma s 0 is.2 ∙ (ap (λ (l : List ℕ). l ∷ slice_split is_comma (after_first is_comma s)) (sym is.0) ∙ ap (λ (l : List ℕ). x.0.now ∷ slice_split is_comma l) (sym is.1))

pub cut_shorter : (s : List ℕ) (r : Option (Bor (List ℕ) × Bor (List ℕ)))
    → MatchOption r (position_or_len is_comma s ≡ length s) (λ x. (x.0.now ≡ before_first is_comma s) × (x.1.now ≡ after_first is_comma s) × (position_or_len is_comma s < length s))
    → IfSome r (λ x. length x.1.now < length s)
cut_shorter s None is = tt
cut_shorter s (Some x) is =
    let within = is.2 in
    let size = length-drop (position_or_len is_comma s + 1) s in
    subst (λ (l : List ℕ). length l < length s) (sym is.1) (omega (arith, size, within))

-- The last name decides.
pub by_last : (before : List IntegrityAlgorithm) (name : List ℕ) (words : List (List ℕ)) (result : Option (List IntegrityAlgorithm)) → map algorithm_word before ++ name ∷ [] ≡ words → IsDistinct is_same_algorithm before
    → MatchOption result ((all : List IntegrityAlgorithm) → ¬ (IsAnother before name all)) (λ all. IsAnother before name all)
    → MatchOption result ((all : List IntegrityAlgorithm) → ¬ (AreAlgorithms words all)) (AreAlgorithms words)
by_last before name words None parts distinct none = none_named before name [] words parts none
by_last before name words (Some all) parts distinct next =
    (sym (sym (append-nil (map algorithm_word all)) ∙ words_and before all name [] words parts next), still_distinct before all name distinct next)
