-- The visible attributes are in the shape, and are the longest prefix that is.
use Rattle.std.proofs.Common.{◌≡◌, ℕ, ◌≤◌, true, eqb, List, [], ◌∷◌, ◌++◌, length, refl, sym, ap, subst, ◌∙◌, arith, inl, inr}
use Rattle.std.specs.List.{AllByRecursion}
use Rattle.std.proofs.lemmas.Bool.{cases_Bool, eqb-true}
use Rattle.stun_types_wire.specs.Attributes.{Attr}
use Rattle.stun_types_wire.specs.Shape.{rank, may_follow, shape_prefix, IsOptional, IsShape, kinds_of, IsLongestPrefix}
use Rattle.stun_types_wire.specs.Registry.{integrity_kind, sha256_kind, sha512_kind, fingerprint_kind}

-- Each type may follow the one before it, and the first may follow a type of rank `before`.
abbrev pub Follows : ℕ → List ℕ → Type 0
Follows before [] = Unit {0}
Follows before (k ∷ kinds) = (may_follow before (rank k) ≡ true) × Follows (rank k) kinds

-- A type that is present at most once may come before types of higher ranks.
optional_follow : (before kind : ℕ) (one rest : List ℕ) → may_follow before (rank kind) ≡ true → IsOptional kind one → Follows before rest → Follows (rank kind) rest → Follows before (one ++ rest)
optional_follow before kind one rest may h before-rest own-rest = elim h [ inl is ↦ rw is before-rest | inr is ↦ rw is (may, own-rest) ]

-- FINGERPRINT may follow any type of lower rank.
fingerprint_follow : (before : ℕ) (f : List ℕ) → may_follow before 4 ≡ true → IsOptional fingerprint_kind f → Follows before f
fingerprint_follow before f may h = elim h [ inl is ↦ rw is tt | inr is ↦ rw is (may, tt) ]

sha512_follow : (before : ℕ) (l f : List ℕ) → may_follow before 3 ≡ true → may_follow before 4 ≡ true → IsOptional sha512_kind l → IsOptional fingerprint_kind f → Follows before (l ++ f)
sha512_follow before l f third fourth p q = optional_follow before sha512_kind l f third p (fingerprint_follow before f fourth q) (fingerprint_follow 3 f refl q)

sha256_follow : (before : ℕ) (s l f : List ℕ) → may_follow before 2 ≡ true → may_follow before 3 ≡ true → may_follow before 4 ≡ true → IsOptional sha256_kind s → IsOptional sha512_kind l → IsOptional fingerprint_kind f → Follows before (s ++ (l ++ f))
sha256_follow before s l f second third fourth p q r =
    optional_follow before sha256_kind s (l ++ f) second p (sha512_follow before l f third fourth q r) (sha512_follow 2 l f refl refl q r)

ending_follow : (m s l f : List ℕ) → IsOptional integrity_kind m → IsOptional sha256_kind s → IsOptional sha512_kind l → IsOptional fingerprint_kind f → Follows 0 (m ++ (s ++ (l ++ f)))
ending_follow m s l f p q r t =
    optional_follow 0 integrity_kind m (s ++ (l ++ f)) refl p (sha256_follow 0 s l f refl refl refl q r t) (sha256_follow 1 s l f refl refl refl q r t)

ordinary_follow : (o rest : List ℕ) → AllByRecursion (λ k. rank k ≡ 0) o → Follows 0 rest → Follows 0 (o ++ rest)
ordinary_follow [] rest h p = p
ordinary_follow (k ∷ o) rest h p = rw h.0 (refl, ordinary_follow o rest h.1 p)

-- In a list that is in the shape, each type may follow the one before it.
pub shape_follows : (kinds : List ℕ) → IsShape kinds → Follows 0 kinds
shape_follows kinds h = subst (λ (l : List ℕ). Follows 0 l) (sym h.parts)
    (ordinary_follow h.ordinary (h.integrity ++ (h.sha256 ++ (h.sha512 ++ h.fingerprint))) h.each (ending_follow h.integrity h.sha256 h.sha512 h.fingerprint h.first h.second h.third h.fourth))

-- ---- the other way: where each type may follow the one before, the list is in the shape

-- The cases of a type, by its rank.
pub data Kind (kind : ℕ) : Type 0 where
  ordinary_is : rank kind ≡ 0 → Kind kind
  integrity_is : kind ≡ integrity_kind → rank kind ≡ 1 → Kind kind
  sha256_is : kind ≡ sha256_kind → rank kind ≡ 2 → Kind kind
  sha512_is : kind ≡ sha512_kind → rank kind ≡ 3 → Kind kind
  fingerprint_is : kind ≡ fingerprint_kind → rank kind ≡ 4 → Kind kind

kind_cases : (kind : ℕ) → Kind kind
kind_cases kind =
    elim (cases_Bool (eqb kind integrity_kind)) [
      | inl m ↦ integrity_is (eqb-true kind integrity_kind m) (rw m refl)
      | inr m ↦ elim (cases_Bool (eqb kind sha256_kind)) [
        | inl s ↦ sha256_is (eqb-true kind sha256_kind s) (rw (m, s) refl)
        | inr s ↦ elim (cases_Bool (eqb kind sha512_kind)) [
          | inl l ↦ sha512_is (eqb-true kind sha512_kind l) (rw (m, s, l) refl)
          | inr l ↦ elim (cases_Bool (eqb kind fingerprint_kind)) [
            | inl f ↦ fingerprint_is (eqb-true kind fingerprint_kind f) (rw (m, s, l, f) refl)
            | inr f ↦ ordinary_is (rw (m, s, l, f) refl)
          ]
        ]
      ]
    ]

-- `Follows` for a list whose first type has rank r.
at_rank : (before r : ℕ) (kinds : List ℕ) (k : ℕ) → rank k ≡ r → Follows before (k ∷ kinds) → (may_follow before r ≡ true) × Follows r kinds
at_rank before r kinds k e h = let P : ℕ → Type 0 = λ n. (may_follow before n ≡ true) × Follows n kinds in subst P e h

nothing_after_fingerprint : (kinds : List ℕ) → Follows 4 kinds → kinds ≡ []
nothing_after_fingerprint [] h = refl
nothing_after_fingerprint (k ∷ kinds) h =
    elim (kind_cases k) [
      | ordinary_is e ↦ absurd (let p = (at_rank 4 0 kinds k e h).0 in cc)
      | integrity_is _ e ↦ absurd (let p = (at_rank 4 1 kinds k e h).0 in cc)
      | sha256_is _ e ↦ absurd (let p = (at_rank 4 2 kinds k e h).0 in cc)
      | sha512_is _ e ↦ absurd (let p = (at_rank 4 3 kinds k e h).0 in cc)
      | fingerprint_is _ e ↦ absurd (let p = (at_rank 4 4 kinds k e h).0 in cc)
    ]

fingerprint_at_most : (kinds : List ℕ) → Follows 3 kinds → IsOptional fingerprint_kind kinds
fingerprint_at_most [] h = inl refl
fingerprint_at_most (k ∷ kinds) h =
    elim (kind_cases k) [
      | ordinary_is e ↦ absurd (let p = (at_rank 3 0 kinds k e h).0 in cc)
      | integrity_is _ e ↦ absurd (let p = (at_rank 3 1 kinds k e h).0 in cc)
      | sha256_is _ e ↦ absurd (let p = (at_rank 3 2 kinds k e h).0 in cc)
      | sha512_is _ e ↦ absurd (let p = (at_rank 3 3 kinds k e h).0 in cc)
      | fingerprint_is is e ↦ inr (rw (is, nothing_after_fingerprint kinds (at_rank 3 4 kinds k e h).1) refl)
    ]

-- MESSAGE-INTEGRITY-SHA512 and FINGERPRINT, each at most once, in this order.
pub record LastEnds (kinds : List ℕ) : Type 0 where
  pub sha512 : List ℕ
  pub fingerprint : List ℕ
  pub parts : kinds ≡ sha512 ++ fingerprint
  pub third : IsOptional sha512_kind sha512
  pub fourth : IsOptional fingerprint_kind fingerprint

-- MESSAGE-INTEGRITY-SHA256 at most once, followed by the types of `LastEnds`.
pub record Ends (kinds : List ℕ) : Type 0 where
  pub sha256 : List ℕ
  pub rest : List ℕ
  pub parts : kinds ≡ sha256 ++ rest
  pub second : IsOptional sha256_kind sha256
  pub last : LastEnds rest

-- One type is a list that has this type at most once.
one_optional : (kind k : ℕ) → k ≡ kind → IsOptional kind (k ∷ [])
one_optional kind k is = inr (rw is refl)

none_last : LastEnds []
none_last = record { sha512 = []; fingerprint = []; parts = refl; third = inl refl; fourth = inl refl }

-- FINGERPRINT, followed by what may follow it, satisfies `LastEnds`.
marked_last : (kinds : List ℕ) (k : ℕ) → k ≡ fingerprint_kind → Follows 4 kinds → LastEnds (k ∷ kinds)
marked_last kinds k is h = record { sha512 = []; fingerprint = k ∷ kinds; parts = refl; third = inl refl; fourth = inr (rw (is, nothing_after_fingerprint kinds h) refl) }

-- MESSAGE-INTEGRITY-SHA512, followed by what may follow it, satisfies `LastEnds`.
signed_last : (kinds : List ℕ) (k : ℕ) → k ≡ sha512_kind → Follows 3 kinds → LastEnds (k ∷ kinds)
signed_last kinds k is h = record { sha512 = k ∷ []; fingerprint = kinds; parts = refl; third = one_optional sha512_kind k is; fourth = fingerprint_at_most kinds h }

ends_after_sha256 : (kinds : List ℕ) → Follows 2 kinds → LastEnds kinds
ends_after_sha256 [] h = none_last
ends_after_sha256 (k ∷ kinds) h =
    elim (kind_cases k) [
      | ordinary_is e ↦ absurd (let p = (at_rank 2 0 kinds k e h).0 in cc)
      | integrity_is _ e ↦ absurd (let p = (at_rank 2 1 kinds k e h).0 in cc)
      | sha256_is _ e ↦ absurd (let p = (at_rank 2 2 kinds k e h).0 in cc)
      | sha512_is is e ↦ signed_last kinds k is (at_rank 2 3 kinds k e h).1
      | fingerprint_is is e ↦ marked_last kinds k is (at_rank 2 4 kinds k e h).1
    ]

-- The types of `LastEnds` satisfy `Ends`, without MESSAGE-INTEGRITY-SHA256.
only_last : (kinds : List ℕ) → LastEnds kinds → Ends kinds
only_last kinds last = record { sha256 = []; rest = kinds; parts = refl; second = inl refl; last = last }

-- MESSAGE-INTEGRITY-SHA256, followed by what may follow it, satisfies `Ends`.
sha256_first : (kinds : List ℕ) (k : ℕ) → k ≡ sha256_kind → Follows 2 kinds → Ends (k ∷ kinds)
sha256_first kinds k is h = record { sha256 = k ∷ []; rest = kinds; parts = refl; second = one_optional sha256_kind k is; last = ends_after_sha256 kinds h }

ends_after : (kinds : List ℕ) → Follows 1 kinds → Ends kinds
ends_after [] h = only_last [] none_last
ends_after (k ∷ kinds) h =
    elim (kind_cases k) [
      | ordinary_is e ↦ absurd (let p = (at_rank 1 0 kinds k e h).0 in cc)
      | integrity_is _ e ↦ absurd (let p = (at_rank 1 1 kinds k e h).0 in cc)
      | sha256_is is e ↦ sha256_first kinds k is (at_rank 1 2 kinds k e h).1
      | sha512_is is e ↦ only_last (k ∷ kinds) (signed_last kinds k is (at_rank 1 3 kinds k e h).1)
      | fingerprint_is is e ↦ only_last (k ∷ kinds) (marked_last kinds k is (at_rank 1 4 kinds k e h).1)
    ]

-- MESSAGE-INTEGRITY at most once, followed by the types of `Ends`, is in the shape.
with_ends : (kinds integrity rest : List ℕ) → kinds ≡ integrity ++ rest → IsOptional integrity_kind integrity → Ends rest → IsShape kinds
with_ends kinds integrity rest is first ends = record {
  ordinary = [];
  integrity = integrity;
  sha256 = ends.sha256;
  sha512 = ends.last.sha512;
  fingerprint = ends.last.fingerprint;
  parts = is ∙ ap (λ (l : List ℕ). integrity ++ l) (ends.parts ∙ ap (λ (l : List ℕ). ends.sha256 ++ l) ends.last.parts);
  each = tt;
  first = first;
  second = ends.second;
  third = ends.last.third;
  fourth = ends.last.fourth;
}

more_ordinary : (k : ℕ) (kinds : List ℕ) → rank k ≡ 0 → IsShape kinds → IsShape (k ∷ kinds)
more_ordinary k kinds e h = record {
  ordinary = k ∷ h.ordinary;
  integrity = h.integrity;
  sha256 = h.sha256;
  sha512 = h.sha512;
  fingerprint = h.fingerprint;
  parts = ap (λ (l : List ℕ). k ∷ l) h.parts;
  each = (e, h.each);
  first = h.first;
  second = h.second;
  third = h.third;
  fourth = h.fourth;
}

pub follows_shape : (kinds : List ℕ) → Follows 0 kinds → IsShape kinds
follows_shape [] h = with_ends [] [] [] refl (inl refl) (only_last [] none_last)
follows_shape (k ∷ kinds) h =
    elim (kind_cases k) [
      | ordinary_is e ↦ more_ordinary k kinds e (follows_shape kinds (at_rank 0 0 kinds k e h).1)
      | integrity_is is e ↦ with_ends (k ∷ kinds) (k ∷ []) kinds refl (one_optional integrity_kind k is) (ends_after kinds (at_rank 0 1 kinds k e h).1)
      | sha256_is is e ↦ with_ends (k ∷ kinds) [] (k ∷ kinds) refl (inl refl) (sha256_first kinds k is (at_rank 0 2 kinds k e h).1)
      | sha512_is is e ↦ with_ends (k ∷ kinds) [] (k ∷ kinds) refl (inl refl) (only_last (k ∷ kinds) (signed_last kinds k is (at_rank 0 3 kinds k e h).1))
      | fingerprint_is is e ↦ with_ends (k ∷ kinds) [] (k ∷ kinds) refl (inl refl) (only_last (k ∷ kinds) (marked_last kinds k is (at_rank 0 4 kinds k e h).1))
    ]

-- ---- the longest head

pub head_follows : (before : ℕ) (all : List Attr) → Follows before (kinds_of (shape_prefix before all))
unfolding shape_prefix
head_follows before [] = tt
head_follows before (a ∷ all) =
    elim (cases_Bool (may_follow before (rank a.kind))) [
      | inl h ↦ rw h (h, head_follows (rank a.kind) all)
      | inr h ↦ rw h tt
    ]

no_longer : (before : ℕ) (other rest : List Attr) → Follows before (kinds_of other) → length other ≤ length (shape_prefix before (other ++ rest))
unfolding shape_prefix
no_longer before [] rest h = omega arith
no_longer before (a ∷ other) rest h = rw h.0 (omega (arith, no_longer (rank a.kind) other rest h.1))

head_parts : (before : ℕ) (all : List Attr) → (following : List Attr) × (all ≡ shape_prefix before all ++ following)
unfolding shape_prefix
head_parts before [] = ([], refl)
head_parts before (a ∷ all) =
    elim (cases_Bool (may_follow before (rank a.kind))) [
      | inl h ↦ let p = head_parts (rank a.kind) all in rw h (p.0, ap (λ (l : List Attr). a ∷ l) p.1)
      | inr h ↦ rw h (a ∷ all, refl)
    ]

pub head_is_longest : (all : List Attr) → IsLongestPrefix (shape_prefix 0 all) all
head_is_longest all = record {
  following = (head_parts 0 all).0;
  parts = (head_parts 0 all).1;
  shape = follows_shape (kinds_of (shape_prefix 0 all)) (head_follows 0 all);
  longest = λ other rest e h. subst (λ (l : List Attr). length other ≤ length (shape_prefix 0 l)) (sym e) (no_longer 0 other rest (shape_follows (kinds_of other) h));
}
