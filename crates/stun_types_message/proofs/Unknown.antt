-- The list of unknown types has each of them once, in the order in which they first appear.
use Rattle.std.specs.Prelude.{◌≡◌, ℕ, Bool, true, false, not, ◌&&◌, eqb, ◌==◌, List, [], ◌∷◌, filter}
use Rattle.std.specs.List.{AllByRecursion, IsDistinct}
use Rattle.std.proofs.Common.{refl, sym, ap, ◌∙◌, inl, inr}
use Rattle.std.proofs.lemmas.Bool.{cases_Bool, eqb-true}
use Rattle.stun_types_attributes.specs.Wire.Attributes.{Attr}
use Rattle.stun_types_attributes.specs.Wire.Shape.{kinds_of}
use Rattle.stun_types_add.specs.Write.Adding.{has_kind}
use Rattle.stun_types_message.specs.Objections.{IsInOrder, IsVisibleBefore, IsUnknownList, each_once, is_unknown, unknown_kinds}

-- ---- facts on each element

all-map : (P Q : ℕ → Type 0) → ((n : ℕ) → P n → Q n) → (ns : List ℕ) → AllByRecursion P ns → AllByRecursion Q ns
all-map P Q f [] h = tt
all-map P Q f (n ∷ ns) h = (f n h.0, all-map P Q f ns h.1)

all-every : (P : ℕ → Type 0) → ((n : ℕ) → P n) → (ns : List ℕ) → AllByRecursion P ns
all-every P f [] = tt
all-every P f (n ∷ ns) = (f n, all-every P f ns)

all-filter : (P : ℕ → Type 0) (p : ℕ → Bool) (ns : List ℕ) → AllByRecursion P ns → AllByRecursion P (filter p ns)
all-filter P p [] h = tt
all-filter P p (n ∷ ns) h =
    elim (cases_Bool (p n)) [
      | inl is ↦ rw is (h.0, all-filter P p ns h.1)
      | inr is ↦ rw is (all-filter P p ns h.1)
    ]

all-once : (P : ℕ → Type 0) (ns : List ℕ) → AllByRecursion P ns → AllByRecursion P (each_once ns)
unfolding each_once
all-once P [] h = tt
all-once P (n ∷ ns) h = (h.0, all-filter P (λ m. not (n == m)) (each_once ns) (all-once P ns h.1))

filter-passes : (p : ℕ → Bool) (ns : List ℕ) → AllByRecursion (λ n. p n ≡ true) (filter p ns)
filter-passes p [] = tt
filter-passes p (n ∷ ns) =
    elim (cases_Bool (p n)) [
      | inl is ↦ rw is (is, filter-passes p ns)
      | inr is ↦ rw is (filter-passes p ns)
    ]

-- ---- each once

not-true : (b : Bool) → not b ≡ true → b ≡ false
not-true true h = absurd cc
not-true false h = refl

others : (n : ℕ) (ns : List ℕ) → AllByRecursion (λ m. eqb n m ≡ false) (filter (λ m. not (n == m)) ns)
others n ns = all-map (λ m. not (n == m) ≡ true) (λ m. eqb n m ≡ false) (λ m h. not-true (eqb n m) h) (filter (λ m. not (n == m)) ns) (filter-passes (λ m. not (n == m)) ns)

distinct-filter : (p : ℕ → Bool) (ns : List ℕ) → IsDistinct eqb ns → IsDistinct eqb (filter p ns)
unfolding IsDistinct
distinct-filter p [] h = tt
distinct-filter p (n ∷ ns) h =
    elim (cases_Bool (p n)) [
      | inl is ↦ rw is (all-filter (λ m. eqb n m ≡ false) p ns h.0, distinct-filter p ns h.1)
      | inr is ↦ rw is (distinct-filter p ns h.1)
    ]

distinct-once : (ns : List ℕ) → IsDistinct eqb (each_once ns)
unfolding IsDistinct each_once
distinct-once [] = tt
distinct-once (n ∷ ns) = (others n (each_once ns), distinct-filter (λ m. not (n == m)) (each_once ns) (distinct-once ns))

-- ---- which are listed

has-filter : (k : ℕ) (p : ℕ → Bool) (ns : List ℕ) → has_kind k (filter p ns) ≡ (p k && has_kind k ns)
has-filter k p [] =
    elim (cases_Bool (p k)) [
      | inl is ↦ rw is refl
      | inr is ↦ rw is refl
    ]
has-filter k p (n ∷ ns) =
    let rest = has-filter k p ns in
    elim (cases_Bool (eqb n k)) [
      | inl same ↦
          let pass : p n ≡ p k = ap p (eqb-true n k same) in
          elim (cases_Bool (p k)) [
            | inl is ↦ rw (pass, is, same) refl
            | inr is ↦ rw (pass, is) (rest ∙ ap (λ (b : Bool). b && has_kind k ns) is)
          ]
      | inr other ↦ elim (cases_Bool (p n)) [
        | inl is ↦ rw (is, other) rest
        | inr is ↦ rw (is, other) rest
      ]
    ]

has-once : (k : ℕ) (ns : List ℕ) → has_kind k (each_once ns) ≡ has_kind k ns
unfolding each_once
has-once k [] = refl
has-once k (n ∷ ns) =
    let rest = has-filter k (λ m. not (n == m)) (each_once ns) in
    elim (cases_Bool (eqb n k)) [
      | inl same ↦ rw same refl
      | inr other ↦ rw other (rest ∙ (rw other (has-once k ns)))
    ]

-- ---- in order

before-more : (k a b : ℕ) (kinds : List ℕ) → eqb k b ≡ false → IsVisibleBefore kinds a b → IsVisibleBefore (k ∷ kinds) a b
before-more k a b kinds other h = record {
  before = k ∷ h.before;
  following = h.following;
  parts = ap (λ (l : List ℕ). k ∷ l) h.parts;
  none = rw other h.none;
}

all-before : (k a : ℕ) (kinds ns : List ℕ) → AllByRecursion (λ b. eqb k b ≡ false) ns → AllByRecursion (IsVisibleBefore kinds a) ns → AllByRecursion (IsVisibleBefore (k ∷ kinds) a) ns
all-before k a kinds [] other h = tt
all-before k a kinds (b ∷ ns) other h = (before-more k a b kinds other.0 h.0, all-before k a kinds ns other.1 h.1)

order-more : (k : ℕ) (kinds ns : List ℕ) → AllByRecursion (λ b. eqb k b ≡ false) ns → IsInOrder kinds ns → IsInOrder (k ∷ kinds) ns
unfolding IsInOrder
order-more k kinds [] other h = tt
order-more k kinds (a ∷ ns) other h = (all-before k a kinds ns other.1 h.0, order-more k kinds ns other.1 h.1)

order-filter : (p : ℕ → Bool) (kinds ns : List ℕ) → IsInOrder kinds ns → IsInOrder kinds (filter p ns)
unfolding IsInOrder
order-filter p kinds [] h = tt
order-filter p kinds (n ∷ ns) h =
    elim (cases_Bool (p n)) [
      | inl is ↦ rw is (all-filter (IsVisibleBefore kinds n) p ns h.0, order-filter p kinds ns h.1)
      | inr is ↦ rw is (order-filter p kinds ns h.1)
    ]

passes-apart : (p : ℕ → Bool) (k b : ℕ) → p k ≡ false → p b ≡ true → eqb k b ≡ false
passes-apart p k b fails passes =
    elim (cases_Bool (eqb k b)) [
      | inl same ↦ absurd (let is : false ≡ true = sym fails ∙ ap p (eqb-true k b same) ∙ passes in cc)
      | inr other ↦ other
    ]

order-once : (p : ℕ → Bool) (kinds : List ℕ) → IsInOrder kinds (each_once (filter p kinds))
unfolding IsInOrder each_once
order-once p [] = tt
order-once p (k ∷ kinds) =
    let later = each_once (filter p kinds) in
    let rest = order-once p kinds in
    elim (cases_Bool (p k)) [
      | inl is ↦ rw is (
        all-every (IsVisibleBefore (k ∷ kinds) k) (λ b. record { before = []; following = kinds; parts = refl; none = refl }) (filter (λ m. not (k == m)) later),
        order-more k kinds (filter (λ m. not (k == m)) later) (others k later) (order-filter (λ m. not (k == m)) kinds later rest),
      )
      | inr fails ↦
          let apart = all-map (λ b. p b ≡ true) (λ b. eqb k b ≡ false) (λ b passes. passes-apart p k b fails passes) later (all-once (λ b. p b ≡ true) (filter p kinds) (filter-passes p kinds)) in
          rw fails (order-more k kinds later apart rest)
    ]

pub is_unknown_list : (all : List Attr) (supported : List ℕ) → IsUnknownList (kinds_of all) supported (unknown_kinds all supported)
unfolding unknown_kinds
is_unknown_list all supported =
    let p = is_unknown supported in
    let kinds = kinds_of all in
    record {
      distinct = distinct-once (filter p kinds);
      listed = λ kind. has-once kind (filter p kinds) ∙ has-filter kind p kinds;
      order = order-once p kinds;
    }
