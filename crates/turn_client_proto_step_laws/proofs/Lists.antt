-- Members of lists.
use Rattle.std.proofs.Common.{◌≡◌, ℕ, suc, zero, ◌+◌, Bool, true, false, List, [], ◌∷◌, ◌++◌, ◌&&◌, ◌||◌, Some, refl, sym, ap, ◌∙◌, subst, ◌⊎◌, inl, inr}
use Rattle.std.proofs.lemmas.Bool.{cases_Bool}
use Rattle.std.specs.Prelude.{drop, map, take}
use Rattle.std.specs.List.{after_first, before_first, filter, find, list_any, position_or_len}
use Rattle.turn_client_proto_timers.specs.TurnRuns.Members.{IsIn}
use Rattle.turn_client_proto_timers.specs.Allocation.Changes.{change_first, without_first}

pub inside : {A : Type 0} {a b : A} → Some a ≡ Some b → a ≡ b
inside p = Prim.cc p

pub both_so : (x y : Bool) → (x && y) ≡ true → (x ≡ true) × (y ≡ true)
both_so true y h = (refl, h)
both_so false y h = absurd (Prim.cc h)

pub nothing_after : {X : Type 0} (all : List X) → all ≡ all ++ []
nothing_after [] = refl
nothing_after (x ∷ all) = ap (λ l. x ∷ l) (nothing_after all)

pub in_either : {X : Type 0} (x : X) (head following : List X) → IsIn x (head ++ following) → IsIn x head ⊎ IsIn x following
in_either x [] following h = inr h
in_either x (y ∷ head) following (inl is) = inl (inl is)
in_either x (y ∷ head) following (inr h) = elim (in_either x head following h) [ inl a ↦ inl (inr a) | inr b ↦ inr b ]

-- An element of a list whose image is this one.
pub record IsImage {X Y : Type 0} (f : X → Y) (y : Y) (xs : List X) : Type 0 where
  pub source : X
  pub listed : IsIn source xs
  pub is : y ≡ f source

pub in_map : {X Y : Type 0} (f : X → Y) (y : Y) (xs : List X) → IsIn y (map f xs) → IsImage f y xs
in_map f y [] h = absurd h
in_map f y (x ∷ xs) (inl is) = record { source = x; listed = inl refl; is = sym is }
in_map f y (x ∷ xs) (inr h) =
    let rest = in_map f y xs h in
    record { source = rest.source; listed = inr rest.listed; is = rest.is }

pub in_filter : {X : Type 0} (p : X → Bool) (x : X) (xs : List X) → IsIn x (filter p xs) → IsIn x xs × (p x ≡ true)
in_filter p x [] h = absurd h
in_filter {X = X} p x (y ∷ ys) h = elim (cases_Bool (p y)) [
  | inl is ↦
      let here : filter p (y ∷ ys) ≡ y ∷ filter p ys = rw is refl in
      elim (subst (λ (l : List X). IsIn x l) here h) [
        | inl same ↦ (inl same, sym (ap p same) ∙ is)
        | inr rest ↦ let more = in_filter p x ys rest in (inr more.0, more.1)
      ]
  | inr differs ↦
      let here : filter p (y ∷ ys) ≡ filter p ys = rw differs refl in
      let more = in_filter p x ys (subst (λ (l : List X). IsIn x l) here h) in
      (inr more.0, more.1)
]

pub in_changed : {X : Type 0} (p : X → Bool) (f : X → X) (x : X) (xs : List X) → IsIn x (change_first p f xs) → IsIn x xs ⊎ IsImage f x xs
in_changed p f x [] h = absurd h
in_changed {X = X} p f x (y ∷ ys) h = elim (cases_Bool (p y)) [
  | inl is ↦
      let here : change_first p f (y ∷ ys) ≡ f y ∷ ys = rw is refl in
      elim (subst (λ (l : List X). IsIn x l) here h) [
        | inl same ↦ inr (record { source = y; listed = inl refl; is = sym same })
        | inr rest ↦ inl (inr rest)
      ]
  | inr differs ↦
      let here : change_first p f (y ∷ ys) ≡ y ∷ change_first p f ys = rw differs refl in
      elim (subst (λ (l : List X). IsIn x l) here h) [
        | inl same ↦ inl (inl same)
        | inr rest ↦ elim (in_changed p f x ys rest) [
          | inl old ↦ inl (inr old)
          | inr new ↦ inr (record { source = new.source; listed = inr new.listed; is = new.is })
        ]
      ]
]

-- An element of a list of which the first element that passes was changed: it was there, or it is the changed
-- one.
pub in_first : {X : Type 0} (p : X → Bool) (f : X → X) (x : X) (xs : List X) → IsIn x (change_first p f xs) → IsIn x xs ⊎ ((y : X) × (find p xs ≡ Some y) × (x ≡ f y))
in_first p f x [] h = absurd h
in_first {X = X} p f x (y ∷ ys) h = elim (cases_Bool (p y)) [
  | inl is ↦
      let here : change_first p f (y ∷ ys) ≡ f y ∷ ys = rw is refl in
      let found : find p (y ∷ ys) ≡ Some y = rw is refl in
      elim (subst (λ (l : List X). IsIn x l) here h) [
        | inl same ↦ inr (y, found, sym same)
        | inr rest ↦ inl (inr rest)
      ]
  | inr differs ↦
      let here : change_first p f (y ∷ ys) ≡ y ∷ change_first p f ys = rw differs refl in
      let later : find p (y ∷ ys) ≡ find p ys = rw differs refl in
      elim (subst (λ (l : List X). IsIn x l) here h) [
        | inl same ↦ inl (inl same)
        | inr rest ↦ elim (in_first p f x ys rest) [
          | inl old ↦ inl (inr old)
          | inr new ↦ inr (new.0, later ∙ new.1, new.2)
        ]
      ]
]

-- What is found is in the list.
pub found_in : {X : Type 0} (p : X → Bool) (xs : List X) (x : X) → find p xs ≡ Some x → IsIn x xs
found_in p [] x h = absurd (Prim.cc h)
found_in p (y ∷ ys) x h = elim (cases_Bool (p y)) [
  | inl is ↦
      let here : find p (y ∷ ys) ≡ Some y = rw is refl in
      inl (inside (sym here ∙ h))
  | inr differs ↦
      let later : find p (y ∷ ys) ≡ find p ys = rw differs refl in
      inr (found_in p ys x (sym later ∙ h))
]

-- What is found passes.
pub found_passes : {X : Type 0} (p : X → Bool) (xs : List X) (x : X) → find p xs ≡ Some x → p x ≡ true
found_passes p [] x h = absurd (Prim.cc h)
found_passes p (y ∷ ys) x h = elim (cases_Bool (p y)) [
  | inl is ↦
      let here : find p (y ∷ ys) ≡ Some y = rw is refl in
      ap p (sym (inside (sym here ∙ h))) ∙ is
  | inr differs ↦
      let later : find p (y ∷ ys) ≡ find p ys = rw differs refl in
      found_passes p ys x (sym later ∙ h)
]

pub or_true : (b : Bool) → (b || true) ≡ true
or_true true = refl
or_true false = refl

-- Some element passes.
pub any_passes : {X : Type 0} (p : X → Bool) (xs : List X) (x : X) → IsIn x xs → p x ≡ true → list_any p xs ≡ true
any_passes p [] x h is = absurd h
any_passes p (y ∷ ys) x (inl same) is = ap (λ (b : Bool). b || list_any p ys) (ap p same ∙ is)
any_passes p (y ∷ ys) x (inr later) is = ap (λ (b : Bool). p y || b) (any_passes p ys x later is) ∙ or_true (p y)

pub either : (x y : Bool) → (x || y) ≡ true → (x ≡ true) ⊎ (y ≡ true)
either true y h = inl refl
either false y h = inr h

-- An element that passes a test.
pub record Passes {X : Type 0} (p : X → Bool) (xs : List X) : Type 0 where
  pub one : X
  pub listed : IsIn one xs
  pub passes : p one ≡ true

pub passes_one : {X : Type 0} (p : X → Bool) (xs : List X) → list_any p xs ≡ true → Passes p xs
passes_one p [] h = absurd (Prim.cc h)
passes_one p (x ∷ xs) h = elim (either (p x) (list_any p xs) h) [
  | inl is ↦ record { one = x; listed = inl refl; passes = is }
  | inr later ↦ let rest = passes_one p xs later in record { one = rest.one; listed = inr rest.listed; passes = rest.passes }
]

in_taken : {X : Type 0} (x : X) (n : ℕ) (xs : List X) → IsIn x (take n xs) → IsIn x xs
in_taken x zero xs h = absurd h
in_taken x (suc n) [] h = absurd h
in_taken x (suc n) (y ∷ ys) (inl same) = inl same
in_taken x (suc n) (y ∷ ys) (inr more) = inr (in_taken x n ys more)

in_dropped : {X : Type 0} (x : X) (n : ℕ) (xs : List X) → IsIn x (drop n xs) → IsIn x xs
in_dropped x zero xs h = h
in_dropped x (suc n) [] h = absurd h
in_dropped x (suc n) (y ∷ ys) h = inr (in_dropped x n ys h)

-- What is left after the first element that passes was removed was there.
pub in_others : {X : Type 0} (p : X → Bool) (x : X) (xs : List X) → IsIn x (without_first p xs) → IsIn x xs
in_others p x xs h = elim (in_either x (before_first p xs) (after_first p xs) h) [
  | inl before ↦ in_taken x (position_or_len p xs) xs before
  | inr after ↦ in_dropped x (position_or_len p xs + 1) xs after
]
