-- Of the first elements of each kind, none is reported twice.
use Rattle.std.proofs.Common.{◌≡◌, Bool, true, not, List, [], ◌∷◌, map, refl, sym, ap, ◌∙◌, subst, inl, inr}
use Rattle.std.proofs.lemmas.Bool.{cases_Bool}
use Rattle.std.specs.List.{filter}
use Rattle.turn_client_proto_timers.specs.TurnRuns.Members.{IsIn, NoneTwice}
use Rattle.turn_client_proto_timers.specs.TurnRuns.Steps.{Reported, reported_for}
use Rattle.turn_client_proto_timers.specs.Allocation.Firsts.{first_of_each}
use Rattle.turn_client_proto_step_laws.proofs.Lists.{in_filter, in_map}

-- The image of an element is in the image of its list.
pub image_in : {X Y : Type 0} (f : X → Y) (x : X) (all : List X) → IsIn x all → IsIn (f x) (map f all)
image_in f x [] h = absurd h
image_in f x (y ∷ all) (inl is) = inl (ap f is)
image_in f x (y ∷ all) (inr h) = inr (image_in f x all h)

-- The first of each kind are elements of the list.
pub in_firsts : {X : Type 0} (like : X → X → Bool) (x : X) (all : List X) → IsIn x (first_of_each like all) → IsIn x all
in_firsts like x [] h = absurd h
in_firsts like x (y ∷ rest) (inl is) = inl is
in_firsts like x (y ∷ rest) (inr h) = inr (in_firsts like x rest (in_filter (λ z. not (like y z)) x (first_of_each like rest) h).0)

-- The first element is one of them.
pub head_first : {X : Type 0} (like : X → X → Bool) (x : X) (rest : List X) → IsIn x (first_of_each like (x ∷ rest))
head_first like x rest = inl refl

-- Each element is like itself, and those with equal notices are equal.
module _ {X : Type 0} (like : X → X → Bool) (itself : (x : X) → like x x ≡ true) (reported : X → Reported) (same : (one other : X) → reported_for (reported one) ≡ reported_for (reported other) → one ≡ other) where
  -- An element of another kind.
  abbrev unlike : X → X → Bool
  unlike x = λ y. not (like x y)

  alike : (x y : X) → y ≡ x → unlike x y ≡ true → ⊥
  alike x y equal differs =
      let is : like x x ≡ true = itself x in
      let isnt : not (like x x) ≡ true = ap (unlike x) (sym equal) ∙ differs in
      Prim.cc (sym (ap not is) ∙ isnt)

  -- No notice of these elements equals that of this one.
  abbrev AreApart : X → List X → Type 0
  AreApart x all = (t : Reported) → IsIn t (map reported all) → reported_for t ≡ reported_for (reported x) → ⊥

  apart : (x : X) (all : List X) → AreApart x (filter (unlike x) all)
  apart x all t listed equal =
      let image = in_map reported t (filter (unlike x) all) listed in
      let one : image.source ≡ x = same image.source x (ap reported_for (sym image.is) ∙ equal) in
      alike x image.source one (in_filter (unlike x) image.source all image.listed).1

  fewer : (p : X → Bool) (y : X) (all : List X) → AreApart y all → AreApart y (filter p all)
  fewer p y all none t listed equal =
      let image = in_map reported t (filter p all) listed in
      none (reported image.source) (image_in reported image.source all (in_filter p image.source all image.listed).0) (ap reported_for (sym image.is) ∙ equal)

  none_left : (p : X → Bool) (all : List X) → NoneTwice reported_for (map reported all) → NoneTwice reported_for (map reported (filter p all))
  none_left p [] h = tt
  none_left p (y ∷ all) h = elim (cases_Bool (p y)) [
    | inl is ↦
        let here : filter p (y ∷ all) ≡ y ∷ filter p all = rw is refl in
        subst (λ (l : List X). NoneTwice reported_for (map reported l)) (sym here) (fewer p y all h.0, none_left p all h.1)
    | inr differs ↦
        let here : filter p (y ∷ all) ≡ filter p all = rw differs refl in
        subst (λ (l : List X). NoneTwice reported_for (map reported l)) (sym here) (none_left p all h.1)
  ]

  -- The first elements of each kind have different notices.
  pub none_twice : (all : List X) → NoneTwice reported_for (map reported (first_of_each like all))
  none_twice [] = tt
  none_twice (x ∷ rest) = (apart x (first_of_each like rest), none_left (unlike x) (first_of_each like rest) (none_twice rest))
