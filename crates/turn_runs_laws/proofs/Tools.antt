-- Members of lists, and statements on some step and on each step.
use Rattle.std.proofs.Common.{◌≡◌, ap, sym, ◌∙◌, List, [], ◌∷◌, ◌++◌, map, ◌⊎◌, inl, inr, refl}
use Rattle.turn_runs.specs.Members.{IsIn, NoneTwice}
use Rattle.turn_runs.specs.Runs.{AtSome, AtEach}

pub in_either : {X : Type 0} (x : X) (xs ys : List X) → IsIn x (xs ++ ys) → IsIn x xs ⊎ IsIn x ys
in_either x [] ys h = inr h
in_either x (z ∷ xs) ys h = elim h [ inl e ↦ inl (inl e) | inr t ↦ elim (in_either x xs ys t) [ inl u ↦ inl (inr u) | inr v ↦ inr v ] ]

pub in_left : {X : Type 0} (x : X) (xs ys : List X) → IsIn x xs → IsIn x (xs ++ ys)
in_left x [] ys h = absurd h
in_left x (z ∷ xs) ys h = elim h [ inl e ↦ inl e | inr t ↦ inr (in_left x xs ys t) ]

pub in_right : {X : Type 0} (x : X) (xs ys : List X) → IsIn x ys → IsIn x (xs ++ ys)
in_right x [] ys h = h
in_right x (z ∷ xs) ys h = inr (in_right x xs ys h)

pub none_twice : {X Y : Type 0} (mark : X → Y) (xs ys : List X) → NoneTwice mark xs → NoneTwice mark ys → ((x y : X) → IsIn x xs → IsIn y ys → mark y ≡ mark x → ⊥) → NoneTwice mark (xs ++ ys)
none_twice mark [] ys p q f = q
none_twice mark (x ∷ xs) ys p q f = (
  (λ y i e. elim (in_either y xs ys i) [ inl t ↦ p.0 y t e | inr t ↦ f x y (inl refl) t e ]),
  none_twice mark xs ys p.1 q (λ y z i j e. f y z (inr i) j e),
)

-- At the step where `Q` holds, `P` holds too, and it holds at each earlier step.
pub both_at : {S : Type 0} (P Q : S → List S → Type 0) (run : List S) → AtEach P run → AtSome Q run → AtSome (λ s earlier. Q s earlier × P s earlier × AtEach P earlier) run
both_at P Q [] each some = absurd some
both_at P Q (s ∷ earlier) each some = elim some [ inl q ↦ inl (q, each.0, each.1) | inr t ↦ inr (both_at P Q earlier each.1 t) ]

pub some_weaker : {S : Type 0} (P Q : S → List S → Type 0) → ((s : S) (earlier : List S) → P s earlier → Q s earlier) → (run : List S) → AtSome P run → AtSome Q run
some_weaker P Q f [] some = absurd some
some_weaker P Q f (s ∷ earlier) some = elim some [ inl p ↦ inl (f s earlier p) | inr t ↦ inr (some_weaker P Q f earlier t) ]

pub each_weaker : {S : Type 0} (P Q : S → List S → Type 0) → ((s : S) (earlier : List S) → P s earlier → Q s earlier) → (run : List S) → AtEach P run → AtEach Q run
each_weaker P Q f [] each = tt
each_weaker P Q f (s ∷ earlier) each = (f s earlier each.0, each_weaker P Q f earlier each.1)

pub each_both : {S : Type 0} (P Q : S → List S → Type 0) (run : List S) → AtEach P run → AtEach Q run → AtEach (λ s earlier. P s earlier × Q s earlier) run
each_both P Q [] p q = tt
each_both P Q (s ∷ earlier) p q = ((p.0, q.0), each_both P Q earlier p.1 q.1)

-- A fact that follows from any step where `P` holds.
pub from_some : {S : Type 0} (P : S → List S → Type 0) (F : Type 0) → ((s : S) (earlier : List S) → P s earlier → F) → (run : List S) → AtSome P run → F
from_some P F f [] some = absurd some
from_some P F f (s ∷ earlier) some = elim some [ inl p ↦ f s earlier p | inr t ↦ from_some P F f earlier t ]

pub none_parts : {X Y : Type 0} (mark : X → Y) (xs ys : List X) → NoneTwice mark (xs ++ ys) → NoneTwice mark xs × NoneTwice mark ys × ((x y : X) → IsIn x xs → IsIn y ys → mark y ≡ mark x → ⊥)
none_parts mark [] ys h = (tt, h, λ x y i j e. i)
none_parts mark (x ∷ xs) ys h =
    let k = none_parts mark xs ys h.1 in (
      ((λ y i e. h.0 y (in_left y xs ys i) e), k.0),
      k.1,
      λ y z i j e. elim i [
        | inl p ↦ h.0 z (in_right z xs ys j) (e ∙ ap mark (sym p))
        | inr t ↦ k.2 y z t j e
      ],
    )

pub map_joined : {X Y : Type 0} (f : X → Y) (xs ys : List X) → map f (xs ++ ys) ≡ map f xs ++ map f ys
map_joined f [] ys = refl
map_joined f (x ∷ xs) ys = ap (λ l. f x ∷ l) (map_joined f xs ys)

-- A list in two parts, whose images are known.
pub record Parts {X Y : Type 0} (f : X → Y) (xs : List X) (ys zs : List Y) : Type 0 where
  pub prefix : List X
  pub back : List X
  pub whole : xs ≡ prefix ++ back
  pub head_is : map f prefix ≡ ys
  pub back_is : map f back ≡ zs

pub in_parts : {X Y : Type 0} (f : X → Y) (xs : List X) (ys zs : List Y) → map f xs ≡ ys ++ zs → Parts f xs ys zs
in_parts f xs [] zs e = record { prefix = []; back = xs; whole = refl; head_is = refl; back_is = e }
in_parts f [] (y ∷ ys) zs e = absurd (let never : ⊥ = cc in never)
in_parts f (x ∷ xs) (y ∷ ys) zs e =
    let h = in_parts f xs ys zs (cc) in
    let head : f x ≡ y = cc in
    record { prefix = x ∷ h.prefix; back = h.back; whole = ap (λ l. x ∷ l) h.whole; head_is = ap (λ l. f x ∷ l) h.head_is ∙ ap (λ z. z ∷ ys) head; back_is = h.back_is }
