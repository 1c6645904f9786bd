-- The least of some numbers, found one after another, and that numbers which compare as equal are equal.
use Rattle.std.proofs.Common.{◌≡◌, ℕ, zero, suc, length, ◌<◌, ◌≤◌, arith, true, false, List, [], ◌∷◌, refl, sym, subst, inl, inr}
use Rattle.std.specs.Prelude.{All, min, nat_le, ◌⊎◌}
use Rattle.std.proofs.lemmas.Bool.{leb-false, leb-true}
use Rattle.std.specs.FinMap.{nat_cmp-IsAntisymmetric}
use Rattle.std.specs.List.{Contains}
use Rattle.std.specs.Ordering.{is_eq, nat_cmp}
use Rattle.std.specs.declared.cmp.Ordering.{Ordering}
use Rattle.std.specs.declared.cmp.Ordering.TheVariants.{Less, Equal, Greater}
use Rattle.stun_proto_transaction.specs.Least.{IsLeastOf}

tie : (answer : Ordering) → is_eq answer ≡ true → answer ≡ Equal
tie Less is = absurd (Prim.cc is)
tie Equal is = refl
tie Greater is = absurd (Prim.cc is)

-- Numbers that compare as equal are equal.
pub same_number : (n k : ℕ) → is_eq (nat_cmp n k) ≡ true → n ≡ k
same_number n k is = nat_cmp-IsAntisymmetric n k (tie (nat_cmp n k) is)

-- The least of a number and those of a list.
abbrev pub least_of : ℕ → List ℕ → ℕ
least_of most [] = most
least_of most (n ∷ rest) = least_of (min most n) rest

least_within : (most : ℕ) (ns : List ℕ) → least_of most ns ≤ most
least_within most [] = omega arith
least_within most (n ∷ rest) = let later = least_within (min most n) rest in omega (arith, later)

least_below : (most : ℕ) (ns : List ℕ) → All (λ n. least_of most ns ≤ n) ns
least_below most [] k d less = absurd (omega (arith, less))
least_below most (n ∷ rest) zero d less = let first = least_within (min most n) rest in omega (arith, first)
least_below most (n ∷ rest) (suc k) d less = least_below (min most n) rest k d (omega (arith, less))

abbrev IsReached : ℕ → List ℕ → ℕ → Type 0
IsReached most ns least = (least ≡ most) ⊎ Contains ns least

by_lesser : (most n : ℕ) (rest : List ℕ) (least : ℕ) → least ≡ min most n → IsReached most (n ∷ rest) least
by_lesser most n rest least same =
    elim (nat_le most n) as (λ b. nat_le most n ≡ b → IsReached most (n ∷ rest) least) [
      | true ↦ λ less. let below = leb-true most n less in inl (let is : least ≡ most = omega (arith, same, below) in is)
      | false ↦ λ more. let above = leb-false most n more in inr (zero, (let some : 0 < length (n ∷ rest) = omega arith in some), (let is : n ≡ least = omega (arith, same, above) in is))
    ] refl

least_reached : (most : ℕ) (ns : List ℕ) → IsReached most ns (least_of most ns)
least_reached most [] = inl refl
least_reached most (n ∷ rest) =
    elim (least_reached (min most n) rest) [
      | inl same ↦ by_lesser most n rest (least_of (min most n) rest) same
      | inr found ↦ inr (suc found.0, (let more : suc found.0 < length (n ∷ rest) = omega (arith, found.1) in more), found.2)
    ]

pub least_is : (most : ℕ) (ns : List ℕ) (least : ℕ) → least ≡ least_of most ns → IsLeastOf most ns least
least_is most ns least is = subst (IsLeastOf most ns) (sym is) (record { within = least_within most ns; below = least_below most ns; reached = least_reached most ns })
