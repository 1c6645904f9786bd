-- The index of the last element that passes.
use Rattle.std.proofs.Common.{◌≡◌, ℕ, ◌+◌, ◌<◌, Bool, true, false, List, [], ◌∷◌, ◌++◌, length, take, get_or, Option, None, Some, if◌then◌else◌, refl, sym, ◌∙◌, ap, arith, inl, inr}
use Rattle.std.proofs.lemmas.List.{length-take, take_more}
use Rattle.std.proofs.lemmas.Bool.{cases_Bool}
use Rattle.turn_client_proto_peers.specs.Channel.Expiring.{following, last_index}

-- The index after one more element was appended.
last_further : {X : Type 0} (p : X → Bool) (xs : List X) (x : X) → last_index p (xs ++ x ∷ []) ≡ (if p x then Some (length xs) else last_index p xs)
last_further p [] x = elim (cases_Bool (p x)) [ inl is ↦ rw is refl | inr not ↦ rw not refl ]
last_further p (y ∷ xs) x =
    ap (λ (o : Option ℕ). following o (if p y then Some 0 else None)) (last_further p xs x) ∙ by_last (p x)
  where
    by_last : (b : Bool) → following (if b then Some (length xs) else last_index p xs) (if p y then Some 0 else None) ≡ (if b then Some (length (y ∷ xs)) else last_index p (y ∷ xs))
    by_last true = ap (λ (n : ℕ). Some n) (let e : length xs + 1 ≡ length (y ∷ xs) = omega arith in e)
    by_last false = refl

-- It is an index of the list.
within_by : {X : Type 0} (p : X → Bool) (x : X) (xs : List X) (index : ℕ) (o : Option ℕ) → ((k : ℕ) → o ≡ Some k → k < length xs) → following o (if p x then Some 0 else None) ≡ Some index → index < length (x ∷ xs)
within_by p x xs index None rest at =
    elim (cases_Bool (p x)) [
      | inl passes ↦ let first : 0 ≡ index = (let q = rw passes at at in Prim.cc q) in omega (arith, first)
      | inr not ↦ absurd (let q = rw not at at in Prim.cc q)
    ]
within_by p x xs index (Some k) rest at = let within = rest k refl in let same : k + 1 ≡ index = Prim.cc at in omega (arith, within, same)

pub last_within : {X : Type 0} (p : X → Bool) (xs : List X) (index : ℕ) → last_index p xs ≡ Some index → index < length xs
last_within p [] index is = absurd (Prim.cc is)
last_within p (x ∷ xs) index is = within_by p x xs index (last_index p xs) (λ k rest. last_within p xs k rest) is

-- The index after one more element was looked at.
pub last_of_more : {X : Type 0} (p : X → Bool) (xs : List X) (i : ℕ) (x : X) (old : Option ℕ) → i < length xs → x ≡ get_or xs i x → old ≡ last_index p (take i xs)
    → (if p x then Some i else old) ≡ last_index p (take (i + 1) xs)
last_of_more {X} p xs i x old less at is =
    let long : length (take i xs) ≡ i = omega (arith, less, length-take i xs) in
    let more : take (i + 1) xs ≡ take i xs ++ x ∷ [] = take_more xs i x less ∙ ap (λ (y : X). take i xs ++ y ∷ []) (sym at) in
    ap (λ (o : Option ℕ). if p x then Some i else o) is
    ∙ ap (λ (n : ℕ). if p x then Some n else last_index p (take i xs)) (sym long)
    ∙ sym (last_further p (take i xs) x)
    ∙ ap (last_index p) (sym more)
