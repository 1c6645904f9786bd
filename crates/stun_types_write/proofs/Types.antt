-- Attribute types and their numbers.
use Rattle.std.proofs.Common.{◌≡◌, ℕ, Bool, eqb, ◌||◌, List, [], ◌∷◌, map, refl, ap, inl, inr}
use Rattle.std.specs.Prelude.{find}
use Rattle.std.specs.Option.{option_map}
use Rattle.std.specs.List.{list_any}
use Rattle.std.proofs.lemmas.Bool.{cases_Bool}
use Rattle.stun_types_wire.specs.declared.attribute.AttributeType.{AttributeType}
use Rattle.stun_types_write.specs.Adding.{has_kind, is_among}

pub any_numbers : (n : ℕ) (ts : List AttributeType) → has_kind n (map (λ (t : AttributeType). t.0) ts) ≡ list_any (λ (t : AttributeType). eqb t.0 n) ts
any_numbers n [] = refl
any_numbers n (t ∷ ts) = ap (λ (b : Bool). eqb t.0 n || b) (any_numbers n ts)

pub find_numbers : (requested ts : List AttributeType) → option_map (λ (t : AttributeType). t.0) (find (λ (t : AttributeType). list_any (λ (a : AttributeType). eqb a.0 t.0) requested) ts) ≡ find (is_among (map (λ (t : AttributeType). t.0) requested)) (map (λ (t : AttributeType). t.0) ts)
find_numbers requested [] = refl
find_numbers requested (t ∷ ts) =
    let same = any_numbers t.0 requested in
    elim (cases_Bool (list_any (λ (a : AttributeType). eqb a.0 t.0) requested)) [
      | inl h ↦ rw (same, h) refl
      | inr h ↦ rw (same, h) (find_numbers requested ts)
    ]
