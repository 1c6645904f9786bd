-- What a filter of a map's entries leaves at a key.
use Rattle.std.proofs.Common.{◌≡◌, Bool, true, false, List, [], ◌∷◌, Option, Some, None, refl, sym, ap, ◌∙◌, cond}
use Rattle.std.specs.Cmp.{IsEquivalence}
use Rattle.std.specs.List.{IsDistinct, filter}
use Rattle.std.specs.Map.{keys_of, lookup}
use Rattle.std.proofs.lemmas.Map.{lookup-none}
use Rattle.std.proofs.lemmas.Map.Entries.{none_past_head, option_filter}
use Rattle.std.proofs.lemmas.Map.Keys.{IsDistinct-tail}

module _ {K X : Type 0} {eq : K → K → Bool} (o : IsEquivalence eq) (p : K × X → Bool) (q : K)
    (alike : (k : K) (v : X) → eq q k ≡ true → p (k, v) ≡ p (q, v)) where
  abbrev passes : X → Bool
  passes v = p (q, v)

  one_more : (e : K × X) (es : List (K × X)) → IsDistinct eq (keys_of (e ∷ es)) → lookup (eq q) (filter p es) ≡ option_filter passes (lookup (eq q) es)
      → (t : Bool) → eq q e.0 ≡ t → (b : Bool) → p e ≡ b → lookup (eq q) (filter p (e ∷ es)) ≡ option_filter passes (lookup (eq q) (e ∷ es))
  one_more e es d rest true t true b =
      ap (λ x. lookup (eq q) (cond x (e ∷ filter p es) (filter p es))) b
      ∙ ap (λ x. cond x (Some e.1) (lookup (eq q) (filter p es))) t
      ∙ sym (ap (λ x. option_filter passes (cond x (Some e.1) (lookup (eq q) es))) t ∙ ap (λ x. cond x (Some e.1) None) (sym (alike e.0 e.1 t) ∙ b))
  one_more e es d rest true t false b =
      ap (λ x. lookup (eq q) (cond x (e ∷ filter p es) (filter p es))) b
      ∙ rest
      ∙ ap (option_filter passes) (lookup-none (eq q) es (none_past_head o q e es d t))
      ∙ sym (ap (λ x. option_filter passes (cond x (Some e.1) (lookup (eq q) es))) t ∙ ap (λ x. cond x (Some e.1) None) (sym (alike e.0 e.1 t) ∙ b))
  one_more e es d rest false t true b =
      ap (λ x. lookup (eq q) (cond x (e ∷ filter p es) (filter p es))) b
      ∙ ap (λ x. cond x (Some e.1) (lookup (eq q) (filter p es))) t
      ∙ rest
      ∙ sym (ap (λ x. option_filter passes (cond x (Some e.1) (lookup (eq q) es))) t)
  one_more e es d rest false t false b =
      ap (λ x. lookup (eq q) (cond x (e ∷ filter p es) (filter p es))) b
      ∙ rest
      ∙ sym (ap (λ x. option_filter passes (cond x (Some e.1) (lookup (eq q) es))) t)

  -- At a key, a filter of entries leaves the value if it passes.
  pub lookup-filter_pairs : (es : List (K × X)) → IsDistinct eq (keys_of es) → lookup (eq q) (filter p es) ≡ option_filter passes (lookup (eq q) es)
  lookup-filter_pairs [] d = refl
  lookup-filter_pairs (e ∷ es) d = one_more e es d (lookup-filter_pairs es (IsDistinct-tail eq e.0 (keys_of es) d)) (eq q e.0) refl (p e) refl
