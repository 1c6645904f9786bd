-- A std map as a finite map. One function views its keys, and another its values.
use Rattle.std.specs.Prelude.{◌≡◌, true, false, List, [], ◌∷◌, map, Option, Some, None}
use Rattle.std.proofs.Common.{refl, sym, ap, ◌∙◌, cond}
use Rattle.std.specs.declared.cmp.Ordering.{Ordering}
use Rattle.std.specs.Ordering.{is_eq, eq_by_cmp}
use Rattle.std.specs.Option.{option_map}
use Rattle.std.specs.Map.{lookup}
use Rattle.std.specs.BTreeMap.{BTreeMap, get_by}
use Rattle.std.specs.FinMap as finite
use Rattle.std.specs.Cmp.{IsTotalOrder, eq_by_cmp_equiv}

module _ {K L X Y : Type 0} (key_view : K → L) {order : L → L → Ordering} (total : IsTotalOrder order) (value_view : X → Y) where
  -- Searching the viewed entries for a key finds the view of the value that searching the entries finds.
  find-map : (key : L) (entries : List (K × X))
      → finite.find order key (map (λ e. (key_view e.0, value_view e.1)) entries) ≡ option_map value_view (lookup (λ k. is_eq (order key (key_view k))) entries)
  find-map key [] = refl
  find-map key (e ∷ entries) =
      elim (eq_by_cmp order key (key_view e.0)) as (λ tie. cond tie (Some (value_view e.1)) (finite.find order key (map (λ d. (key_view d.0, value_view d.1)) entries))
      ≡ option_map value_view (cond tie (Some e.1) (lookup (λ k. is_eq (order key (key_view k))) entries))) [
        | true ↦ refl
        | false ↦ find-map key entries
      ]

  -- The finite map that is the view of a std map.
  abbrev pub finite_map : BTreeMap K X → finite.FinMap order Y
  finite_map tree = finite.from_entries (map (λ e. (key_view e.0, value_view e.1)) tree.entries)

  -- The value that a std map has for a viewed key.
  abbrev pub value_at : BTreeMap K X → L → Option X
  value_at tree key = get_by (λ k. order key (key_view k)) tree

  -- Looking up a key in the finite map gives the view of its value in the std map.
  pub get-finite_map : (tree : BTreeMap K X) (key : L) → finite.get (finite_map tree) key ≡ option_map value_view (value_at tree key)
  get-finite_map tree key = finite.get-from_entries total (map (λ e. (key_view e.0, value_view e.1)) tree.entries) key ∙ find-map key tree.entries

  -- Inserting into the std map inserts into the finite map.
  pub insert-finite_map : finite.IsAntisymmetric order → (old new : BTreeMap K X) (key : L) (value : X)
      → ((q : L) → value_at new q ≡ cond (is_eq (order key q)) (Some value) (value_at old q)) → finite_map new ≡ finite.insert (finite_map old) key (value_view value)
  insert-finite_map same old new key value updates =
      finite.same_map total same _ _ (λ q. get-finite_map new q ∙ ap (option_map value_view) (updates q)
      ∙ elim (is_eq (order key q)) as (λ tie. option_map value_view (cond tie (Some value) (value_at old q)) ≡ cond tie (Some (value_view value)) (finite.get (finite_map old) q)) [
        | true ↦ refl
        | false ↦ sym (get-finite_map old q)
      ]
      ∙ ap (λ tie. cond tie (Some (value_view value)) (finite.get (finite_map old) q)) ((eq_by_cmp_equiv total).symm key q)
      ∙ sym (finite.get-insert total (finite_map old) key (value_view value) q))

  -- Removing from the std map removes from the finite map.
  pub remove-finite_map : finite.IsAntisymmetric order → (old new : BTreeMap K X) (key : L)
      → ((q : L) → value_at new q ≡ cond (is_eq (order key q)) None (value_at old q)) → finite_map new ≡ finite.remove (finite_map old) key
  remove-finite_map same old new key updates =
      finite.same_map total same _ _ (λ q. get-finite_map new q ∙ ap (option_map value_view) (updates q)
      ∙ elim (is_eq (order key q)) as (λ tie. option_map value_view (cond tie None (value_at old q)) ≡ cond tie None (finite.get (finite_map old) q)) [
        | true ↦ refl
        | false ↦ sym (get-finite_map old q)
      ]
      ∙ ap (λ tie. cond tie None (finite.get (finite_map old) q)) ((eq_by_cmp_equiv total).symm key q)
      ∙ sym (finite.get-remove total (finite_map old) key q))
