-- The map of sorted entries.
use Rattle.std.proofs.Common.{◌≡◌, ◌≢◌, ℕ, ◌<◌, true, false, cond, List, get_or, set, Some, None, refl, sym, ap, ◌∙◌, inl, inr, arith}
use Rattle.std.specs.List.{insert, remove}
use Rattle.std.specs.FinMap as map
use Rattle.std.specs.FinMap.{nat_cmp-IsAntisymmetric}
use Rattle.std.specs.Ordering.{eq_by_cmp, nat_cmp}
use Rattle.std.specs.Cmp.{nat_cmp_total}
use Rattle.std.proofs.lemmas.Bool.{cases_lt}
use Rattle.stun_proto_transaction.specs.Sorted.{IsAt, IsGap, IsStrictlySorted}
use Rattle.stun_proto_transaction.proofs.Finds.{find-absent, find-at, find-inserted, find-removed, find-written, found-at, IsFoundAt}
use Rattle.stun_proto_transaction.proofs.Leasts.{same_number}

module _ {X : Type 0} where
  abbrev pub MapOf : List (ℕ × X) → map.FinMap nat_cmp X
  MapOf l = map.from_entries l

  -- A look-up in the map is one among the entries.
  get_is : (l : List (ℕ × X)) (q : ℕ) → map.get (MapOf l) q ≡ map.find nat_cmp q l
  get_is l q = map.get-from_entries nat_cmp_total l q

  none_before : (l : List (ℕ × X)) (number position : ℕ) → IsAt l number position → IsStrictlySorted l → (j : ℕ) (d : ℕ × X) → j < position → (get_or l j d).0 ≢ number
  none_before l number position at sorted j d less same = absurd (let w = at.within in let more = sorted j position d less w in let is = at.same d in omega (arith, more, same, is))

  pub inserted_map : (l : List (ℕ × X)) (number position : ℕ) (v : X) → IsGap l number position → MapOf (insert l position (number, v)) ≡ map.insert (MapOf l) number v
  inserted_map l number position v gap = map.same_map nat_cmp_total nat_cmp-IsAntisymmetric _ _ (λ q.
      get_is (insert l position (number, v)) q ∙ find-inserted l number position v (λ j d less same. absurd (let smaller = gap.smaller j d less in omega (arith, smaller, same))) q
      ∙ sym (map.get-insert nat_cmp_total (MapOf l) number v q ∙ ap (cond (eq_by_cmp nat_cmp q number) (Some v)) (get_is l q)))

  pub written_map : (l : List (ℕ × X)) (number position : ℕ) (v : X) → IsAt l number position → IsStrictlySorted l → MapOf (set l position (number, v)) ≡ map.insert (MapOf l) number v
  written_map l number position v at sorted = map.same_map nat_cmp_total nat_cmp-IsAntisymmetric _ _ (λ q.
      get_is (set l position (number, v)) q ∙ find-written l number position v at (none_before l number position at sorted) q
      ∙ sym (map.get-insert nat_cmp_total (MapOf l) number v q ∙ ap (cond (eq_by_cmp nat_cmp q number) (Some v)) (get_is l q)))

  pub removed_map : (l : List (ℕ × X)) (number position : ℕ) → IsAt l number position → IsStrictlySorted l → MapOf (remove l position) ≡ map.remove (MapOf l) number
  removed_map l number position at sorted = map.same_map nat_cmp_total nat_cmp-IsAntisymmetric _ _ (λ q.
      get_is (remove l position) q ∙ find-removed l number position at sorted q
      ∙ sym (map.get-remove nat_cmp_total (MapOf l) number q ∙ ap (cond (eq_by_cmp nat_cmp q number) None) (get_is l q)))

  pub absent_map : (l : List (ℕ × X)) (number position : ℕ) → IsGap l number position → map.get (MapOf l) number ≡ None
  absent_map l number position gap = get_is l number ∙ find-absent l number (λ j d less same. elim (cases_lt j position) [
    | inl below ↦ absurd (let smaller = gap.smaller j d below in omega (arith, smaller, same))
    | inr above ↦ absurd (let greater = gap.greater j d above less in omega (arith, greater, same))
  ])

  pub present_map : (l : List (ℕ × X)) (number position : ℕ) (d : ℕ × X) → IsAt l number position → IsStrictlySorted l → map.get (MapOf l) number ≡ Some (get_or l position d).1
  present_map l number position d at sorted = get_is l number ∙ find-at l number position d at sorted

  pub present_at : (l : List (ℕ × X)) (number : ℕ) (v : X) → map.get (MapOf l) number ≡ Some v → IsFoundAt l number v
  present_at l number v is = found-at l number v (sym (get_is l number) ∙ is)

  -- Removing a key that the map does not have changes nothing.
  pub unchanged_map : (l : List (ℕ × X)) (number : ℕ) → map.get (MapOf l) number ≡ None → MapOf l ≡ map.remove (MapOf l) number
  unchanged_map l number none = map.same_map nat_cmp_total nat_cmp-IsAntisymmetric _ _ (λ q.
      elim (eq_by_cmp nat_cmp q number) as (λ b. eq_by_cmp nat_cmp q number ≡ b → map.get (MapOf l) q ≡ cond b None (map.get (MapOf l) q)) [
        | true ↦ λ same. ap (map.get (MapOf l)) (same_number q number same) ∙ none
        | false ↦ λ differs. refl
      ] refl ∙ sym (map.get-remove nat_cmp_total (MapOf l) number q))
