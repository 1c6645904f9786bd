-- A channel that is requested with a free number: the first allocation that passes is at an index.
use Rattle.std.proofs.Common.{◌≡◌, ℕ, zero, suc, Bool, List, [], ◌∷◌, Option, Some, None, slice_get, slice_set, refl, sym, ap, ◌∙◌, subst, inl, inr}
use Rattle.std.proofs.lemmas.Bool.{cases_Bool}
use Rattle.std.specs.List.{find}
use Rattle.turn_client_proto_timers.specs.Allocation.Changes.{change_first}
use Rattle.turn_client_proto_timers.specs.Peers.Channel.Binding.{asking}
use Rattle.turn_client_proto_timers.specs.Peers.Channel.Numbers.{AreDistinct, IsLeastFree}
use Rattle.turn_client_proto_timers.proofs.Peers.Distinct.{alike_uses_less, requested_stay_distinct, placed_stay_distinct}
use Rattle.turn_client_proto_step_laws.specs.Held.{Allocation, PendingChannel}
use Rattle.turn_client_proto_step_laws.proofs.Lessening.{IsAlike}
use Rattle.turn_client_proto_step_laws.proofs.Lists.{inside}

-- The first element that passes is at this index, and is changed there.
pub record IsPlaced {X : Type 0} (passes : X → Bool) (change : X → X) (all : List X) (x : X) : Type 0 where
  pub index : ℕ
  pub there : slice_get all index ≡ Some x
  pub changed : change_first passes change all ≡ slice_set all index (change x)

pub placed : {X : Type 0} (passes : X → Bool) (change : X → X) (all : List X) (x : X) → find passes all ≡ Some x → IsPlaced passes change all x
placed passes change [] x h = absurd (Prim.cc h)
placed passes change (y ∷ all) x h = elim (cases_Bool (passes y)) [
  | inl is ↦
      let here : find passes (y ∷ all) ≡ Some y = rw is refl in
      let same : y ≡ x = inside (sym here ∙ h) in
      let first : change_first passes change (y ∷ all) ≡ change y ∷ all = rw is refl in
      record { index = 0; there = ap Some same; changed = first ∙ ap (λ z. change z ∷ all) same }
  | inr not ↦
      let later : find passes (y ∷ all) ≡ find passes all = rw not refl in
      let rest = placed passes change all x (sym later ∙ h) in
      let following : change_first passes change (y ∷ all) ≡ y ∷ change_first passes change all = rw not refl in
      record { index = suc rest.index; there = rest.there; changed = following ∙ ap (λ l. y ∷ l) rest.changed }
]

none_changed : {X : Type 0} (passes : X → Bool) (change : X → X) (all : List X) → find passes all ≡ None → change_first passes change all ≡ all
none_changed passes change [] h = refl
none_changed passes change (y ∷ all) h = elim (cases_Bool (passes y)) [
  | inl is ↦
      let here : find passes (y ∷ all) ≡ Some y = rw is refl in
      absurd (Prim.cc (sym here ∙ h))
  | inr not ↦
      let later : find passes (y ∷ all) ≡ find passes all = rw not refl in
      let following : change_first passes change (y ∷ all) ≡ y ∷ change_first passes change all = rw not refl in
      following ∙ ap (λ l. y ∷ l) (none_changed passes change all (sym later ∙ h))
]

-- ---- an element that is put at an index

get_put : {X : Type 0} (all : List X) (index : ℕ) (x y : X) → slice_get all index ≡ Some x → slice_get (slice_set all index y) index ≡ Some y
get_put [] index x y h = absurd (Prim.cc h)
get_put (z ∷ all) zero x y h = refl
get_put (z ∷ all) (suc index) x y h = get_put all index x y h

put_twice : {X : Type 0} (all : List X) (index : ℕ) (x y : X) → slice_set (slice_set all index x) index y ≡ slice_set all index y
put_twice [] index x y = refl
put_twice (z ∷ all) zero x y = refl
put_twice (z ∷ all) (suc index) x y = ap (λ l. z ∷ l) (put_twice all index x y)

-- ---- transaction IDs stay distinct

-- The first allocation that passes gets that channel, and the others stay as before.
pub requested_first_distinct : (passes : Allocation → Bool) (change : Allocation → Allocation) (c : PendingChannel) (now : ℕ) (all : List Allocation) → ((a : Allocation) → IsAlike (asking c a) (change a)) → IsLeastFree all now (Some c.channel)
    → AreDistinct all → AreDistinct (change_first passes change all)
requested_first_distinct passes change c now all alike free distinct = by (find passes all) refl
  where
    by : (found : Option Allocation) → find passes all ≡ found → AreDistinct (change_first passes change all)
    by None none = subst AreDistinct (sym (none_changed passes change all none)) distinct
    by (Some a) found =
        let at = placed passes change all a found in
        let requested = requested_stay_distinct all at.index a now c at.there distinct free in
        let put = placed_stay_distinct (slice_set all at.index (asking c a)) at.index (asking c a) (change a) (get_put all at.index a (asking c a) at.there)
        (alike_uses_less (asking c a) (change a) (alike a).0 (alike a).1) requested in
        subst AreDistinct (sym (at.changed ∙ sym (put_twice all at.index (asking c a) (change a)))) put
