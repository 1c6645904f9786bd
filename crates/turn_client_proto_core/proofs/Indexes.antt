-- The allocation that a call is for: the first of a transport and a family, by its index.
use Rattle.std.proofs.Common.{◌≡◌, ℕ, ◌<◌, true, false, List, length, Option, Some, None, get_or, if◌then◌else◌, position, slice_get, slice_set, refl, sym, ap, ◌∙◌, subst, arith, inl, inr}
use Rattle.std.proofs.lemmas.List.{get_or-set_same, length-set}
use Rattle.std.proofs.lemmas.Option.{slice_get_cases, slice_get_read}
use Rattle.std.specs.Prelude.{find, IfSome}
use Rattle.stun_types_base.specs.declared.family.AddressFamily.{AddressFamily}
use Rattle.stun_types_base.specs.declared.transport.TransportType.{TransportType}
use Rattle.turn_client_proto_allocation.proofs.Changes.{at_index, changed_at, find_is, found_at}
use Rattle.turn_client_proto_allocation.specs.Changes.{change_first}
use Rattle.turn_client_proto_allocation.specs.declared.allocation.Allocation.{Allocation}
use Rattle.turn_client_proto_peers.specs.Permission.Asking.{is_of, is_past, marked}
use Rattle.turn_client_proto_core.specs.declared.protocol.Protocol.{Protocol}

-- ---- the element at an index

-- Reading a list below its length finds an element.
pub read_there : (all : List Allocation) (index : ℕ) → index < length all → slice_get all index ≡ None → ⊥
read_there all index within none = elim (slice_get_cases all index).1 [
  | inl there ↦ Prim.cc (sym there.2 ∙ none)
  | inr past ↦ let beyond = past.0 in absurd (omega (arith, within, beyond))
]

-- An element that was set at an index is read there.
pub set_read : {X : Type 0} (all : List X) (index : ℕ) (x : X) → index < length all → slice_get (slice_set all index x) index ≡ Some x
set_read all index x within =
    slice_get_read (slice_set all index x) (length (slice_set all index x)) index x refl
    (subst (λ (n : ℕ). index < n) (sym (length-set all index x)) within) (sym (get_or-set_same all index x x within))

-- Requesting something in the allocation at an index and then forgetting it leaves the client unchanged.
pub undone : {Pending : Type 0} (asking : Pending → Allocation → Allocation) (old asking_it : Protocol) (left pushed : List Allocation) (index : ℕ) (pending : Pending) (found : Option Allocation) → slice_get old.allocations index ≡ found → (found ≡ None → ⊥)
    → IfSome found (λ a. pushed ≡ slice_set old.allocations index (asking pending a)) → asking_it ≡ record old { allocations = pushed }
    → ((before : List Allocation) (a : Allocation) (p : Pending) → slice_get before index ≡ Some a → asking_it.allocations ≡ slice_set before index (asking p a) → left ≡ before)
    → record asking_it { allocations = left } ≡ old
undone asking old asking_it left pushed index pending None at some is after back = absurd (some refl)
undone asking old asking_it left pushed index pending (Some a) at some is after back =
    ap (λ (p : Protocol). record p { allocations = left }) after
    ∙ ap (λ (l : List Allocation). record old { allocations = l }) (back old.allocations a pending at (ap (λ (p : Protocol). p.allocations) after ∙ is))

-- ---- which allocation

module _ (old : Protocol) (transport : TransportType) (own : AddressFamily) where
  -- The index that was found with an equal family and an equal list is that of the client's allocations.
  pub index_is : (index found : Option ℕ) (family : AddressFamily) (all : List Allocation) → family ≡ own → all ≡ old.allocations → index ≡ position (is_of transport family) all → index ≡ found
      → position (is_of transport own) old.allocations ≡ found
  index_is index found family all same whole is there =
      ap (λ (l : List Allocation). position (is_of transport own) l) (sym whole)
      ∙ ap (λ (f : AddressFamily). position (is_of transport f) all) (sym same) ∙ sym is ∙ there

  -- If the index isn't found, there is no such allocation.
  pub nowhere : position (is_of transport own) old.allocations ≡ None → find (is_of transport own) old.allocations ≡ None
  nowhere none = find_is (is_of transport own) old.allocations ∙ ap (at_index old.allocations) none

  module _ (now index : ℕ) (a : Allocation) (here : position (is_of transport own) old.allocations ≡ Some index) (at : a ≡ get_or old.allocations index a) where
    pub found : find (is_of transport own) old.allocations ≡ Some a
    found = found_at (is_of transport own) old.allocations index a here at

    -- If the allocation has expired, it is marked as expired.
    pub marked_past : (changed : List Allocation) → is_past now a ≡ true → IfSome (slice_get old.allocations index) (λ x. changed ≡ slice_set old.allocations index (marked x))
        → record old { allocations = changed } ≡ (if is_past now a then record old { allocations = change_first (is_of transport own) marked old.allocations } else old)
    marked_past changed is marks =
        ap (λ (l : List Allocation). record old { allocations = l }) (changed_at (is_of transport own) marked old.allocations changed index here marks)
        ∙ sym (if_past is)
      where
        if_past : is_past now a ≡ true → (if is_past now a then record old { allocations = change_first (is_of transport own) marked old.allocations } else old) ≡ record old { allocations = change_first (is_of transport own) marked old.allocations }
        if_past past = rw past refl

    -- If it has not expired, nothing changes.
    pub unmarked : is_past now a ≡ false → old ≡ (if is_past now a then record old { allocations = change_first (is_of transport own) marked old.allocations } else old)
    unmarked is = rw is refl
