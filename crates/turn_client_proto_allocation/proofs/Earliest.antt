-- The earliest of some times.
use Rattle.std.proofs.Common.{◌≡◌, ℕ, List, [], ◌∷◌, Option, Some, None, fold, min, refl, ◌∙◌}
use Rattle.std.specs.List.{cons_option, filter_map}
use Rattle.stun_proto_transaction.specs.Least.{IsLeastOf}
use Rattle.stun_proto_transaction.proofs.Leasts.{least_is, least_of}
use Rattle.turn_client_proto_allocation.specs.Polling.{earlier, next_of, nexts}
use Rattle.turn_client_proto_allocation.specs.declared.allocation.Allocation.{Allocation}

-- The earliest time, computed over the allocations one after another.
abbrev pub earliest : Option ℕ → ℕ → ℕ → ℕ → List Allocation → ℕ
earliest ended ready now wait allocations = fold (λ w a. earlier w (next_of ended ready now a)) wait allocations

stored_one_by_one : (h : Allocation → Option ℕ) (wait : ℕ) (all : List Allocation) → fold (λ w a. earlier w (h a)) wait all ≡ least_of wait (filter_map h all)
stored_one_by_one h wait [] = refl
stored_one_by_one h wait (a ∷ rest) =
    elim (h a) as (λ o. fold (λ w b. earlier w (h b)) (earlier wait o) rest ≡ least_of wait (cons_option o (filter_map h rest))) [
      | None ↦ stored_one_by_one h wait rest
      | Some time ↦ stored_one_by_one h (min wait time) rest
    ]

pub earliest_is : (ended : Option ℕ) (ready now wait : ℕ) (all : List Allocation) (next : ℕ) → next ≡ earliest ended ready now wait all → IsLeastOf wait (nexts ended ready now all) next
earliest_is ended ready now wait all next is = least_is wait (nexts ended ready now all) next (is ∙ stored_one_by_one (next_of ended ready now) wait all)
