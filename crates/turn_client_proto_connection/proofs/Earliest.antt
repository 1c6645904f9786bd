-- The earliest of the deadlines of connections that are not bound.
use Rattle.std.proofs.Common.{◌≡◌, ℕ, List, [], ◌∷◌, ◌++◌, Option, Some, None, fold, min, refl, sym, ap, ◌∙◌}
use Rattle.std.specs.List.{cons_option, filter_map}
use Rattle.turn_client_proto_allocation.specs.StunProtoTransaction.Least.{IsLeastOf}
use Rattle.turn_client_proto_allocation.proofs.StunProtoTransaction.Leasts.{least_is, least_of}
use Rattle.turn_client_proto_allocation.specs.Polling.{earlier}
use Rattle.turn_client_proto_allocation.specs.declared.allocation.Allocation.{Allocation}
use Rattle.turn_client_proto_allocation.specs.declared.connection.Connection.{Connection}
use Rattle.turn_client_proto_connection.specs.Expiring.{all_nexts, earlier_of, next_of, nexts}

-- The earliest deadline, computed over the allocations one after another.
abbrev pub earliest : (wait : ℕ) → List Allocation → ℕ
earliest wait allocations = fold (λ w (a : Allocation). earlier_of w a.connections) wait allocations

folded : (h : Connection → Option ℕ) (wait : ℕ) (all : List Connection) → fold (λ w c. earlier w (h c)) wait all ≡ least_of wait (filter_map h all)
folded h wait [] = refl
folded h wait (c ∷ rest) =
    elim (h c) as (λ o. fold (λ w b. earlier w (h b)) (earlier wait o) rest ≡ least_of wait (cons_option o (filter_map h rest))) [
      | None ↦ folded h wait rest
      | Some time ↦ folded h (min wait time) rest
    ]

joined : (wait : ℕ) (one other : List ℕ) → least_of wait (one ++ other) ≡ least_of (least_of wait one) other
joined wait [] other = refl
joined wait (n ∷ one) other = joined (min wait n) one other

all_folded : (wait : ℕ) (all : List Allocation) → earliest wait all ≡ least_of wait (all_nexts all)
all_folded wait [] = refl
all_folded wait (a ∷ rest) =
    all_folded (earlier_of wait a.connections) rest
    ∙ ap (λ w. least_of w (all_nexts rest)) (folded next_of wait a.connections)
    ∙ sym (joined wait (nexts a.connections) (all_nexts rest))

pub earliest_is : (wait : ℕ) (all : List Allocation) (next : ℕ) → next ≡ earliest wait all → IsLeastOf wait (all_nexts all) next
earliest_is wait all next is = least_is wait (all_nexts all) next (is ∙ all_folded wait all)
