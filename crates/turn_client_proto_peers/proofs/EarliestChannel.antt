-- The earliest of the times at which channels have to be polled.
use Rattle.std.proofs.Common.{◌≡◌, ℕ, List, [], ◌∷◌, ◌++◌, Option, fold, map, min, refl, sym, ap, ◌∙◌}
use Rattle.std.specs.List.{flat_map}
use Rattle.turn_client_proto_allocation.specs.StunProtoTransaction.Least.{IsLeastOf}
use Rattle.turn_client_proto_allocation.proofs.StunProtoTransaction.Leasts.{least_is, least_of}
use Rattle.turn_client_proto_allocation.specs.Channels.{next_of_channel}
use Rattle.turn_client_proto_allocation.specs.declared.allocation.Allocation.{Allocation}
use Rattle.turn_client_proto_allocation.specs.declared.channel.Channel.{Channel}
use Rattle.turn_client_proto_peers.specs.Channel.Expiring.{all_nexts, earlier_of}

-- The earliest time, computed over the allocations one after another.
abbrev pub earliest : Option ℕ → (ready now wait : ℕ) → List Allocation → ℕ
earliest ended ready now wait allocations = fold (λ w (a : Allocation). earlier_of ended ready now w a.channels) wait allocations

folded : (h : Channel → ℕ) (wait : ℕ) (all : List Channel) → fold (λ w c. min w (h c)) wait all ≡ least_of wait (map h all)
folded h wait [] = refl
folded h wait (c ∷ rest) = folded h (min wait (h c)) rest

joined : (wait : ℕ) (one other : List ℕ) → least_of wait (one ++ other) ≡ least_of (least_of wait one) other
joined wait [] other = refl
joined wait (n ∷ one) other = joined (min wait n) one other

all_folded : (h : Channel → ℕ) (wait : ℕ) (all : List Allocation)
    → fold (λ w (a : Allocation). fold (λ v c. min v (h c)) w a.channels) wait all ≡ least_of wait (flat_map (λ (a : Allocation). map h a.channels) all)
all_folded h wait [] = refl
all_folded h wait (a ∷ rest) =
    all_folded h (fold (λ v c. min v (h c)) wait a.channels) rest
    ∙ ap (λ w. least_of w (flat_map (λ (b : Allocation). map h b.channels) rest)) (folded h wait a.channels)
    ∙ sym (joined wait (map h a.channels) (flat_map (λ (b : Allocation). map h b.channels) rest))

pub earliest_is : (ended : Option ℕ) (ready now wait : ℕ) (all : List Allocation) (next : ℕ) → next ≡ earliest ended ready now wait all → IsLeastOf wait (all_nexts ended ready now all) next
earliest_is ended ready now wait all next is = least_is wait (all_nexts ended ready now all) next (is ∙ all_folded (next_of_channel ended ready now) wait all)
