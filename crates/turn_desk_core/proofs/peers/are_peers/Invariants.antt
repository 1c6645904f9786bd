use Rattle.std.proofs.Common.{◌≡◌, map, eqb}
use Rattle.std.specs.Prelude.{is_some}
use Rattle.std.specs.List.{filter, list_all}
use Rattle.turn_types_attributes.specs.TurnRegistry.{xor_peer_address_kind}
use Rattle.turn_desk_core.specs.RequestedFor.{are_peers, peer_in}
use Rattle.turn_desk_core.proofs.peers.are_peers.Given as goal

-- The remaining attributes are well formed exactly if all are.
abbrev pub invariant-loop-raw : goal.invariant-loop-raw
invariant-loop-raw l =
    (goal.iterator-loop-raw).can_next l.raw-iterator ×
    (goal.iterator-loop-raw).is_finite l.raw-iterator ×
    (list_all (λ a. is_some (peer_in l.number a)) (filter (λ a. eqb a.kind xor_peer_address_kind) (map (λ x. x.1) l.raw-iterator)) ≡ are_peers l.fn.request)
