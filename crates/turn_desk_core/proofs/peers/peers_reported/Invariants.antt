use Rattle.std.proofs.Common.{◌≡◌, ◌++◌, map, eqb}
use Rattle.std.specs.List.{filter, filter_map}
use Rattle.turn_types_attributes.specs.TurnRegistry.{xor_peer_address_kind}
use Rattle.turn_desk_core.specs.RequestedFor.{peer_in, peers_reported}
use Rattle.turn_desk_core.proofs.peers.peers_reported.Given as goal

-- The peers so far and those of the remaining attributes are all peers.
abbrev pub invariant-loop-raw : goal.invariant-loop-raw
invariant-loop-raw l =
    (goal.iterator-loop-raw).can_next l.raw-iterator ×
    (goal.iterator-loop-raw).is_finite l.raw-iterator ×
    (l.peers ++ filter_map (peer_in l.number) (filter (λ a. eqb a.kind xor_peer_address_kind) (map (λ x. x.1) l.raw-iterator)) ≡ peers_reported l.fn.request)
