use Rattle.std.proofs.Common.{◌≡◌, fold, map, eqb}
use Rattle.std.specs.List.{filter}
use Rattle.turn_types_attributes.specs.TurnRegistry.{xor_relayed_address_kind}
use Rattle.turn_client_proto_messages.specs.Granting.{allocations_of, with_address}
use Rattle.turn_client_proto_messages.specs.Reported.{relayed_reported}
use Rattle.turn_client_proto_messages.proofs.Firsts.{reported_before}
use Rattle.turn_client_proto_messages.proofs.granting.allocations_of.Given as goal

-- The allocations so far, with those for the remaining attributes, are all allocations.
abbrev pub invariant-loop-raw : goal.invariant-loop-raw
invariant-loop-raw l =
    (goal.iterator-loop-raw).can_next l.raw-iterator ×
    (goal.iterator-loop-raw).is_finite l.raw-iterator ×
    (fold (with_address l.terms.families l.terms.transport l.terms.lifetime l.terms.time) l.allocations
    (reported_before l.number (filter (λ a. eqb a.kind xor_relayed_address_kind) (map (λ x. x.1) l.raw-iterator)))
    ≡ allocations_of l.terms.families l.terms.transport l.terms.lifetime l.terms.time (relayed_reported l.fn.message))
