use Rattle.std.proofs.Common.{◌≡◌, ◌*◌, ◌≤◌, length, take, map}
use Rattle.stun_types_attributes.specs.UnknownTypes.{types_decoded}
use Rattle.stun_types_attributes.proofs.unknown_attributes.bytes_of.Given as goal

-- The bytes encode the types before the index, in two bytes each.
abbrev pub invariant-loop-atype : goal.invariant-loop-atype
invariant-loop-atype l =
    (l.atype-index ≤ length l.types) ×
    (length l.bytes.items ≡ 2 * l.atype-index) ×
    (types_decoded l.bytes.items ≡ map (λ t. t.0) (take l.atype-index l.types))
