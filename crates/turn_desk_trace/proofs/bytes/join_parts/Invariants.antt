use Rattle.std.proofs.Common.{◌≡◌, drop}
use Rattle.std.specs.Prelude.{map}
use Rattle.turn_desk_trace.specs.Bytes.{joined, part_bytes, prepend}
use Rattle.turn_desk_trace.proofs.bytes.join_parts.Given as goal

-- The bytes so far precede those of the parts that are left.
abbrev pub invariant-loop-part : goal.invariant-loop-part
invariant-loop-part l =
    joined (map (λ x. part_bytes l.answers x.now) l.parts)
    ≡ prepend l.bytes.items (joined (map (λ x. part_bytes l.answers x.now) (drop l.part-index l.parts)))
