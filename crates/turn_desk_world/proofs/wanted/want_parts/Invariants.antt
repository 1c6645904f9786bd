use Rattle.std.proofs.Common.{take}
use Rattle.std.specs.Prelude.{All}
use Rattle.turn_desk_world.specs.Wanted.{IsPartCovered, StaysWanted}
use Rattle.turn_desk_world.proofs.wanted.want_parts.Given as goal

-- The results that the parts so far name are stored.
abbrev pub invariant-loop-part : goal.invariant-loop-part
invariant-loop-part l =
    StaysWanted l.fn.flags l.flags × All (λ part. IsPartCovered l.flags part.now) (take l.part-index l.parts)
