use Rattle.std.proofs.Common.{◌≡◌, length, map}
use Rattle.std.specs.Prelude.{find}
use Rattle.stun_types_wire.specs.Attributes.{attributes}
use Rattle.stun_types_wire.specs.Shape.{kinds_of}
use Rattle.stun_types_write.specs.Adding.{is_among}
use Rattle.stun_types_write.specs.Drafts.{kinds_written}
use Rattle.stun_types_write.proofs.scan.first_written.Given as goal

-- The first requested type among all attributes is the first among the remaining ones.
abbrev pub invariant-loop-found : goal.invariant-loop-found
invariant-loop-found l = find (is_among (map (λ a. a.0) l.requested)) (kinds_of (attributes l.left)) ≡ find (is_among (map (λ a. a.0) l.requested)) (kinds_written l.fn.bytes)

abbrev pub decreases-loop-found : goal.decreases-loop-found
decreases-loop-found l = length l.left
