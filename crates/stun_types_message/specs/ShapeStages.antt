-- How far the visible attributes of a message have come in their prescribed order (RFC 8489, sections 14.5 to
-- 14.7).
use Rattle.std.specs.Prelude.{◌≡◌, ℕ, true, false, Option, MatchOption}
use Rattle.stun_types_attributes.specs.Wire.Shape.{rank, may_follow}
use Rattle.stun_types_message.specs.declared.stage.Stage.{Stage}
use Rattle.stun_types_message.specs.declared.stage.Stage.TheVariants.{Ordinary, Integrity, Sha256, Sha512, Fingerprint}

-- The rank of the last visible attribute.
abbrev pub stage_rank : Stage → ℕ
stage_rank Ordinary = 0
stage_rank Integrity = 1
stage_rank Sha256 = 2
stage_rank Sha512 = 3
stage_rank Fingerprint = 4

-- The stage after an attribute of this type: that of its rank if it may follow, and otherwise `None`.
abbrev pub LeadsTo : Stage → ℕ → Option Stage → Type 0
LeadsTo before kind next = MatchOption next (may_follow (stage_rank before) (rank kind) ≡ false)
    (λ stage. (may_follow (stage_rank before) (rank kind) ≡ true) × (stage_rank stage ≡ rank kind))
