-- The last integrity attribute.
use Rattle.stun_types_attributes.proofs.Wire.Left.{map_numbered}
use Rattle.stun_types_message.proofs.Validating.{last_step}
use Rattle.stun_types_message.specs.MessageValidation.{last_algorithm}

-- The step for one more attribute.
pub ruleset steps = (map_numbered, last_step)

-- For proofs: unfolding it unfolds the last algorithm.
unfoldable pub last : Type 0
unfolding last_algorithm
last = Unit {0}
