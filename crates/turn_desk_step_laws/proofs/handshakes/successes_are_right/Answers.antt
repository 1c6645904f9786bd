use Rattle.turn_desk_step_laws.proofs.Succeeding.{no_challenge, success_right}
use Rattle.turn_desk_step_laws.proofs.handshakes.successes_are_right.Goals as goal

pub returns : goal.returns
returns c = λ old new from bytes reply transport relayed lifetime s own is. (
  success_right old new from bytes reply transport relayed lifetime s own is,
  no_challenge old new from bytes reply transport relayed lifetime s own is,
)
