use Rattle.std.proofs.Common.{inr}
use Rattle.turn_desk_world_laws.proofs.Once.{run_once}
use Rattle.turn_desk_world_laws.proofs.laws.runs_are_determined.Goals as goal

pub returns : goal.returns
returns c = λ old new left pairs others differ same run other. run_once pairs others old new left (inr differ) same run other
