use Rattle.turn_desk_step_laws.proofs.Answering as answering
use Rattle.turn_desk_step_laws.proofs.definite.hashes_differ_still.Goals as goal

pub returns : goal.returns
returns c = λ old new from bytes reply now stream decision differ is. answering.hashes_differ_still old new from bytes reply now stream decision differ is
