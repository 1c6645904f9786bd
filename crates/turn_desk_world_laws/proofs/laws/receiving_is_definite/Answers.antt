use Rattle.turn_desk_world_laws.proofs.Receiving.{received_once, received_same}
use Rattle.turn_desk_world_laws.proofs.laws.receiving_is_definite.Goals as goal

pub returns-clause-same : goal.returns-clause-same
returns-clause-same g c = λ old one other came now answer again enough ample a b. received_once _ old came now answer again one other enough ample a b

pub returns-clause-copied : goal.returns-clause-copied
returns-clause-copied g c = λ old one other came copy now answer again is enough ample a b. received_same _ old came copy now answer again one other enough ample is a b
