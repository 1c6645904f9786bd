use Rattle.turn_desk_world_laws.proofs.SendsMeant.{meant, permitted}
use Rattle.turn_desk_world_laws.proofs.SendsOne.{one_peer}
use Rattle.turn_desk_world_laws.proofs.sending.answers_send_to_whom_is_meant.Goals as goal

pub returns-clause-meant : goal.returns-clause-meant
returns-clause-meant c = meant

pub returns-clause-permitted : goal.returns-clause-permitted
returns-clause-permitted c = permitted

pub returns-clause-one : goal.returns-clause-one
returns-clause-one c = one_peer
