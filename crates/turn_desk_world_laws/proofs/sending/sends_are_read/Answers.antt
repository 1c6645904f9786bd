use Rattle.turn_desk_world_laws.proofs.SendsRead.{alone, indicated, reported}
use Rattle.turn_desk_world_laws.proofs.sending.sends_are_read.Goals as goal

pub returns-clause-indicated : goal.returns-clause-indicated
returns-clause-indicated c = indicated

pub returns-clause-framed : goal.returns-clause-framed
returns-clause-framed c = alone

pub returns-clause-reported : goal.returns-clause-reported
returns-clause-reported c = reported
