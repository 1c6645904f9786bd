use Rattle.turn_desk_step_laws.proofs.Reported.{challenge_read, takes_own}
use Rattle.turn_desk_step_laws.proofs.challenged.challenges_are_read.Goals as goal

pub returns-clause-read : goal.returns-clause-read
returns-clause-read c = λ old new from bytes reply now stream served is other. challenge_read old new from bytes reply now stream served is other

pub returns-clause-takes : goal.returns-clause-takes
returns-clause-takes c = λ hardened party algorithm features. takes_own hardened party algorithm features
