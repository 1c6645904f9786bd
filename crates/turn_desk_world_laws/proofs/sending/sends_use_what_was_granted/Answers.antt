use Rattle.turn_desk_world_laws.proofs.SendsGranted.{in_run_meant, in_run_permitted}
use Rattle.turn_desk_world_laws.proofs.sending.sends_use_what_was_granted.Goals as goal

pub returns-clause-meant : goal.returns-clause-meant
returns-clause-meant c = in_run_meant

pub returns-clause-permitted : goal.returns-clause-permitted
returns-clause-permitted c = in_run_permitted
