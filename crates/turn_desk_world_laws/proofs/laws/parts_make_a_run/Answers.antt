use Rattle.turn_desk_world.proofs.Joined.{run_joined, run_parted}
use Rattle.turn_desk_world_laws.proofs.laws.parts_make_a_run.Goals as goal

pub returns-clause-joined : goal.returns-clause-joined
returns-clause-joined c = λ old between new first second one two. run_joined first second old between new one two

pub returns-clause-parted : goal.returns-clause-parted
returns-clause-parted c = λ old new first second run. run_parted first second old new run
