use Rattle.turn_client_proto_step_laws.proofs.Refreshing.{delete_step}
use Rattle.turn_client_proto_step_laws.proofs.steps.deletions_are_steps.Goals as goal

pub returns : goal.returns
returns c = λ client now answer new sound is. delete_step client now answer new sound is
