use Rattle.turn_client_proto_step_laws.proofs.Requesting.{permission_step}
use Rattle.turn_client_proto_step_laws.proofs.steps.permissions_are_steps.Goals as goal

pub returns : goal.returns
returns c = λ client transport ip now answer new sound is. permission_step client transport ip now answer new sound is
