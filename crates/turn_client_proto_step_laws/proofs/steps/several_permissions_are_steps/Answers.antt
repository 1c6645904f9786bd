use Rattle.turn_client_proto_step_laws.proofs.Requesting.{permissions_step}
use Rattle.turn_client_proto_step_laws.proofs.steps.several_permissions_are_steps.Goals as goal

pub returns : goal.returns
returns c = λ client transport ips now answer new sound is. permissions_step client transport ips now answer new sound is
