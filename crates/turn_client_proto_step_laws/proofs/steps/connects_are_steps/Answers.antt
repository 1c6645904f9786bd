use Rattle.turn_client_proto_step_laws.proofs.Connecting.{connect_step}
use Rattle.turn_client_proto_step_laws.proofs.steps.connects_are_steps.Goals as goal

pub returns : goal.returns
returns c = λ client peer now answer new sound whole is. connect_step client peer now whole answer new sound is
