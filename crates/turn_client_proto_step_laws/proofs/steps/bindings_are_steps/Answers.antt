use Rattle.turn_client_proto_step_laws.proofs.RequestingChannels.{bind_step}
use Rattle.turn_client_proto_step_laws.proofs.steps.bindings_are_steps.Goals as goal

pub returns : goal.returns
returns c = λ client transport peer now answer new sound whole is. bind_step client transport peer now whole answer new sound is
