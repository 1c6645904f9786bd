use Rattle.turn_client_proto_step_laws.proofs.Socketing.{socket_step}
use Rattle.turn_client_proto_step_laws.proofs.steps.sockets_are_steps.Goals as goal

pub returns : goal.returns
returns c = λ client connection socket peer here now answer new sound is. socket_step client connection socket peer here now answer new sound is
