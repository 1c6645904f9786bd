use Rattle.turn_client_proto_step_laws.proofs.Polling.{poll_step}
use Rattle.turn_client_proto_step_laws.proofs.steps.polls_are_steps.Goals as goal

pub returns : goal.returns
returns c = λ client now answer new sound is. poll_step client now answer new sound is
