use Rattle.turn_client_proto_step_laws.proofs.Ending.{event_step}
use Rattle.turn_client_proto_step_laws.proofs.steps.events_are_steps.Goals as goal

pub returns : goal.returns
returns c = λ client event new sound reported others. event_step client event new sound reported others
