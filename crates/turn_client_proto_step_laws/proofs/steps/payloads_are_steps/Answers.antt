use Rattle.turn_client_proto_step_laws.proofs.Giving.{giving_step}
use Rattle.turn_client_proto_step_laws.proofs.steps.payloads_are_steps.Goals as goal

pub returns : goal.returns
returns c = λ client bytes payload sound is. giving_step client bytes payload sound is
