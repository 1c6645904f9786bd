use Rattle.turn_client_proto_step_laws.proofs.Closed.{none_over}
use Rattle.turn_client_proto_step_laws.proofs.Socketing.{close_step}
use Rattle.turn_client_proto_step_laws.proofs.steps.closings_are_steps.Goals as goal

pub returns : goal.returns
returns c = record {
  step = λ client here server new sound is. close_step client here server new sound is;
  gone = λ old new here peer number tcp is stored. none_over old new here peer number tcp is stored;
}
