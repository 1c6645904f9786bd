use Rattle.turn_client_proto_step_laws.proofs.Ending.{failed_step}
use Rattle.std.specs.Prelude.{[]}
use Rattle.turn_client_proto_step_laws.proofs.steps.failures_are_steps.Goals as goal

pub returns : goal.returns
returns c = λ client new is. failed_step client new is []
