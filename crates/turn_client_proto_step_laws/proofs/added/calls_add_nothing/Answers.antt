use Rattle.turn_client_proto_step_laws.proofs.Answered.{none_taken_up}
use Rattle.turn_client_proto_step_laws.proofs.added.calls_add_nothing.Goals as goal

pub returns : goal.returns
returns c = λ call step none. none_taken_up call step none
