use Rattle.turn_client_proto_step_laws.proofs.FirstNumber.{first_number}
use Rattle.turn_client_proto_step_laws.proofs.steps.first_numbers_are_of_the_seed.Goals as goal

pub returns : goal.returns
returns c = λ transport here server config seed core new now sent is short few generated. first_number transport here server config seed core new now sent is short few generated
