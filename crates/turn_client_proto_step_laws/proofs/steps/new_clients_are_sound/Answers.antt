use Rattle.turn_client_proto_step_laws.proofs.Beginning.{new_sound}
use Rattle.turn_client_proto_step_laws.proofs.steps.new_clients_are_sound.Goals as goal

pub returns : goal.returns
returns c = λ transport here server config seed core is short few. new_sound transport here server config seed core is short few
