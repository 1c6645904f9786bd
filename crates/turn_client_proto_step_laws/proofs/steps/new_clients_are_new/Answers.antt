use Rattle.turn_client_proto_step_laws.proofs.Beginning.{new_unasked}
use Rattle.turn_client_proto_step_laws.proofs.steps.new_clients_are_new.Goals as goal

pub returns : goal.returns
returns g c = λ transport here server config seed core is. new_unasked transport here server config seed core is g.D.Desk.words
