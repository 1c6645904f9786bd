use Rattle.turn_client_proto_step_laws.proofs.Beginning.{new_realm}
use Rattle.turn_client_proto_step_laws.proofs.steps.new_clients_keep_no_realm.Goals as goal

pub returns : goal.returns
returns c = λ transport here server config seed core is. new_realm transport here server config seed core is
