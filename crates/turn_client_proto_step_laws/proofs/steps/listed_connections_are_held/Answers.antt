use Rattle.turn_client_proto_step_laws.proofs.ListedConnections.{connection_held}
use Rattle.turn_client_proto_step_laws.proofs.steps.listed_connections_are_held.Goals as goal

pub returns : goal.returns
returns c = λ client here peer number visible. connection_held client.core.allocations here peer number visible
