use Rattle.turn_client_proto_step_laws.proofs.Visible.{listed_held}
use Rattle.turn_client_proto_step_laws.proofs.steps.listed_addresses_are_held.Goals as goal

pub returns : goal.returns
returns c = λ client transport address visible. listed_held client.core.allocations transport address visible
