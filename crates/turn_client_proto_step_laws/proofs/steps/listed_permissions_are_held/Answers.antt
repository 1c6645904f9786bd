use Rattle.turn_client_proto_step_laws.proofs.Visible.{permission_held}
use Rattle.turn_client_proto_step_laws.proofs.steps.listed_permissions_are_held.Goals as goal

pub returns : goal.returns
returns c = λ client transport relayed ip visible. permission_held client.core.allocations transport relayed ip visible
