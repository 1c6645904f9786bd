use Rattle.turn_client_proto_step_laws.proofs.Visible.{had_held, held_had}
use Rattle.turn_client_proto_step_laws.proofs.steps.permissions_had_are_held.Goals as goal

pub returns : goal.returns
returns c = record {
  held = λ client transport ip is. had_held client.core.allocations transport ip is;
  had = λ client transport ip held. held_had client.core.allocations transport ip held;
}
