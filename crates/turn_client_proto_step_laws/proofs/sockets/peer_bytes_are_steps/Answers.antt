use Rattle.turn_client_proto_step_laws.proofs.Streaming.{from_stored, passing_emptying, passing_exchange, passing_still, raw_stored}
use Rattle.turn_client_proto_step_laws.proofs.sockets.peer_bytes_are_steps.Goals as goal

pub returns : goal.returns
returns c = record {
  passed = λ client here k bytes sound is bound. passing_still client k bytes sound (from_stored here client.core.allocations k is bound);
  stored = λ client here k bytes stream sound is bound. passing_exchange client here stream k bytes sound (from_stored here client.core.allocations k is bound);
  waiting = λ client k bytes sound is. passing_still client k bytes sound (raw_stored client.core.allocations k is);
  taken = λ client k bytes sound is. passing_emptying client k bytes sound (raw_stored client.core.allocations k is);
}
