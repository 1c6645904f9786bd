use Rattle.turn_client_proto_step_laws.proofs.Streaming.{emptying_step, exchange_step}
use Rattle.turn_client_proto_step_laws.proofs.sockets.exchanges_are_steps.Goals as goal

pub returns : goal.returns
returns c = record {
  stored = λ client here stream sound. exchange_step client here stream sound;
  taken = λ client sound. emptying_step client sound;
}
