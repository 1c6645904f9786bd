use Rattle.turn_client_proto_step_laws.proofs.Streaming.{from_here, raw_bound}
use Rattle.turn_client_proto_step_laws.proofs.sockets.found_connections.Goals as goal

pub returns : goal.returns
returns c = record {
  address = λ all here k is. from_here here all k is;
  bound = λ all k is. raw_bound all k is;
}
