use Rattle.turn_client_proto_step_laws.proofs.AnsweredSockets.{answered_keeps, answered_none}
use Rattle.turn_client_proto_step_laws.proofs.sockets.answers_leave_streams.Goals as goal

pub returns : goal.returns
returns c = record {
  waiting = λ old new here bytes now is nothing none. answered_none old new here bytes now is nothing none;
  stored = λ old new here there bytes now k is found. let keeps = answered_keeps old new here there bytes now k is found in (keeps.before, keeps.was, keeps.same);
}
