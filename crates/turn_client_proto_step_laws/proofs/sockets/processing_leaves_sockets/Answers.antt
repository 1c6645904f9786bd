use Rattle.turn_client_proto_step_laws.proofs.SocketsLeft.{processed_none}
use Rattle.turn_client_proto_step_laws.proofs.sockets.processing_leaves_sockets.Goals as goal

pub returns : goal.returns
returns c = λ old new bytes now handled is none. processed_none old bytes now handled new is none
