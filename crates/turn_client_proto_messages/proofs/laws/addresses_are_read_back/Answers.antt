use Rattle.turn_client_proto_messages.proofs.Peers.{peer_read}
use Rattle.turn_client_proto_messages.proofs.laws.addresses_are_read_back.Goals as goal

pub returns : goal.returns
returns c = λ number peer own flow scope. peer_read number peer own flow scope
