use Rattle.turn_client_proto_payload.proofs.OfPeers.{payload_of_peer}
use Rattle.turn_client_proto_payload.proofs.laws.payloads_are_of_peers.Goals as goal

pub returns : goal.returns
returns c = payload_of_peer
