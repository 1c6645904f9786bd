use Rattle.std.proofs.Common.{length}
use Rattle.turn_client_proto_messages.proofs.attributes.+add_peers.Given as goal

abbrev pub decreases-add_peers : goal.decreases-add_peers
decreases-add_peers l = length l.ips.now
