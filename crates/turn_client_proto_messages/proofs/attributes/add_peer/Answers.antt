use Rattle.stun_types_attributes.specs.Addresses.{address_value}
use Rattle.turn_client_proto_messages.proofs.Small.{peer_small}
use Rattle.turn_client_proto_messages.proofs.attributes.add_peer.Goals as goal

pub add-requires-clause-small : goal.add-requires-clause-small
add-requires-clause-small c κs = rw c.new-peer.ensures (peer_small c.args.transaction_id (address_value c.args.peer))
