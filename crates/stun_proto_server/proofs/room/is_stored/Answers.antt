use Rattle.std.proofs.Common.{◌∙◌}
use Rattle.stun_proto_server.proofs.WithRoom.{stored_is}
use Rattle.stun_proto_server.proofs.room.is_stored.Goals as goal

pub returns : goal.returns
returns c = c.contains_key.ensures ∙ stored_is c.args.clients.now c.args.own
