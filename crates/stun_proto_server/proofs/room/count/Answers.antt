use Rattle.std.proofs.Common.{sym, ◌∙◌}
use Rattle.stun_proto_server.proofs.WithRoom.{counted}
use Rattle.stun_proto_server.proofs.room.count.Goals as goal

pub returns : goal.returns
returns c = c.len.ensures.len ∙ sym (counted c.args.clients.now c.len.ensures.ordered)
