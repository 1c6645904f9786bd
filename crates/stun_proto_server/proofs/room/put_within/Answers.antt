use Rattle.std.proofs.Common.{sym, ap, ◌∙◌}
use Rattle.stun_proto_server.specs.Rooms.{room_by}
use Rattle.stun_proto_server.specs.View.{clients_of}
use Rattle.stun_proto_server.proofs.WithRoom.{put}
use Rattle.stun_proto_server.proofs.room.put_within.Goals as goal

pub returns-clause-ok : goal.returns-clause-ok
returns-clause-ok c =
    c.make_room.ensures ∙ ap (λ due. room_by c.args.own due (clients_of c.insert.new.self)) c.room_due-due.ensures
    ∙ put c.args.clients.now c.insert.new.self c.args.most c.args.own c.args.stored c.in_ok-insert.ensures.updates
