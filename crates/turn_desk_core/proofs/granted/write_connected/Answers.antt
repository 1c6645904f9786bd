use Rattle.std.proofs.Common.{rules, ◌≡◌}
use Rattle.stun_types_wire.specs.Grammar.{number_at}
use Rattle.stun_types_wire.specs.declared.error.StunWriteError.TheVariants.{NoMemory}
use Rattle.stun_types_write.specs.Lent.{own_draft}
use Rattle.turn_desk_core.specs.Replies.{success_type}
use Rattle.turn_desk_core.proofs.GrantedReplies.{connected_reply, number_room}
use Rattle.turn_desk_core.proofs.Room.{only_memory}
use Rattle.turn_desk_core.proofs.granted.write_connected.Goals as goal
use Rattle.turn_types_attributes.specs.TurnRegistry.{connection_id_kind}

pub returns-in_err-add_as-clause-memory : goal.returns-in_err-add_as-clause-memory
returns-in_err-add_as-clause-memory c =
    let memory : c.in_err-add_as.field-0.0 ≡ NoMemory =
    only_memory _ _ c.in_err-add_as.ensures.cause
    (number_room (success_type c.args.request.now) (number_at c.args.request.now) connection_id_kind c.new-connection.result (own_draft c.in_ok-reply.reply) c.in_ok-reply.ensures.reply) in
    search rules

pub returns-clause-reply : goal.returns-clause-reply
returns-clause-reply c =
    connected_reply (success_type c.args.request.now) (number_at c.args.request.now) c.new-connection.result c.args.connection (own_draft c.in_ok-reply.reply) (own_draft c.add_as.new.writer) c.new-connection.ensures c.in_ok-reply.ensures.reply c.in_ok-add_as.ensures.ok c.in_ok-add_as.ensures.cause
