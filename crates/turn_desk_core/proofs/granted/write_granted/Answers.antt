use Rattle.stun_types_wire.specs.Grammar.{number_at}
use Rattle.stun_types_write.specs.Lent.{own_draft}
use Rattle.stun_types_add.proofs.Taken.{composed_none}
use Rattle.turn_desk_core.specs.Replies.{success_type}
use Rattle.turn_desk_core.proofs.GrantedReplies.{granted_reply}
use Rattle.turn_desk_core.proofs.granted.write_granted.Goals as goal

pub returns-clause-reply : goal.returns-clause-reply
returns-clause-reply c =
    let kind = success_type c.args.request.now in
    let n = number_at c.args.request.now in
    granted_reply kind n (own_draft c.new.result) (own_draft c.in_ok-reply.reply) c.new.ensures (composed_none kind n (own_draft c.new.result) (own_draft c.in_ok-reply.reply) c.in_ok-reply.ensures.started)
