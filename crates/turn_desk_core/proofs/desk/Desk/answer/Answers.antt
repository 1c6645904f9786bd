use Rattle.stun_types_write.specs.Lent.{own_draft}
use Rattle.turn_desk_core.proofs.Responses.{reply_is_response}
use Rattle.turn_desk_core.proofs.desk.Desk.answer.Goals as goal

pub sign-requires-clause-response : goal.sign-requires-clause-response
sign-requires-clause-response c = reply_is_response c.args.request.now c.in_ok-what.what _ _ (own_draft c.in_ok-reply.reply) c.requires.request c.in_ok-reply.ensures
