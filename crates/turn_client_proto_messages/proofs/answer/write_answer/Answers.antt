use Rattle.std.proofs.Common.{◌∙◌}
use Rattle.stun_types_write.specs.Lent.{own_draft}
use Rattle.turn_client_proto_messages.proofs.Answering.{answer_accepted, signed_answer}
use Rattle.turn_client_proto_messages.proofs.answer.write_answer.Goals as goal

pub sign_outgoing_message_unchecked-requires-clause-accepted :
    goal.sign_outgoing_message_unchecked-requires-clause-accepted
sign_outgoing_message_unchecked-requires-clause-accepted c =
    answer_accepted c.args.auth.now c.args.answer c.args.transaction_id (own_draft c.in_ok-draft.draft) c.in_ok-draft.ensures.answer c.in_ok-draft.ensures.short

pub returns : goal.returns
returns c =
    c.finish.ensures
    ∙ signed_answer c.args.auth.now c.args.answer c.args.transaction_id (own_draft c.in_ok-draft.draft) (own_draft c.in_ok-signed.signed) c.in_ok-draft.ensures.answer c.in_ok-signed.ensures.ok
