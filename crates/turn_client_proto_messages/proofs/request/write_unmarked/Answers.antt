use Rattle.std.proofs.Common.{◌∙◌, sym}
use Rattle.stun_types_write.specs.Lent.{own_draft}
use Rattle.turn_client_proto_messages.proofs.Writing.{request_accepted, signed_unmarked, unsigned_unmarked}
use Rattle.turn_client_proto_messages.proofs.request.write_unmarked.Goals as goal

pub sign_outgoing_message_unchecked-requires-clause-accepted :
    goal.sign_outgoing_message_unchecked-requires-clause-accepted
sign_outgoing_message_unchecked-requires-clause-accepted c = request_accepted c.args.auth.now c.args.request c.args.transaction_id (own_draft c.in_ok-draft.draft) c.requires c.in_ok-draft.ensures

pub returns-in_ok-signed : goal.returns-in_ok-signed
returns-in_ok-signed c =
    signed_unmarked c.args.auth.now c.args.request c.args.transaction_id (own_draft c.in_ok-draft.draft) (own_draft c.in_ok-signed.signed) (sym c.is_signed-is_signed.ensures ∙ c.if-is_signed.true) c.requires c.in_ok-draft.ensures c.in_ok-signed.ensures.ok

pub returns-else-is_signed : goal.returns-else-is_signed
returns-else-is_signed c = unsigned_unmarked c.args.auth.now c.args.request c.args.transaction_id (own_draft c.in_ok-draft.draft) (sym c.is_signed-is_signed.ensures ∙ c.if-is_signed.false) c.in_ok-draft.ensures
