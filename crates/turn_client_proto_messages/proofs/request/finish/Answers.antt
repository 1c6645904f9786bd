use Rattle.std.proofs.Common.{◌∙◌}
use Rattle.stun_types_write.specs.Lent.{own_draft}
use Rattle.turn_client_proto_messages.proofs.Writing.{marked_bytes, plain_bytes}
use Rattle.turn_client_proto_messages.proofs.request.finish.Goals as goal

pub returns-in-Ok : goal.returns-in-Ok
returns-in-Ok c =
    c.finish.ensures
    ∙ marked_bytes c.args.has_fingerprint (own_draft c.args.draft) (own_draft c.add_fingerprint.new.self) c.if-has_fingerprint.true c.in-Ok.ensures.ok

pub returns-else-has_fingerprint : goal.returns-else-has_fingerprint
returns-else-has_fingerprint c = c.finish-else-has_fingerprint.ensures ∙ plain_bytes c.args.has_fingerprint (own_draft c.args.draft) c.if-has_fingerprint.false
