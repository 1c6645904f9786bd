use Rattle.std.proofs.Common.{Bool, ap, ◌∙◌}
use Rattle.stun_types_add.specs.Calls.{after_calls}
use Rattle.stun_types_write.specs.Lent.{own_draft}
use Rattle.turn_client_proto_messages.specs.Requests.{fingerprint_calls}
use Rattle.turn_client_proto_messages.proofs.Writing.{marked_text}
use Rattle.turn_client_proto_messages.proofs.request.write_request.Goals as goal

pub returns : goal.returns
returns c =
    c.in_ok-bytes.ensures
    ∙ ap (λ (marks : Bool). (after_calls (fingerprint_calls marks) (own_draft c.in_ok-draft.draft)).bytes) c.has_fingerprint.ensures
    ∙ marked_text c.args.auth.now c.args.request c.args.transaction_id (own_draft c.in_ok-draft.draft) c.in_ok-draft.ensures
