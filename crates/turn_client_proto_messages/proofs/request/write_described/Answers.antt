use Rattle.stun_types_write.specs.Lent.{own_draft}
use Rattle.turn_client_proto_messages.proofs.Writing.{one_described}
use Rattle.turn_client_proto_messages.proofs.request.write_described.Goals as goal

pub returns-in_ok-add_software-in-Some : goal.returns-in_ok-add_software-in-Some
returns-in_ok-add_software-in-Some c =
    one_described c.args.auth.now.style.software c.in-Some.software.now c.args.request c.args.transaction_id (own_draft c.in_ok-draft.draft) (own_draft c.add_software.new.draft) c.in-Some.ensures c.add_software.ensures.short c.in_ok-draft.ensures.request c.in_ok-draft.ensures.short c.in_ok-add_software-in-Some.ensures.added
