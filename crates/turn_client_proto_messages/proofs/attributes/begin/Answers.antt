use Rattle.stun_types_write.specs.Lent.{own_draft}
use Rattle.stun_types_wire.specs.Types.{type_of}
use Rattle.turn_client_proto_messages.proofs.Growing.{started_unsigned}
use Rattle.turn_client_proto_messages.proofs.attributes.begin.Goals as goal

pub returns-clause-unsigned : goal.returns-clause-unsigned
returns-clause-unsigned c =
    started_unsigned c.from_class_method-mtype.result (type_of c.args.class c.args.method.0) c.args.transaction_id (own_draft c.new.result) (own_draft c.in_ok-draft.draft) c.new.ensures c.from_class_method-mtype.ensures.value c.in_ok-draft.ensures.started
