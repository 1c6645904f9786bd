use Rattle.stun_types_write.specs.Adding.{attr_of}
use Rattle.stun_types_write.specs.Lent.{own_draft}
use Rattle.turn_client_proto_messages.proofs.Growing.{grown_one}
use Rattle.turn_client_proto_messages.proofs.attributes.add.Goals as goal

pub returns-in-Ok : goal.returns-in-Ok
returns-in-Ok g c =
    grown_one (attr_of (g.A.Attribute.kind c.args.same.now) (g.A.Attribute.value c.args.same.now)) (own_draft c.args.draft.now) (own_draft c.add_as.new.writer) c.requires.is_open c.requires.room c.requires.small c.in-Ok.ensures.ok
