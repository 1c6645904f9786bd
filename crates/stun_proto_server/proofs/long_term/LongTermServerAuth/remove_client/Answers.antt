use Rattle.stun_proto_server.proofs.Maps.{remove-clients}
use Rattle.stun_proto_server.proofs.Apart.{removed_others}
use Rattle.stun_proto_server.proofs.long_term.LongTermServerAuth.remove_client.Goals as goal

pub returns-clause-removed : goal.returns-clause-removed
returns-clause-removed c = remove-clients c.self.inside c.remove.new.self c.args.self.now c.args.client c.self.view_is c.remove.ensures.updates

pub returns-clause-others : goal.returns-clause-others
returns-clause-others c other =
    removed_others c.args.self.now _ c.args.client other (remove-clients c.self.inside c.remove.new.self c.args.self.now c.args.client c.self.view_is c.remove.ensures.updates)
