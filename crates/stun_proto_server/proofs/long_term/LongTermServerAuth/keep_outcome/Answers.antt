use Rattle.stun_proto_server.proofs.Apart.{outcome_others}
use Rattle.stun_proto_server.proofs.Maps.{put-outcome}
use Rattle.stun_proto_server.proofs.long_term.LongTermServerAuth.keep_outcome.Goals as goal

pub returns-clause-stored : goal.returns-clause-stored
returns-clause-stored c = put-outcome c.self.inside c.put_outcome.new.clients c.args.self.now c.args.from c.args.outcome c.self.view_is c.put_outcome.ensures

pub returns-clause-others : goal.returns-clause-others
returns-clause-others c other = outcome_others c.args.self.now _ c.args.from other c.args.outcome (returns-clause-stored c)
