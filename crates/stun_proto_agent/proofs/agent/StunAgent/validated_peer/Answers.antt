use Rattle.stun_proto_agent.proofs.AgentMaps.{insert_peer}
use Rattle.stun_proto_agent.proofs.agent.StunAgent.validated_peer.Goals as goal

pub returns-clause-ok : goal.returns-clause-ok
returns-clause-ok c = insert_peer c.self.inside c.insert.new.self _ c.args.addr c.self.view_is c.in_ok-insert.ensures.updates
