use Rattle.stun_proto_agent.proofs.AgentMaps.{remove_number}
use Rattle.stun_proto_agent.proofs.agent.StunAgent.take_out.Goals as goal

pub returns : goal.returns
returns c = remove_number c.self.inside c.remove.new.self _ c.args.transaction_id c.self.view_is c.remove.ensures
