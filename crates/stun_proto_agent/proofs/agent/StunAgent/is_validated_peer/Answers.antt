use Rattle.stun_proto_agent.proofs.AgentMaps.{is_validated}
use Rattle.stun_proto_agent.proofs.agent.StunAgent.is_validated_peer.Goals as goal

pub returns : goal.returns
returns c = is_validated c.self.inside _ c.args.remote_addr _ c.self.view_is c.contains_key.ensures
