use Rattle.std.proofs.Common.{sym, ap, Some, None, refl}
use Rattle.stun_proto_agent.proofs.AgentMaps.{target_is}
use Rattle.stun_proto_agent.proofs.agent.StunAgent.target_of.Goals as goal

pub returns-in-Some : goal.returns-in-Some
returns-in-Some c = target_is c.self.inside _ c.args.transaction_id (Some _) _ c.self.view_is (sym c.in-Some.ensures) (ap Some c.to.ensures)

pub returns-in-None : goal.returns-in-None
returns-in-None c = target_is c.self.inside _ c.args.transaction_id None _ c.self.view_is (sym c.in-None.ensures) refl
