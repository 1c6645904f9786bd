use Rattle.std.proofs.Common.{sym, Some, None, refl}
use Rattle.stun_proto_agent.proofs.AgentMaps.{request_reported}
use Rattle.stun_proto_agent.proofs.agent.StunAgent.reported_of.Goals as goal

pub returns-in-Some : goal.returns-in-Some
returns-in-Some c = request_reported c.self.inside _ c.args.transaction_id (Some _) _ c.self.view_is (sym c.in-Some.ensures) (λ i. Some (c.to.ensures i, c.integrity.ensures i))

pub returns-in-None : goal.returns-in-None
returns-in-None c = request_reported c.self.inside _ c.args.transaction_id None _ c.self.view_is (sym c.in-None.ensures) refl
