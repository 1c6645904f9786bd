use Rattle.std.proofs.Common.{sym, Some, None, refl}
use Rattle.stun_proto_agent.proofs.AgentMaps.{reported_of}
use Rattle.stun_proto_agent.proofs.agent.StunAgent.bytes_of.Goals as goal

pub returns-in-Some : goal.returns-in-Some
returns-in-Some c = reported_of c.self.inside _ c.args.transaction_id (Some _) _ _ c.self.view_is (sym c.in-Some.ensures) c.bytes.ensures

pub returns-in-None : goal.returns-in-None
returns-in-None c = reported_of c.self.inside _ c.args.transaction_id None _ _ c.self.view_is (sym c.in-None.ensures) refl
