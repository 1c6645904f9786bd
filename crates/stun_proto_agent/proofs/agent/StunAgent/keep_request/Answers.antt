use Rattle.stun_proto_agent.proofs.AgentMaps.{keeps_request}
use Rattle.stun_proto_agent.proofs.agent.StunAgent.keep_request.Goals as goal

pub returns-clause-ok : goal.returns-clause-ok
returns-clause-ok c =
    keeps_request c.self.inside c.insert.new.self _ c.args.transaction_id _ c.args.bytes.now _ c.args.to c.args.now _ c.self.view_is c.in_ok-insert.ensures.ok
    c.new-transaction.ensures c.in_ok-bytes.ensures.items c.copied.ensures
