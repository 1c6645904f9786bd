use Rattle.std.proofs.Common.{◌∙◌}
use Rattle.stun_proto_transaction.proofs.Nexts.{next_is}
use Rattle.stun_proto_transaction.proofs.outstanding.Outstanding.next_time.Goals as goal

pub returns-clause-next : goal.returns-clause-next
returns-clause-next c =
    next_is c.self.inside.is_tcp c.self.inside.entries.items c.self.inside.sends c.self.inside.ends c.self.invariant c.args.self.now (c.self.view_is ∙ c.first_due.ensures.state) c.args.now c.args.most _ _
    c.requires.none c.requires.later c.requires.small c.least-sends.ensures.least c.least-ends.ensures.least c.between.result c.between.ensures
