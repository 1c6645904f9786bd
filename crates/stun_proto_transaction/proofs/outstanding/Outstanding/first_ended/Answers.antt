use Rattle.std.proofs.Common.{sym, ap, ◌∙◌}
use Rattle.stun_proto_transaction.specs.Agents.{Transaction, is_over}
use Rattle.stun_proto_transaction.proofs.Firsts.{first_ended, none_ended}
use Rattle.stun_proto_transaction.proofs.outstanding.Outstanding.first_ended.Goals as goal

pub returns-in_err-position-clause-first : goal.returns-in_err-position-clause-first
returns-in_err-position-clause-first c =
    rw c.from_residual.ensures (none_ended c.self.inside.is_tcp c.self.inside.entries.items _ _ c.self.invariant _ c.self.view_is c.args.now c.in_err-position.ensures.first)

pub returns-clause-first : goal.returns-clause-first
returns-clause-first c =
    (c.index-entry.result.now.1, first_ended c.self.inside.is_tcp c.self.inside.entries.items _ _ c.self.invariant _ c.self.view_is c.args.now c.in_ok-position.position c.index-entry.result.now c.in_ok-position.ensures.first c.index-entry.ensures, sym (c.is_over.ensures ∙ ap (λ (t : Transaction). is_over t.cancelled) c.transaction.ensures))
