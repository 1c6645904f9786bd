use Rattle.std.proofs.Common.{subst}
use Rattle.stun_proto_transaction.specs.Agents.{is_due}
use Rattle.stun_proto_transaction.specs.StoredRequests.{IsFirstFrom, NoneFrom}
use Rattle.stun_proto_transaction.proofs.Firsts.{first_due, none_due, none_due_from}
use Rattle.stun_proto_transaction.proofs.outstanding.Outstanding.first_due.Goals as goal

pub returns-in_err-from-clause-first : goal.returns-in_err-from-clause-first
returns-in_err-from-clause-first c =
    rw c.from_residual.ensures (none_due c.self.inside.is_tcp c.self.inside.entries.items _ _ c.self.invariant _ c.self.view_is c.args.now c.in_err-from.ensures.first)

pub returns-in_err-position-clause-first : goal.returns-in_err-position-clause-first
returns-in_err-position-clause-first c =
    let none = subst (λ l. NoneFrom (is_due c.self.inside.is_tcp c.args.now) l c.in_ok-from.from) c.as_slice.ensures.value c.in_err-position.ensures in
    rw c.from_residual-in_err-position.ensures (none_due_from c.self.inside.is_tcp c.self.inside.entries.items _ _ c.self.invariant _ c.self.view_is c.args.now c.in_ok-from.from c.in_ok-from.ensures.first none)

pub returns-clause-first : goal.returns-clause-first
returns-clause-first c =
    let found = subst (λ l. IsFirstFrom (is_due c.self.inside.is_tcp c.args.now) l c.in_ok-from.from c.in_ok-position.position) c.as_slice.ensures.value c.in_ok-position.ensures in
    (c.index.result.now.1, first_due c.self.inside.is_tcp c.self.inside.entries.items _ _ c.self.invariant _ c.self.view_is c.args.now c.in_ok-from.from c.in_ok-position.position c.index.result.now c.in_ok-from.ensures.first found c.index.ensures)
