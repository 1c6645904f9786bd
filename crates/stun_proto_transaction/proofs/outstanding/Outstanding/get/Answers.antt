use Rattle.std.proofs.Common.{sym, ap, ◌∙◌, subst, Some}
use Rattle.stun_proto_transaction.specs.Sorted.{IsAt, IsGap}
use Rattle.stun_proto_transaction.proofs.Views.{none_visible, read_listed}
use Rattle.stun_proto_transaction.proofs.outstanding.Outstanding.get.Goals as goal

pub returns-in-Ok : goal.returns-in-Ok
returns-in-Ok c =
    let found = subst (λ l. IsAt l c.args.transaction_id c.in-Ok.position) c.as_slice.ensures.value c.in-Ok.ensures.found in
    read_listed c.self.inside.is_tcp c.self.inside.entries.items _ c.self.view_is c.args.transaction_id c.in-Ok.position c.index.result.now found c.self.invariant.sorted c.index.ensures ∙ ap Some (sym c.transaction.ensures)

pub returns-in-Err : goal.returns-in-Err
returns-in-Err c =
    let gap = subst (λ l. IsGap l c.args.transaction_id c.in-Err.field-0) c.as_slice.ensures.value c.in-Err.ensures.absent in
    none_visible c.self.inside.is_tcp c.self.inside.entries.items _ c.self.view_is c.args.transaction_id c.in-Err.field-0 gap
