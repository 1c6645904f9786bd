use Rattle.std.proofs.Common.{ap, ◌∙◌, subst}
use Rattle.stun_proto_transaction.specs.Sorted.{IsAt, IsGap}
use Rattle.stun_proto_transaction.specs.Agents.{changed, ends_from, sends_from}
use Rattle.stun_proto_transaction.proofs.Sounds.{sound_by}
use Rattle.stun_proto_transaction.proofs.Views.{listed_changed, listed_same}
use Rattle.stun_proto_transaction.proofs.outstanding.Outstanding.change.Goals as goal

pub invariant_of-self : goal.invariant_of-self
invariant_of-self c =
    let found = subst (λ l. IsAt l c.args.transaction_id c.in-Ok.position) c.as_slice.ensures.value c.in-Ok.ensures.found in
    sound_by _ _ _ _ _ _ c.args.transaction_id _ _ _ c.index_mut.result.now _ c.self.invariant found c.index_mut.ensures.value c.set.ensures c.set-in-Ok.ensures (c.sends_from-send.ensures ∙ ap (sends_from c.self.inside.is_tcp) c.transaction.ensures) (c.ends_from-end.ensures ∙ ap ends_from c.transaction-in-Ok.ensures)

pub returns-in-Ok : goal.returns-in-Ok
returns-in-Ok c =
    let found = subst (λ l. IsAt l c.args.transaction_id c.in-Ok.position) c.as_slice.ensures.value c.in-Ok.ensures.found in
    listed_changed c.self.inside.is_tcp c.self.inside.entries.items _ c.self.view_is c.args.transaction_id c.in-Ok.position c.index_mut.result.now _ (λ _. changed c.args.change) found c.self.invariant.sorted c.index_mut.ensures.value c.change.ensures

pub returns-in-Err : goal.returns-in-Err
returns-in-Err c =
    let gap = subst (λ l. IsGap l c.args.transaction_id c.in-Err.field-0) c.as_slice.ensures.value c.in-Err.ensures.absent in
    listed_same c.self.inside.is_tcp c.self.inside.entries.items _ c.self.view_is c.args.transaction_id c.in-Err.field-0 (λ _. changed c.args.change) gap
