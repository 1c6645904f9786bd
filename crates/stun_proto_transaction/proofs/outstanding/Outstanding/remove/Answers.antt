use Rattle.std.proofs.Common.{ap, ◌∙◌, subst}
use Rattle.stun_proto_transaction.specs.Sorted.{IsAt, IsGap}
use Rattle.stun_proto_transaction.proofs.Sounds.{sound_removed}
use Rattle.stun_proto_transaction.proofs.Views.{visible, listed_removed, listed_unchanged}
use Rattle.stun_proto_transaction.proofs.outstanding.Outstanding.remove.Goals as goal

pub invariant_of-self : goal.invariant_of-self
invariant_of-self c =
    let found = subst (λ l. IsAt l c.args.transaction_id c.in-Ok.position) c.as_slice.ensures.value c.in-Ok.ensures.found in
    rw c.remove.ensures.items (sound_removed c.self.inside.is_tcp c.self.inside.entries.items c.self.inside.sends c.self.inside.ends _ _ c.self.invariant c.in-Ok.position found.within c.remove-in-Ok.ensures c.remove-in-Ok-2.ensures)

pub returns-in-Ok : goal.returns-in-Ok
returns-in-Ok c =
    let found = subst (λ l. IsAt l c.args.transaction_id c.in-Ok.position) c.as_slice.ensures.value c.in-Ok.ensures.found in
    ap (visible c.self.inside.is_tcp) c.remove.ensures.items ∙ listed_removed c.self.inside.is_tcp c.self.inside.entries.items _ c.self.view_is c.args.transaction_id c.in-Ok.position found c.self.invariant.sorted

pub returns-in-Err : goal.returns-in-Err
returns-in-Err c =
    let gap = subst (λ l. IsGap l c.args.transaction_id c.in-Err.field-0) c.as_slice.ensures.value c.in-Err.ensures.absent in
    listed_unchanged c.self.inside.is_tcp c.self.inside.entries.items _ c.self.view_is c.args.transaction_id c.in-Err.field-0 gap
