use Rattle.std.proofs.Common.{sym, ap, ◌∙◌, subst}
use Rattle.stun_proto_transaction.specs.Sorted.{IsAt, IsGap}
use Rattle.std.specs.List.{insert, remove}
use Rattle.std.proofs.Common.{set}
use Rattle.stun_proto_transaction.specs.StoredRequests.{with_number}
use Rattle.stun_proto_transaction.proofs.Sounds.{sound_inserted, sound_undone, sound_written}
use Rattle.stun_proto_transaction.proofs.Views.{at_err, at_ok, on_err, on_ok, visible, listed_inserted, listed_undone, listed_written}
use Rattle.stun_proto_transaction.proofs.outstanding.Outstanding.insert.Goals as goal

pub invariant_of-self : goal.invariant_of-self
invariant_of-self c =
    let found = subst (λ l. IsAt l c.args.transaction_id c.in-Ok.position) c.as_slice.ensures.value c.in-Ok.ensures.found in
    rw c.in_ok-boxed.ensures (sound_written c.self.inside.is_tcp c.self.inside.entries.items c.self.inside.sends c.self.inside.ends _ _ c.self.invariant c.args.transaction_id c.in-Ok.position c.args.transaction found
    (c.set.ensures ∙ ap (λ m. set c.self.inside.sends c.in-Ok.position m) c.sends_from-sends.ensures)
    (c.set-in-Ok.ensures ∙ ap (λ m. set c.self.inside.ends c.in-Ok.position m) c.ends_from-ends.ensures))

pub returns-in-Ok-clause-ok : goal.returns-in-Ok-clause-ok
returns-in-Ok-clause-ok c =
    let found = subst (λ l. IsAt l c.args.transaction_id c.in-Ok.position) c.as_slice.ensures.value c.in-Ok.ensures.found in
    rw c.in_ok-boxed.ensures (listed_written c.self.inside.is_tcp c.self.inside.entries.items _ c.self.view_is c.args.transaction_id c.in-Ok.position c.args.transaction found c.self.invariant.sorted)

pub invariant_of-self-then-is_err : goal.invariant_of-self-then-is_err
invariant_of-self-then-is_err c =
    let gap = subst (λ l. IsGap l c.args.transaction_id c.in-Err.position) c.as_slice.ensures.value c.in-Err.ensures.absent in
    let failed = sym c.is_err.ensures.value ∙ c.if-is_err.true in
    let both = c.insert_both-stored.ensures in
    rw (c.remove.ensures.items, c.in_ok-insert-in-Err.ensures.items)
    (sound_undone c.self.inside.is_tcp c.self.inside.entries.items c.self.inside.sends c.self.inside.ends _ _ c.self.invariant c.args.transaction_id c.in-Err.position c.in_ok-boxed.boxed gap.within
    (at_err c.insert_both-stored.result _ failed both.err_sends) (at_err c.insert_both-stored.result _ failed both.err_ends))

pub returns-then-is_err-clause-err : goal.returns-then-is_err-clause-err
returns-then-is_err-clause-err c =
    let gap = subst (λ l. IsGap l c.args.transaction_id c.in-Err.position) c.as_slice.ensures.value c.in-Err.ensures.absent in
    on_err c.insert_both-stored.result _
    (ap (visible c.self.inside.is_tcp) (c.remove.ensures.items ∙ ap (λ l. remove l c.in-Err.position) c.in_ok-insert-in-Err.ensures.items)
    ∙ listed_undone c.self.inside.is_tcp c.self.inside.entries.items _ c.self.view_is c.args.transaction_id c.in-Err.position c.in_ok-boxed.boxed gap.within)

pub invariant_of-self-else-is_err : goal.invariant_of-self-else-is_err
invariant_of-self-else-is_err c =
    let gap = subst (λ l. IsGap l c.args.transaction_id c.in-Err.position) c.as_slice.ensures.value c.in-Err.ensures.absent in
    let passed = sym c.is_err.ensures.value ∙ c.if-is_err.false in
    let both = c.insert_both-stored.ensures in
    rw (c.in_ok-insert-in-Err.ensures.items, c.in_ok-boxed.ensures)
    (sound_inserted c.self.inside.is_tcp c.self.inside.entries.items c.self.inside.sends c.self.inside.ends _ _ c.self.invariant c.args.transaction_id c.in-Err.position c.args.transaction gap
    (at_ok c.insert_both-stored.result _ passed both.ok_sends ∙ ap (λ m. insert c.self.inside.sends c.in-Err.position m) c.sends_from-sends.ensures)
    (at_ok c.insert_both-stored.result _ passed both.ok_ends ∙ ap (λ m. insert c.self.inside.ends c.in-Err.position m) c.ends_from-ends.ensures))

pub returns-else-is_err-clause-ok : goal.returns-else-is_err-clause-ok
returns-else-is_err-clause-ok c =
    let gap = subst (λ l. IsGap l c.args.transaction_id c.in-Err.position) c.as_slice.ensures.value c.in-Err.ensures.absent in
    on_ok c.insert_both-stored.result _
    (ap (visible c.self.inside.is_tcp) c.in_ok-insert-in-Err.ensures.items
    ∙ listed_inserted c.self.inside.is_tcp c.self.inside.entries.items _ c.self.view_is c.args.transaction_id c.in-Err.position c.in_ok-boxed.boxed gap ∙ ap (with_number c.args.self.now c.args.transaction_id) c.in_ok-boxed.ensures)
