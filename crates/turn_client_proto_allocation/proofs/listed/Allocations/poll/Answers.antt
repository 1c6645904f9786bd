use Rattle.std.proofs.Common.{◌≡◌, ap, arith, drop, length, map, ◌∙◌, rules, List, subst}
use Rattle.std.proofs.lemmas.List.Edits.{map_over_more}
use Rattle.std.proofs.lemmas.Fn.{filter_same}
use Rattle.turn_client_proto_allocation.specs.Polling.{stored, nexts, polled}
use Rattle.stun_proto_transaction.specs.Least.{IsLeastOf}
use Rattle.turn_client_proto_allocation.specs.declared.allocation.Allocation.{Allocation}
use Rattle.turn_client_proto_allocation.proofs.Walks.{walked}
use Rattle.turn_client_proto_allocation.proofs.listed.Allocations.poll.Goals as goal

pub loop-allocation-preserved : goal.loop-allocation-preserved
loop-allocation-preserved c =
    rw (c.poll.ensures, ← c.allocation-item.is) (map_over_more (polled c.args.ended.now) c.deref_mut-allocation-items.result.now c.loop-allocation.allocation-items c.loop-allocation.allocation-index c.allocation-item.result c.loop-allocation-test.true c.loop-allocation.invariant c.allocation-item.is)

pub returns-clause-left : goal.returns-clause-left
returns-clause-left c =
    let all = c.deref_mut-allocation-items.result.now in
    let left = c.loop-allocation.allocation-items in
    let visible = c.retain.new.self.items in
    let stored_ones : c.retain.new.self.items ≡ stored c.args.ended.now c.args.now c.self.inside.items.items = filter_same _ _ _ (λ x b f' k. search rules) _ _ c.retain.ensures.filtered in
    walked (polled c.args.ended.now) all left (drop (length left) visible) c.loop-allocation.allocation-index c.retain.new.self.len c.loop-allocation.invariant c.loop-allocation-test.false (omega arith)
    ∙ ap (map (polled c.args.ended.now)) (c.deref_mut-allocation-items.ensures.value ∙ stored_ones ∙ ap (stored c.args.ended.now c.args.now) c.self.view_is)

pub returns-clause-wait : goal.returns-clause-wait
returns-clause-wait c =
    let stored_ones : c.retain.new.self.items ≡ stored c.args.ended.now c.args.now c.self.inside.items.items = filter_same _ _ _ (λ x b f' k. search rules) _ _ c.retain.ensures.filtered in
    let same = c.as_slice.ensures.value ∙ stored_ones ∙ ap (stored c.args.ended.now c.args.now) c.self.view_is in
    subst (λ (l : List Allocation). IsLeastOf c.args.wait (nexts c.args.ended.now c.args.ready c.args.now l) c.earliest-next.result) same c.earliest-next.ensures
