use Rattle.stun_proto_auth.proofs.Counting.{counted_end, counted_first, counted_step}
use Rattle.stun_proto_auth.proofs.size.signature_bytes.Goals as goal

pub loop-part-init : goal.loop-part-init
loop-part-init c = counted_first _ _ _ c.integrity_bytes-total.ensures.value c.integrity_bytes-total.ensures.short

pub loop-part-preserved : goal.loop-part-preserved
loop-part-preserved c =
    let fits = rw (c.len.ensures, c.most.ensures.value) at c.if-len-most.false in
    counted_step _ _ _ _ _ _ _ _ c.loop-part-test.true c.part-item.is c.loop-part.invariant fits c.part_bytes.ensures c.saturating_add-total.ensures

pub returns : goal.returns
returns c = counted_end _ _ _ _ c.loop-part-test.false c.loop-part.invariant
