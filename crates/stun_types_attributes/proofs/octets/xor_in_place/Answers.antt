use Rattle.stun_types_attributes.proofs.Masks.{xor_one_more}
use Rattle.stun_types_attributes.proofs.octets.xor_in_place.Goals as goal

pub loop-i-preserved : goal.loop-i-preserved
loop-i-preserved c = xor_one_more c.loop-i.i c.args.bytes.now c.args.mask.now c.loop-i.bytes c.loop-i-test.true c.requires c.loop-i.invariant
