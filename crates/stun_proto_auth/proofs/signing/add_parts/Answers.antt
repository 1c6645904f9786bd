use Rattle.stun_proto_auth.proofs.Making.{underway_accepted, underway_end, underway_step}
use Rattle.stun_proto_auth.proofs.signing.add_parts.Goals as goal

pub add_to-requires-clause-accepted : goal.add_to-requires-clause-accepted
add_to-requires-clause-accepted g c =
    underway_accepted _ _ _ _ _ _ c.loop-part-test.true c.part-item.is c.loop-part.invariant

pub loop-part-preserved : goal.loop-part-preserved
loop-part-preserved g c =
    underway_step _ _ _ _ _ _ _ c.loop-part-test.true c.part-item.is c.loop-part.invariant c.in_ok-add_to.ensures.ok

pub returns-clause-ok : goal.returns-clause-ok
returns-clause-ok g c = underway_end _ _ _ _ c.loop-part-test.false c.loop-part.invariant
