use Rattle.std.proofs.Common.{rules}
use Rattle.stun_proto_auth.proofs.Reaching.{reached_end, reached_first, reached_refused, reached_step}
use Rattle.stun_proto_auth.proofs.room.parts_fit.Goals as goal

pub loop-part-init : goal.loop-part-init
loop-part-init g c = reached_first _ _ c.requires

pub returns-in_err-size : goal.returns-in_err-size
returns-in_err-size g c =
    let named = reached_refused _ _ _ _ _ _ _ c.loop-part-test.true c.part-item.is c.loop-part.invariant c.in_err-size.ensures in
    search rules

pub loop-part-preserved : goal.loop-part-preserved
loop-part-preserved g c =
    reached_step _ _ _ _ _ _ _ c.loop-part-test.true c.part-item.is c.loop-part.invariant c.in_ok-size.ensures

pub returns : goal.returns
returns g c = reached_end _ _ _ _ c.loop-part-test.false c.loop-part.invariant
