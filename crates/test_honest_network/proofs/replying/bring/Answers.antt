use Rattle.std.proofs.Common.{◌∙◌}
use Rattle.test_honest_network.proofs.Replied.{brought}
use Rattle.test_honest_network.proofs.replying.bring.Goals as goal

pub returns-in-Reply : goal.returns-in-Reply
returns-in-Reply c = brought c.args.now c.args.decision c.args.world.now c.give.new.world c.args.sent.now c.in_ok-from_slice.field-0 c.in-Reply.bytes _ c.happen.new.world
    (c.in_ok-from_slice.ensures.items ∙ c.as_slice.ensures) (rw c.in-Reply.is at c.in_ok-bytes.ensures) c.give.result c.give.ensures
