use Rattle.std.proofs.Common.{◌∙◌}
use Rattle.test_honest_network.proofs.Bringing.{brought}
use Rattle.test_honest_network.proofs.asking.bring.Goals as goal

pub returns-in-Reply : goal.returns-in-Reply
returns-in-Reply c = brought c.args.here c.args.server c.args.world.now c.give.new.world c.give.result c.args.sent.now c.in_ok-from_slice.field-0 c.in-Reply.bytes _ _ c.happen.new.world
    c.from_nanos.ensures (c.in_ok-from_slice.ensures.items ∙ c.as_slice.ensures) (rw c.in-Reply.is at c.in_ok-bytes.ensures) c.give.ensures
