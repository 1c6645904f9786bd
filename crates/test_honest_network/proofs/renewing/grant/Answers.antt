use Rattle.std.proofs.Common.{◌∙◌}
use Rattle.test_honest_network.proofs.Passing.{granted_on}
use Rattle.test_honest_network.proofs.renewing.grant.Goals as goal

pub returns-in-Reply : goal.returns-in-Reply
returns-in-Reply c = granted_on c.args.sent.now c.args.now c.args.world.now c.happen.new.world c.give.new.world c.in-Reply.bytes (record {
  bytes = c.in_ok-from_slice.field-0;
  same = c.in_ok-from_slice.ensures.items ∙ c.as_slice.ensures;
  seed = _;
  step = rw c.in-Reply.is at c.in_ok-bytes.ensures;
}) c.give.result c.give.ensures
