use Rattle.std.proofs.Common.{◌∙◌}
use Rattle.test_honest_network.proofs.Carrying.{no_reply}
use Rattle.test_honest_network.proofs.exchange.deliver.Goals as goal

pub returns-in-Reply : goal.returns-in-Reply
returns-in-Reply c = record {
  replied = c.happen.new.world;
  reply = c.in-Reply.bytes;
  requested = record {
    bytes = c.in_ok-from_slice.field-0;
    same = c.in_ok-from_slice.ensures.items ∙ c.as_slice.ensures;
    seed = _;
    step = rw c.in-Reply.is at c.in_ok-bytes.ensures;
  };
  ret = c.in_ok-happen-in-Reply.field-0;
  given = c.in_ok-happen-in-Reply.ensures;
}

pub returns : goal.returns
returns c = record {
  ret = c.in_ok-bytes.field-0;
  requested = record {
    bytes = c.in_ok-from_slice.field-0;
    same = c.in_ok-from_slice.ensures.items ∙ c.as_slice.ensures;
    seed = _;
    step = c.in_ok-bytes.ensures;
  };
  none = no_reply c.in_ok-bytes.field-0 c.in_default.not-Reply;
}
