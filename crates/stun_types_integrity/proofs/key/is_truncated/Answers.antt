use Rattle.std.proofs.Common.{rules}
use Rattle.stun_types_integrity.proofs.Truncating.{head_compared}
use Rattle.stun_types_integrity.proofs.key.is_truncated.Goals as goal

pub returns-in-Some : goal.returns-in-Some
returns-in-Some c = head_compared c.is_same.result c.args.truncated.now c.in-Some.head.now c.args.whole.now (search rules) c.is_same.ensures
