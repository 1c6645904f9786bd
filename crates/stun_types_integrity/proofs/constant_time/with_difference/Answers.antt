use Rattle.stun_types_integrity.proofs.Differences.{differing}
use Rattle.stun_types_integrity.proofs.constant_time.with_difference.Goals as goal

pub returns : goal.returns
returns c = differing c.args.difference c.args.one c.args.other
