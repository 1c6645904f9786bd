use Rattle.turn_types.proofs.Decoded.{same_each, same_first, same_decoded}
use Rattle.turn_types.proofs.same.same_visible_same_decoded.Goals as goal

pub returns-clause-each : goal.returns-clause-each
returns-clause-each c = same_each

pub returns-clause-first : goal.returns-clause-first
returns-clause-first c = same_first

pub returns-clause-decoded : goal.returns-clause-decoded
returns-clause-decoded c = same_decoded
