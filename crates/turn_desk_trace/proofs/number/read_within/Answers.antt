use Rattle.std.proofs.Common.{◌-◌, ◌^◌, sym, arith}
use Rattle.turn_desk_trace.proofs.NumberLemmas.{none_narrower, narrow_inside, narrow_below, narrow_above}
use Rattle.turn_desk_trace.proofs.number.read_within.Goals as goal

pub returns-then-number-least-clause-value : goal.returns-then-number-least-clause-value
returns-then-number-least-clause-value c =
    sym (narrow_below (2 ^ 64 - 1) c.args.least c.args.most c.args.word.now c.in-Some.number (cc) (omega arith))

pub returns-then-most-number-clause-value : goal.returns-then-most-number-clause-value
returns-then-most-number-clause-value c =
    sym (narrow_above (2 ^ 64 - 1) c.args.least c.args.most c.args.word.now c.in-Some.number (cc) (omega arith))

pub returns-clause-value : goal.returns-clause-value
returns-clause-value c =
    sym (narrow_inside (2 ^ 64 - 1) c.args.least c.args.most c.args.word.now c.in-Some.number (cc) (omega arith) (omega arith))

pub returns-in_default-clause-value : goal.returns-in_default-clause-value
returns-in_default-clause-value c =
    sym (none_narrower (2 ^ 64 - 1) c.args.least c.args.most c.args.word.now (cc) (omega arith))
