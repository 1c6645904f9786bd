use Rattle.std.proofs.Common.{arith}
use Rattle.line_io.proofs.InputLemmas.{consumes_on, length-take-bound, takes_on}
use Rattle.line_io.proofs.input.read_input.Goals as goal

pub loop-preserved : goal.loop-preserved
loop-preserved g c =
    let step = c.in-Ok-false.ensures.step in
    (rw step.3 (consumes_on _ _ _ _ _ c.loop.invariant.0 step.1), omega arith)

pub returns-in-Ok-true-clause-taken : goal.returns-in-Ok-true-clause-taken
returns-in-Ok-true-clause-taken g c =
    let step = c.read_on.ensures.step in
    takes_on 16777217 _ _ _ _ step.0 c.room_left-room.result c.loop.invariant.0 step.1 (omega (arith, length-take-bound c.room_left-room.result c.loop.chunk)) (omega arith)

pub returns-in-Err-clause-taken : goal.returns-in-Err-clause-taken
returns-in-Err-clause-taken g c =
    let step = c.read_on.ensures.step in
    takes_on 16777217 _ _ _ _ step.0 c.room_left-room.result c.loop.invariant.0 step.1 (omega (arith, length-take-bound c.room_left-room.result c.loop.chunk)) (omega arith)

pub returns-then-len-gt-MAX_INPUT-clause-taken : goal.returns-then-len-gt-MAX_INPUT-clause-taken
returns-then-len-gt-MAX_INPUT-clause-taken g c =
    let step = c.read_on.ensures.step in
    takes_on 16777217 _ _ _ _ step.0 c.room_left-room.result c.loop.invariant.0 step.1 (omega (arith, length-take-bound c.room_left-room.result c.loop.chunk)) (omega arith)
