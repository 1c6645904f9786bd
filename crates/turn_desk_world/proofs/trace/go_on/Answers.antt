use Rattle.std.proofs.Common.{◌<◌, length, arith}
use Rattle.turn_desk_world.proofs.KeepingLemmas.{stored_begins, stored_ends, stored_continues, stored_stops}
use Rattle.turn_desk_world.proofs.trace.go_on.Goals as goal

pub lines-init : goal.lines-init
lines-init g c = (stored_begins _ _ _ _ c.requires.started c.requires.covered, omega arith)

pub returns-in-Err : goal.returns-in-Err
returns-in-Err g c = λ fine.
    stored_stops _ _ _ _ _ _ _ _ _ _ c.in-Err.stop c.lines.invariant.0 c.cut_line.ensures.lines fine (c.in-Err.ensures.stopped fine)

pub returns-in_default-after : goal.returns-in_default-after
returns-in_default-after g c =
    stored_ends _ _ _ _ _ _ _ _ _ _ _ c.lines.invariant.0 c.cut_line.ensures.lines c.in_default-after.is c.in_default.ensures.done

pub lines-preserved : goal.lines-preserved
lines-preserved g c =
    let shorter : length c.in-Some.after.now < length c.lines.rest.now = rw c.in-Some.is at c.cut_line.ensures.shorter in (
      stored_continues _ _ _ _ _ _ _ _ _ _ _ c.in-Some.after c.lines.invariant.0 c.cut_line.ensures.lines c.in-Some.is c.in_default.ensures.done,
      omega (arith, shorter, c.lines.invariant.1),
    )
