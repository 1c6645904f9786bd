use Rattle.turn_desk_world.proofs.WantedLemmas.{line_more_after}
use Rattle.turn_desk_world.proofs.wanted.want_lines.Goals as goal

pub lines-preserved : goal.lines-preserved
lines-preserved c =
    line_more_after _ c.lines.flags c.want_line.new.flags _ _ _ c.in-Some.after c.lines.invariant c.cut_line.ensures.lines
    c.in-Some.is c.in_ok-want_line.ensures
