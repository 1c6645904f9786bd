use Rattle.std.proofs.Common.{ℕ, List, [], subst}
use Rattle.std.specs.Io.KnownBytes.{Appends}
use Rattle.std.specs.String.{string_bytes}
use Rattle.line_io.proofs.AppendLemmas.{appends_nothing}
use Rattle.turn_desk_world.proofs.Replays.{on_ok}
use Rattle.turn_desk_world.proofs.trace.replay_line.Goals as goal

pub returns-in-Ok-None-clause-done : goal.returns-in-Ok-None-clause-done
returns-in-Ok-None-clause-done g c = ([], appends_nothing _, rw c.in-Ok-None.field-0-is at c.in-Ok-None.ensures.done)

pub returns-in-Ok-Some-clause-done : goal.returns-in-Ok-Some-clause-done
returns-in-Ok-Some-clause-done g c =
    on_ok c.print_line.result _ _ c.print_line.ensures.printed (λ printed. (
      string_bytes c.in-Ok-Some.text,
      subst (λ (t : List ℕ). Appends (g.O.Write.contents c.args.output.now) (g.O.Write.contents c.print_line.new.output) t) c.as_str.ensures.value printed,
      rw c.in-Ok-Some.field-0-is at c.in-Ok-Some.ensures.done,
    ))
