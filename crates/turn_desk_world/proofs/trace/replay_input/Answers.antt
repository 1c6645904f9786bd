use Rattle.std.proofs.Common.{[]}
use Rattle.line_io.proofs.AppendLemmas.{appends_nothing}
use Rattle.line_io.specs.Cut.{lines_of}
use Rattle.turn_desk_world.specs.Replay.{Lacking, start}
use Rattle.turn_desk_world.proofs.trace.replay_input.Goals as goal

pub returns-in-Err-NoMemory-clause-printed : goal.returns-in-Err-NoMemory-clause-printed
returns-in-Err-NoMemory-clause-printed g c =
    let taken = c.read_input.ensures.taken in
    (taken.0, taken.1, λ fine. ([], appends_nothing _, Lacking start 1 (lines_of taken.0)))
