use Rattle.std.proofs.Common.{[]}
use Rattle.line_io.proofs.AppendLemmas.{appends_nothing}
use Rattle.line_io.specs.Cut.{lines_of}
use Rattle.turn_desk_world.specs.Replay.{Lacking, start}
use Rattle.turn_desk_world.proofs.trace.replay_lines.Goals as goal

pub returns-in-Err : goal.returns-in-Err
returns-in-Err g c = λ fine. ([], appends_nothing _, Lacking start 1 (lines_of c.args.trace.now))
