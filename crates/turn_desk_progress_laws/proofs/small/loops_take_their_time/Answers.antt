use Rattle.turn_desk_progress_laws.proofs.SmallLoop.{is_loop}
use Rattle.turn_desk_progress_laws.proofs.small.loops_take_their_time.Goals as goal

pub returns : goal.returns
returns c = λ e server may. is_loop e server may
