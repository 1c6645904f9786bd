use Rattle.turn_desk_world.proofs.Replays.{ended}
use Rattle.turn_desk_world.proofs.trace.replay.Goals as goal

pub returns-in-Err-clause-printed : goal.returns-in-Err-clause-printed
returns-in-Err-clause-printed g c =
    let taken = c.in-Err.ensures.printed in (
      taken.0,
      taken.1,
      ended taken.0 c.in-Err.stop c.print_stop.result _ _ _ taken.2 c.print_stop.ensures.status c.print_stop.ensures.printed,
    )
