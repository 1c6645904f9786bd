use Rattle.std.proofs.Common.{◌++◌, ◌∷◌, []}
use Rattle.turn_desk_event.specs.declared.event.ClientCall.TheVariants.{Poll}
use Rattle.turn_desk_event.specs.declared.event.Event.TheVariants.{Call}
use Rattle.turn_desk_world_laws.proofs.EndedStreams.{none_bound}
use Rattle.turn_desk_world_laws.proofs.EndedTimes.{times_end}
use Rattle.turn_desk_world_laws.proofs.ended.connections_end_in_time.Goals as goal

pub returns-clause-none : goal.returns-clause-none
returns-clause-none c = λ here w v now ret early are worked is. times_end here now w are early v ret worked is

pub returns-clause-later : goal.returns-clause-later
returns-clause-later c = λ here old new before after run now ret d early are worked.
    d.promised.since (before ++ (Call Poll now, ret) ∷ []) after d.parted here
    (none_bound here d.parted.between (times_end here now d.begins are early d.parted.between ret worked d.step))
