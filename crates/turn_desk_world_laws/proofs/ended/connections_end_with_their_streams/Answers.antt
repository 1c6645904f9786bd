use Rattle.std.proofs.Common.{◌++◌, ◌∷◌, []}
use Rattle.turn_desk_event.specs.declared.event.Event.TheVariants.{ToClient}
use Rattle.turn_desk_world_laws.proofs.EndedStreams.{none_bound, streams_close, streams_end}
use Rattle.turn_desk_world_laws.proofs.ended.connections_end_with_their_streams.Goals as goal

pub returns-clause-none : goal.returns-clause-none
returns-clause-none c = λ here there w v bytes now ret empty early may is. streams_end here there w v bytes now ret empty early may is

pub returns-clause-later : goal.returns-clause-later
returns-clause-later c = λ here there old new before after run bytes now ret d empty early may.
    d.promised.since (before ++ (ToClient bytes there here now, ret) ∷ []) after d.parted here
    (none_bound here d.parted.between (streams_end here there d.begins d.parted.between bytes now ret empty early may d.step))

pub returns-clause-closes : goal.returns-clause-closes
returns-clause-closes c = λ here there w v bytes now ret may a d k empty early is listed has at k_is.
    streams_close here there w v bytes now ret empty early may is a listed d has at k k_is
