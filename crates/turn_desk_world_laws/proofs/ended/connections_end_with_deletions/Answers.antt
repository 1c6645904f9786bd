use Rattle.std.proofs.Common.{◌++◌, ◌∷◌, []}
use Rattle.turn_desk_event.specs.declared.event.Event.TheVariants.{ToClient}
use Rattle.turn_desk_world_laws.proofs.EndedDeletions.{deletions_end}
use Rattle.turn_desk_world_laws.proofs.EndedStreams.{none_bound}
use Rattle.turn_desk_world_laws.proofs.ended.connections_end_with_deletions.Goals as goal

pub returns-clause-none : goal.returns-clause-none
returns-clause-none c = λ here there w v bytes now ret transaction_id head message more other is some early parts grants step.
    deletions_end here there w transaction_id head is message grants now bytes some more parts ret v early other step

pub returns-clause-later : goal.returns-clause-later
returns-clause-later c = λ here there old new before after run bytes now ret transaction_id head message more other d is some early parts grants.
    d.promised.since (before ++ (ToClient bytes there here now, ret) ∷ []) after d.parted other
    (none_bound other d.parted.between
    (deletions_end here there d.begins transaction_id head is message grants now bytes some more parts ret d.parted.between early other d.step))
