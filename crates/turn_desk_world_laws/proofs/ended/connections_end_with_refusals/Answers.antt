use Rattle.std.proofs.Common.{◌++◌, ◌∷◌, []}
use Rattle.turn_desk_event.specs.declared.event.Event.TheVariants.{ToClient}
use Rattle.turn_desk_world_laws.proofs.EndedStreams.{none_bound}
use Rattle.turn_desk_world_laws.proofs.EndedBindings.{refusals_end, refused_so}
use Rattle.turn_desk_world_laws.proofs.EndedReports.{failures_end}
use Rattle.turn_desk_world_laws.proofs.ended.connections_end_with_refusals.Goals as goal

pub returns-clause-none : goal.returns-clause-none
returns-clause-none c = λ here there w v bytes now ret transaction_id head message more some early is parts ends step.
    refusals_end here there w v bytes now ret transaction_id head message more some early is parts ends step

pub returns-clause-later : goal.returns-clause-later
returns-clause-later c = λ here there old new before after run bytes now ret transaction_id head message more d some early is parts ends.
    d.promised.since (before ++ (ToClient bytes there here now, ret) ∷ []) after d.parted here
    (none_bound here d.parted.between (refusals_end here there d.begins d.parted.between bytes now ret transaction_id head message more some early is parts ends d.step))

pub returns-clause-reports : goal.returns-clause-reports
returns-clause-reports c = λ here there w v bytes now ret transaction_id head message more k is some early parts ends step at.
    (refused_so here there w v bytes now ret transaction_id head message more some early is parts ends step k at).1

pub returns-clause-reported : goal.returns-clause-reported
returns-clause-reported c = λ here there w v bytes now ret may k early step k_is failure. failures_end here there w v bytes now ret may k early step k_is failure
