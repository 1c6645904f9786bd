use Rattle.std.proofs.Common.{◌++◌, ◌∷◌, [], sym, subst, ◌∙◌, List}
use Rattle.std.proofs.lemmas.List.{append_assoc}
use Rattle.turn_desk_event.specs.declared.answer.Answer.{Answer}
use Rattle.turn_desk_event.specs.declared.event.Event.{Event}
use Rattle.turn_desk_world_laws.specs.Ends.{EndWithSockets}
use Rattle.turn_desk_world_laws.proofs.EndedRuns.{last_of}
use Rattle.turn_desk_world_laws.proofs.EndedStreams.{none_bound}
use Rattle.turn_desk_world_laws.proofs.ended.runs_divide_after_each_event.Goals as goal

pub returns-clause-divided : goal.returns-clause-divided
returns-clause-divided c = λ event ret old new pairs before after run promised are.
    let parted = promised.parted (before ++ (event, ret) ∷ []) after (are ∙ sym (append_assoc before ((event, ret) ∷ []) after)) in
    let one = last_of before (event, ret) old parted.between parted.earlier parted.reported_before in
    record {
      promised = subst (λ (l : List (Event × Answer)). EndWithSockets old l run new) are promised;
      parted = parted;
      begins = one.begins;
      reached = one.reached;
      step = one.step;
    }

pub returns-clause-bound : goal.returns-clause-bound
returns-clause-bound c = none_bound
