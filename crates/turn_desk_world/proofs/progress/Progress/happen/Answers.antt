use Rattle.std.proofs.Common.{length, ℕ, List, [], ◌∷◌, ◌++◌, ◌∙◌, refl, sym, ap}
use Rattle.turn_desk_trace.specs.Answer.{named_by}
use Rattle.turn_desk_world.specs.Wanted.{is_wanted, stored_if}
use Rattle.turn_desk_world.proofs.progress.Progress.happen.Goals as goal

pub returns-clause-ok : goal.returns-clause-ok
returns-clause-ok c = record {
  before = c.in-Some.world;
  stood = sym c.begin.ensures.world ∙ c.in-Some.is;
  possible = sym c.can_happen_in.ensures ∙ c.if-not-can_happen_in.false;
  after = c.run_one.new.world;
  run = c.in_ok-answer.ensures;
  continues = refl;
  named = c.in_ok-keep.ensures
      ∙ ap (λ (head : List (List ℕ)). head ++ stored_if (is_wanted c.args.wanted.now (length head)) (named_by c.in_ok-answer.answer) ∷ []) c.begin.ensures.named;
}
