use Rattle.std.proofs.Common.{◌∙◌, sym, ap, Some}
use Rattle.turn_desk_core.specs.State.{State}
use Rattle.turn_desk_world.specs.Progress.{progress_of}
use Rattle.turn_desk_world.proofs.progress.Progress.add_user.Goals as goal

pub returns-clause-ok : goal.returns-clause-ok
returns-clause-ok c = record {
  desk = c.in-Some.desk;
  there = sym c.take.ensures.value ∙ c.in-Some.is;
  after = ap (λ (desk : State). record (progress_of c.args.self.now) { desk = Some desk }) c.in_ok-add_user.ensures.ok;
}
