use Rattle.turn_runs_laws.proofs.Safe.{safe, visible}
use Rattle.turn_runs_laws.proofs.runs.runs_are_safe.Goals as goal

pub returns : goal.returns
returns g c = record {
  steps = λ first run last is. (safe g.L.Layers.words g.L.Layers.laws first run last is).0;
  once = λ first run last is. (safe g.L.Layers.words g.L.Layers.laws first run last is).1;
  visible = λ first run last is. visible g.L.Layers.words g.L.Layers.laws first run last is;
}
