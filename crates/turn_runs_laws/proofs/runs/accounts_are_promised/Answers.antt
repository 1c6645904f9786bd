use Rattle.turn_runs_laws.proofs.Safe.{counted, promised}
use Rattle.turn_runs_laws.proofs.runs.accounts_are_promised.Goals as goal

pub returns : goal.returns
returns g c = record {
  counted = λ first run last leads lawful. counted g.L.Layers.words first run last leads lawful;
  promised = λ first run last new leads lawful. promised g.L.Layers.words g.L.Layers.laws first run last new leads lawful;
}
