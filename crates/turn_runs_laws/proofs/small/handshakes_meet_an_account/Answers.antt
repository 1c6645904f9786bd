use Rattle.std.proofs.Common.{refl}
use Rattle.turn_runs_laws.proofs.Safe.{counted}
use Rattle.turn_runs_laws.specs.Rounds.{fresh, idle, rounds}
use Rattle.turn_runs_laws.specs.SmallWords.{small}
use Rattle.turn_runs_laws.proofs.Rounds.{leads, lawful, rounds_promised}
use Rattle.turn_runs_laws.proofs.small.handshakes_meet_an_account.Goals as goal

pub returns : goal.returns
returns c a n = record {
  run = rounds a n;
  reported = refl;
  last = idle n;
  leads = leads a n;
  counted = counted (small a) fresh (rounds a n) (idle n) (leads a n) (lawful a n);
  safe = (rounds_promised a n).safe;
  once = (rounds_promised a n).once;
  visible = (rounds_promised a n).visible;
}
