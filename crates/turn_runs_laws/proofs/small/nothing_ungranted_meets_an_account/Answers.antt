use Rattle.turn_runs_laws.proofs.Bound.{listed_where_bound}
use Rattle.turn_runs_laws.proofs.Joined.{joined_where_listed, listed_where_joined}
use Rattle.turn_runs_laws.proofs.Ungranted.{none_held, none_visible, none_decoded}
use Rattle.turn_runs_laws.proofs.small.nothing_ungranted_meets_an_account.Goals as goal

pub returns : goal.returns
returns c = record {
  held = none_held;
  reported = none_decoded;
  visible = none_visible;
  channels = listed_where_bound;
  connections = joined_where_listed;
  joined = listed_where_joined;
}
