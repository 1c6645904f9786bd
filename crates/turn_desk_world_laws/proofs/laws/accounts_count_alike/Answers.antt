use Rattle.turn_desk_world_laws.proofs.Counting.{count_alike}
use Rattle.turn_desk_world_laws.proofs.Safe.{account_counts}
use Rattle.turn_desk_world_laws.proofs.laws.accounts_count_alike.Goals as goal

pub returns : goal.returns
returns c = λ first old new pairs run other last left one two.
    count_alike first pairs old new run other last left one.reported two.reported (account_counts first old pairs new run last one) (account_counts first old pairs new other left two)
