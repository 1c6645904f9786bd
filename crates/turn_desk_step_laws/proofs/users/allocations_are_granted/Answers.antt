use Rattle.turn_desk_step_laws.proofs.Served.{allocation_granted}
use Rattle.turn_desk_step_laws.proofs.users.allocations_are_granted.Goals as goal

pub returns : goal.returns
returns c = λ old new from bytes reply user transport relayed lifetime served method asks fits reported small is. allocation_granted old new from bytes reply user transport relayed lifetime served method reported small asks fits is
