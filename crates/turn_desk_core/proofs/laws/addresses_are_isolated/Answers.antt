use Rattle.turn_desk_core.proofs.DeskAlone.{is_isolated}
use Rattle.turn_desk_core.proofs.DeskFixed.{answers_are_fixed}
use Rattle.turn_desk_core.proofs.Unlimited.{makes_no_room}
use Rattle.turn_desk_core.proofs.laws.addresses_are_isolated.Goals as goal

pub returns-clause-alone : goal.returns-clause-alone
returns-clause-alone c = λ address old other new pairs same run none. is_isolated address pairs old other new same run none

pub returns-clause-fixed : goal.returns-clause-fixed
returns-clause-fixed c = λ address old other new left pairs others same run none again none_again calls each.
    answers_are_fixed address old other new left pairs others same run none again none_again calls each

pub returns-clause-unlimited : goal.returns-clause-unlimited
returns-clause-unlimited c = λ address old new pairs none sets run. makes_no_room address pairs old new none sets run
