use Rattle.turn_desk_world_laws.proofs.AddressAlone.{answers_are_fixed, is_isolated, makes_no_room}
use Rattle.turn_desk_world_laws.proofs.laws.addresses_are_isolated.Goals as goal

pub returns-clause-alone : goal.returns-clause-alone
returns-clause-alone c = λ address old other new pairs same run none. is_isolated c.addresses_are_isolated.ensures.alone address old other new pairs same run none

pub returns-clause-fixed : goal.returns-clause-fixed
returns-clause-fixed c = λ address old other new left pairs others same differ events run none again none_again.
    answers_are_fixed c.addresses_are_isolated.ensures.alone address old other new left pairs others same differ events run none again none_again

pub returns-clause-unlimited : goal.returns-clause-unlimited
returns-clause-unlimited c = λ address old new pairs none run. makes_no_room address pairs old new none run
