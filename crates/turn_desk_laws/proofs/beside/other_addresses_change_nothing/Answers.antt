use Rattle.turn_desk_laws.proofs.BesideRuns.{any_beside, is_alone, same_events}
use Rattle.turn_desk_laws.proofs.beside.other_addresses_change_nothing.Goals as goal

pub returns-clause-alone : goal.returns-clause-alone
returns-clause-alone c = λ own old new without pairs none run is.
    is_alone c.addresses_are_isolated.ensures.alone c.addresses_are_isolated.ensures.unlimited own old new without pairs none run is

pub returns-clause-reported : goal.returns-clause-reported
returns-clause-reported c = λ own old new without pairs run is. same_events own without pairs old new run is

pub returns-clause-any : goal.returns-clause-any
returns-clause-any c = λ own pairs. any_beside own pairs
