use Rattle.turn_desk_laws.proofs.RefreshWaiting.{reports, shows}
use Rattle.turn_desk_laws.proofs.challenged_refreshes.challenged_refreshes_are_reported.Goals as goal

pub returns-clause-taken : goal.returns-clause-taken
returns-clause-taken c = λ b choice address t earlier number made many last queue events old new event w taken. reports b choice address t earlier number made many last queue events old w event new taken

pub returns-clause-shows : goal.returns-clause-shows
returns-clause-shows c = λ b choice address t earlier number made many last queue events p w. shows b choice address t earlier number made many last queue events p w
