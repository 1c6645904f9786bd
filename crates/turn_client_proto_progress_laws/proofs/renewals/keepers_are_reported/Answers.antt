use Rattle.turn_client_proto_progress_laws.proofs.Renewing.Held.{keeping_shows, keeping_reports, refreshing_shows, refreshing_reports}
use Rattle.turn_client_proto_progress_laws.proofs.renewals.keepers_are_reported.Goals as goal

pub returns-clause-keeping : goal.returns-clause-keeping
returns-clause-keeping c = λ b choice address t last queue events old new event w taken. keeping_reports b choice address t last queue events old w event new taken

pub returns-clause-refreshing : goal.returns-clause-refreshing
returns-clause-refreshing c = λ b choice address t number made many last events old new event w taken. refreshing_reports b choice address t number made many last events old w event new taken

pub returns-clause-keeping_shows : goal.returns-clause-keeping_shows
returns-clause-keeping_shows c = λ b choice address t last queue events p w. keeping_shows b choice address t last queue events p w

pub returns-clause-refreshing_shows : goal.returns-clause-refreshing_shows
returns-clause-refreshing_shows c = λ b choice address t number made many last events p w. refreshing_shows b choice address t number made many last events p w
