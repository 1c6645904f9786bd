use Rattle.turn_client_proto_progress_laws.proofs.Renewing.Awaiting.{refreshing_again, refreshing_still, refreshing_waits}
use Rattle.turn_client_proto_progress_laws.proofs.Renewing.Only.{due_or_quiet}
use Rattle.turn_client_proto_progress_laws.proofs.renewals.refreshing_clients_wait.Goals as goal

pub returns-clause-again : goal.returns-clause-again
returns-clause-again c = λ b choice address t number made many last events old new now sent w due transmitted. refreshing_again b choice address t number made many last events old w now sent new due transmitted

pub returns-clause-still : goal.returns-clause-still
returns-clause-still c = λ b choice address t number made many last events old new now sent w quiet transmitted. refreshing_still b choice address t number made many last events old w now sent new quiet transmitted

pub returns-clause-polled : goal.returns-clause-polled
returns-clause-polled c = λ b choice address t number made many last events old new now ret w is in_range open_still lasts polled.
    refreshing_waits b choice address t number made many last events old w now is in_range open_still lasts ret new polled

pub returns-clause-cases : goal.returns-clause-cases
returns-clause-cases c = λ b a many now. due_or_quiet b a many now
