use Rattle.turn_client_proto_progress_laws.proofs.Renewing.Polled.{keeping_waits}
use Rattle.turn_client_proto_progress_laws.proofs.renewals.keeping_clients_wait.Goals as goal

pub returns : goal.returns
returns c = λ b choice address t last queue events old new now ret w unanswered is in_range by_due reached polled.
    keeping_waits b choice address t last queue events old w unanswered is now in_range by_due reached ret new polled
