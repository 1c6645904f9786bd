use Rattle.turn_desk_laws.proofs.RenewalPolled.{keeping_waits}
use Rattle.turn_desk_laws.proofs.challenged_refreshes.keeping_clients_are_polled.Goals as goal

pub returns : goal.returns
returns c = λ b choice address t last queue events old new now ret w unanswered is in_range lasts polled.
    keeping_waits b choice address t last queue events old w unanswered is now in_range lasts ret new polled
