use Rattle.turn_client_proto_timers.proofs.Unsent.{nothing_sent}
use Rattle.turn_client_proto_timers.proofs.laws.nothing_is_sent_before.Goals as goal

pub returns : goal.returns
returns c = λ old new after now until time sent polling later from before transmitted.
    nothing_sent c.agent_laws.ensures.quiet old new after now until time sent polling later from before transmitted
