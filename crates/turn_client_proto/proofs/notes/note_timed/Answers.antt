use Rattle.turn_client_proto.specs.Notes.{AreTimed, Next}
use Rattle.turn_client_proto.proofs.notes.note_timed.Goals as goal

pub loop-event-preserved : goal.loop-event-preserved
loop-event-preserved c = λ old so.
    Next c.loop-event.causes c.push.new.self (c.loop-event.invariant old so) c.loop-event.at c.saturating_add-next.result c.cause_noted-cause.result c.cause_noted-cause.ensures c.push.ensures
