use Rattle.turn_client_proto_api.specs.declared.causes.Causes.{Causes}
use Rattle.turn_client_proto.specs.Notes.{AreTimed}
use Rattle.turn_client_proto.proofs.notes.note_timed.Given as goal

-- Whatever was noted before, the events so far were noted after it.
abbrev pub invariant-loop-event : goal.invariant-loop-event
invariant-loop-event l = (old : Causes) → AreTimed l.fn.is_deleted old l.fn.causes → AreTimed l.fn.is_deleted old l.causes
