use Rattle.std.proofs.Common.{refl}
use Rattle.turn_client_proto.specs.Notes.{Start}
use Rattle.turn_client_proto.proofs.notes.note_poll.Goals as goal

pub returns-then-before-gt0-clause-noted : goal.returns-then-before-gt0-clause-noted
returns-then-before-gt0-clause-noted c = record { causes = Start; others = refl }

pub returns-clause-noted : goal.returns-clause-noted
returns-clause-noted c = record { causes = c.note_timed-2.ensures _ (c.note_timed.ensures _ Start); others = refl }
