use Rattle.turn_client_proto_recv.specs.Notes.{Start}
use Rattle.turn_client_proto_recv.proofs.Noting.{same_then}
use Rattle.turn_client_proto_recv.proofs.pulling.take_off.Goals.{in-Some+in_ok-take_up-in-Some, in-None}
use Rattle.turn_client_proto_recv.proofs.pulling.take_off.Goals as goal

pub returns-clause-noted : goal.returns-clause-noted
returns-clause-noted g c =
    elim c.match-head.branch [
      | in-Some+in_ok-take_up-in-Some w ↦ same_then c.args.now c.args.protocol.now c.args.notes.now w.take_up.new.protocol w.take_up.new.notes w.take_up.ensures.noted c.match-head.protocol c.match-head.notes w.protocol-is w.notes-is
      | in-None w ↦ same_then c.args.now c.args.protocol.now c.args.notes.now c.args.protocol.now c.args.notes.now Start c.match-head.protocol c.match-head.notes w.protocol-is w.notes-is
    ]
