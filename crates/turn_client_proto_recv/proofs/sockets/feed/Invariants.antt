use Rattle.std.proofs.Common.{length}
use Rattle.turn_client_proto_recv.specs.Notes.{AreNoted}
use Rattle.turn_client_proto_recv.proofs.Feeding.{IsOnwardAt}
use Rattle.turn_client_proto_recv.proofs.sockets.feed.Given as goal

-- The outcome of the frames from here on is the outcome of all of them, and the messages so far were noted.
abbrev pub invariant-loop : goal.invariant-loop
invariant-loop l =
    IsOnwardAt l.fn.here l.fn.now l.fn.stream l.fn.protocol l.stream l.protocol × AreNoted l.fn.now l.fn.protocol l.fn.notes l.protocol l.notes

abbrev pub decreases-loop : goal.decreases-loop
decreases-loop l = length l.stream.stored
