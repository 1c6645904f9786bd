use Rattle.std.proofs.Common.{length}
use Rattle.turn_client_proto_recv.specs.Notes.{AreNoted}
use Rattle.turn_client_proto_recv.proofs.Loops.{IsOnward}
use Rattle.turn_client_proto_recv.proofs.pulling.pull.Given as goal

-- The outcome of the pull from here on is the outcome of the whole pull, and the messages so far were noted.
abbrev pub invariant-loop-given : goal.invariant-loop-given
invariant-loop-given g l =
    IsOnward l.fn.now l.fn.stream l.fn.protocol l.stream l.protocol × AreNoted l.fn.now l.fn.protocol l.fn.notes l.protocol l.notes

abbrev pub decreases-loop-given : goal.decreases-loop-given
decreases-loop-given g l = length l.stream.stored
