use Rattle.std.proofs.Common.{subst}
use Rattle.turn_client_proto_recv.specs.SocketChunks.{IsNextTaken}
use Rattle.turn_client_proto_recv.proofs.Feeding.{ends_here, goes_less, continues, lost_here}
use Rattle.turn_client_proto_recv.proofs.Loops.{on_err}
use Rattle.turn_client_proto_recv.proofs.Noting.{then_noted}
use Rattle.turn_client_proto_recv.specs.Notes.{Start}
use Rattle.turn_client_proto_recv.proofs.sockets.feed.Goals as goal

pub returns-in_err-take_next-clause-err : goal.returns-in_err-take_next-clause-err
returns-in_err-take_next-clause-err c =
    let failed = c.in_err-take_next.ensures.err in
    on_err c.from_residual.result (lost_here c.args.here c.args.now c.args.stream.now c.args.protocol.now c.loop.stream c.loop.protocol c.loop.invariant.0 c.take_next.new.stream c.take_next.new.protocol failed.0 failed.1 failed.2 failed.3)

pub loop-smaller : goal.loop-smaller
loop-smaller c =
    goes_less c.args.here c.args.now c.args.stream.now c.args.protocol.now c.loop.stream c.loop.protocol c.loop.invariant.0 c.take_next.new.stream c.take_next.new.protocol
    (subst (λ went. IsNextTaken c.args.here c.args.now c.loop.stream c.loop.protocol went c.take_next.new.stream c.take_next.new.protocol) c.if-branch.true c.in_ok-take_next.ensures.ok)

pub loop-preserved : goal.loop-preserved
loop-preserved c = (
  continues c.args.here c.args.now c.args.stream.now c.args.protocol.now c.loop.stream c.loop.protocol c.loop.invariant.0 c.take_next.new.stream c.take_next.new.protocol
      (subst (λ went. IsNextTaken c.args.here c.args.now c.loop.stream c.loop.protocol went c.take_next.new.stream c.take_next.new.protocol) c.if-branch.true c.in_ok-take_next.ensures.ok),
  then_noted c.args.now c.args.protocol.now c.args.notes.now c.loop.protocol c.loop.notes c.loop.invariant.1 c.take_next.new.protocol c.take_next.new.notes c.take_next.ensures.noted,
)

pub returns-clause-ok : goal.returns-clause-ok
returns-clause-ok c =
    ends_here c.args.here c.args.now c.args.stream.now c.args.protocol.now c.loop.stream c.loop.protocol c.loop.invariant.0 c.take_next.new.stream c.take_next.new.protocol
    (subst (λ went. IsNextTaken c.args.here c.args.now c.loop.stream c.loop.protocol went c.take_next.new.stream c.take_next.new.protocol) c.if-branch.false c.in_ok-take_next.ensures.ok)

pub returns-in_err-take_next-clause-noted : goal.returns-in_err-take_next-clause-noted
returns-in_err-take_next-clause-noted c =
    then_noted c.args.now c.args.protocol.now c.args.notes.now c.loop.protocol c.loop.notes c.loop.invariant.1 c.take_next.new.protocol c.take_next.new.notes c.take_next.ensures.noted

pub returns-clause-noted : goal.returns-clause-noted
returns-clause-noted c =
    then_noted c.args.now c.args.protocol.now c.args.notes.now c.loop.protocol c.loop.notes c.loop.invariant.1 c.take_next.new.protocol c.take_next.new.notes c.take_next.ensures.noted

pub loop-init : goal.loop-init
loop-init c =
    (record { ok = λ left after is. is; err = λ after is. is }, Start)
