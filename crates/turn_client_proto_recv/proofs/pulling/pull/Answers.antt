use Rattle.std.proofs.Common.{subst, sym, ◌∙◌}
use Rattle.turn_client_proto_recv.specs.Chunks.{IsTakenOff}
use Rattle.turn_client_proto_recv.proofs.Loops.{ends, gives, goes, less, lost, on_err}
use Rattle.turn_client_proto_recv.proofs.Noting.{then_noted}
use Rattle.turn_client_proto_recv.specs.Notes.{Start}
use Rattle.turn_client_proto_recv.proofs.pulling.pull.Goals as goal

pub returns-in_err-given-clause-err : goal.returns-in_err-given-clause-err
returns-in_err-given-clause-err g c =
    let failed = c.in_err-given.ensures.err in
    on_err c.from_residual.result (lost c.args.now c.args.stream.now c.args.protocol.now c.loop-given.stream c.loop-given.protocol c.take_off.new.protocol c.loop-given.invariant.0 failed.0 failed.1 failed.2)

pub returns-then-is_some-clause-ok : goal.returns-then-is_some-clause-ok
returns-then-is_some-clause-ok g c =
    gives c.args.now c.args.stream.now c.args.protocol.now c.loop-given.stream c.loop-given.protocol c.loop-given.invariant.0 c.take_off.new.stream c.take_off.new.protocol c.in-Some.given
    (subst (λ found. IsTakenOff c.args.now c.loop-given.stream c.loop-given.protocol found c.take_off.new.stream c.take_off.new.protocol) c.in-Some.is c.in_ok-given.ensures.ok)
    (sym c.is_some.ensures ∙ c.if-is_some.true)

pub loop-given-smaller : goal.loop-given-smaller
loop-given-smaller g c =
    less c.args.now c.args.stream.now c.args.protocol.now c.loop-given.stream c.loop-given.protocol c.loop-given.invariant.0 c.take_off.new.stream c.take_off.new.protocol c.in-Some.given
    (subst (λ found. IsTakenOff c.args.now c.loop-given.stream c.loop-given.protocol found c.take_off.new.stream c.take_off.new.protocol) c.in-Some.is c.in_ok-given.ensures.ok)

pub loop-given-preserved : goal.loop-given-preserved
loop-given-preserved g c = (
  goes c.args.now c.args.stream.now c.args.protocol.now c.loop-given.stream c.loop-given.protocol c.loop-given.invariant.0 c.take_off.new.stream c.take_off.new.protocol c.in-Some.given
      (subst (λ found. IsTakenOff c.args.now c.loop-given.stream c.loop-given.protocol found c.take_off.new.stream c.take_off.new.protocol) c.in-Some.is c.in_ok-given.ensures.ok)
      (sym c.is_some.ensures ∙ c.if-is_some.false),
  then_noted c.args.now c.args.protocol.now c.args.notes.now c.loop-given.protocol c.loop-given.notes c.loop-given.invariant.1 c.take_off.new.protocol c.take_off.new.notes c.take_off.ensures.noted,
)

pub returns-clause-ok : goal.returns-clause-ok
returns-clause-ok g c =
    ends c.args.now c.args.stream.now c.args.protocol.now c.loop-given.stream c.loop-given.protocol c.loop-given.invariant.0 c.take_off.new.stream c.take_off.new.protocol
    (subst (λ found. IsTakenOff c.args.now c.loop-given.stream c.loop-given.protocol found c.take_off.new.stream c.take_off.new.protocol) c.in_default.is c.in_ok-given.ensures.ok)

pub returns-in_err-given-clause-noted : goal.returns-in_err-given-clause-noted
returns-in_err-given-clause-noted g c =
    then_noted c.args.now c.args.protocol.now c.args.notes.now c.loop-given.protocol c.loop-given.notes c.loop-given.invariant.1 c.take_off.new.protocol c.take_off.new.notes c.take_off.ensures.noted

pub returns-then-is_some-clause-noted : goal.returns-then-is_some-clause-noted
returns-then-is_some-clause-noted g c =
    then_noted c.args.now c.args.protocol.now c.args.notes.now c.loop-given.protocol c.loop-given.notes c.loop-given.invariant.1 c.take_off.new.protocol c.take_off.new.notes c.take_off.ensures.noted

pub returns-clause-noted : goal.returns-clause-noted
returns-clause-noted g c =
    then_noted c.args.now c.args.protocol.now c.args.notes.now c.loop-given.protocol c.loop-given.notes c.loop-given.invariant.1 c.take_off.new.protocol c.take_off.new.notes c.take_off.ensures.noted

pub loop-given-init : goal.loop-given-init
loop-given-init g c =
    (record { ok = λ given left after is. is; err = λ after is. is }, Start)
