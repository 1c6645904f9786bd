use Rattle.std.proofs.Common.{subst}
use Rattle.turn_client_proto_api.specs.declared.answer.TurnRecvRet.TheVariants as recv
use Rattle.turn_client_proto_recv.specs.Chunks.{IsFrameHandled}
use Rattle.turn_client_proto_recv.specs.Pulls.{IsPulled}
use Rattle.turn_client_proto_recv.proofs.Following.{after_none, after_some, handled_so, ignored_so}
use Rattle.turn_client_proto_recv.proofs.chunk.go_on.Goals as goal

pub returns-in-Ok-Some-clause-taken : goal.returns-in-Ok-Some-clause-taken
returns-in-Ok-Some-clause-taken g c =
    after_some c.args.now c.args.is_handled c.args.stream.now c.args.protocol.now c.args.transmit c.pull.new.stream c.pull.new.protocol c.in-Ok-Some.data
    (subst (λ found. IsPulled (IsFrameHandled c.args.now) c.args.stream.now c.args.protocol.now found c.pull.new.stream c.pull.new.protocol) c.in-Ok-Some.field-0-is c.in-Ok-Some.ensures.ok)

pub returns-then-is_handled-clause-taken : goal.returns-then-is_handled-clause-taken
returns-then-is_handled-clause-taken g c =
    after_none c.args.now c.args.is_handled c.args.stream.now c.args.protocol.now c.args.transmit c.pull.new.stream c.pull.new.protocol recv.Handled
    (subst (λ found. IsPulled (IsFrameHandled c.args.now) c.args.stream.now c.args.protocol.now found c.pull.new.stream c.pull.new.protocol) c.in-Ok-None.field-0-is c.in-Ok-None.ensures.ok)
    (handled_so c.args.transmit c.args.is_handled c.if-is_handled.true)

pub returns-else-is_handled-clause-taken : goal.returns-else-is_handled-clause-taken
returns-else-is_handled-clause-taken g c =
    after_none c.args.now c.args.is_handled c.args.stream.now c.args.protocol.now c.args.transmit c.pull.new.stream c.pull.new.protocol (recv.Ignored c.args.transmit)
    (subst (λ found. IsPulled (IsFrameHandled c.args.now) c.args.stream.now c.args.protocol.now found c.pull.new.stream c.pull.new.protocol) c.in-Ok-None.field-0-is c.in-Ok-None.ensures.ok)
    (ignored_so c.args.transmit c.args.is_handled c.if-is_handled.false)
