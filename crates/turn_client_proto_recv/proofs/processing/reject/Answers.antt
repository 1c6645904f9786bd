use Rattle.std.proofs.Common.{subst}
use Rattle.turn_client_proto_core.specs.Ending.{IsUnderWay}
use Rattle.turn_client_proto_recv.proofs.UnderWay.{from_answered, where_err}
use Rattle.turn_client_proto_recv.proofs.processing.reject.Goals as goal

pub returns-clause-err : goal.returns-clause-err
returns-clause-err c =
    where_err c.break_off.result (λ is. from_answered c.args.protocol.now c.break_off.new.protocol c.args.message.now (subst (λ p. IsUnderWay p c.break_off.new.protocol) c.in_ok-answer.ensures.ok is)) c.break_off.ensures.err
