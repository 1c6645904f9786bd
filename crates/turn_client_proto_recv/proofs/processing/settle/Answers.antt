use Rattle.std.proofs.Common.{subst}
use Rattle.turn_client_proto_core.specs.Ending.{IsUnderWay}
use Rattle.turn_client_proto_recv.proofs.UnderWay.{from_accepted, where_err}
use Rattle.turn_client_proto_recv.proofs.processing.settle.Goals as goal

pub returns-clause-err : goal.returns-clause-err
returns-clause-err c =
    where_err c.conclude.result (λ is. from_accepted c.args.protocol.now c.conclude.new.protocol c.args.message.now (subst (λ p. IsUnderWay p c.conclude.new.protocol) c.in_ok-accept.ensures.ok is)) c.conclude.ensures.err
