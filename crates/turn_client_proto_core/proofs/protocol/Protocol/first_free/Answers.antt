use Rattle.std.proofs.Common.{arith}
use Rattle.turn_client_proto_core.proofs.Numbers.{all_taken}
use Rattle.turn_client_proto_core.proofs.protocol.Protocol.first_free.Goals as goal

pub returns-clause-full : goal.returns-clause-full
returns-clause-full c =
    all_taken c.args.self.now c.args.from (λ k less. c.loop.invariant.passed k (let end = c.loop-test.false in omega (arith, less, end)))
