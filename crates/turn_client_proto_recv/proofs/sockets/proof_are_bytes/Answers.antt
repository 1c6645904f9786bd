use Rattle.std.proofs.Common.{arith}
use Rattle.turn_client_proto_recv.proofs.Bytes.{are_below}
use Rattle.turn_client_proto_recv.proofs.sockets.proof_are_bytes.Goals as goal

pub returns : goal.returns
returns c = are_below c.args.bytes.now (λ i. omega (arith, c.type_inv.bytes i))
