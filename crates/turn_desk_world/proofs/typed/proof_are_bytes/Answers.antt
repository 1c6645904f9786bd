use Rattle.std.proofs.Common.{arith}
use Rattle.turn_desk_world.proofs.Bytes.{are_below}
use Rattle.turn_desk_world.proofs.typed.proof_are_bytes.Goals as goal

pub returns : goal.returns
returns c = are_below c.args.bytes.now (λ i. omega (arith, c.type_inv.bytes i))
