use Rattle.std.proofs.Common.{arith}
use Rattle.stun_types_digest.proofs.Chunks.{four_apart}
use Rattle.stun_types_digest.proofs.crc.table.left_by_four.Goals as goal

pub returns : goal.returns
returns c =
    let whole = four_apart c.args.zeros c.args.bytes (omega arith) in
    cc
