use Rattle.std.proofs.Common.{ap, ◌∙◌, arith}
use Rattle.stun_types_digest.specs.Crc.{text_polynomial}
use Rattle.stun_types_digest.proofs.Chunks.{polynomial_of_sum}
use Rattle.stun_types_digest.proofs.crc.with_register.Goals as goal

pub returns : goal.returns
returns c =
    ap text_polynomial c.to_le_bytes.ensures
    ∙ polynomial_of_sum c.args.register c.from_le_bytes.result c.args.bytes.now c.told-bytes c.fits-bytes (omega arith) (omega arith) c.from_le_bytes.ensures
