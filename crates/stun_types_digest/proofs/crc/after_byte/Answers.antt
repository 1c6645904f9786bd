use Rattle.stun_types_digest.proofs.Chunks.{byte_step_is}
use Rattle.stun_types_digest.proofs.crc.after_byte.Goals as goal

pub returns : goal.returns
returns c = cc (byte_step_is c.args.register c.args.byte)
