use Rattle.stun_types_digest.proofs.Chunks.{four_at_once}
use Rattle.stun_types_digest.proofs.crc.after_four.Goals as goal

pub returns : goal.returns
returns c =
    let whole = four_at_once c.args.register c.args.bytes.now c.told-bytes in
    cc
