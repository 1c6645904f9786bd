use Rattle.stun_types_digest.proofs.Chunks.{eight_at_once}
use Rattle.stun_types_digest.proofs.crc.after_eight.Goals as goal

pub returns : goal.returns
returns c =
    let whole = eight_at_once c.args.register c.args.bytes.now c.told-bytes in
    cc
