use Rattle.std.proofs.Common.{bit_xor, ap, ◌∙◌}
use Rattle.byteorder.specs.Endian.{big_bytes}
use Rattle.stun_types_integrity.specs.Digest.Crc.{crc32}
use Rattle.stun_types_integrity.specs.Wire.Fingerprints.{fingerprint_value}
use Rattle.stun_types_integrity.specs.Wire.Registry.{fingerprint_mask}
use Rattle.stun_types_add.proofs.FingerprintChunks.{decoded_in_chunks}
use Rattle.stun_types_add.proofs.attribute.Fingerprint.of_message.Goals as goal

pub returns : goal.returns
unfolding fingerprint_value
returns c =
    let text = decoded_in_chunks c.args.bytes.now _ _ c.args.len c.requires c.head_decoded.ensures c.split_at.ensures.back in
    ap (λ crc. big_bytes 4 (bit_xor crc fingerprint_mask)) (c.of_chunks.ensures ∙ ap crc32 text)
