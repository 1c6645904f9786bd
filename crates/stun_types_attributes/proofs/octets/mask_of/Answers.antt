use Rattle.std.proofs.Common.{◌≡◌, refl}
use Rattle.std.specs.Int.{to_be_bytes, w128}
use Rattle.stun_types_attributes.specs.Xor.{octets_mask}
use Rattle.stun_types_attributes.proofs.octets.mask_of.Goals as goal

pub returns : goal.returns
unfolding octets_mask
returns c =
    let word : c.to_be_bytes-2.result ≡ to_be_bytes w128 c.from-word.result = c.to_be_bytes-2.ensures in
    rw (c.to_be_bytes.ensures, word, c.from-word.ensures) refl
