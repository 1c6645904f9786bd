use Rattle.stun_types_attributes.proofs.Bytes.{segments_again}
use Rattle.stun_types_attributes.proofs.octets.proof_segments_are_decoded.Goals as goal

pub returns : goal.returns
returns c = segments_again c.args.segments.now (λ k. (c.type_inv.segments k).fits)
