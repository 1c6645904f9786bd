use Rattle.stun_types_attributes.proofs.TypeLists.{bytes_again}
use Rattle.stun_types_attributes.proofs.unknown_attributes.proof_types_are_decoded.Goals as goal

pub returns : goal.returns
returns c = bytes_again c.args.bytes.now c.requires (λ k. (c.type_inv.bytes k).fits)
