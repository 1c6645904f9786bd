use Rattle.stun_types_add.proofs.Adds.{decoded_again}
use Rattle.stun_types_add.proofs.signing.length_decoded.Goals as goal

pub returns : goal.returns
returns c n = decoded_again c.args.bytes.now c.from_be_bytes.result n c.requires c.type_inv.bytes c.from_be_bytes.ensures
