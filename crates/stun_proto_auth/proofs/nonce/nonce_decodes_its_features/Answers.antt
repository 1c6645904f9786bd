use Rattle.stun_proto_auth.proofs.NonceLemmas.{features_in-nonce_text}
use Rattle.stun_proto_auth.proofs.nonce.nonce_decodes_its_features.Goals as goal

pub returns : goal.returns
returns c = features_in-nonce_text
