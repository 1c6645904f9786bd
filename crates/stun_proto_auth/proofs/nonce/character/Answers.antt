use Rattle.std.proofs.Common.{arith, ◌%◌}
use Rattle.stun_proto_auth.proofs.NonceLemmas.{nonce_alphabet-ascii}
use Rattle.stun_proto_auth.proofs.nonce.character.Goals as goal

pub returns-clause-ascii : goal.returns-clause-ascii
returns-clause-ascii c = rw c.from.ensures (nonce_alphabet-ascii (c.args.word % 62) (omega arith))
