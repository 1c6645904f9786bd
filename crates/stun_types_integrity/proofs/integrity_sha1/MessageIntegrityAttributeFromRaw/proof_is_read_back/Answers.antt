use Rattle.std.proofs.Common.{length, ap, arith}
use Rattle.stun_types_write.proofs.Values.{value_is_accepted}
use Rattle.stun_types_integrity.proofs.integrity_sha1.MessageIntegrityAttributeFromRaw.proof_is_read_back.Goals as goal

pub returns-clause-accepted : goal.returns-clause-accepted
returns-clause-accepted c =
    let view = ap length c.self.view_is in
    let size = c.self.invariant in
    value_is_accepted 8 20 20 c.args.self.now (omega arith) (omega arith)
