use Rattle.stun_proto_verify.proofs.Judging.{valid_by, wrong_by}
use Rattle.stun_proto_verify.proofs.judgement.validate_under.Goals as goal

pub returns-in-Ok-clause-valid : goal.returns-in-Ok-clause-valid
returns-in-Ok-clause-valid c =
    valid_by c.args.message.now c.args.key.now c.args.realm.now c.args.pending.now.name.now c.args.pending.now.password.now c.args.pending.now.algorithm c.in-Ok.field-0
    c.requires.key
    c.requires.last c.in-Ok.ensures.valid

pub returns-in-Err-clause-refused : goal.returns-in-Err-clause-refused
returns-in-Err-clause-refused c =
    wrong_by c.args.message.now c.args.key.now c.args.realm.now c.args.pending.now.name.now c.args.pending.now.password.now c.args.pending.now.algorithm c.in-Err.error c.of_digest.result c.of_digest.ensures
    c.requires.key
    (λ text s. absurd (Prim.cc (c.in-Err.ensures.accepted text s)))
