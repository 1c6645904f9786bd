use Rattle.stun_proto_verify.proofs.Judging.{answers}
use Rattle.stun_proto_verify.proofs.judgement.judge_message.Goals as goal

pub returns-clause-accepted : goal.returns-clause-accepted
returns-clause-accepted c algorithm name = answers c.args.known.now c.args.message.now c.decide.result c.decide.ensures.valid c.decide.ensures.refused algorithm name
