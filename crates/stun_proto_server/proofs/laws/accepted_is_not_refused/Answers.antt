use Rattle.stun_proto_server.proofs.Named.{never_both}
use Rattle.stun_proto_server.proofs.laws.accepted_is_not_refused.Goals as goal

pub returns : goal.returns
returns c = λ server from bytes algorithm name error one accepts refuses.
    never_both server from bytes algorithm name error one accepts refuses
