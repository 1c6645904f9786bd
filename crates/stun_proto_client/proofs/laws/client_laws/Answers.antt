use Rattle.stun_proto_client.proofs.Stepping.{right_is_accepted}
use Rattle.stun_proto_client.proofs.laws.client_laws.Goals as goal

pub returns-clause-right : goal.returns-clause-right
returns-clause-right c = λ old new bytes standing result outcome none occurs right.
    right_is_accepted old new bytes standing result outcome none occurs right
