use Rattle.stun_proto_auth.proofs.KnownLists.{known_is_accepted_too, listed_as_offered}
use Rattle.stun_proto_auth.proofs.list.known_lists_are_read.Goals as goal

pub returns-clause-alike : goal.returns-clause-alike
returns-clause-alike c = λ algorithms algorithm. listed_as_offered algorithms algorithm

pub returns-clause-accepted : goal.returns-clause-accepted
returns-clause-accepted c = λ algorithms some few. known_is_accepted_too algorithms some few
