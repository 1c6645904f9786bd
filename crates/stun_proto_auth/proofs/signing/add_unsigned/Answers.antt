use Rattle.stun_proto_auth.proofs.Making.{unsigned}
use Rattle.stun_proto_auth.proofs.signing.add_unsigned.Goals as goal

pub returns-clause-ok : goal.returns-clause-ok
returns-clause-ok g c = unsigned _ _ _ c.in_ok-parts_fit.ensures.accepted c.in_ok-add_parts.ensures.ok
