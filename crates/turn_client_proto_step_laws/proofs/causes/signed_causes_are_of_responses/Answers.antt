use Rattle.turn_client_proto_step_laws.proofs.SignedCauses.{signed_cause}
use Rattle.turn_client_proto_step_laws.proofs.causes.signed_causes_are_of_responses.Goals as goal

pub returns : goal.returns
returns k = λ c bytes now handled new code reason sound are_bytes is more of. signed_cause c bytes now handled new sound are_bytes is code reason more of
