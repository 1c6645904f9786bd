use Rattle.turn_client_proto_step_laws.proofs.SignedCauses.{redirect_waited, signed_redirect, waited_spent}
use Rattle.turn_client_proto_step_laws.proofs.causes.redirects_are_of_responses.Goals as goal

pub returns : goal.returns
returns k = record {
  awaited = λ old bytes new h. waited_spent old bytes new (redirect_waited old bytes new h).0;
  signed = λ c bytes now handled new sound are_bytes is h isnt. signed_redirect c bytes now handled new sound are_bytes is h isnt;
}
