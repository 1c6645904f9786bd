use Rattle.std.proofs.Common.{refl}
use Rattle.turn_client_proto_handshake_laws.proofs.Request.{signed_allocates, signed_read, signed_short}
use Rattle.turn_client_proto_handshake_laws.proofs.stages.signed_allocates_answer.Goals as goal

pub returns-clause-request : goal.returns-clause-request
returns-clause-request c = λ b choice room text chosen.
    let laws = c.proof_requests_are_read.ensures in
    signed_allocates b room c.proof_texts_stay_short.ensures.fresh choice chosen c.proof_texts_stay_short.ensures.stay text laws.number laws.message laws.request laws.reported laws.valid
    c.texts_stay_read.ensures.fresh c.texts_stay_read.ensures.stay c.signed_requests_claim.ensures

pub returns-clause-occurs : goal.returns-clause-occurs
returns-clause-occurs c = λ b choice. refl

pub returns-clause-short : goal.returns-clause-short
returns-clause-short c = λ b choice room chosen. signed_short b room c.proof_texts_stay_short.ensures.fresh choice chosen c.proof_texts_stay_short.ensures.stay

pub returns-clause-read : goal.returns-clause-read
returns-clause-read c = λ b choice text chosen. signed_read b choice chosen text c.texts_stay_read.ensures.fresh c.texts_stay_read.ensures.stay
