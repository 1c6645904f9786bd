use Rattle.turn_client_proto_handshake_laws.proofs.Request.{first_visible, texts_short}
use Rattle.turn_client_proto_handshake_laws.proofs.First.{first_transmitted, first_polled}
use Rattle.turn_client_proto_handshake_laws.proofs.stages.new_clients_ask.Goals as goal

pub returns-clause-transmitted : goal.returns-clause-transmitted
returns-clause-transmitted c = λ b old new sent room usual is generated.
    first_transmitted b old is usual (first_visible b room c.proof_texts_stay_short.ensures.fresh c.proof_requests_are_read.ensures.number) sent new generated

pub returns-clause-polled : goal.returns-clause-polled
returns-clause-polled c = λ b old new now ret is polled. first_polled b old is now ret new polled

pub returns-clause-number : goal.returns-clause-number
returns-clause-number c = λ b room. first_visible b room c.proof_texts_stay_short.ensures.fresh c.proof_requests_are_read.ensures.number

pub returns-clause-short : goal.returns-clause-short
returns-clause-short c = λ b room. texts_short b room c.proof_texts_stay_short.ensures.fresh
