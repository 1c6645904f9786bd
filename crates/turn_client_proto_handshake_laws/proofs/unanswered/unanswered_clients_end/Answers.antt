use Rattle.turn_client_proto_handshake_laws.proofs.UnansweredRequest.{first_allocates, first_visible}
use Rattle.turn_client_proto_handshake_laws.proofs.Runs.{is_answered, is_sent, is_reported}
use Rattle.turn_client_proto_handshake_laws.proofs.Numbers.{are_slots}
use Rattle.turn_client_proto_handshake_laws.proofs.unanswered.unanswered_clients_end.Goals as goal

pub returns-clause-sent : goal.returns-clause-sent
returns-clause-sent c = λ b old new calls last room is driven.
    is_sent b (first_visible b room c.proof_texts_stay_short.ensures.fresh c.proof_requests_are_read.ensures.number) old new calls last is driven

pub returns-clause-answered : goal.returns-clause-answered
returns-clause-answered c = λ b old new calls last room is driven.
    is_answered b (first_visible b room c.proof_texts_stay_short.ensures.fresh c.proof_requests_are_read.ensures.number) old new calls last is driven

pub returns-clause-reported : goal.returns-clause-reported
returns-clause-reported c = λ b old new calls last room is driven.
    is_reported b (first_visible b room c.proof_texts_stay_short.ensures.fresh c.proof_requests_are_read.ensures.number) old new calls last is driven

pub returns-clause-request : goal.returns-clause-request
returns-clause-request c = λ b room.
    first_allocates b room c.proof_texts_stay_short.ensures.fresh c.proof_requests_are_read.ensures.message c.proof_requests_are_read.ensures.request c.proof_requests_are_read.ensures.reported

pub returns-clause-slots : goal.returns-clause-slots
returns-clause-slots c = λ b early. are_slots b early
