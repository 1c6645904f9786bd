use Rattle.std.proofs.Common.{arith}
use Rattle.turn_client_proto_progress_laws.specs.Refreshed.{refresh_for, signed_by}
use Rattle.turn_client_proto_progress_laws.proofs.Renewing.Transmitted.{releases, refreshes, rests, still}
use Rattle.turn_client_proto_progress_laws.proofs.renewals.keeping_clients_refresh.Goals as goal

pub returns-clause-rests : goal.returns-clause-rests
returns-clause-rests c = λ b choice address t last queue events old new now sent w unanswered soon transmitted. rests b choice address t last queue events old w now sent new unanswered soon transmitted

pub returns-clause-releases : goal.returns-clause-releases
returns-clause-releases c = λ b choice address t last one queue events old new now sent w late transmitted. releases b choice address t last one queue events old w now sent new late transmitted

pub returns-clause-still : goal.returns-clause-still
returns-clause-still c = λ b choice address t last events old new now sent w is soon transmitted. still b choice address t last events old w is now sent new soon transmitted

pub returns-clause-refreshes : goal.returns-clause-refreshes
returns-clause-refreshes c = λ b choice address t last events old new now sent room chosen w is late due reached transmitted.
    let short = c.signed_allocates_answer.ensures.short b choice room chosen in
    refreshes b choice address t last events old w is
    (λ number fits. c.proof_requests_are_read.ensures.number (signed_by b choice) refresh_for number (record { username = short.username; next = short.next; software = short.software; challenge = short.challenge }) (omega arith) fits)
    now sent new late due reached transmitted
