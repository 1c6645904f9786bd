use Rattle.turn_client_proto_progress_laws.proofs.TcpBinding.Beginning.{begins_tcp_binding, signed_so}
use Rattle.turn_client_proto_progress_laws.proofs.connections.holders_can_ask.Goals as goal

pub returns-clause-holds : goal.returns-clause-holds
returns-clause-holds c = λ b choice address lifetime since last events p room text chosen over relays is.
    begins_tcp_binding b choice address lifetime since last events p over relays
    (c.signed_allocates_answer.ensures.short b choice room chosen) (c.signed_allocates_answer.ensures.read b choice text chosen) is

pub returns-clause-signs : goal.returns-clause-signs
returns-clause-signs c = λ h request number can lawful signed fits.
    let laws = c.proof_requests_are_read.ensures in
    signed_so h request number can lawful signed fits laws.message laws.request laws.number laws.reported laws.valid c.signed_requests_claim.ensures
