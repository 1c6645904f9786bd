use Rattle.std.proofs.Common.{◌≡◌, refl}
use Rattle.std.specs.Prelude.{MatchResult, Result, Ok, Err, ◌≢◌}
use Rattle.turn_client_proto_messages.specs.Api.declared.error.CreatePermissionError.{CreatePermissionError}
use Rattle.turn_client_proto_messages.specs.Api.declared.error.CreatePermissionError.TheVariants.{NoMemory}
use Rattle.turn_client_proto_progress_laws.proofs.TcpBinding.Asks.{number_fits}
use Rattle.turn_client_proto_progress_laws.proofs.TcpBinding.Granted.{permission_processed}
use Rattle.turn_client_proto_progress_laws.proofs.TcpBinding.Permissions.{permission_requested, permission_free, permission_refused, permission_taken, permission_unbarred}
use Rattle.turn_client_proto_progress_laws.proofs.connections.permissions_are_requested_for.Goals as goal

-- A result other than `NoMemory`.
granted_so : (Is : Type 0) (answer : Result (Unit {0}) CreatePermissionError) → answer ≢ Err NoMemory → MatchResult answer (λ _. Is) (λ error. error ≡ NoMemory) → answer ≡ Ok tt
granted_so Is (Ok tt) ample is = refl
granted_so Is (Err error) ample is = absurd (ample (Prim.cc is))

pub returns-clause-answered : goal.returns-clause-answered
returns-clause-answered c = λ h last events old new ip now answer is answered ample. (
  λ ok. (let free = permission_unbarred h last events old is ip now (permission_refused h last events old is ip now answer new answered ok) in record { family = free.0; before = free.1 }),
  λ can. granted_so _ answer ample (permission_taken h last events old is ip now answer new answered (permission_free h last events old is ip now can.family can.before)),
)

pub returns-clause-requested : goal.returns-clause-requested
returns-clause-requested c = λ h last events old new ip now is answered.
    let none = permission_refused h last events old is ip now (Ok tt) new answered refl in
    let k = permission_taken h last events old is ip now (Ok tt) new answered none in
    (k.number, number_fits old k.number k.is_next, k.lawful, permission_requested h last events old is ip now c.proof_requests_are_read.ensures.number new none k)

pub returns-clause-granted : goal.returns-clause-granted
returns-clause-granted c = λ h ip number made last events old new bytes now handled is success processed.
    permission_processed h ip number made last events old is bytes success now handled new processed
