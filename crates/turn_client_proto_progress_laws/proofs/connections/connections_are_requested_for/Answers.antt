use Rattle.std.proofs.Common.{◌≡◌, refl}
use Rattle.std.specs.Prelude.{MatchResult, Result, Ok, Err, ◌≢◌}
use Rattle.turn_client_proto_messages.specs.Api.declared.error.TcpConnectError.{TcpConnectError}
use Rattle.turn_client_proto_messages.specs.Api.declared.error.TcpConnectError.TheVariants.{NoMemory}
use Rattle.turn_client_proto_progress_laws.proofs.TcpBinding.Tools.{holding_polled}
use Rattle.turn_client_proto_progress_laws.proofs.TcpBinding.Asks.{number_fits}
use Rattle.turn_client_proto_progress_laws.proofs.TcpBinding.Connects.{connect_requested, connect_free, connect_refused, connect_taken, connect_unbarred, socket_requested}
use Rattle.turn_client_proto_progress_laws.proofs.TcpBinding.Granted.{connect_processed}
use Rattle.turn_client_proto_progress_laws.proofs.connections.connections_are_requested_for.Goals as goal

-- A result other than `NoMemory`.
granted_so : (Is : Type 0) (answer : Result (Unit {0}) TcpConnectError) → answer ≢ Err NoMemory → MatchResult answer (λ _. Is) (λ error. error ≡ NoMemory) → answer ≡ Ok tt
granted_so Is (Ok tt) ample is = refl
granted_so Is (Err error) ample is = absurd (ample (Prim.cc is))

pub returns-clause-answered : goal.returns-clause-answered
returns-clause-answered c = λ h ip granted last events old new peer now answer is answered ample. (
  λ ok. (let free = connect_unbarred h ip granted last events old is peer now (connect_refused h ip granted last events old is peer now answer new answered ok) in record { family = free.0; own = free.1; before = free.2 }),
  λ can. granted_so _ answer ample (connect_taken h ip granted last events old is peer now answer new answered (connect_free h ip granted last events old is peer now can.family can.own can.before)),
)

pub returns-clause-requested : goal.returns-clause-requested
returns-clause-requested c = λ h ip granted last events old new peer now is answered.
    let none = connect_refused h ip granted last events old is peer now (Ok tt) new answered refl in
    let k = connect_taken h ip granted last events old is peer now (Ok tt) new answered none in
    (k.number, number_fits old k.number k.is_next, connect_requested h ip granted last events old is peer now c.proof_requests_are_read.ensures.number new none k)

pub returns-clause-learned : goal.returns-clause-learned
returns-clause-learned c = λ h permissions peer number made last connection events old new bytes now handled settled is success reported processed.
    connect_processed h permissions settled peer number made last events old is connection bytes success reported now handled new processed

pub returns-clause-polled : goal.returns-clause-polled
returns-clause-polled c = λ h permissions connection peer last old new now ret is polled. socket_requested h permissions connection peer last old is now ret new polled

pub returns-clause-waits : goal.returns-clause-waits
returns-clause-waits c = λ h permissions connection peer last event others old new now ret is polled. holding_polled old event others is.events_are now ret new polled
