use Rattle.std.proofs.Common.{◌≡◌, ℕ, List, Some, refl, subst}
use Rattle.std.specs.Prelude.{MatchResult, Result, Ok, Err, ◌≢◌}
use Rattle.std.specs.declared.net.socket_addr.SocketAddr.{SocketAddr}
use Rattle.turn_client_proto_messages.specs.Allocation.declared.permission.Permission.{Permission}
use Rattle.turn_client_proto_messages.specs.Api.declared.answer.Socket5Tuple.{Socket5Tuple}
use Rattle.turn_client_proto_messages.specs.Api.declared.error.TcpAllocateError.{TcpAllocateError}
use Rattle.turn_client_proto_messages.specs.Api.declared.error.TcpAllocateError.TheVariants.{NoMemory}
use Rattle.turn_client_proto_messages.specs.Api.declared.event.TurnEvent.{TurnEvent}
use Rattle.turn_client_proto_handshake_laws.specs.Core.declared.protocol.Protocol.{Protocol}
use Rattle.turn_client_proto_step_laws.specs.Recv.Sockets.{IsSocketAnswered}
use Rattle.turn_client_proto_progress_laws.specs.Holders.{Holder}
use Rattle.turn_client_proto_progress_laws.specs.TcpBinding.{AwaitsSocket, own_tuple_of}
use Rattle.turn_client_proto_progress_laws.proofs.TcpBinding.Asks.{number_fits}
use Rattle.turn_client_proto_progress_laws.proofs.TcpBinding.Bound.{bound_processed}
use Rattle.turn_client_proto_progress_laws.proofs.TcpBinding.Sockets.{bind_requested, socket_free, socket_refused, socket_taken, socket_unbarred}
use Rattle.turn_client_proto_progress_laws.proofs.connections.connections_are_joined.Goals as goal

-- A result other than `NoMemory`.
granted_so : (Is : Type 0) (answer : Result (Unit {0}) TcpAllocateError) → answer ≢ Err NoMemory → MatchResult answer (λ _. Is) (λ error. error ≡ NoMemory) → answer ≡ Ok tt
granted_so Is (Ok tt) ample is = refl
granted_so Is (Err error) ample is = absurd (ample (Prim.cc is))

-- The client's own connection to the server, by the client's state.
own_so : (h : Holder) (permissions : List Permission) (connection : ℕ) (peer : SocketAddr) (last : ℕ) (events : List TurnEvent) (p : Protocol) → AwaitsSocket h permissions connection peer last events p
    → own_tuple_of h ≡ record { transport = p.agent.transport; from = p.agent.here; to = p.server }
own_so h permissions connection peer last events p w = Prim.cc (w.settings.transport, w.settings.here, w.settings.server)

pub returns-clause-answered : goal.returns-clause-answered
returns-clause-answered c = λ h permissions connection number peer to here last events old new now answer is answered ample.
    let mine = subst (λ (s : Socket5Tuple). IsSocketAnswered old number s to (Some here) now answer new) (own_so h permissions connection peer last events old is) answered in (
      λ ok. socket_unbarred h permissions connection peer last events old is number to here now (socket_refused h permissions connection peer last events old is number to here now answer new mine ok),
      λ same. granted_so _ answer ample (socket_taken h permissions connection peer last events old is number to here now answer new mine
          (socket_free h permissions connection peer last events old is number to here now same.0 same.1)),
    )

pub returns-clause-requested : goal.returns-clause-requested
returns-clause-requested c = λ h permissions connection peer here last events old new now is answered.
    let mine = subst (λ (s : Socket5Tuple). IsSocketAnswered old connection s peer (Some here) now (Ok tt) new) (own_so h permissions connection peer last events old is) answered in
    let k = socket_taken h permissions connection peer last events old is connection peer here now (Ok tt) new mine (socket_free h permissions connection peer last events old is connection peer here now refl refl) in
    (k.number, number_fits old k.number k.is_next, k.lawful, bind_requested h permissions connection peer last events old is here now c.proof_requests_are_read.ensures.number new k)

pub returns-clause-bound : goal.returns-clause-bound
returns-clause-bound c = λ h older permissions here peer connection number made last head events old new bytes now is success processed.
    bound_processed h older permissions here peer connection number made last head events old is bytes success now new processed
