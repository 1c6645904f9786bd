-- The result of a call for a connection and the client afterwards are determined, unless memory runs out.
use Rattle.std.proofs.Common.{◌≡◌, ◌≢◌, ℕ, Result, Err, sym, ap, ◌∙◌}
use Rattle.std.specs.declared.net.socket_addr.SocketAddr.{SocketAddr}
use Rattle.turn_client_proto_timers.specs.Api.declared.error.TcpConnectError.{TcpConnectError}
use Rattle.turn_client_proto_timers.specs.Api.declared.error.TcpConnectError.TheVariants.{NoMemory}
use Rattle.turn_client_proto_recv.specs.Connecting.{IsConnectAnswered, IsConnectionRequested, after_connecting, allocation_towards, connect_refusal, connect_refused_in}
use Rattle.turn_client_proto_timers.specs.Core.Numbering.{after_number}
use Rattle.turn_client_proto_timers.specs.Core.declared.protocol.Protocol.{Protocol}
use Rattle.turn_client_proto_step_laws.proofs.Once.Calling.{call_same}
use Rattle.turn_client_proto_step_laws.proofs.Once.Numbering.{next_same}

module _ (old : Protocol) (peer : SocketAddr) (now : ℕ) where
  requested_same : (one other : Protocol) → IsConnectionRequested old peer now one → IsConnectionRequested old peer now other → one ≡ other
  requested_same one other a b = a.after ∙ ap (λ (n : ℕ). after_connecting peer n now old) (next_same old a.number b.number a.is_next b.is_next) ∙ sym b.after

  pub connect_same : (answer again : Result (Unit {0}) TcpConnectError) (one other : Protocol) → answer ≢ Err NoMemory → again ≢ Err NoMemory
      → IsConnectAnswered old peer now answer one → IsConnectAnswered old peer now again other → (answer ≡ again) × (one ≡ other)
  connect_same answer again one other enough ample a b =
      call_same NoMemory (λ error new. new ≡ connect_refused_in (allocation_towards peer old) peer now old) (IsConnectionRequested old peer now) (after_number old)
      (λ error p q x y. x ∙ sym y) requested_same (connect_refusal old peer now) answer again one other enough ample a.refused a.requested b.refused b.requested
