-- The result of a call that provides a socket and the client afterwards are determined, unless memory runs
-- out.
use Rattle.std.proofs.Common.{◌≡◌, ◌≢◌, ℕ, Option, Some, None, Result, Ok, Err, refl, sym, ap, ◌∙◌}
use Rattle.std.specs.Prelude.{IfNone, IfSome}
use Rattle.std.specs.declared.net.socket_addr.SocketAddr.{SocketAddr}
use Rattle.turn_client_proto_timers.specs.Api.declared.answer.Socket5Tuple.{Socket5Tuple}
use Rattle.turn_client_proto_timers.specs.Api.declared.error.TcpAllocateError.{TcpAllocateError}
use Rattle.turn_client_proto_timers.specs.Api.declared.error.TcpAllocateError.TheVariants.{NoMemory}
use Rattle.turn_client_proto_recv.specs.Sockets.{IsBindingRequested, IsSocketAnswered, IsSocketTaken, after_socket, socket_refusal}
use Rattle.turn_client_proto_timers.specs.Core.declared.protocol.Protocol.{Protocol}
use Rattle.turn_client_proto_step_laws.proofs.Once.Numbering.{next_same}

module _ (old : Protocol) (connection : ℕ) (peer : SocketAddr) (now : ℕ) where
  requested_same : (here : SocketAddr) (one other : Protocol) → IsBindingRequested old here peer connection now one → IsBindingRequested old here peer connection now other → one ≡ other
  requested_same here one other a b = a.after ∙ ap (λ (n : ℕ). after_socket here peer connection n now old) (next_same old a.number b.number a.is_next b.is_next) ∙ sym b.after

  taken_same : (here : Option SocketAddr) (answer again : Result (Unit {0}) TcpAllocateError) (one other : Protocol) → answer ≢ Err NoMemory → again ≢ Err NoMemory
      → IsSocketTaken here old connection peer now answer one → IsSocketTaken here old connection peer now again other → (answer ≡ again) × (one ≡ other)
  taken_same None (Ok x) (Ok y) one other enough ample a b = (refl, a.after ∙ sym b.after)
  taken_same None (Err e) again one other enough ample a b = absurd (enough (ap (λ (x : TcpAllocateError). Err x) a.0))
  taken_same None (Ok x) (Err e) one other enough ample a b = absurd (ample (ap (λ (y : TcpAllocateError). Err y) b.0))
  taken_same (Some here) (Ok x) (Ok y) one other enough ample a b = (refl, requested_same here one other a b)
  taken_same (Some here) (Err e) again one other enough ample a b = absurd (enough (ap (λ (x : TcpAllocateError). Err x) a.0))
  taken_same (Some here) (Ok x) (Err e) one other enough ample a b = absurd (ample (ap (λ (y : TcpAllocateError). Err y) b.0))

  by_refusal : (here : Option SocketAddr) (o : Option TcpAllocateError) (answer again : Result (Unit {0}) TcpAllocateError) (one other : Protocol) → answer ≢ Err NoMemory → again ≢ Err NoMemory
      → IfSome o (λ error. (answer ≡ Err error) × (one ≡ old)) → IfNone o (IsSocketTaken here old connection peer now answer one)
      → IfSome o (λ error. (again ≡ Err error) × (other ≡ old)) → IfNone o (IsSocketTaken here old connection peer now again other) → (answer ≡ again) × (one ≡ other)
  by_refusal here (Some error) answer again one other enough ample refused x rejected y = (refused.0 ∙ sym rejected.0, refused.1 ∙ sym rejected.1)
  by_refusal here None answer again one other enough ample x taken y going = taken_same here answer again one other enough ample taken going

  pub socket_same : (s : Socket5Tuple) (here : Option SocketAddr) (answer again : Result (Unit {0}) TcpAllocateError) (one other : Protocol) → answer ≢ Err NoMemory → again ≢ Err NoMemory
      → IsSocketAnswered old connection s peer here now answer one → IsSocketAnswered old connection s peer here now again other → (answer ≡ again) × (one ≡ other)
  socket_same s here answer again one other enough ample a b =
      by_refusal here (socket_refusal old connection s peer here) answer again one other enough ample a.refused a.taken b.refused b.taken
