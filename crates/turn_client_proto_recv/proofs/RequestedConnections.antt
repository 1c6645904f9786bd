-- Requests for a connection.
use Rattle.std.proofs.Common.{◌≡◌, ℕ, true, false, List, Option, Some, None, Result, Err, position, slice_get, slice_set, refl, sym, ap, ◌∙◌, subst}
use Rattle.std.specs.Prelude.{IfNone, IfSome, MatchResult}
use Rattle.std.specs.declared.net.socket_addr.SocketAddr.{SocketAddr}
use Rattle.stun_types_base.specs.Family.{family_of_socket}
use Rattle.stun_types_base.specs.declared.transport.TransportType.TheVariants.{Tcp}
use Rattle.turn_client_proto_allocation.proofs.Changes.{change_first_at}
use Rattle.turn_client_proto_allocation.specs.declared.allocation.Allocation.{Allocation}
use Rattle.turn_client_proto_api.specs.declared.error.TcpConnectError.{TcpConnectError}
use Rattle.turn_client_proto_api.specs.declared.error.TcpConnectError.TheVariants.{NoAllocation, NoMemory}
use Rattle.turn_client_proto_connection.specs.Asking.{barring, connecting}
use Rattle.turn_client_proto_peers.specs.Permission.Asking.{is_of, is_past}
use Rattle.turn_client_proto_messages.specs.declared.request.TurnRequest.TheVariants.{Connect}
use Rattle.turn_client_proto_core.specs.Asking.{requested}
use Rattle.turn_client_proto_core.specs.Deleting.{is_authenticated}
use Rattle.turn_client_proto_core.specs.Numbering.{IsNextNumber, after_number}
use Rattle.turn_client_proto_core.specs.declared.protocol.Phase.{Phase}
use Rattle.turn_client_proto_core.specs.declared.protocol.Protocol.{Protocol}
use Rattle.turn_client_proto_recv.specs.Connecting.{IsConnectAnswered, IsConnectionRequested, after_connecting, allocation_towards, connect_refusal, connect_refusal_in, connect_refused_in}

-- ---- refusals

module _ (phase : Phase) (peer : SocketAddr) (now : ℕ) (a : Allocation) where
  pub past : is_past now a ≡ true → connect_refusal_in (Some a) phase peer now ≡ Some NoAllocation
  past is = rw is refl

  pub ended : is_past now a ≡ false → is_authenticated phase ≡ false → connect_refusal_in (Some a) phase peer now ≡ Some NoAllocation
  ended not_past is = rw (not_past, is) refl

  pub barred : (given : Option TcpConnectError) → is_past now a ≡ false → is_authenticated phase ≡ true → barring peer a ≡ given → connect_refusal_in (Some a) phase peer now ≡ given
  barred given not_past occurs is = rw (not_past, occurs) is

module _ (old : Protocol) (peer : SocketAddr) (now : ℕ) where
  -- The result of a refused call, by the allocation that was found.
  pub refused_by : (found : Option Allocation) → allocation_towards peer old ≡ found → (error : TcpConnectError) (new : Protocol) → connect_refusal_in found old.phase peer now ≡ Some error
      → new ≡ connect_refused_in found peer now old → IsConnectAnswered old peer now (Err error) new
  refused_by found is error new refusal after =
      let here : connect_refusal old peer now ≡ Some error = ap (λ (o : Option Allocation). connect_refusal_in o old.phase peer now) is ∙ refusal in
      let answer : Result (Unit {0}) TcpConnectError = Err error in
      record {
        refused = subst (λ (o : Option TcpConnectError). IfSome o (λ e. (answer ≡ Err e) × (new ≡ connect_refused_in (allocation_towards peer old) peer now old))) (sym here)
            (refl, after ∙ ap (λ (o : Option Allocation). connect_refused_in o peer now old) (sym is));
        requested = subst (λ (o : Option TcpConnectError). IfNone o (MatchResult answer (λ _. IsConnectionRequested old peer now new) (λ e. (e ≡ NoMemory) × (new ≡ after_number old)))) (sym here) tt;
      }

  pub answered_by : (found : Option Allocation) → allocation_towards peer old ≡ found → (answer : Result (Unit {0}) TcpConnectError) (new : Protocol) → connect_refusal_in found old.phase peer now ≡ None
      → MatchResult answer (λ _. IsConnectionRequested old peer now new) (λ e. (e ≡ NoMemory) × (new ≡ after_number old)) → IsConnectAnswered old peer now answer new
  answered_by found is answer new none outcome =
      let here : connect_refusal old peer now ≡ None = ap (λ (o : Option Allocation). connect_refusal_in o old.phase peer now) is ∙ none in
      record {
        refused = subst (λ (o : Option TcpConnectError). IfSome o (λ e. (answer ≡ Err e) × (new ≡ connect_refused_in (allocation_towards peer old) peer now old))) (sym here) tt;
        requested = subst (λ (o : Option TcpConnectError). IfNone o (MatchResult answer (λ _. IsConnectionRequested old peer now new) (λ e. (e ≡ NoMemory) × (new ≡ after_number old)))) (sym here) outcome;
      }

  -- The result if a connection was requested in the allocation at `index`.
  pub requested_there : (index : ℕ) (a : Allocation) (number : ℕ) (new : Protocol) (read : Option Allocation) → position (is_of Tcp (family_of_socket peer)) old.allocations ≡ Some index → slice_get old.allocations index ≡ read → read ≡ Some a → IsNextNumber old number
      → IfSome read (λ x. new ≡ record (requested (after_number old) (Connect peer) number now) { allocations = slice_set old.allocations index (connecting (record { number = number; peer = peer }) x) })
      → IsConnectionRequested old peer now new
  unfolding after_connecting
  requested_there index a number new None here at_it none next is = absurd (Prim.cc none)
  requested_there index a number new (Some x) here at_it some next is = record {
    number = number;
    is_next = next;
    after = is ∙ ap (λ (l : List Allocation). record (requested (after_number old) (Connect peer) number now) { allocations = l })
        (change_first_at (is_of Tcp (family_of_socket peer)) (connecting (record { number = number; peer = peer })) old.allocations index x here at_it);
  }
