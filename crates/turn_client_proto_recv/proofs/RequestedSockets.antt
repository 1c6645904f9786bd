-- Sockets that the caller reports to a client.
use Rattle.std.proofs.Common.{◌≡◌, ℕ, Bool, List, [], map, Option, Some, None, Result, Err, position, slice_get, slice_set, refl, sym, ap, ◌∙◌, subst}
use Rattle.std.specs.Prelude.{IfNone, IfSome}
use Rattle.std.specs.declared.net.socket_addr.SocketAddr.{SocketAddr}
use Rattle.turn_client_proto_allocation.proofs.Changes.{changed_at}
use Rattle.turn_client_proto_allocation.specs.Changes.{change_first}
use Rattle.turn_client_proto_allocation.specs.declared.allocation.Allocation.{Allocation}
use Rattle.turn_client_proto_api.specs.declared.answer.Socket5Tuple.{Socket5Tuple}
use Rattle.turn_client_proto_api.specs.declared.error.TcpAllocateError.{TcpAllocateError}
use Rattle.turn_client_proto_connection.specs.Sockets.{awaits_socket, binding, release, to_bind}
use Rattle.turn_client_proto_core.specs.Asking.{requested_from}
use Rattle.turn_client_proto_core.specs.Attempting.{answering}
use Rattle.stun_types_base.specs.Times.{time_after}
use Rattle.turn_client_proto_core.specs.Numbering.{IsNextNumber, after_number}
use Rattle.turn_client_proto_core.specs.declared.protocol.Protocol.{Protocol}
use Rattle.turn_client_proto_messages.specs.declared.answer.AttemptAnswer.TheVariants.{Accepted, Failed}
use Rattle.turn_client_proto_messages.specs.declared.request.TurnRequest.TheVariants.{ConnectionBind}
use Rattle.turn_client_proto_recv.specs.Sockets.{IsBindingRequested, IsBoundAt, IsNumber, IsSocketAnswered, IsSocketLacking, IsSocketTaken, after_socket, answering_if, attempt_at, binding_time, is_used, socket_refusal, socket_refusal_in, takes_sockets, unsocketed}

module _ (old : Protocol) (connection : ℕ) (s : Socket5Tuple) (peer : SocketAddr) (here : Option SocketAddr) (now : ℕ)
    (index : Option ℕ) (takes used : Bool) (at : position (awaits_socket connection peer) old.allocations ≡ index) (takes_is : takes_sockets old s ≡ takes) (used_is : is_used here old.allocations ≡ used) where
  refusal_is : socket_refusal old connection s peer here ≡ socket_refusal_in index takes used
  refusal_is =
      ap (λ (o : Option ℕ). socket_refusal_in o (takes_sockets old s) (is_used here old.allocations)) at
      ∙ ap (λ (b : Bool). socket_refusal_in index b (is_used here old.allocations)) takes_is
      ∙ ap (λ (b : Bool). socket_refusal_in index takes b) used_is

  -- The result if the call isn't refused.
  pub taken_by : (answer : Result (Unit {0}) TcpAllocateError) (new : Protocol) → socket_refusal_in index takes used ≡ None → IsSocketTaken here old connection peer now answer new
      → IsSocketAnswered old connection s peer here now answer new
  taken_by answer new none outcome =
      let is : socket_refusal old connection s peer here ≡ None = refusal_is ∙ none in
      record {
        refused = subst (λ (o : Option TcpAllocateError). IfSome o (λ e. (answer ≡ Err e) × (new ≡ old))) (sym is) tt;
        taken = subst (λ (o : Option TcpAllocateError). IfNone o (IsSocketTaken here old connection peer now answer new)) (sym is) outcome;
      }

-- There is an element at the index of the first that passes a test.
never_none : {X : Type 0} (p : X → Bool) (xs : List X) (i : ℕ) → position p xs ≡ Some i → slice_get xs i ≡ None → ⊥
never_none {X} p xs i index none = Prim.cc (subst (λ (l : List X). position p l ≡ Some i) empty index)
  where
    any : (new : List X) → new ≡ change_first p (λ x. x) xs
    any new = changed_at p (λ x. x) xs new i index (subst (λ (o : Option X). IfSome o (λ x. new ≡ slice_set xs i x)) (sym none) tt)

    empty : xs ≡ []
    empty = any xs ∙ sym (any [])

module _ (old : Protocol) (here peer : SocketAddr) (connection now : ℕ) where
  abbrev one : ℕ → Allocation → Allocation
  one number = binding (to_bind here peer connection (record { number = number; expiry = time_after now binding_time }))

  -- The client before it queues the CONNECTION_BIND. If the peer opened the connection, the server's request
  -- is answered.
  abbrev asking : Option ℕ → Protocol
  asking attempt = answering_if Accepted attempt (after_number old)

  same_allocations : (attempt : Option ℕ) → (asking attempt).allocations ≡ old.allocations
  unfolding answering
  same_allocations None = refl
  same_allocations (Some number) = refl

  -- The result if a CONNECTION_BIND was queued for the allocation at the index.
  pub binding_there : (index number : ℕ) (new : Protocol) (attempt : Option ℕ) → position (awaits_socket connection peer) old.allocations ≡ Some index → attempt ≡ attempt_at connection peer old → IfSome attempt IsNumber
      → IsNextNumber old number → IsBoundAt here index peer connection number now (asking attempt) new → IsBindingRequested old here peer connection now new
  unfolding after_socket
  binding_there index number new attempt at attempt_is fits next is = record {
    number = number;
    is_next = next;
    lawful = is.0;
    attempt = subst (λ (o : Option ℕ). IfSome o IsNumber) attempt_is fits;
    after = made (slice_get old.allocations index) refl (subst (λ (l : List Allocation). IfSome (slice_get l index) (λ a. new ≡ record (requested_from here (asking attempt) (ConnectionBind connection) number now) { allocations = map (release connection peer) (slice_set l index (one number a)) })) (same_allocations attempt) is.1)
        ∙ ap (λ (o : Option ℕ). record (requested_from here (asking o) (ConnectionBind connection) number now) { allocations = map (release connection peer) (change_first (awaits_socket connection peer) (one number) old.allocations) }) attempt_is;
  }
    where
      made : (found : Option Allocation) → slice_get old.allocations index ≡ found
          → IfSome found (λ a. new ≡ record (requested_from here (asking attempt) (ConnectionBind connection) number now) { allocations = map (release connection peer) (slice_set old.allocations index (one number a)) })
          → new ≡ record (requested_from here (asking attempt) (ConnectionBind connection) number now) { allocations = map (release connection peer) (change_first (awaits_socket connection peer) (one number) old.allocations) }
      made None read after = absurd (never_none (awaits_socket connection peer) old.allocations index at read)
      made (Some a) read after = after ∙ ap (λ (l : List Allocation). record (requested_from here (asking attempt) (ConnectionBind connection) number now) { allocations = map (release connection peer) l })
          (changed_at (awaits_socket connection peer) (one number) old.allocations (slice_set old.allocations index (one number a)) index at
          (subst (λ (o : Option Allocation). IfSome o (λ x. slice_set old.allocations index (one number a) ≡ slice_set old.allocations index (one number x))) (sym read) refl))

  -- The result if there is no socket.
  pub lacking : (new : Protocol) (attempt : Option ℕ) → attempt ≡ attempt_at connection peer old → IfSome attempt IsNumber → new ≡ record (answering_if Failed attempt old) { allocations = map (release connection peer) old.allocations }
      → IsSocketLacking old connection peer new
  unfolding unsocketed
  lacking new attempt is fits after = record {
    attempt = subst (λ (o : Option ℕ). IfSome o IsNumber) is fits;
    after = after ∙ ap (λ (o : Option ℕ). record (answering_if Failed o old) { allocations = map (release connection peer) old.allocations }) is;
  }
