-- A client gets the socket for its connection, by the contract of `allocated_tcp_socket` alone.
use Rattle.std.proofs.Common.{◌≡◌, ℕ, Bool, true, false, List, [], ◌∷◌, Option, Some, None, refl, sym, ap, ◌∙◌, subst, map as map_list, position}
use Rattle.std.specs.Prelude.{IfNone, IfSome, MatchResult, Result, Ok, Err, if◌then◌else◌, ◌&&◌, ◌||◌, ◌==◌}
use Rattle.std.specs.declared.net.socket_addr.SocketAddr.{SocketAddr}
use Rattle.std.proofs.lemmas.Bool.{eq-eqb, eqb-true}
use Rattle.turn_client_proto_messages.specs.StunTypesBase.declared.transport.TransportType.{TransportType}
use Rattle.turn_client_proto_messages.specs.StunTypesBase.declared.transport.TransportType.TheVariants.{Tcp, Udp}
use Rattle.turn_client_proto_messages.specs.Allocation.Changes.{change_first}
use Rattle.turn_client_proto_messages.specs.Allocation.declared.allocation.Allocation.{Allocation}
use Rattle.turn_client_proto_messages.specs.Allocation.declared.permission.Permission.{Permission}
use Rattle.turn_client_proto_messages.specs.Api.declared.answer.Socket5Tuple.{Socket5Tuple}
use Rattle.turn_client_proto_messages.specs.Api.declared.error.TcpAllocateError.{TcpAllocateError}
use Rattle.turn_client_proto_messages.specs.Api.declared.error.TcpAllocateError.TheVariants.{NoAllocation, NoMemory}
use Rattle.turn_client_proto_messages.specs.Api.declared.event.TurnEvent.{TurnEvent}
use Rattle.turn_client_proto_step_laws.specs.Connection.Sockets.{awaits_socket, binding, is_any_from, release, to_bind}
use Rattle.turn_client_proto_step_laws.specs.Connection.Reported.{waiting_for}
use Rattle.turn_client_proto_step_laws.specs.Connection.Waiting as waiting
use Rattle.turn_client_proto_handshake_laws.specs.Core.Deleting.{is_authenticated}
use Rattle.turn_client_proto_handshake_laws.specs.Core.Numbering.{after_draw, after_number}
use Rattle.turn_client_proto_handshake_laws.specs.Core.declared.protocol.Phase.{Phase}
use Rattle.turn_client_proto_handshake_laws.specs.Core.declared.protocol.Protocol.{Protocol}
use Rattle.turn_client_proto_messages.specs.declared.answer.AttemptAnswer.TheVariants.{Accepted}
use Rattle.turn_client_proto_messages.specs.declared.request.TurnRequest.TheVariants.{ConnectionBind}
use Rattle.turn_client_proto_messages.specs.Allocation.Same.{is_same_address, is_same_transport}
use Rattle.turn_client_proto_step_laws.specs.Recv.Sockets.{IsBindingRequested, IsSocketAnswered, IsSocketTaken, after_socket, answering_if, attempt_at, is_own, socket_refusal, socket_refusal_in, takes_sockets}
use Rattle.turn_client_proto_progress_laws.proofs.TcpBinding.Tools.{AreNumbered}
use Rattle.turn_client_proto_step_laws.proofs.SameSockets.{same_address, same_itself}
use Rattle.turn_client_proto_progress_laws.specs.Holders.{Holder}
use Rattle.turn_client_proto_progress_laws.specs.TcpBinding.{AwaitsSocket, HasRequestedBind, allocation_of, allocation_with, awaited_of, joining}
use Rattle.turn_client_proto_progress_laws.proofs.TcpBinding.Asks.{has_requested, number_fits}

itself_transport : (t : TransportType) → is_same_transport t t ≡ true
itself_transport Udp = refl
itself_transport Tcp = refl

module _ (h : Holder) (permissions : List Permission) (connection : ℕ) (peer : SocketAddr) (last : ℕ) (events : List TurnEvent) (p : Protocol) (w : AwaitsSocket h permissions connection peer last events p) (number : ℕ) (to here : SocketAddr) (now : ℕ) where
  abbrev held : Allocation
  held = allocation_with h permissions [] [] (waiting.requested (waiting_for connection peer) ∷ []) []

  -- The client's own connection to the server.
  abbrev own : Socket5Tuple
  own = record { transport = p.agent.transport; from = p.agent.here; to = p.server }

  abbrev meant : Bool
  meant = (connection == number) && is_same_address peer to

  index_is : position (awaits_socket number to) p.allocations ≡ (if meant then Some 0 else None)
  index_is = ap (position (awaits_socket number to)) w.allocations ∙ by meant
    where
      by : (b : Bool) → position (λ (x : Allocation). b || false) (held ∷ []) ≡ (if b then Some 0 else None)
      by true = refl
      by false = refl

  takes : takes_sockets p own ≡ true
  takes =
      ap (λ (t : TransportType). is_same_transport t Tcp && (is_own p own && is_authenticated p.phase)) (w.settings.allocates ∙ w.signs.relays)
      ∙ (ap (λ (f : Phase). is_own p own && is_authenticated f) w.phase
      ∙ rw (itself_transport p.agent.transport, same_itself p.agent.here, same_itself p.server) refl)

  unused : is_any_from here p.allocations ≡ false
  unused = ap (is_any_from here) w.allocations

  refusal_is : socket_refusal p number own to (Some here) ≡ (if meant then None else Some NoAllocation)
  refusal_is =
      ap (λ (o : Option ℕ). socket_refusal_in o (takes_sockets p own) (is_any_from here p.allocations)) index_is
      ∙ (ap (λ (b : Bool). socket_refusal_in (if meant then Some 0 else None) b (is_any_from here p.allocations)) takes
      ∙ (ap (λ (b : Bool). socket_refusal_in (if meant then Some 0 else None) true b) unused ∙ by meant))
    where
      by : (b : Bool) → socket_refusal_in (if b then Some 0 else None) true false ≡ (if b then None else Some NoAllocation)
      by true = refl
      by false = refl

  -- If the call names the connection that was requested, it is refused only if memory runs out.
  pub socket_free : number ≡ connection → to ≡ peer → socket_refusal p number own to (Some here) ≡ None
  socket_free same far =
      refusal_is
      ∙ ap (λ (b : Bool). if b then None else Some NoAllocation)
      (ap (λ (b : Bool). b && is_same_address peer to) (eq-eqb connection number (sym same)) ∙ (ap (is_same_address peer) far ∙ same_itself peer))

  pub socket_unbarred : socket_refusal p number own to (Some here) ≡ None → (number ≡ connection) × (to ≡ peer)
  socket_unbarred none = by (connection == number) (is_same_address peer to) refl refl (sym refusal_is ∙ none)
    where
      by : (n a : Bool) → (connection == number) ≡ n → is_same_address peer to ≡ a → (if (n && a) then None else Some NoAllocation) ≡ None → (number ≡ connection) × (to ≡ peer)
      by true true n a free = (sym (eqb-true connection number n), sym (same_address peer to a))
      by true false n a free = absurd (Prim.cc free)
      by false a n is free = absurd (Prim.cc free)

  module _ (answer : Result (Unit {0}) TcpAllocateError) (q : Protocol) (is : IsSocketAnswered p number own to (Some here) now answer q) where
    pub socket_taken : socket_refusal p number own to (Some here) ≡ None → MatchResult answer (λ _. IsBindingRequested p here to number now q) (λ error. error ≡ NoMemory)
    socket_taken none =
        by answer (subst (λ (o : Option TcpAllocateError). IfNone o (IsSocketTaken (Some here) p number to now answer q)) none is.taken)
      where
        by : (x : Result (Unit {0}) TcpAllocateError) → MatchResult x (λ _. IsBindingRequested p here to number now q) (λ error. (error ≡ NoMemory) × (q ≡ after_number p)) → MatchResult x (λ _. IsBindingRequested p here to number now q) (λ error. error ≡ NoMemory)
        by (Ok u) a = a
        by (Err e) a = a.0

    pub socket_refused : answer ≡ Ok tt → socket_refusal p number own to (Some here) ≡ None
    socket_refused ok = by (socket_refusal p number own to (Some here)) is.refused
      where
        by : (o : Option TcpAllocateError) → IfSome o (λ error. (answer ≡ Err error) × (q ≡ p)) → o ≡ None
        by None a = refl
        by (Some error) a = absurd (Prim.cc (sym ok ∙ a.0))

-- The socket was given.
module _ (h : Holder) (permissions : List Permission) (connection : ℕ) (peer : SocketAddr) (last : ℕ) (events : List TurnEvent) (p : Protocol) (w : AwaitsSocket h permissions connection peer last events p) (here : SocketAddr) (now : ℕ) where
  abbrev before : Allocation
  before = allocation_with h permissions [] [] (waiting.requested (waiting_for connection peer) ∷ []) []

  meant_so : ((connection == connection) && is_same_address peer peer) ≡ true
  meant_so = rw (eq-eqb connection connection refl, same_itself peer) refl

  no_attempt : attempt_at connection peer p ≡ None
  no_attempt = ap (λ (l : List Allocation). Rattle.turn_client_proto_step_laws.specs.Connection.Attempts.attempt_of connection peer l) w.allocations ∙ rw meant_so (rw meant_so refl)

  joins : (number : ℕ) → map_list (release connection peer) (change_first (awaits_socket connection peer) (binding (to_bind here peer connection (awaited_of number now))) p.allocations)
      ≡ allocation_of h permissions (joining here peer connection number now []) ∷ []
  unfolding release
  joins number =
      ap (λ (l : List Allocation). map_list (release connection peer) (change_first (awaits_socket connection peer) (binding (to_bind here peer connection (awaited_of number now))) l)) w.allocations
      ∙ rw meant_so (rw meant_so refl)

  pub bind_requested : AreNumbered → (q : Protocol) → (k : IsBindingRequested p here peer connection now q) → HasRequestedBind h [] permissions here peer connection k.number now last events q
  unfolding after_socket
  bind_requested numbered q k =
      let plain : after_socket here peer connection k.number now p ≡ _ =
      ap (λ (o : Option ℕ). record (Rattle.turn_client_proto_handshake_laws.specs.Core.Asking.requested_from here (answering_if Accepted o (after_number p)) (ConnectionBind connection) k.number now) {
        allocations = map_list (release connection peer) (change_first (awaits_socket connection peer) (binding (to_bind here peer connection (awaited_of k.number now))) p.allocations);
      }) no_attempt in
      subst (λ (x : Protocol). HasRequestedBind h [] permissions here peer connection k.number now last events x) (sym (k.after ∙ plain))
      (has_requested h None [] before [] last events p w (ConnectionBind connection) k.number now (number_fits p k.number k.is_next) k.lawful numbered
      (allocation_of h permissions (joining here peer connection k.number now [])) _ (joins k.number) here here refl (after_draw p.rng))
