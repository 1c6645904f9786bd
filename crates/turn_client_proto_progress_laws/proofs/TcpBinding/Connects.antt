-- A client requests a connection to a peer, by the contract of `tcp_connect` alone; and then a socket, by
-- that of `poll`.
use Rattle.std.proofs.Common.{◌≡◌, ℕ, ◌<◌, Bool, true, false, List, [], ◌∷◌, Option, Some, None, refl, sym, ap, ◌∙◌, subst, inl, inr}
use Rattle.std.specs.Prelude.{IfNone, IfSome, MatchOption, MatchResult, Result, Ok, Err, find, if◌then◌else◌, nat_le, not, ◌||◌}
use Rattle.std.specs.Net.Socket.{socket_ip}
use Rattle.std.specs.declared.net.ip_addr.IpAddr.{IpAddr}
use Rattle.std.specs.declared.net.socket_addr.SocketAddr.{SocketAddr}
use Rattle.std.proofs.lemmas.Bool.{lt-leb, leb-false}
use Rattle.turn_client_proto_messages.specs.StunTypesBase.Family.{family_of_socket}
use Rattle.turn_client_proto_messages.specs.StunTypesBase.declared.transport.TransportType.TheVariants.{Tcp}
use Rattle.turn_client_proto_messages.specs.Allocation.Changes.{change_first}
use Rattle.turn_client_proto_messages.specs.Allocation.declared.allocation.Allocation.{Allocation}
use Rattle.turn_client_proto_messages.specs.Allocation.declared.connection.Waiting.{Waiting}
use Rattle.turn_client_proto_messages.specs.Allocation.declared.permission.Permission.{Permission}
use Rattle.turn_client_proto_messages.specs.Api.Families.{is_same_family}
use Rattle.turn_client_proto_messages.specs.Api.declared.answer.Socket5Tuple.{Socket5Tuple}
use Rattle.turn_client_proto_messages.specs.Api.declared.answer.TurnPollRet.{TurnPollRet}
use Rattle.turn_client_proto_messages.specs.Api.declared.answer.TurnPollRet.TheVariants as answer
use Rattle.turn_client_proto_messages.specs.Api.declared.error.TcpConnectError.{TcpConnectError}
use Rattle.turn_client_proto_messages.specs.Api.declared.error.TcpConnectError.TheVariants.{NoAllocation, NoMemory, NoPermission}
use Rattle.turn_client_proto_messages.specs.Api.declared.event.TurnEvent.{TurnEvent}
use Rattle.turn_client_proto_step_laws.specs.Recv.Connecting.{IsConnectAnswered, IsConnectionRequested, after_connecting, allocation_towards, connect_refusal, connect_refusal_in, connect_refused_in}
use Rattle.turn_client_proto_step_laws.specs.Connection.Asking.{barring, connecting, has_way_to}
use Rattle.turn_client_proto_step_laws.specs.Connection.Reported.{waiting_for}
use Rattle.turn_client_proto_step_laws.specs.Connection.Waiting.{all_requested, unasked}
use Rattle.turn_client_proto_handshake_laws.specs.Core.Asking.{requested}
use Rattle.turn_client_proto_handshake_laws.specs.Core.Numbering.{after_draw, after_number}
use Rattle.turn_client_proto_handshake_laws.specs.Core.declared.protocol.Phase.{Phase}
use Rattle.turn_client_proto_handshake_laws.specs.Core.declared.protocol.Phase.TheVariants.{Authenticated}
use Rattle.turn_client_proto_handshake_laws.specs.Core.declared.protocol.Protocol.{Protocol}
use Rattle.turn_client_proto_messages.specs.declared.request.TurnRequest.TheVariants.{Connect}
use Rattle.turn_client_proto_step_laws.specs.Peers.Permission.Asking.{is_of}
use Rattle.turn_client_proto_messages.specs.Allocation.Same.{is_same_ip}
use Rattle.turn_client_proto_step_laws.specs.Timers.Polling.{Answers, IsPolled, IsPolledStanding, AreAllocationsPolled, after_asking, socket_for}
use Rattle.turn_client_proto_progress_laws.proofs.TcpBinding.Tools.{AreNumbered}
use Rattle.turn_client_proto_step_laws.proofs.Visible.{same_ip}
use Rattle.turn_client_proto_progress_laws.specs.Holders.{Holder}
use Rattle.turn_client_proto_progress_laws.specs.TcpBinding.{AwaitsSocket, HasRequestedConnect, HasLearned, IsReady, allocation_with, connecting_to}
use Rattle.turn_client_proto_step_laws.specs.Peers.Permission.Granted.{granted_for}
use Rattle.turn_client_proto_progress_laws.proofs.TcpBinding.Asks.{has_requested, number_fits}
use Rattle.turn_client_proto_progress_laws.proofs.TcpBinding.Polled.{outcome}
use Rattle.turn_client_proto_progress_laws.proofs.TcpBinding.Same.{equal_families, itself_ip, same_family}

module _ (h : Holder) (ip : IpAddr) (granted last : ℕ) (events : List TurnEvent) (p : Protocol) (w : IsReady h ip granted last events p) (peer : SocketAddr) (now : ℕ) where
  abbrev held : Allocation
  held = allocation_with h (granted_for ip granted ∷ []) [] [] [] []

  abbrev family : Bool
  family = is_same_family (family_of_socket h.address) (family_of_socket peer)

  abbrev permitted : Bool
  permitted = is_same_ip ip (socket_ip peer)

  found : allocation_towards peer p ≡ (if family then Some held else None)
  found = ap (find (is_of Tcp (family_of_socket peer))) w.allocations

  barring_is : barring peer held ≡ (if permitted then None else Some NoPermission)
  unfolding barring has_way_to
  barring_is = by permitted
    where
      by : (b : Bool) → (if not (b || false) then Some NoPermission else None) ≡ (if b then None else Some NoPermission)
      by true = refl
      by false = refl

  -- The reasons not to connect.
  abbrev reasons : (family past permitted : Bool) → Option TcpConnectError
  reasons family past permitted = if family then (if past then Some NoAllocation else (if permitted then None else Some NoPermission)) else Some NoAllocation

  refusal_is : connect_refusal p peer now ≡ reasons family (nat_le held.expiry now) permitted
  refusal_is =
      ap (λ (o : Option Allocation). connect_refusal_in o p.phase peer now) found
      ∙ (ap (λ (f : Phase). connect_refusal_in (if family then Some held else None) f peer now) w.phase ∙ by family)
    where
      by : (b : Bool) → connect_refusal_in (if b then Some held else None) Authenticated peer now ≡ reasons b (nat_le held.expiry now) permitted
      by true = ap (λ (o : Option TcpConnectError). if nat_le held.expiry now then Some NoAllocation else o) barring_is
      by false = refl

  -- For a peer with the permission's IP, before the end, the call is refused only if memory runs out.
  pub connect_free : family_of_socket peer ≡ family_of_socket h.address → socket_ip peer ≡ ip → now < held.expiry → connect_refusal p peer now ≡ None
  connect_free same own before =
      refusal_is
      ∙ (ap (λ (b : Bool). reasons b (nat_le held.expiry now) permitted) (equal_families (family_of_socket h.address) (family_of_socket peer) (sym same))
      ∙ (ap (λ (b : Bool). reasons true b permitted) (lt-leb held.expiry now before)
      ∙ ap (reasons true false) (ap (is_same_ip ip) own ∙ itself_ip ip)))

  -- Otherwise there is a reason to refuse it.
  pub connect_unbarred : connect_refusal p peer now ≡ None → (family_of_socket peer ≡ family_of_socket h.address) × (socket_ip peer ≡ ip) × (now < held.expiry)
  connect_unbarred none = by family (nat_le held.expiry now) permitted refl refl refl (sym refusal_is ∙ none)
    where
      by : (f past own : Bool) → family ≡ f → nat_le held.expiry now ≡ past → permitted ≡ own → reasons f past own ≡ None → (family_of_socket peer ≡ family_of_socket h.address) × (socket_ip peer ≡ ip) × (now < held.expiry)
      by true true own f over is free = absurd (Prim.cc free)
      by true false true f over is free = (sym (same_family (family_of_socket h.address) (family_of_socket peer) f), sym (same_ip ip (socket_ip peer) is), leb-false held.expiry now over)
      by true false false f over is free = absurd (Prim.cc free)
      by false past own f over is free = absurd (Prim.cc free)

  -- The result, by whether there is a reason.
  module _ (answer : Result (Unit {0}) TcpConnectError) (q : Protocol) (is : IsConnectAnswered p peer now answer q) where
    pub connect_taken : connect_refusal p peer now ≡ None → MatchResult answer (λ _. IsConnectionRequested p peer now q) (λ error. error ≡ NoMemory)
    connect_taken none =
        by answer (subst (λ (o : Option TcpConnectError). IfNone o (MatchResult answer (λ _. IsConnectionRequested p peer now q) (λ error. (error ≡ NoMemory) × (q ≡ after_number p)))) none is.requested)
      where
        by : (x : Result (Unit {0}) TcpConnectError) → MatchResult x (λ _. IsConnectionRequested p peer now q) (λ error. (error ≡ NoMemory) × (q ≡ after_number p)) → MatchResult x (λ _. IsConnectionRequested p peer now q) (λ error. error ≡ NoMemory)
        by (Ok u) a = a
        by (Err e) a = a.0

    pub connect_refused : answer ≡ Ok tt → connect_refusal p peer now ≡ None
    connect_refused ok = by (connect_refusal p peer now) is.refused
      where
        by : (o : Option TcpConnectError) → IfSome o (λ error. (answer ≡ Err error) × (q ≡ connect_refused_in (allocation_towards peer p) peer now p)) → o ≡ None
        by None a = refl
        by (Some error) a = absurd (Prim.cc (sym ok ∙ a.0))

  -- The connection was requested.
  pub connect_requested : AreNumbered → (q : Protocol) → connect_refusal p peer now ≡ None → (k : IsConnectionRequested p peer now q) → HasRequestedConnect h (granted_for ip granted ∷ []) peer k.number now last events q
  unfolding after_connecting requested
  connect_requested numbered q none k =
      let same = (connect_unbarred none).0 in
      let changed : change_first (is_of Tcp (family_of_socket peer)) (connecting (record { number = k.number; peer = peer })) p.allocations ≡ connecting_to h (granted_for ip granted ∷ []) peer k.number ∷ [] =
      ap (change_first (is_of Tcp (family_of_socket peer)) (connecting (record { number = k.number; peer = peer }))) w.allocations
      ∙ ap (λ (b : Bool). if b then connecting_to h (granted_for ip granted ∷ []) peer k.number ∷ [] else held ∷ []) (equal_families (family_of_socket h.address) (family_of_socket peer) (sym same)) in
      subst (λ (x : Protocol). HasRequestedConnect h (granted_for ip granted ∷ []) peer k.number now last events x) (sym k.after)
      (has_requested h None [] held [] last events p w (Connect peer) k.number now (number_fits p k.number k.is_next) tt numbered
      (connecting_to h (granted_for ip granted ∷ []) peer k.number) _ changed p.agent.here h.started.here w.settings.here (after_draw p.rng))

-- ---- it asks for the socket

module _ (h : Holder) (permissions : List Permission) (connection : ℕ) (peer : SocketAddr) (last : ℕ) (p : Protocol) (w : HasLearned h permissions connection peer last [] p) (now : ℕ) (ret : TurnPollRet) (q : Protocol) where
  abbrev one : Waiting
  one = waiting_for connection peer

  unasked_so : unasked p.allocations ≡ Some one
  unasked_so = ap unasked w.allocations

  requested_after : AwaitsSocket h permissions connection peer last [] (after_asking p)
  unfolding after_asking
  requested_after = record {
    settings = record {
      server = w.settings.server;
      remote = w.settings.remote;
      transport = w.settings.transport;
      here = w.settings.here;
      waits = w.settings.waits;
      allocates = w.settings.allocates;
      families = w.settings.families;
      options = w.settings.options;
      pace = w.settings.pace;
      indications = w.settings.indications;
      usual = w.settings.usual;
    };
    signs = w.signs;
    outstanding = w.outstanding;
    phase = w.phase;
    auth_is = w.auth_is;
    allocations = ap all_requested w.allocations;
    queue_is = w.queue_is;
    last_send = w.last_send;
    events_are = w.events_are;
    closing = w.closing;
  }

  -- The client's own connection to the server.
  abbrev own : Socket5Tuple
  own = record { transport = h.started.transport; from = h.started.here; to = h.started.server }

  tuple_is : socket_for p one ≡ answer.AllocateTcpSocket connection own peer
  tuple_is = Prim.cc (w.settings.transport, w.settings.here, w.settings.server)

  asks : (wait : ℕ) → IsPolledStanding None wait p now ret q → (ret ≡ answer.AllocateTcpSocket connection own peer) × AwaitsSocket h permissions connection peer last [] q
  asks wait is =
      let a : Answers (socket_for p one) (after_asking p) ret q =
      subst (λ (o : Option Waiting). MatchOption o (AreAllocationsPolled None wait p now ret q) (λ x. Answers (socket_for p x) (after_asking p) ret q)) unasked_so is in
      (a.0 ∙ tuple_is, subst (λ (x : Protocol). AwaitsSocket h permissions connection peer last [] x) (sym a.1) requested_after)

  pub socket_requested : IsPolled p now ret q → (ret ≡ answer.AllocateTcpSocket connection own peer) × AwaitsSocket h permissions connection peer last [] q
  socket_requested is = elim (outcome h None [] (allocation_with h permissions [] [] (one ∷ []) []) [] last p w now (λ x listed. absurd listed) refl ret q is) [
    | inl s ↦ asks _ s.1
    | inr reported ↦ absurd (Prim.cc (sym unasked_so ∙ reported.0))
  ]
