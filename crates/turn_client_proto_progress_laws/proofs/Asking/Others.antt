-- An established client stays so in all other calls.
use Rattle.std.proofs.Common.{◌≡◌, ◌≢◌, ℕ, List, map, Option, Some, None, refl, sym, ap, subst, inl, inr}
use Rattle.std.specs.Prelude.{MatchOption, MatchResult, IfNone, IfSome, Result, Ok, Err}
use Rattle.std.specs.declared.net.socket_addr.SocketAddr.{SocketAddr}
use Rattle.std.proofs.lemmas.Bool.{cases_Bool}
use Rattle.turn_client_proto_messages.specs.StunTypesBase.Family.{family_of_socket}
use Rattle.turn_client_proto_messages.specs.StunTypesBase.declared.transport.TransportType.{TransportType}
use Rattle.turn_client_proto_messages.specs.StunTypesBase.declared.transport.TransportType.TheVariants.{Udp, Tcp}
use Rattle.turn_client_proto_messages.specs.Allocation.Changes.{change_first}
use Rattle.turn_client_proto_messages.specs.Allocation.Refreshing.{deleted}
use Rattle.turn_client_proto_messages.specs.Allocation.declared.allocation.Allocation.{Allocation}
use Rattle.turn_client_proto_messages.specs.Allocation.declared.connection.Connection.{Connection}
use Rattle.turn_client_proto_messages.specs.Api.declared.error.DeleteError.{DeleteError}
use Rattle.turn_client_proto_messages.specs.Api.declared.error.DeleteError.TheVariants as not_deleted
use Rattle.turn_client_proto_messages.specs.Api.declared.error.SendError.{SendError}
use Rattle.turn_client_proto_messages.specs.Api.declared.error.TcpAllocateError.{TcpAllocateError}
use Rattle.turn_client_proto_messages.specs.Api.declared.error.TcpAllocateError.TheVariants as not_taken
use Rattle.turn_client_proto_messages.specs.Api.declared.error.TcpConnectError.{TcpConnectError}
use Rattle.turn_client_proto_messages.specs.Api.declared.error.TcpConnectError.TheVariants as not_connected
use Rattle.turn_client_proto_messages.specs.Api.declared.answer.Socket5Tuple.{Socket5Tuple}
use Rattle.turn_client_proto_step_laws.specs.Recv.Closing.{after_close, is_joined, without}
use Rattle.turn_client_proto_step_laws.specs.Recv.Connecting.{IsConnectAnswered, IsConnectionRequested, after_connecting, allocation_towards, connect_refusal, connect_refused_in}
use Rattle.turn_client_proto_step_laws.specs.Connection.Asking.{connecting}
use Rattle.turn_client_proto_step_laws.specs.Connection.Sockets.{awaits_socket, binding, closed, release, to_bind}
use Rattle.turn_client_proto_handshake_laws.specs.Core.Asking.{requested, requested_from}
use Rattle.turn_client_proto_handshake_laws.specs.Core.Attempting.{answering}
use Rattle.turn_client_proto_handshake_laws.specs.Core.Deleting.{IsDeleteAnswered, IsDeleted, after_delete, delete_refusal}
use Rattle.turn_client_proto_handshake_laws.specs.Core.Ending.{ended}
use Rattle.turn_client_proto_handshake_laws.specs.Core.Numbering.{after_number}
use Rattle.turn_client_proto_messages.specs.declared.answer.AttemptAnswer.TheVariants.{Accepted, Failed}
use Rattle.turn_client_proto_handshake_laws.specs.Core.declared.protocol.Protocol.{Protocol}
use Rattle.turn_client_proto_step_laws.specs.Peers.Permission.Asking.{is_of, is_past, marked}
use Rattle.turn_client_proto_step_laws.specs.Payload.Sending.{Answer, IsPassedOn, IsSendAnswered, IsSentBy, IsSentOver, channel_to, connection_to, send_refusal, standing}
use Rattle.turn_client_proto_messages.specs.StunTypesBase.Times.{time_after}
use Rattle.turn_client_proto_messages.specs.declared.request.TurnRequest.TheVariants.{ConnectionBind}
use Rattle.turn_client_proto_step_laws.specs.Recv.Sockets.{binding_time, IsSocketAnswered, IsSocketTaken, after_socket, answering_if, attempt_at, socket_refusal, unsocketed}
use Rattle.turn_client_proto_messages.specs.Allocation.declared.channel.Channel.{Channel}
use Rattle.turn_client_proto_handshake_laws.specs.Sent.{Beginning}
use Rattle.turn_client_proto_progress_laws.specs.Speaking.{HasAtMost, Speaks}
use Rattle.turn_client_proto_progress_laws.proofs.Asking.Speaking.{AllStay, most_changed, most_mapped, own_agent, speaks_with, unchanged}

-- What becomes of an allocation.
deleted_stay : (number now : ℕ) → AllStay (deleted number now)
deleted_stay number now a = record { transport = refl; address = refl }

closed_stay : (here : SocketAddr) → AllStay (closed here)
unfolding closed
closed_stay here a = record { transport = refl; address = refl }

release_stay : (connection : ℕ) (peer : SocketAddr) → AllStay (release connection peer)
unfolding release
release_stay connection peer a = record { transport = refl; address = refl }

module _ (b : Beginning) (realm : List ℕ) (address : SocketAddr) (p : Protocol) (is : Speaks b realm address p) where
  abbrev Speaking : Protocol → Type 0
  Speaking q = Speaks b realm address q

  -- ---- its end is requested

  delete_made : (at : ℕ) (q : Protocol) → IsDeleted p at q → Speaking q
  unfolding after_delete requested
  delete_made at q r = subst (λ (y : Protocol). Speaking y) (sym r.after)
      (speaks_with b realm address p is (after_delete r.number at p) (record { remote = refl; transport = refl; here = refl; waits = refl }) refl refl refl refl refl
      (most_mapped b address (deleted r.number at) (deleted_stay r.number at) p.allocations is.one))

  delete_by : (at : ℕ) (ret : Result (Unit {0}) DeleteError) (q : Protocol) (refusal : Option DeleteError) → ret ≢ Err not_deleted.NoMemory → IfSome refusal (λ error. (ret ≡ Err error) × (q ≡ p))
      → IfNone refusal (MatchResult ret (λ _. IsDeleted p at q) (λ error. (error ≡ not_deleted.NoMemory) × (q ≡ after_number p))) → Speaking q
  delete_by at ret q (Some error) ample refused made = unchanged b realm address p is q refused.1
  delete_by at (Ok done) q None ample refused made = delete_made at q made
  delete_by at (Err error) q None ample refused made = absurd (ample (ap Err made.0))

  pub delete_speaks : (at : ℕ) (ret : Result (Unit {0}) DeleteError) (q : Protocol) → ret ≢ Err not_deleted.NoMemory → IsDeleteAnswered p at ret q → Speaking q
  delete_speaks at ret q ample r = delete_by at ret q (delete_refusal p) ample r.refused r.requested

  -- ---- a connection is requested

  connect_refused : (peer : SocketAddr) (at : ℕ) (found : Option Allocation) → Speaking (connect_refused_in found peer at p)
  connect_refused peer at None = is
  connect_refused peer at (Some a) = elim (cases_Bool (is_past at a)) [
    | inl past ↦ rw past (speaks_with b realm address p is (record p { allocations = change_first (is_of Tcp (family_of_socket peer)) marked p.allocations }) (own_agent b realm address p is) refl refl refl refl refl
        (most_changed b address (is_of Tcp (family_of_socket peer)) marked (λ a. record { transport = refl; address = refl }) p.allocations is.one))
    | inr not ↦ rw not is
  ]

  connect_made : (peer : SocketAddr) (at : ℕ) (q : Protocol) → IsConnectionRequested p peer at q → Speaking q
  unfolding after_connecting requested
  connect_made peer at q r = subst (λ (y : Protocol). Speaking y) (sym r.after)
      (speaks_with b realm address p is (after_connecting peer r.number at p) (record { remote = refl; transport = refl; here = refl; waits = refl }) refl refl refl refl refl
      (most_changed b address (is_of Tcp (family_of_socket peer)) (connecting (record { number = r.number; peer = peer })) (λ a. record { transport = refl; address = refl }) p.allocations is.one))

  connect_by : (peer : SocketAddr) (at : ℕ) (ret : Result (Unit {0}) TcpConnectError) (q : Protocol) (refusal : Option TcpConnectError) → ret ≢ Err not_connected.NoMemory
      → IfSome refusal (λ error. (ret ≡ Err error) × (q ≡ connect_refused_in (allocation_towards peer p) peer at p))
      → IfNone refusal (MatchResult ret (λ _. IsConnectionRequested p peer at q) (λ error. (error ≡ not_connected.NoMemory) × (q ≡ after_number p))) → Speaking q
  connect_by peer at ret q (Some error) ample refused made = subst (λ (y : Protocol). Speaking y) (sym refused.1) (connect_refused peer at (allocation_towards peer p))
  connect_by peer at (Ok done) q None ample refused made = connect_made peer at q made
  connect_by peer at (Err error) q None ample refused made = absurd (ample (ap Err made.0))

  pub connect_speaks : (peer : SocketAddr) (at : ℕ) (ret : Result (Unit {0}) TcpConnectError) (q : Protocol) → ret ≢ Err not_connected.NoMemory → IsConnectAnswered p peer at ret q → Speaking q
  connect_speaks peer at ret q ample r = connect_by peer at ret q (connect_refusal p peer at) ample r.refused r.requested

  -- ---- a socket was closed

  pub close_speaks : (here there : SocketAddr) → Speaking (after_close here there p)
  unfolding without
  close_speaks here there = elim (cases_Bool (is_joined here there p)) [
    | inl joined ↦ rw joined (speaks_with b realm address p is (without here p) (own_agent b realm address p is) refl refl refl refl refl (most_mapped b address (closed here) (closed_stay here) p.allocations is.one))
    | inr other ↦ rw other is
  ]

  -- ---- something is sent to a peer

  drew : Speaking (after_number p)
  drew = speaks_with b realm address p is (after_number p) (own_agent b realm address p is) refl refl refl refl refl is.one

  sent_by : (found : Option Channel) (to : SocketAddr) (bytes : List ℕ) (ret : Answer) (q : Protocol) → IsSentBy found p to bytes ret q → Speaking q
  sent_by None to bytes ret q r = subst (λ (y : Protocol). Speaking y) (sym r.1) drew
  sent_by (Some c) to bytes ret q r = unchanged b realm address p is q r.1

  passed_on : (found : Option Connection) (bytes : List ℕ) (ret : Answer) (q : Protocol) → IsPassedOn found p bytes ret q → Speaking q
  passed_on None bytes ret q r = absurd r
  passed_on (Some c) bytes ret q r = unchanged b realm address p is q r.1

  sent_over : (transport : TransportType) (to : SocketAddr) (bytes : List ℕ) (at : ℕ) (ret : Answer) (q : Protocol) → IsSentOver transport p to bytes at ret q → Speaking q
  sent_over Tcp to bytes at ret q r = passed_on (connection_to Tcp to p.allocations) bytes ret q r
  sent_over Udp to bytes at ret q r = sent_by (standing at (channel_to Udp to p.allocations)) to bytes ret q r

  send_by : (refusal : Option SendError) (transport : TransportType) (to : SocketAddr) (bytes : List ℕ) (at : ℕ) (ret : Answer) (q : Protocol)
      → MatchOption refusal (IsSentOver transport p to bytes at ret q) (λ error. (ret ≡ Err error) × (q ≡ p)) → Speaking q
  send_by None transport to bytes at ret q r = sent_over transport to bytes at ret q r
  send_by (Some error) transport to bytes at ret q r = unchanged b realm address p is q r.1

  pub send_speaks : (transport : TransportType) (to : SocketAddr) (bytes : List ℕ) (at : ℕ) (ret : Answer) (q : Protocol) → IsSendAnswered p transport to bytes at ret q → Speaking q
  send_speaks transport to bytes at ret q r = send_by (send_refusal transport p to bytes) transport to bytes at ret q r

  -- ---- a protocol error

  pub end_speaks : Speaking (ended p)
  unfolding ended
  end_speaks = record {
    settings = record {
      server = is.settings.server;
      remote = is.settings.remote;
      transport = is.settings.transport;
      here = is.settings.here;
      waits = is.settings.waits;
      allocates = is.settings.allocates;
      families = is.settings.families;
      options = is.settings.options;
      pace = is.settings.pace;
      indications = is.settings.indications;
      usual = is.settings.usual;
    };
    signs = is.signs;
    served = tt;
    one = is.one;
  }

  -- ---- a socket was opened, or not

  lacking : (connection : ℕ) (peer : SocketAddr) (attempt : Option ℕ) (allocations : List Allocation) → HasAtMost b address allocations → Speaking (record (answering_if Failed attempt p) { allocations = allocations })
  unfolding answering
  lacking connection peer None allocations one = speaks_with b realm address p is (record p { allocations = allocations }) (own_agent b realm address p is) refl refl refl refl refl one
  lacking connection peer (Some number) allocations one = speaks_with b realm address p is (record (answering Failed number p) { allocations = allocations }) (own_agent b realm address p is) refl refl refl refl refl one

  opened : (here peer : SocketAddr) (connection number at : ℕ) (attempt : Option ℕ) (allocations : List Allocation) → HasAtMost b address allocations
      → Speaking (record (requested_from here (answering_if Accepted attempt (after_number p)) (ConnectionBind connection) number at) { allocations = allocations })
  unfolding answering
  opened here peer connection number at None allocations one =
      speaks_with b realm address p is _ (record { remote = refl; transport = refl; here = refl; waits = refl }) refl refl refl refl refl one
  opened here peer connection number at (Some attempted) allocations one =
      speaks_with b realm address p is _ (record { remote = refl; transport = refl; here = refl; waits = refl }) refl refl refl refl refl one

  socket_taken : (here : Option SocketAddr) (connection : ℕ) (peer : SocketAddr) (at : ℕ) (ret : Result (Unit {0}) TcpAllocateError) (q : Protocol) → ret ≢ Err not_taken.NoMemory → IsSocketTaken here p connection peer at ret q → Speaking q
  unfolding unsocketed after_socket
  socket_taken None connection peer at (Ok done) q ample r = subst (λ (y : Protocol). Speaking y) (sym r.after)
      (lacking connection peer (attempt_at connection peer p) (map (release connection peer) p.allocations) (most_mapped b address (release connection peer) (release_stay connection peer) p.allocations is.one))
  socket_taken None connection peer at (Err error) q ample r = absurd (ample (ap Err r.0))
  socket_taken (Some here) connection peer at (Ok done) q ample r = subst (λ (y : Protocol). Speaking y) (sym r.after)
      (opened here peer connection r.number at (attempt_at connection peer p) _
      (most_mapped b address (release connection peer) (release_stay connection peer) _ (most_changed b address (awaits_socket connection peer)
      (binding (to_bind here peer connection (record { number = r.number; expiry = time_after at binding_time }))) (λ a. record { transport = refl; address = refl }) p.allocations is.one)))
  socket_taken (Some here) connection peer at (Err error) q ample r = absurd (ample (ap Err r.0))

  socket_by : (refusal : Option TcpAllocateError) (here : Option SocketAddr) (connection : ℕ) (peer : SocketAddr) (at : ℕ) (ret : Result (Unit {0}) TcpAllocateError) (q : Protocol) → ret ≢ Err not_taken.NoMemory
      → IfSome refusal (λ error. (ret ≡ Err error) × (q ≡ p)) → IfNone refusal (IsSocketTaken here p connection peer at ret q) → Speaking q
  socket_by (Some error) here connection peer at ret q ample refused taken = unchanged b realm address p is q refused.1
  socket_by None here connection peer at ret q ample refused taken = socket_taken here connection peer at ret q ample taken

  pub socket_speaks : (connection : ℕ) (s : Socket5Tuple) (peer : SocketAddr) (here : Option SocketAddr) (at : ℕ) (ret : Result (Unit {0}) TcpAllocateError) (q : Protocol) → ret ≢ Err not_taken.NoMemory
      → IsSocketAnswered p connection s peer here at ret q → Speaking q
  socket_speaks connection s peer here at ret q ample r = socket_by (socket_refusal p connection s peer here) here connection peer at ret q ample r.refused r.taken
