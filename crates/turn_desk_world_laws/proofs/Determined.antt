-- What a client in a simulation returns is determined.
use Rattle.std.proofs.Common.{◌≡◌, ◌≢◌, ℕ, Bool, true, false, List, ◌∷◌, Option, Some, None, Result, Ok, Err, if◌then◌else◌, refl, sym, ap, ◌∙◌, subst}
use Rattle.std.specs.Bool.{MatchBool}
use Rattle.std.specs.Borrow.{Bor}
use Rattle.std.specs.declared.net.ip_addr.IpAddr.{IpAddr}
use Rattle.std.specs.declared.net.socket_addr.SocketAddr.{SocketAddr}
use Rattle.stun_types_base.specs.declared.transmit.Transmit.{Transmit}
use Rattle.stun_types_base.specs.declared.transport.TransportType.{TransportType}
use Rattle.turn_desk_event.specs.TurnClientProtoApi.declared.answer.TurnPollRet.{TurnPollRet}
use Rattle.turn_desk_event.specs.TurnClientProtoApi.declared.answer.TurnPollRet.TheVariants as poll
use Rattle.turn_desk_event.specs.TurnClientProtoApi.declared.answer.TurnRecvRet.{TurnRecvRet}
use Rattle.turn_desk_event.specs.TurnClientProtoApi.declared.answer.TurnRecvRet.TheVariants as recv
use Rattle.turn_desk_event.specs.TurnClientProtoApi.declared.error.BindChannelError.{BindChannelError}
use Rattle.turn_desk_event.specs.TurnClientProtoApi.declared.error.TcpAllocateError.{TcpAllocateError}
use Rattle.turn_desk_event.specs.TurnClientProtoApi.declared.error.TcpAllocateError.TheVariants as not_taken
use Rattle.turn_desk_world.specs.TurnClientProto.SocketsReported.{IsSocketReported, replaced, takes_place}
use Rattle.turn_desk_event.specs.TurnClientProtoApi.declared.error.TcpConnectError.{TcpConnectError}
use Rattle.turn_desk_event.specs.TurnClientProtoApi.declared.error.TcpConnectError.TheVariants as not_connected
use Rattle.turn_desk_event.specs.TurnClientProtoApi.declared.error.BindChannelError.TheVariants as not_bound
use Rattle.turn_desk_event.specs.TurnClientProtoApi.declared.error.CreatePermissionError.{CreatePermissionError}
use Rattle.turn_desk_event.specs.TurnClientProtoApi.declared.error.CreatePermissionError.TheVariants as not_permitted
use Rattle.turn_desk_event.specs.TurnClientProtoApi.declared.error.CreatePermissionsError.{CreatePermissionsError}
use Rattle.turn_desk_event.specs.TurnClientProtoApi.declared.error.CreatePermissionsError.TheVariants as none_permitted
use Rattle.turn_desk_event.specs.TurnClientProtoApi.declared.error.DeleteError.{DeleteError}
use Rattle.turn_desk_event.specs.TurnClientProtoApi.declared.error.DeleteError.TheVariants as not_deleted
use Rattle.turn_desk_event.specs.TurnClientProtoApi.declared.error.SendError.{SendError}
use Rattle.turn_desk_event.specs.TurnClientProtoApi.declared.event.TurnEvent.{TurnEvent}
use Rattle.turn_desk_world.specs.TurnClientProtoCore.Binding.{IsBindAnswered}
use Rattle.turn_client_proto_step_laws.specs.Recv.Connecting.{IsConnectAnswered}
use Rattle.turn_desk_world.specs.TurnClientProtoCore.Deleting.{IsDeleteAnswered}
use Rattle.turn_desk_event.specs.TurnClientProtoApi.Sent.{sent_of}
use Rattle.turn_desk_step_laws.specs.TurnClientProtoAllocation.declared.connection.Connection.{Connection}
use Rattle.turn_desk_event.specs.TurnClientProtoApi.Payloads.{PeerPayload}
use Rattle.turn_client_proto_step_laws.specs.Recv.Control.{Control, Datagrams, Open, Closed}
use Rattle.turn_client_proto_step_laws.specs.Recv.ClientState.{ClientState, Leaves, Protocol}
use Rattle.turn_client_proto_step_laws.specs.Recv.Receipts.{IsFirstGiven, IsGivenBy, IsStreamRequested}
use Rattle.turn_client_proto_step_laws.specs.Recv.SocketChunks.{raw_waiting}
use Rattle.turn_client_proto_step_laws.proofs.OneReading.{pulled_same}
use Rattle.turn_desk_world.specs.TurnClientProtoCore.Permitting.{ArePermissionsAnswered, IsPermissionAnswered}
use Rattle.turn_client_proto_step_laws.specs.Timers.Polling.{IsPolled}
use Rattle.turn_desk_world_laws.specs.Copies.{AreAlike, BothData, BothGivenBack, BothHandled, BothReports, IsCopy}
use Rattle.turn_client_proto_step_laws.proofs.Lists.{inside}
use Rattle.turn_client_proto_step_laws.proofs.Once.Calling.{delete_same, permission_same, permissions_same}
use Rattle.turn_client_proto_step_laws.proofs.Once.Channels.{bind_same}
use Rattle.turn_client_proto_step_laws.proofs.Once.Connecting.{connect_same}
use Rattle.turn_client_proto_step_laws.proofs.Once.Drawing.{draw_same}
use Rattle.turn_client_proto_step_laws.proofs.Once.Polling.{poll_same}
use Rattle.turn_client_proto_step_laws.proofs.Once.Sending.{send_same}
use Rattle.turn_client_proto_step_laws.proofs.Once.Sockets.{socket_same}
use Rattle.turn_desk_world_laws.proofs.Receiving.{stored_same, received_same}
use Rattle.turn_desk_event.specs.declared.answer.Answer.{Answer}
use Rattle.turn_desk_event.specs.declared.answer.Answer.TheVariants as answer
use Rattle.turn_desk_event.specs.declared.answer.Refusal.TheVariants.{BindChannel as BindRefused, CreatePermission as PermissionRefused, CreatePermissions as PermissionsRefused, Delete as DeleteRefused, Send as SendRefused, TcpAllocate as SocketRefused, TcpConnect as ConnectRefused}
use Rattle.turn_desk_event.specs.declared.event.ClientCall.{ClientCall}
use Rattle.turn_desk_event.specs.declared.event.ClientCall.TheVariants as call
use Rattle.turn_desk_world.specs.Calls.{AreChannelsReported, ArePermissionsAnsweredAs, ArePermissionsReported, IsBindReported, IsCallReported, IsCalled, IsDeleteReported, IsTransmittedAs, IsEndReported, IsEventReported, IsFed, IsHaveReported, IsPermissionReported, IsPolledAs, IsRelayedReported, IsSendReported, IsReported, IsWaitingReported, IsConnectReported, AreConnectionsReported, IsClosedReported, IsSocketTaken, own_tuple}
use Rattle.turn_desk_world.specs.Determined.{IsSame}
use Rattle.turn_desk_world.specs.Runs.{IsAtClient, IsInRange, is_in_range}

-- ---- results that are equal say the same

itself : (a : Answer) → IsSame a a
itself (answer.Reply reply) = refl
itself (answer.Transmit transmit) = refl
itself (answer.Relayed list) = refl
itself (answer.Permissions list) = refl
itself (answer.Channels list) = refl
itself (answer.Connections list) = refl
itself _ = refl

pub equal_same : (a b : Answer) → a ≡ b → IsSame a b
equal_same a b is = subst (λ (x : Answer). IsSame a x) is (itself a)

-- The two results say the same, and the two states are equal.
abbrev pub AreOne : {S : Type 0} → (ret again : Answer) → (new other : S) → Type 0
AreOne ret again new other = IsSame ret again × (new ≡ other)

equal_one : {S : Type 0} (ret again : Answer) (new other : S) → (ret ≡ again) × (new ≡ other) → AreOne ret again new other
equal_one ret again new other is = (equal_same ret again is.0, is.1)

-- ---- a call that is returned by what its contract speaks of

-- The result says what the call gave.
record IsBy {R S : Type 0} (report : R → Answer) (Gives : R → S → Type 0) (ret : Answer) (new : S) : Type 0 where
  given : R
  gives : Gives given new
  reported : ret ≡ report given

IsDefinite : {R S : Type 0} → (R → S → Type 0) → Type 0
IsDefinite {R = R} {S = S} Gives = (one other : R) (new left : S) → Gives one new → Gives other left → (one ≡ other) × (new ≡ left)

by_definite : {R S : Type 0} (report : R → Answer) (Gives : R → S → Type 0) → IsDefinite Gives → (ret again : Answer) (new other : S) → IsBy report Gives ret new → IsBy report Gives again other → AreOne ret again new other
unfolding IsDefinite
by_definite report Gives definite ret again new other a b =
    let same = definite a.given b.given new other a.gives b.gives in
    equal_one ret again new other (a.reported ∙ ap report same.0 ∙ sym b.reported, same.1)

-- ---- `poll`

abbrev answer_of_poll : TurnPollRet → Answer
answer_of_poll (poll.WaitUntil time) = answer.Wait time
answer_of_poll (poll.AllocateTcpSocket id socket peer) = answer.Socket id socket peer
answer_of_poll (poll.TcpClose local remote) = answer.Close local remote
answer_of_poll poll.Closed = answer.Closed
answer_of_poll poll.NoMemory = answer.OutOfRange

module _ (old : Protocol) (now : ℕ) where
  abbrev Polls : TurnPollRet → Protocol → Type 0
  Polls ret new = (ret ≢ poll.NoMemory) × IsPolled old now ret new

  by_poll : (ret : Answer) (new : Protocol) → IsPolledAs ret old now new → IsBy answer_of_poll Polls ret new
  by_poll (answer.Wait time) new is = record { given = poll.WaitUntil time; gives = ((λ e. Prim.cc e), is); reported = refl }
  by_poll (answer.Socket id socket peer) new is = record { given = poll.AllocateTcpSocket id socket peer; gives = ((λ e. Prim.cc e), is); reported = refl }
  by_poll (answer.Close local remote) new is = record { given = poll.TcpClose local remote; gives = ((λ e. Prim.cc e), is); reported = refl }
  by_poll answer.Closed new is = record { given = poll.Closed; gives = ((λ e. Prim.cc e), is); reported = refl }
  by_poll _ new is = absurd is

  polls : IsDefinite Polls
  unfolding IsDefinite
  polls one other new left a b = poll_same old now one other new left a.0 b.0 a.1 b.1

  polled : (ret again : Answer) (new other : Protocol) → IsPolledAs ret old now new → IsPolledAs again old now other → AreOne ret again new other
  polled ret again new other a b = by_definite answer_of_poll Polls polls ret again new other (by_poll ret new a) (by_poll again other b)

-- ---- `delete`, `create_permission`, `bind_channel`, `tcp_connect`

abbrev answer_of_deletion : Result (Unit {0}) DeleteError → Answer
answer_of_deletion (Ok x) = answer.Done
answer_of_deletion (Err error) = answer.Refused (DeleteRefused error)

abbrev answer_of_permission : Result (Unit {0}) CreatePermissionError → Answer
answer_of_permission (Ok x) = answer.Done
answer_of_permission (Err error) = answer.Refused (PermissionRefused error)

abbrev answer_of_permissions : Result (Unit {0}) CreatePermissionsError → Answer
answer_of_permissions (Ok x) = answer.Done
answer_of_permissions (Err error) = answer.Refused (PermissionsRefused error)

abbrev answer_of_binding : Result (Unit {0}) BindChannelError → Answer
answer_of_binding (Ok x) = answer.Done
answer_of_binding (Err error) = answer.Refused (BindRefused error)

abbrev answer_of_connecting : Result (Unit {0}) TcpConnectError → Answer
answer_of_connecting (Ok x) = answer.Done
answer_of_connecting (Err error) = answer.Refused (ConnectRefused error)

inside_err : {E : Type 0} (a b : E) (p q : Result (Unit {0}) E) → p ≡ Err a → q ≡ Err b → p ≡ q → a ≡ b
inside_err a b p q at here same = Prim.cc (sym at ∙ same ∙ here)

module _ (old : Protocol) (now : ℕ) where
  abbrev Deletes : Result (Unit {0}) DeleteError → Protocol → Type 0
  Deletes ret new = (ret ≢ Err not_deleted.NoMemory) × IsDeleteAnswered old now ret new

  by_deletion : (ret : Answer) (new : Protocol) → IsDeleteReported ret old now new → IsBy answer_of_deletion Deletes ret new
  by_deletion answer.Done new is = record { given = Ok tt; gives = ((λ e. Prim.cc e), is); reported = refl }
  by_deletion (answer.Refused (DeleteRefused error)) new is = record { given = Err error; gives = ((λ e. is.1 (inside_err error not_deleted.NoMemory (Err error) (Err not_deleted.NoMemory) refl refl e)), is.0); reported = refl }
  by_deletion _ new is = absurd is

  deletes : IsDefinite Deletes
  unfolding IsDefinite
  deletes one other new left a b = delete_same old now one other new left a.0 b.0 a.1 b.1

  module _ (transport : TransportType) (ip : IpAddr) where
    abbrev Permits : Result (Unit {0}) CreatePermissionError → Protocol → Type 0
    Permits ret new = (ret ≢ Err not_permitted.NoMemory) × IsPermissionAnswered old transport ip now ret new

    by_permission : (ret : Answer) (new : Protocol) → IsPermissionReported ret transport ip old now new → IsBy answer_of_permission Permits ret new
    by_permission answer.Done new is = record { given = Ok tt; gives = ((λ e. Prim.cc e), is); reported = refl }
    by_permission (answer.Refused (PermissionRefused error)) new is = record { given = Err error; gives = ((λ e. is.1 (inside_err error not_permitted.NoMemory (Err error) (Err not_permitted.NoMemory) refl refl e)), is.0); reported = refl }
    by_permission _ new is = absurd is

    permits : IsDefinite Permits
    unfolding IsDefinite
    permits one other new left a b = permission_same old transport ip now one other new left a.0 b.0 a.1 b.1

  module _ (transport : TransportType) (ips : List IpAddr) where
    abbrev Allows : Result (Unit {0}) CreatePermissionsError → Protocol → Type 0
    Allows ret new = (ret ≢ Err (none_permitted.Refused not_permitted.NoMemory)) × ArePermissionsAnswered old transport ips now ret new

    by_permissions : (ret : Answer) (new : Protocol) → ArePermissionsAnsweredAs ret transport ips old now new → IsBy answer_of_permissions Allows ret new
    by_permissions answer.Done new is = record { given = Ok tt; gives = ((λ e. Prim.cc e), is); reported = refl }
    by_permissions (answer.Refused (PermissionsRefused error)) new is = record {
      given = Err error;
      gives = ((λ e. is.1 (inside_err error (none_permitted.Refused not_permitted.NoMemory) (Err error) (Err (none_permitted.Refused not_permitted.NoMemory)) refl refl e)), is.0);
      reported = refl;
    }
    by_permissions _ new is = absurd is

    allows : IsDefinite Allows
    unfolding IsDefinite
    allows one other new left a b = permissions_same old transport ips now one other new left a.0 b.0 a.1 b.1

  module _ (transport : TransportType) (peer : SocketAddr) where
    abbrev Binds : Result (Unit {0}) BindChannelError → Protocol → Type 0
    Binds ret new = (ret ≢ Err not_bound.NoMemory) × IsBindAnswered old transport peer now ret new

    by_binding : (ret : Answer) (new : Protocol) → IsBindReported ret transport peer old now new → IsBy answer_of_binding Binds ret new
    by_binding answer.Done new is = record { given = Ok tt; gives = ((λ e. Prim.cc e), is); reported = refl }
    by_binding (answer.Refused (BindRefused error)) new is = record { given = Err error; gives = ((λ e. is.1 (inside_err error not_bound.NoMemory (Err error) (Err not_bound.NoMemory) refl refl e)), is.0); reported = refl }
    by_binding _ new is = absurd is

    binds : IsDefinite Binds
    unfolding IsDefinite
    binds one other new left a b = bind_same old transport peer now one other new left a.0 b.0 a.1 b.1

  module _ (peer : SocketAddr) where
    abbrev Connects : Result (Unit {0}) TcpConnectError → Protocol → Type 0
    Connects ret new = (ret ≢ Err not_connected.NoMemory) × IsConnectAnswered old peer now ret new

    by_connecting : (ret : Answer) (new : Protocol) → IsConnectReported ret peer old now new → IsBy answer_of_connecting Connects ret new
    by_connecting answer.Done new is = record { given = Ok tt; gives = ((λ e. Prim.cc e), is); reported = refl }
    by_connecting (answer.Refused (ConnectRefused error)) new is = record { given = Err error; gives = ((λ e. is.1 (inside_err error not_connected.NoMemory (Err error) (Err not_connected.NoMemory) refl refl e)), is.0); reported = refl }
    by_connecting _ new is = absurd is

    connects : IsDefinite Connects
    unfolding IsDefinite
    connects one other new left a b = connect_same old peer now one other new left a.0 b.0 a.1 b.1

-- ---- `send_to`

sent_same : (transport : TransportType) (to : SocketAddr) (bytes : List ℕ) (old : Protocol) (now : ℕ) (ret again : Answer) (new other : Protocol)
    → IsSendReported ret transport to bytes old now new → IsSendReported again transport to bytes old now other → AreOne ret again new other
sent_same transport to bytes old now (answer.Transmit one) (answer.Transmit two) new other a b =
    let same = send_same old transport to bytes now (Ok (Some (sent_of one))) (Ok (Some (sent_of two))) new other a b in
    (Prim.cc same.0, same.1)
sent_same transport to bytes old now (answer.Transmit one) (answer.Refused (SendRefused error)) new other a b =
    absurd (let never : ⊥ = Prim.cc (send_same old transport to bytes now (Ok (Some (sent_of one))) (Err error) new other a b.0).0 in never)
sent_same transport to bytes old now (answer.Refused (SendRefused error)) (answer.Transmit two) new other a b =
    absurd (let never : ⊥ = Prim.cc (send_same old transport to bytes now (Err error) (Ok (Some (sent_of two))) new other a.0 b).0 in never)
sent_same transport to bytes old now (answer.Refused (SendRefused error)) (answer.Refused (SendRefused other_error)) new other a b =
    let same = send_same old transport to bytes now (Err error) (Err other_error) new other a.0 b.0 in
    let errors : error ≡ other_error = Prim.cc same.0 in
    (ap (λ (e : SendError). answer.Refused (SendRefused e)) errors, same.1)
sent_same transport to bytes old now (answer.Transmit one) _ new other a b = absurd b
sent_same transport to bytes old now (answer.Refused (SendRefused error)) _ new other a b = absurd b
sent_same transport to bytes old now _ again new other a b = absurd a

-- ---- getters, events and ends

event_reported : (old : Protocol) (ret again : Answer) (new other : Protocol) → IsEventReported ret old new → IsEventReported again old other → AreOne ret again new other
event_reported old (answer.Event e) (answer.Event f) new other a b =
    let both : e ∷ new.events ≡ f ∷ other.events = sym a.0 ∙ b.0 in
    let first : e ≡ f = Prim.cc both in
    let rest : new.events ≡ other.events = Prim.cc both in
    (ap (λ (x : TurnEvent). answer.Event x) first, a.1 ∙ ap (λ (l : List TurnEvent). record old { events = l }) rest ∙ sym b.1)
event_reported old (answer.Event e) answer.Nothing new other a b = absurd (let never : ⊥ = Prim.cc (sym a.0 ∙ b.0) in never)
event_reported old answer.Nothing (answer.Event f) new other a b = absurd (let never : ⊥ = Prim.cc (sym a.0 ∙ b.0) in never)
event_reported old answer.Nothing answer.Nothing new other a b = (refl, a.1 ∙ sym b.1)
event_reported old (answer.Event e) _ new other a b = absurd b
event_reported old answer.Nothing _ new other a b = absurd b
event_reported old _ again new other a b = absurd a

have_reported : (transport : TransportType) (ip : IpAddr) (old : Protocol) (ret again : Answer) (new other : Protocol) → IsHaveReported ret transport ip old new → IsHaveReported again transport ip old other → AreOne ret again new other
have_reported transport ip old (answer.Have is) (answer.Have was) new other a b = (ap (λ (x : Bool). answer.Have x) (a.0 ∙ sym b.0), a.1 ∙ sym b.1)
have_reported transport ip old (answer.Have is) _ new other a b = absurd b
have_reported transport ip old _ again new other a b = absurd a

permissions_reported : (transport : TransportType) (relayed : SocketAddr) (old : Protocol) (ret again : Answer) (new other : Protocol) → ArePermissionsReported ret transport relayed old new → ArePermissionsReported again transport relayed old other
    → AreOne ret again new other
permissions_reported transport relayed old (answer.Permissions list) (answer.Permissions more) new other a b = (a.0 ∙ sym b.0, a.1 ∙ sym b.1)
permissions_reported transport relayed old (answer.Permissions list) _ new other a b = absurd b
permissions_reported transport relayed old _ again new other a b = absurd a

channels_reported : (old : Protocol) (ret again : Answer) (new other : Protocol) → AreChannelsReported ret old new → AreChannelsReported again old other → AreOne ret again new other
channels_reported old (answer.Channels list) (answer.Channels more) new other a b = (a.0 ∙ sym b.0, a.1 ∙ sym b.1)
channels_reported old (answer.Channels list) _ new other a b = absurd b
channels_reported old _ again new other a b = absurd a

closed_reported : (here there : SocketAddr) (old : Protocol) (ret again : Answer) (new other : Protocol) → IsClosedReported ret here there old new → IsClosedReported again here there old other → AreOne ret again new other
closed_reported here there old answer.Done answer.Done new other a b = (refl, a ∙ sym b)
closed_reported here there old answer.Done _ new other a b = absurd b
closed_reported here there old _ again new other a b = absurd a

connections_reported : (old : Protocol) (ret again : Answer) (new other : Protocol) → AreConnectionsReported ret old new → AreConnectionsReported again old other → AreOne ret again new other
connections_reported old (answer.Connections list) (answer.Connections more) new other a b = (a.0 ∙ sym b.0, a.1 ∙ sym b.1)
connections_reported old (answer.Connections list) _ new other a b = absurd b
connections_reported old _ again new other a b = absurd a

relayed_reported : (old : Protocol) (ret again : Answer) (new other : Protocol) → IsRelayedReported ret old new → IsRelayedReported again old other → AreOne ret again new other
relayed_reported old (answer.Relayed list) (answer.Relayed more) new other a b = (a.0 ∙ sym b.0, a.1 ∙ sym b.1)
relayed_reported old (answer.Relayed list) _ new other a b = absurd b
relayed_reported old _ again new other a b = absurd a

end_reported : (old : Protocol) (ret again : Answer) (new other : Protocol) → IsEndReported ret old new → IsEndReported again old other → AreOne ret again new other
end_reported old answer.Done answer.Done new other a b = (refl, a ∙ sym b)
end_reported old answer.Done _ new other a b = absurd b
end_reported old _ again new other a b = absurd a

called : (what : ClientCall) (old : Protocol) (now : ℕ) (ret again : Answer) (new other : Protocol) → IsCalled what ret old now new → IsCalled what again old now other → AreOne ret again new other
unfolding IsCalled
called call.Poll old now ret again new other a b = polled old now ret again new other a b
called call.PollEvent old now ret again new other a b = event_reported old ret again new other a b
called call.Delete old now ret again new other a b = by_definite answer_of_deletion (Deletes old now) (deletes old now) ret again new other (by_deletion old now ret new a) (by_deletion old now again other b)
called (call.CreatePermission transport ip) old now ret again new other a b =
    by_definite answer_of_permission (Permits old now transport ip) (permits old now transport ip) ret again new other (by_permission old now transport ip ret new a) (by_permission old now transport ip again other b)
called (call.CreatePermissions transport ips) old now ret again new other a b =
    by_definite answer_of_permissions (Allows old now transport ips.items) (allows old now transport ips.items) ret again new other (by_permissions old now transport ips.items ret new a) (by_permissions old now transport ips.items again other b)
called (call.HavePermission transport ip) old now ret again new other a b = have_reported transport ip old ret again new other a b
called (call.Permissions transport relayed) old now ret again new other a b = permissions_reported transport relayed old ret again new other a b
called (call.BindChannel transport peer) old now ret again new other a b =
    by_definite answer_of_binding (Binds old now transport peer) (binds old now transport peer) ret again new other (by_binding old now transport peer ret new a) (by_binding old now transport peer again other b)
called (call.TcpConnect peer) old now ret again new other a b =
    by_definite answer_of_connecting (Connects old now peer) (connects old now peer) ret again new other (by_connecting old now peer ret new a) (by_connecting old now peer again other b)
called (call.AllocatedTcpSocket id peer here) old now ret again new other a b = absurd a
called (call.TcpClosed here there) old now ret again new other a b = closed_reported here there old ret again new other a b
called call.Connections old now ret again new other a b = connections_reported old ret again new other a b
called call.Channels old now ret again new other a b = channels_reported old ret again new other a b
called (call.SendTo transport to bytes) old now ret again new other a b = sent_same transport to bytes.items old now ret again new other a b
called call.PollRecv old now ret again new other a b = absurd a
called call.ProtocolError old now ret again new other a b = end_reported old ret again new other a b
called call.RelayedAddresses old now ret again new other a b = relayed_reported old ret again new other a b

-- A call that leaves the stream unchanged.
leaves : (Does : Answer → Protocol → Protocol → Type 0) → ((old : Protocol) (ret again : Answer) (new other : Protocol) → Does ret old new → Does again old other → AreOne ret again new other)
    → (old : ClientState) (ret again : Answer) (new other : ClientState) → Leaves (Does ret) old new → Leaves (Does again) old other → AreOne ret again new other
leaves Does once old ret again new other a b =
    let same = once old.core ret again new.core other.core a.0 b.0 in
    (same.0, stored_same new other same.1 (a.1 ∙ sym b.1))

-- What was given of what is buffered in the stream.
stream_by : (control : Control) (now : ℕ) (core : Protocol) (given again : Option PeerPayload) (new other : ClientState) → IsStreamRequested now control core given new → IsStreamRequested now control core again other → (given ≡ again) × (new ≡ other)
stream_by Datagrams now core given again new other a b = (a.0 ∙ sym b.0, stored_same new other (a.1 ∙ sym b.1) (a.2 ∙ sym b.2))
stream_by (Open stream) now core given again new other a b =
    let same = pulled_same now stream core given again a.left b.left new.core other.core a.pulled b.pulled in
    (same.0, stored_same new other same.2 (a.occurs ∙ ap Open same.1 ∙ sym b.occurs))
stream_by Closed now core given again new other a b = (a.0 ∙ sym b.0, stored_same new other (a.1 ∙ sym b.1) (a.2 ∙ sym b.2))

-- What a connection's peer sent comes first.
first_by : (raw : Option Connection) (control : Control) (now : ℕ) (core : Protocol) (given again : Option PeerPayload) (new other : ClientState) → IsFirstGiven now raw control core given new → IsFirstGiven now raw control core again other
    → (given ≡ again) × (new ≡ other)
first_by (Some c) control now core given again new other a b = (a.0.gives ∙ sym b.0.gives, stored_same new other (a.0.after ∙ sym b.0.after) (a.1 ∙ sym b.1))
first_by None control now core given again new other a b = stream_by control now core given again new other a b

-- What was given of what is buffered.
waiting_by : (control : Control) (now : ℕ) (core : Protocol) (given again : Option PeerPayload) (new other : ClientState) → IsGivenBy now control core given new → IsGivenBy now control core again other → (given ≡ again) × (new ≡ other)
waiting_by Datagrams now core given again new other a b = stream_by Datagrams now core given again new other a b
waiting_by (Open stream) now core given again new other a b = first_by (raw_waiting core) (Open stream) now core given again new other a b
waiting_by Closed now core given again new other a b = first_by (raw_waiting core) Closed now core given again new other a b

waiting_reported : (old : ClientState) (now : ℕ) (ret again : Answer) (new other : ClientState) → IsWaitingReported ret old now new → IsWaitingReported again old now other → AreOne ret again new other
waiting_reported old now (answer.Peer given) (answer.Peer more) new other a b =
    let same = waiting_by old.control now old.core (Some given) (Some more) new other a b in
    (ap answer.Peer (Prim.cc same.0), same.1)
waiting_reported old now (answer.Peer given) answer.Nothing new other a b =
    let same = waiting_by old.control now old.core (Some given) None new other a b in
    absurd (Prim.cc same.0)
waiting_reported old now answer.Nothing (answer.Peer more) new other a b =
    let same = waiting_by old.control now old.core None (Some more) new other a b in
    absurd (Prim.cc same.0)
waiting_reported old now answer.Nothing answer.Nothing new other a b =
    let same = waiting_by old.control now old.core None None new other a b in
    (refl, same.1)
waiting_reported old now (answer.Peer given) _ new other a b = absurd b
waiting_reported old now answer.Nothing _ new other a b = absurd b
waiting_reported old now _ again new other a b = absurd a

-- ---- `allocated_tcp_socket`

abbrev answer_of_socket : Result (Unit {0}) TcpAllocateError → Answer
answer_of_socket (Ok x) = answer.Done
answer_of_socket (Err error) = answer.Refused (SocketRefused error)

module _ (connection : ℕ) (peer : SocketAddr) (here : Option SocketAddr) (old : ClientState) (now : ℕ) where
  abbrev Takes : Result (Unit {0}) TcpAllocateError → ClientState → Type 0
  Takes ret new = (ret ≢ Err not_taken.NoMemory) × IsSocketReported old connection (own_tuple old.core) peer here now ret new

  by_socket : (ret : Answer) (new : ClientState) → IsSocketTaken ret connection peer here old now new → IsBy answer_of_socket Takes ret new
  by_socket answer.Done new is = record { given = Ok tt; gives = ((λ e. Prim.cc e), is); reported = refl }
  by_socket (answer.Refused (SocketRefused error)) new is = record { given = Err error; gives = ((λ e. is.1 (inside_err error not_taken.NoMemory (Err error) (Err not_taken.NoMemory) refl refl e)), is.0); reported = refl }
  by_socket _ new is = absurd is

  takes : IsDefinite Takes
  unfolding IsDefinite
  takes one other new left a b =
      let same = socket_same old.core connection peer now (own_tuple old.core) here one other new.core left.core a.0 b.0 a.1.core b.1.core in
      let control : new.control ≡ left.control =
      a.1.control ∙ ap (λ (r : Result (Unit {0}) TcpAllocateError). if takes_place old.core here r then replaced old.control else old.control) same.0 ∙ sym b.1.control in
      (same.0, stored_same new left same.1 control)

  socket_reported : (ret again : Answer) (new other : ClientState) → IsSocketTaken ret connection peer here old now new → IsSocketTaken again connection peer here old now other → AreOne ret again new other
  socket_reported ret again new other a b = by_definite answer_of_socket Takes takes ret again new other (by_socket ret new a) (by_socket again other b)

left_once : (what : ClientCall) (old : ClientState) (now : ℕ) (ret again : Answer) (new other : ClientState) → Leaves (λ p q. IsCalled what ret p now q) old new → Leaves (λ p q. IsCalled what again p now q) old other → AreOne ret again new other
left_once what old now ret again new other a b = leaves (λ x p q. IsCalled what x p now q) (λ p x y q r. called what p now x y q r) old ret again new other a b

pub called_once : (what : ClientCall) (old : ClientState) (now : ℕ) (ret again : Answer) (new other : ClientState) → IsCallReported what ret old now new → IsCallReported what again old now other → AreOne ret again new other
unfolding IsCallReported
called_once call.PollRecv old now ret again new other a b = waiting_reported old now ret again new other a b
called_once call.Poll old now ret again new other a b = left_once call.Poll old now ret again new other a b
called_once call.PollEvent old now ret again new other a b = left_once call.PollEvent old now ret again new other a b
called_once call.Delete old now ret again new other a b = left_once call.Delete old now ret again new other a b
called_once (call.CreatePermission transport ip) old now ret again new other a b = left_once (call.CreatePermission transport ip) old now ret again new other a b
called_once (call.CreatePermissions transport ips) old now ret again new other a b = left_once (call.CreatePermissions transport ips) old now ret again new other a b
called_once (call.HavePermission transport ip) old now ret again new other a b = left_once (call.HavePermission transport ip) old now ret again new other a b
called_once (call.Permissions transport relayed) old now ret again new other a b = left_once (call.Permissions transport relayed) old now ret again new other a b
called_once (call.BindChannel transport peer) old now ret again new other a b = left_once (call.BindChannel transport peer) old now ret again new other a b
called_once (call.TcpConnect peer) old now ret again new other a b = left_once (call.TcpConnect peer) old now ret again new other a b
called_once (call.AllocatedTcpSocket id peer here) old now ret again new other a b = socket_reported id peer here old now ret again new other a b
called_once (call.TcpClosed here there) old now ret again new other a b = left_once (call.TcpClosed here there) old now ret again new other a b
called_once call.Connections old now ret again new other a b = left_once call.Connections old now ret again new other a b
called_once call.Channels old now ret again new other a b = left_once call.Channels old now ret again new other a b
called_once (call.SendTo transport to bytes) old now ret again new other a b = left_once (call.SendTo transport to bytes) old now ret again new other a b
called_once call.ProtocolError old now ret again new other a b = left_once call.ProtocolError old now ret again new other a b
called_once call.RelayedAddresses old now ret again new other a b = left_once call.RelayedAddresses old now ret again new other a b

-- ---- what is sent

transmitted : (old : Protocol) (now : ℕ) (ret again : Answer) (new other : Protocol) → IsTransmittedAs ret old now new → IsTransmittedAs again old now other → AreOne ret again new other
unfolding IsTransmittedAs
transmitted old now (answer.Transmit one) (answer.Transmit two) new other a b =
    let same = draw_same old now (Some (sent_of one)) (Some (sent_of two)) new other a b in
    (inside same.0, same.1)
transmitted old now (answer.Transmit one) answer.Nothing new other a b = absurd (let never : ⊥ = Prim.cc (draw_same old now (Some (sent_of one)) None new other a b).0 in never)
transmitted old now answer.Nothing (answer.Transmit two) new other a b = absurd (let never : ⊥ = Prim.cc (draw_same old now None (Some (sent_of two)) new other a b).0 in never)
transmitted old now answer.Nothing answer.Nothing new other a b = (refl, (draw_same old now None None new other a b).1)
transmitted old now (answer.Transmit one) _ new other a b = absurd b
transmitted old now answer.Nothing _ new other a b = absurd b
transmitted old now _ again new other a b = absurd a

pub transmitted_once : (old : ClientState) (now : ℕ) (ret again : Answer) (new other : ClientState) → Leaves (λ p q. IsTransmittedAs ret p now q) old new → Leaves (λ p q. IsTransmittedAs again p now q) old other → AreOne ret again new other
transmitted_once old now ret again new other a b = leaves (λ x p q. IsTransmittedAs x p now q) (λ p x y q r. transmitted p now x y q r) old ret again new other a b

-- ---- what comes

reported_handled : (ret : Answer) → IsReported recv.Handled ret → ret ≡ answer.Handled
reported_handled answer.Handled is = refl
reported_handled _ is = absurd is

reported_ignored : (came : _) (ret : Answer) → IsReported (recv.Ignored came) ret → ret ≡ answer.Ignored
reported_ignored came answer.Ignored is = refl
reported_ignored came _ is = absurd is

reported_data : (given : PeerPayload) (ret : Answer) → IsReported (recv.PeerData given) ret → ret ≡ answer.Peer (record given { index = None })
reported_data given (answer.Peer owned) is = ap (λ (g : PeerPayload). answer.Peer g) is
reported_data given _ is = absurd is

reported_report : (transport : TransportType) (peer : SocketAddr) (kind code details : ℕ) (ret : Answer) → IsReported (recv.PeerIcmp transport peer kind code details) ret → ret ≡ answer.Icmp transport peer kind code details
reported_report transport peer kind code details (answer.Icmp t p k c d) is = cc
reported_report transport peer kind code details _ is = absurd is

-- The result for one datagram is the same, wherever its bytes are in memory.
decoded_alike : (came copy : Transmit (Bor (List ℕ))) (took retook : TurnRecvRet (Bor (List ℕ))) (ret again : Answer) → AreAlike came copy took retook → IsReported took ret → IsReported retook again → ret ≡ again
decoded_alike came copy took retook ret again alike a b = by alike
  where
    first : (r : TurnRecvRet (Bor (List ℕ))) → took ≡ r → IsReported r ret
    first r is = subst (λ (x : TurnRecvRet (Bor (List ℕ))). IsReported x ret) is a

    second : (r : TurnRecvRet (Bor (List ℕ))) → retook ≡ r → IsReported r again
    second r is = subst (λ (x : TurnRecvRet (Bor (List ℕ))). IsReported x again) is b

    by : AreAlike came copy took retook → ret ≡ again
    by (BothHandled x y) = reported_handled ret (first recv.Handled x) ∙ sym (reported_handled again (second recv.Handled y))
    by (BothGivenBack x y) = reported_ignored came ret (first (recv.Ignored came) x) ∙ sym (reported_ignored copy again (second (recv.Ignored copy) y))
    by (BothData given x y) = reported_data given ret (first (recv.PeerData given) x) ∙ sym (reported_data given again (second (recv.PeerData given) y))
    by (BothReports transport peer kind code details x y) =
        reported_report transport peer kind code details ret (first (recv.PeerIcmp transport peer kind code details) x)
        ∙ sym (reported_report transport peer kind code details again (second (recv.PeerIcmp transport peer kind code details) y))

pub fed_once : (old : ClientState) (bytes : List ℕ) (from to : SocketAddr) (now : ℕ) (ret again : Answer) (new other : ClientState) → IsFed ret old bytes from to now new → IsFed again old bytes from to now other → AreOne ret again new other
fed_once old bytes from to now ret again new other a b =
    let copy : IsCopy (λ (x : Bor (List ℕ)). x.now) a.came b.came = record {
      bytes = b.bytes_are ∙ sym a.bytes_are;
      transport = b.transport_is ∙ sym a.transport_is;
      from = b.from_is ∙ sym a.from_is;
      to = b.to_is ∙ sym a.to_is;
    } in
    let ample = λ (e : a.took ≡ recv.NoMemory a.came). subst (λ (r : TurnRecvRet (Bor (List ℕ))). IsReported r ret) e a.reported in
    let enough = λ (e : b.took ≡ recv.NoMemory b.came). subst (λ (r : TurnRecvRet (Bor (List ℕ))). IsReported r again) e b.reported in
    let same = received_same (λ (x : Bor (List ℕ)). x.now) old a.came b.came now a.took b.took new other ample enough copy a.received b.received in
    equal_one ret again new other (decoded_alike a.came b.came a.took b.took ret again same.0 a.reported b.reported, same.1)

-- ---- an event of the client

module _ (now : ℕ) (Does : Answer → ClientState → ClientState → Type 0) (once : (old : ClientState) (ret again : Answer) (new other : ClientState) → Does ret old new → Does again old other → AreOne ret again new other) where
  in_range : (old : ClientState) (ret again : Answer) (new other : ClientState) → IsInRange now (λ p q. Does ret p q) old ret new → IsInRange now (λ p q. Does again p q) old again other → AreOne ret again new other
  unfolding IsInRange
  in_range old ret again new other a b =
      elim (is_in_range now) as (λ (t : Bool). MatchBool t (Does ret old new) ((ret ≡ answer.OutOfRange) × (new ≡ old)) → MatchBool t (Does again old other) ((again ≡ answer.OutOfRange) × (other ≡ old)) → AreOne ret again new other) [
        | true ↦ λ x y. once old ret again new other x y
        | false ↦ λ x y. equal_one ret again new other (x.0 ∙ sym y.0, x.1 ∙ sym y.1)
      ] a b

  pub at_client_once : (old : Option ClientState) (ret again : Answer) (new other : Option ClientState) → IsAtClient now (λ p q. Does ret p q) old ret new → IsAtClient now (λ p q. Does again p q) old again other → AreOne ret again new other
  unfolding IsAtClient
  at_client_once None ret again new other a b = equal_one ret again new other (a.0 ∙ sym b.0, a.1 ∙ sym b.1)
  at_client_once (Some old) ret again None other a b = absurd a
  at_client_once (Some old) ret again (Some new) None a b = absurd b
  at_client_once (Some old) ret again (Some new) (Some other) a b =
      let same = in_range old ret again new other a b in
      (same.0, ap (λ (p : ClientState). Some p) same.1)
