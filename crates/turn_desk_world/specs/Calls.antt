-- The results of a client's calls in a simulation.
use Rattle.std.specs.Prelude.{◌≡◌, ◌≢◌, ℕ, List, [], ◌∷◌, Option, Some, None, Ok, Err}
use Rattle.std.specs.Borrow.{Bor}
use Rattle.std.specs.declared.net.ip_addr.IpAddr.{IpAddr}
use Rattle.std.specs.declared.net.socket_addr.SocketAddr.{SocketAddr}
use Rattle.stun_types_wire.specs.Headers.{AreBytes}
use Rattle.stun_types_base.specs.declared.transmit.Transmit.{Transmit}
use Rattle.stun_types_base.specs.declared.transport.TransportType.{TransportType}
use Rattle.turn_client_proto_api.specs.declared.answer.TurnPollRet.TheVariants as poll
use Rattle.turn_client_proto_api.specs.declared.answer.TurnRecvRet.{TurnRecvRet}
use Rattle.turn_client_proto_api.specs.declared.answer.TurnRecvRet.TheVariants as recv
use Rattle.turn_client_proto_api.specs.declared.error.BindChannelError.TheVariants as not_bound
use Rattle.turn_client_proto_api.specs.declared.error.CreatePermissionError.TheVariants as not_permitted
use Rattle.turn_client_proto_api.specs.declared.error.CreatePermissionsError.TheVariants as none_permitted
use Rattle.turn_client_proto_api.specs.declared.error.DeleteError.TheVariants as not_deleted
use Rattle.turn_client_proto_api.specs.declared.error.SendError.TheVariants as not_sent
use Rattle.turn_client_proto_api.specs.declared.answer.Socket5Tuple.{Socket5Tuple}
use Rattle.turn_client_proto_api.specs.declared.error.TcpAllocateError.TheVariants as not_taken
use Rattle.turn_client_proto_api.specs.declared.error.TcpConnectError.TheVariants as not_connected
use Rattle.turn_client_proto.specs.Recv.Closing.{after_close}
use Rattle.turn_client_proto.specs.Recv.Connecting.{IsConnectAnswered}
use Rattle.turn_client_proto.specs.Getters.{channels_of, connections_of, has_permission, permissions_of, relayed_of}
use Rattle.turn_client_proto.specs.Recv.Receipts.{IsReceived, IsWaitingGiven}
use Rattle.turn_client_proto.specs.Core.Binding.{IsBindAnswered}
use Rattle.turn_client_proto.specs.Core.Deleting.{IsDeleteAnswered}
use Rattle.turn_client_proto.specs.Timers.Drawing.{IsTransmitted}
use Rattle.turn_client_proto_api.specs.Sent.{sent_of}
use Rattle.turn_client_proto.specs.Core.Ending.{ended}
use Rattle.turn_client_proto.specs.Core.Permitting.{ArePermissionsAnswered, IsPermissionAnswered}
use Rattle.turn_client_proto.specs.Timers.Polling.{IsPolled}
use Rattle.turn_client_proto.specs.Recv.ClientState.{ClientState, Leaves, Protocol}
use Rattle.turn_client_proto.specs.PayloadPart.Sending.{IsSendAnswered}
use Rattle.turn_client_proto.specs.SocketsReported.{IsSocketReported}
use Rattle.turn_desk_event.specs.declared.answer.Answer.{Answer}
use Rattle.turn_desk_event.specs.declared.answer.Answer.TheVariants as answer
use Rattle.turn_desk_event.specs.declared.answer.Refusal.TheVariants.{BindChannel as BindRefused, CreatePermission as PermissionRefused, CreatePermissions as PermissionsRefused, Delete as DeleteRefused, Send as SendRefused, TcpAllocate as SocketRefused, TcpConnect as ConnectRefused}
use Rattle.turn_desk_event.specs.declared.event.ClientCall.{ClientCall}
use Rattle.turn_desk_event.specs.declared.event.ClientCall.TheVariants.{Poll, PollEvent, Delete, CreatePermission, CreatePermissions, HavePermission, Permissions, BindChannel, Channels, SendTo, PollRecv, ProtocolError, RelayedAddresses, TcpConnect, AllocatedTcpSocket, TcpClosed, Connections}

-- ---- calls

-- `poll`, by its contract.
abbrev pub IsPolledAs : Answer → Protocol → ℕ → Protocol → Type 0
IsPolledAs (answer.Wait time) old now new = IsPolled old now (poll.WaitUntil time) new
IsPolledAs (answer.Socket id socket peer) old now new = IsPolled old now (poll.AllocateTcpSocket id socket peer) new
IsPolledAs (answer.Close local remote) old now new = IsPolled old now (poll.TcpClose local remote) new
IsPolledAs answer.Closed old now new = IsPolled old now poll.Closed new
IsPolledAs _ old now new = ⊥

-- `poll_event`.
abbrev pub IsEventReported : Answer → Protocol → Protocol → Type 0
IsEventReported (answer.Event event) old new =
    (old.events ≡ event ∷ new.events) × (new ≡ record old { events = new.events })
IsEventReported answer.Nothing old new = (old.events ≡ []) × (new ≡ old)
IsEventReported _ old new = ⊥

-- `delete`. Out of memory is not a result.
abbrev pub IsDeleteReported : Answer → Protocol → ℕ → Protocol → Type 0
IsDeleteReported answer.Done old now new = IsDeleteAnswered old now (Ok tt) new
IsDeleteReported (answer.Refused (DeleteRefused error)) old now new =
    IsDeleteAnswered old now (Err error) new × (error ≢ not_deleted.NoMemory)
IsDeleteReported _ old now new = ⊥

-- `create_permission`. Out of memory is not a result.
abbrev pub IsPermissionReported : Answer → TransportType → IpAddr → Protocol → ℕ → Protocol → Type 0
IsPermissionReported answer.Done transport ip old now new = IsPermissionAnswered old transport ip now (Ok tt) new
IsPermissionReported (answer.Refused (PermissionRefused error)) transport ip old now new =
    IsPermissionAnswered old transport ip now (Err error) new × (error ≢ not_permitted.NoMemory)
IsPermissionReported _ transport ip old now new = ⊥

-- `create_permissions`. Out of memory is not a result.
abbrev pub ArePermissionsAnsweredAs : Answer → TransportType → List IpAddr → Protocol → ℕ → Protocol → Type 0
ArePermissionsAnsweredAs answer.Done transport ips old now new =
    ArePermissionsAnswered old transport ips now (Ok tt) new
ArePermissionsAnsweredAs (answer.Refused (PermissionsRefused error)) transport ips old now new =
    ArePermissionsAnswered old transport ips now (Err error) new
    × (error ≢ none_permitted.Refused not_permitted.NoMemory)
ArePermissionsAnsweredAs _ transport ips old now new = ⊥

-- `have_permission`.
abbrev pub IsHaveReported : Answer → TransportType → IpAddr → Protocol → Protocol → Type 0
IsHaveReported (answer.Have is) transport ip old new = (is ≡ has_permission transport ip old) × (new ≡ old)
IsHaveReported _ transport ip old new = ⊥

-- `permissions`.
abbrev pub ArePermissionsReported : Answer → TransportType → SocketAddr → Protocol → Protocol → Type 0
ArePermissionsReported (answer.Permissions list) transport relayed old new =
    (list.items ≡ permissions_of transport relayed old) × (new ≡ old)
ArePermissionsReported _ transport relayed old new = ⊥

-- `bind_channel`. Out of memory is not a result.
abbrev pub IsBindReported : Answer → TransportType → SocketAddr → Protocol → ℕ → Protocol → Type 0
IsBindReported answer.Done transport peer old now new = IsBindAnswered old transport peer now (Ok tt) new
IsBindReported (answer.Refused (BindRefused error)) transport peer old now new =
    IsBindAnswered old transport peer now (Err error) new × (error ≢ not_bound.NoMemory)
IsBindReported _ transport peer old now new = ⊥

-- `tcp_connect`. Out of memory is not a result.
abbrev pub IsConnectReported : Answer → SocketAddr → Protocol → ℕ → Protocol → Type 0
IsConnectReported answer.Done peer old now new = IsConnectAnswered old peer now (Ok tt) new
IsConnectReported (answer.Refused (ConnectRefused error)) peer old now new =
    IsConnectAnswered old peer now (Err error) new × (error ≢ not_connected.NoMemory)
IsConnectReported _ peer old now new = ⊥

-- `tcp_closed`.
abbrev pub IsClosedReported : Answer → (here there : SocketAddr) → Protocol → Protocol → Type 0
IsClosedReported answer.Done here there old new = new ≡ after_close here there old
IsClosedReported _ here there old new = ⊥

-- `connections`.
abbrev pub AreConnectionsReported : Answer → Protocol → Protocol → Type 0
AreConnectionsReported (answer.Connections list) old new = (list.items ≡ connections_of old) × (new ≡ old)
AreConnectionsReported _ old new = ⊥

-- `channels`.
abbrev pub AreChannelsReported : Answer → Protocol → Protocol → Type 0
AreChannelsReported (answer.Channels list) old new = (list.items ≡ channels_of old) × (new ≡ old)
AreChannelsReported _ old new = ⊥

-- `send_to`, with its bytes written. Out of memory is not a result.
abbrev pub IsSendReported : Answer → TransportType → SocketAddr → List ℕ → Protocol → ℕ → Protocol → Type 0
IsSendReported (answer.Transmit transmit) transport to bytes old now new =
    IsSendAnswered old transport to bytes now (Ok (Some (sent_of transmit))) new
IsSendReported (answer.Refused (SendRefused error)) transport to bytes old now new =
    IsSendAnswered old transport to bytes now (Err error) new × (error ≢ not_sent.NoMemory)
IsSendReported _ transport to bytes old now new = ⊥

-- `protocol_error`.
abbrev pub IsEndReported : Answer → Protocol → Protocol → Type 0
IsEndReported answer.Done old new = new ≡ ended old
IsEndReported _ old new = ⊥

-- `relayed_addresses`.
abbrev pub IsRelayedReported : Answer → Protocol → Protocol → Type 0
IsRelayedReported (answer.Relayed list) old new = (list.items ≡ relayed_of old) × (new ≡ old)
IsRelayedReported _ old new = ⊥

-- A call of a client that leaves its stream unchanged, by its contract.
unfoldable pub IsCalled : ClientCall → Answer → Protocol → ℕ → Protocol → Type 0
IsCalled Poll answer old now new = IsPolledAs answer old now new
IsCalled PollEvent answer old now new = IsEventReported answer old new
IsCalled Delete answer old now new = IsDeleteReported answer old now new
IsCalled (CreatePermission transport ip) answer old now new = IsPermissionReported answer transport ip old now new
IsCalled (CreatePermissions transport ips) answer old now new =
    ArePermissionsAnsweredAs answer transport ips.items old now new
IsCalled (HavePermission transport ip) answer old now new = IsHaveReported answer transport ip old new
IsCalled (Permissions transport relayed) answer old now new = ArePermissionsReported answer transport relayed old new
IsCalled (BindChannel transport peer) answer old now new = IsBindReported answer transport peer old now new
IsCalled (TcpConnect peer) answer old now new = IsConnectReported answer peer old now new
IsCalled (AllocatedTcpSocket connection peer here) answer old now new = ⊥
IsCalled (TcpClosed here there) answer old now new = IsClosedReported answer here there old new
IsCalled Connections answer old now new = AreConnectionsReported answer old new
IsCalled Channels answer old now new = AreChannelsReported answer old new
IsCalled (SendTo transport to bytes) answer old now new = IsSendReported answer transport to bytes.items old now new
IsCalled PollRecv answer old now new = ⊥
IsCalled ProtocolError answer old now new = IsEndReported answer old new
IsCalled RelayedAddresses answer old now new = IsRelayedReported answer old new

-- `poll_recv`. Out of memory is not a result.
abbrev pub IsWaitingReported : Answer → ClientState → ℕ → ClientState → Type 0
IsWaitingReported (answer.Peer given) old now new = IsWaitingGiven old now (Some given) new
IsWaitingReported answer.Nothing old now new = IsWaitingGiven old now None new
IsWaitingReported _ old now new = ⊥

-- The five-tuple of the client's own connection to the server.
abbrev pub own_tuple : Protocol → Socket5Tuple
own_tuple p = record { transport = p.agent.transport; from = p.agent.here; to = p.server }

-- `allocated_tcp_socket` with that five-tuple. Out of memory is not a result.
abbrev pub IsSocketTaken : Answer → (connection : ℕ) → SocketAddr → Option SocketAddr → ClientState → ℕ → ClientState → Type 0
IsSocketTaken answer.Done connection peer here old now new =
    IsSocketReported old connection (own_tuple old.core) peer here now (Ok tt) new
IsSocketTaken (answer.Refused (SocketRefused error)) connection peer here old now new =
    IsSocketReported old connection (own_tuple old.core) peer here now (Err error) new × (error ≢ not_taken.NoMemory)
IsSocketTaken _ connection peer here old now new = ⊥

-- A call of a client, by its contract.
unfoldable pub IsCallReported : ClientCall → Answer → ClientState → ℕ → ClientState → Type 0
IsCallReported PollRecv answer old now new = IsWaitingReported answer old now new
IsCallReported (AllocatedTcpSocket connection peer here) answer old now new =
    IsSocketTaken answer connection peer here old now new
IsCallReported call answer old now new = Leaves (λ p q. IsCalled call answer p now q) old new

-- ---- what is sent, and what comes

-- `poll_transmit`, by its contract.
unfoldable pub IsTransmittedAs : Answer → Protocol → ℕ → Protocol → Type 0
IsTransmittedAs (answer.Transmit transmit) old now new = IsTransmitted old now (Some (sent_of transmit)) new
IsTransmittedAs answer.Nothing old now new = IsTransmitted old now None new
IsTransmittedAs _ old now new = ⊥

-- The event's result for what `recv` returns.
abbrev pub IsReported : TurnRecvRet (Bor (List ℕ)) → Answer → Type 0
IsReported recv.Handled answer.Handled = Unit {0}
IsReported (recv.Ignored came) answer.Ignored = Unit {0}
IsReported (recv.PeerData held) (answer.Peer owned) = owned ≡ record held { index = None }
IsReported (recv.PeerIcmp t p k c d) (answer.Icmp transport peer kind code report) =
    (transport ≡ t) × (peer ≡ p) × (kind ≡ k) × (code ≡ c) × (report ≡ d)
IsReported _ _ = ⊥

-- Bytes reached a client on its own transport, on any of its sockets: `recv`, by its contract.
pub record IsFed (answer : Answer) (old : ClientState) (bytes : List ℕ) (from to : SocketAddr) (now : ℕ)
    (new : ClientState) : Type 0 where
  pub are_bytes : AreBytes bytes
  pub came : Transmit (Bor (List ℕ))
  pub bytes_are : came.bytes.now ≡ bytes
  pub transport_is : came.transport ≡ old.core.agent.transport
  pub from_is : came.from ≡ from
  pub to_is : came.to ≡ to
  pub took : TurnRecvRet (Bor (List ℕ))
  pub received : IsReceived (λ (b : Bor (List ℕ)). b.now) old came now took new
  pub reported : IsReported took answer
