-- The text that is printed for a result.
use Rattle.std.specs.Prelude.{ℕ, List, [], ◌++◌, Bool, true, false, Option, Some, None, codes}
use Rattle.std.specs.Fmt.{decimal}
use Rattle.std.specs.List.{flat_map}
use Rattle.std.specs.Net.Text.{ip_text, socket_text}
use Rattle.std.specs.declared.net.ip_addr.IpAddr.{IpAddr}
use Rattle.std.specs.declared.net.socket_addr.SocketAddr.{SocketAddr}
use Rattle.line_io.specs.LowerHex.{hex_text}
use Rattle.stun_types_base.specs.Data.{data_bytes}
use Rattle.stun_types_base.specs.declared.family.AddressFamily.{AddressFamily}
use Rattle.stun_types_base.specs.declared.family.AddressFamily.TheVariants.{IPV4, IPV6}
use Rattle.stun_types_base.specs.declared.transport.TransportType.{TransportType}
use Rattle.stun_types_base.specs.declared.transport.TransportType.TheVariants.{Udp, Tcp}
use Rattle.turn_client_proto_api.specs.declared.cause.TurnCause.{TurnCause}
use Rattle.turn_client_proto_api.specs.declared.cause.TurnCause.TheVariants as Causes
use Rattle.turn_client_proto_api.specs.declared.error.BindChannelError.{BindChannelError}
use Rattle.turn_client_proto_api.specs.declared.error.BindChannelError.TheVariants as Binds
use Rattle.turn_client_proto_api.specs.declared.error.TcpAllocateError.{TcpAllocateError}
use Rattle.turn_client_proto_api.specs.declared.error.TcpAllocateError.TheVariants as Sockets
use Rattle.turn_client_proto_api.specs.declared.error.TcpConnectError.{TcpConnectError}
use Rattle.turn_client_proto_api.specs.declared.error.TcpConnectError.TheVariants as Connects
use Rattle.turn_client_proto_api.specs.declared.error.CreatePermissionError.{CreatePermissionError}
use Rattle.turn_client_proto_api.specs.declared.error.CreatePermissionError.TheVariants as Permits
use Rattle.turn_client_proto_api.specs.declared.error.CreatePermissionsError.{CreatePermissionsError}
use Rattle.turn_client_proto_api.specs.declared.error.CreatePermissionsError.TheVariants as Several
use Rattle.turn_client_proto_api.specs.declared.error.DeleteError.{DeleteError}
use Rattle.turn_client_proto_api.specs.declared.error.DeleteError.TheVariants as Deletes
use Rattle.turn_client_proto_api.specs.declared.error.SendError.{SendError}
use Rattle.turn_client_proto_api.specs.declared.error.SendError.TheVariants as Sends
use Rattle.turn_client_proto_api.specs.declared.event.TurnEvent.{TurnEvent}
use Rattle.turn_client_proto_api.specs.declared.event.TurnEvent.TheVariants as Events
use Rattle.turn_desk_event.specs.declared.answer.Answer.{Answer}
use Rattle.turn_desk_event.specs.declared.answer.Answer.TheVariants as Answers
use Rattle.turn_desk_event.specs.declared.answer.Refusal.{Refusal}
use Rattle.turn_desk_event.specs.declared.answer.Refusal.TheVariants.{BindChannel, CreatePermission, CreatePermissions, Delete, Send, TcpAllocate, TcpConnect}

-- The word for a transport.
abbrev pub transport_word : TransportType → List ℕ
transport_word Udp = codes "udp"
transport_word Tcp = codes "tcp"

-- The word for an address family.
abbrev pub family_word : AddressFamily → List ℕ
family_word IPV4 = codes "4"
family_word IPV6 = codes "6"

-- A transport and an address, separated by a space.
abbrev pub placed_text : TransportType → List ℕ → List ℕ
placed_text transport address = transport_word transport ++ codes " " ++ address

-- An event that a client reports: its name and its values.
abbrev pub event_text : TurnEvent → List ℕ
event_text (Events.AllocationCreated t a) = codes "AllocationCreated " ++ placed_text t (socket_text a)
event_text (Events.AllocationCreateFailed family) = codes "AllocationCreateFailed " ++ family_word family
event_text (Events.PermissionCreated t ip) = codes "PermissionCreated " ++ placed_text t (ip_text ip)
event_text (Events.PermissionCreateFailed t ip) = codes "PermissionCreateFailed " ++ placed_text t (ip_text ip)
event_text (Events.ChannelCreated t a) = codes "ChannelCreated " ++ placed_text t (socket_text a)
event_text (Events.ChannelCreateFailed t a) = codes "ChannelCreateFailed " ++ placed_text t (socket_text a)
event_text (Events.TcpConnected a) = codes "TcpConnected " ++ socket_text a
event_text (Events.TcpConnectFailed a) = codes "TcpConnectFailed " ++ socket_text a

-- The name of a `DeleteError`.
abbrev pub delete_error_text : DeleteError → List ℕ
delete_error_text Deletes.NoAllocation = codes "NoAllocation"
delete_error_text Deletes.NoMemory = codes "NoMemory"

-- The name of a `CreatePermissionError`.
abbrev pub permission_error_text : CreatePermissionError → List ℕ
permission_error_text Permits.AlreadyExists = codes "AlreadyExists"
permission_error_text Permits.NoAllocation = codes "NoAllocation"
permission_error_text Permits.NoMemory = codes "NoMemory"

-- The name of a `CreatePermissionsError`; of `Refused`, that of its reason.
abbrev pub permissions_error_text : CreatePermissionsError → List ℕ
permissions_error_text Several.InvalidAddresses = codes "InvalidAddresses"
permissions_error_text (Several.Refused error) = permission_error_text error

-- The name of a `BindChannelError`. For an expired channel it is followed by the time until which no channel
-- can be bound to that peer, that time included.
abbrev pub bind_error_text : BindChannelError → List ℕ
bind_error_text Binds.AlreadyExists = codes "AlreadyExists"
bind_error_text (Binds.ExpiredChannelExists until) = codes "ExpiredChannelExists " ++ decimal until
bind_error_text Binds.NoAllocation = codes "NoAllocation"
bind_error_text Binds.NoChannel = codes "NoChannel"
bind_error_text Binds.NoMemory = codes "NoMemory"

-- The name of a `TcpConnectError`.
abbrev pub connect_error_text : TcpConnectError → List ℕ
connect_error_text Connects.AlreadyExists = codes "AlreadyExists"
connect_error_text Connects.NoAllocation = codes "NoAllocation"
connect_error_text Connects.NoPermission = codes "NoPermission"
connect_error_text Connects.NoMemory = codes "NoMemory"

-- The name of a `TcpAllocateError`.
abbrev pub socket_error_text : TcpAllocateError → List ℕ
socket_error_text Sockets.AlreadyExists = codes "AlreadyExists"
socket_error_text Sockets.NoAllocation = codes "NoAllocation"
socket_error_text Sockets.NoMemory = codes "NoMemory"

-- The name of a `SendError`.
abbrev pub send_error_text : SendError → List ℕ
send_error_text Sends.NoAllocation = codes "NoAllocation"
send_error_text Sends.NoPermission = codes "NoPermission"
send_error_text Sends.NoTcpSocket = codes "NoTcpSocket"
send_error_text Sends.TooLarge = codes "TooLarge"
send_error_text Sends.NoMemory = codes "NoMemory"

-- The reason why a client refuses a call.
abbrev pub refusal_text : Refusal → List ℕ
refusal_text (Delete error) = delete_error_text error
refusal_text (CreatePermission error) = permission_error_text error
refusal_text (CreatePermissions error) = permissions_error_text error
refusal_text (BindChannel error) = bind_error_text error
refusal_text (TcpConnect error) = connect_error_text error
refusal_text (TcpAllocate error) = socket_error_text error
refusal_text (Send error) = send_error_text error

-- The word for whether a permission is active.
abbrev pub have_text : Bool → List ℕ
have_text true = codes "yes"
have_text false = codes "no"

-- A relayed address with its transport, after a space.
abbrev pub relayed_text : TransportType × SocketAddr → List ℕ
relayed_text relayed = codes " " ++ placed_text relayed.0 (socket_text relayed.1)

-- An IP address, after a space.
abbrev pub permitted_text : IpAddr → List ℕ
permitted_text ip = codes " " ++ ip_text ip

-- A channel's number and its peer, each after a space.
abbrev pub channel_text : ℕ × SocketAddr → List ℕ
channel_text channel = codes " " ++ decimal channel.0 ++ codes " " ++ socket_text channel.1

-- The word for whether a connection is bound.
abbrev pub bound_text : Bool → List ℕ
bound_text true = codes "bound"
bound_text false = codes "waiting"

-- A connection's local address, its peer, its ID and whether it is bound, each after a space.
abbrev pub connection_text : SocketAddr × SocketAddr × ℕ × Bool → List ℕ
connection_text c = codes " " ++ socket_text c.0 ++ codes " " ++ socket_text c.1 ++ codes " " ++ decimal c.2
    ++ codes " " ++ bound_text c.3

-- Two addresses, separated by a space.
abbrev pub between_text : SocketAddr → SocketAddr → List ℕ
between_text from to = socket_text from ++ codes " " ++ socket_text to

-- The type, code and data of an ICMP message.
abbrev pub icmp_text : ℕ → ℕ → ℕ → List ℕ
icmp_text type code content = decimal type ++ codes " " ++ decimal code ++ codes " " ++ decimal content

-- The text for a result, without the line feed.
abbrev pub answer_words : Answer → List ℕ
answer_words (Answers.Reply reply) = codes "reply " ++ hex_text reply.items
answer_words Answers.Nothing = codes "none"
answer_words (Answers.Transmit t) =
    codes "transmit " ++ between_text t.from t.to ++ codes " " ++ hex_text (data_bytes t.bytes)
answer_words Answers.Handled = codes "handled"
answer_words Answers.Ignored = codes "ignored"
answer_words (Answers.Peer p) =
    codes "peer " ++ placed_text p.transport (socket_text p.peer) ++ codes " " ++ hex_text p.payload
answer_words (Answers.Icmp transport peer type code content) =
    codes "icmp " ++ placed_text transport (socket_text peer) ++ codes " " ++ icmp_text type code content
answer_words (Answers.Wait time) = codes "wait " ++ decimal time
answer_words (Answers.Socket id socket peer) =
    codes "socket " ++ decimal id ++ codes " " ++ between_text socket.from socket.to ++ codes " " ++ socket_text peer
answer_words (Answers.Close local remote) = codes "close " ++ between_text local remote
answer_words Answers.Closed = codes "closed"
answer_words (Answers.Event event) = codes "event " ++ event_text event
answer_words Answers.Done = codes "ok"
answer_words (Answers.Refused refusal) = codes "refused " ++ refusal_text refusal
answer_words (Answers.Have occurs) = have_text occurs
answer_words (Answers.Relayed list) = codes "relayed" ++ flat_map relayed_text list.items
answer_words (Answers.Permissions list) = codes "permissions" ++ flat_map permitted_text list.items
answer_words (Answers.Channels list) = codes "channels" ++ flat_map channel_text list.items
answer_words (Answers.Connections list) = codes "connections" ++ flat_map connection_text list.items
answer_words Answers.OutOfRange = codes "out of range"

-- The line for a result.
abbrev pub answer_text : Answer → List ℕ
answer_text answer = answer_words answer ++ codes "\n"

-- ---- what is seen of a client

-- The word for whether a response was signed.
abbrev pub signed_text : Bool → List ℕ
signed_text true = codes "signed"
signed_text false = codes "unsigned"

-- Why something failed or ended. A rejection has its code, whether the response was signed, and its reason
-- phrase in hex.
abbrev pub cause_text : TurnCause → List ℕ
cause_text (Causes.Rejected code reason is_signed) = codes "rejected " ++ decimal code ++ codes " "
    ++ signed_text is_signed ++ codes " " ++ hex_text reason
cause_text Causes.Unanswered = codes "unanswered"
cause_text Causes.Integrity = codes "integrity"
cause_text Causes.NoCommonAlgorithm = codes "no-algorithm"
cause_text Causes.OtherFamily = codes "other-family"
cause_text Causes.OutOfMemory = codes "no-memory"
cause_text Causes.Deleted = codes "deleted"
cause_text Causes.Expired = codes "expired"
cause_text Causes.SocketClosed = codes "socket-closed"
cause_text Causes.Unusable = codes "unusable"

-- The line for the cause of the event that was reported last.
abbrev pub cause_line : Option TurnCause → List ℕ
cause_line None = codes "cause none\n"
cause_line (Some cause) = codes "cause " ++ cause_text cause ++ codes "\n"

-- An address, or `none`.
abbrev pub address_text : Option SocketAddr → List ℕ
address_text None = codes "none"
address_text (Some address) = socket_text address

-- The line for the client's address as the server saw it.
abbrev pub mapped_line : Option SocketAddr → List ℕ
mapped_line mapped = codes "mapped " ++ address_text mapped ++ codes "\n"

-- A domain in hex, or `-` if there is none.
abbrev pub domain_text : Option (List ℕ) → List ℕ
domain_text None = codes "-"
domain_text (Some domain) = hex_text domain

-- The line for the server that the client was redirected to, and its domain.
abbrev pub alternate_line : Option SocketAddr → Option (List ℕ) → List ℕ
alternate_line server domain = codes "alternate " ++ address_text server ++ codes " " ++ domain_text domain
    ++ codes "\n"
