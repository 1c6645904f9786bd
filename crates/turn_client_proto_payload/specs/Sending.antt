-- What carries bytes to a peer (RFC 8656, sections 11.1 and 12.5; RFC 6062, section 4.5).
use Rattle.std.specs.Prelude.{◌≡◌, ℕ, nat_le, nat_lt, not, is_none, is_some, ◌&&◌, Bool, List, find, length, Option, Some, None, option_and_then, option_map, Result, Ok, Err, if◌then◌else◌, MatchOption}
use Rattle.std.specs.List.{list_any}
use Rattle.std.specs.Net.Socket.{socket_ip}
use Rattle.std.specs.declared.net.socket_addr.SocketAddr.{SocketAddr}
use Rattle.stun_types_base.specs.declared.transport.TransportType.{TransportType}
use Rattle.stun_types_base.specs.declared.transport.TransportType.TheVariants.{Tcp, Udp}
use Rattle.turn_types_frame.specs.Channeled.{channeled_text}
use Rattle.turn_types_frame.specs.Indications.{indication_text}
use Rattle.turn_types_attributes.specs.TurnRegistry.{most_payload, send_method}
use Rattle.turn_types_frame.specs.declared.build.TransmitBuild.{TransmitBuild}
use Rattle.turn_client_proto_allocation.specs.declared.allocation.Allocation.{Allocation}
use Rattle.turn_client_proto_allocation.specs.declared.channel.Channel.{Channel}
use Rattle.turn_client_proto_allocation.specs.declared.connection.Connection.{Connection}
use Rattle.turn_client_proto_api.specs.Sends.{send_text}
use Rattle.turn_client_proto_api.specs.declared.error.SendError.{SendError}
use Rattle.turn_client_proto_api.specs.declared.error.SendError.TheVariants.{NoMemory, NoPermission, NoTcpSocket, TooLarge}
use Rattle.turn_client_proto_api.specs.declared.send.DelayedMessageOrChannelSend.{DelayedMessageOrChannelSend}
use Rattle.turn_client_proto_peers.specs.Channel.Binding.{is_to}
use Rattle.turn_client_proto_core.specs.Numbering.{AreAllTaken, IsNextNumber, after_number}
use Rattle.turn_client_proto_peers.specs.Permission.Asking.{permits_over}
use Rattle.turn_client_proto_allocation.specs.Same.{is_same_address, is_same_transport}
use Rattle.turn_client_proto_api.specs.StunProtoAgent.State.{is_tcp}
use Rattle.turn_client_proto_core.specs.declared.protocol.Protocol.{Protocol}
use Rattle.turn_client_proto_api.specs.Sent.{Sent}

-- ---- the way to a peer

-- The first channel to a peer in an allocation, if the allocation has this transport.
abbrev pub channel_in : TransportType → SocketAddr → Allocation → Option Channel
channel_in transport peer a = if is_same_transport a.transport transport then find (is_to peer) a.channels else None

-- The first channel to a peer in the allocations of this transport, marked as expired or not.
abbrev pub channel_to : TransportType → SocketAddr → List Allocation → Option Channel
channel_to transport peer allocations =
    option_and_then (channel_in transport peer) (find (λ a. is_some (channel_in transport peer a)) allocations)

-- That channel, if it hasn't expired.
abbrev pub standing : ℕ → Option Channel → Option Channel
standing now None = None
standing now (Some c) = if nat_le now c.expiry then Some c else None

-- The data connection is bound to this peer (RFC 6062, section 4.3).
abbrev pub is_bound_to : SocketAddr → Connection → Bool
is_bound_to peer c = is_same_address c.peer peer && is_none c.awaited

abbrev pub connection_in : TransportType → SocketAddr → Allocation → Option Connection
connection_in transport peer a =
    if is_same_transport a.transport transport then find (is_bound_to peer) a.connections else None

-- The first such connection in the allocations of this transport.
abbrev pub connection_to : TransportType → SocketAddr → List Allocation → Option Connection
connection_to transport peer allocations =
    option_and_then (connection_in transport peer) (find (λ a. is_some (connection_in transport peer a)) allocations)

-- ---- why nothing is sent

-- Why sending to a permitted peer is refused. Over TCP: no connection is bound to the peer. Over UDP: there
-- are too many bytes.
abbrev pub way_refusal : TransportType → Protocol → SocketAddr → List ℕ → Option SendError
way_refusal Tcp p to bytes = if is_none (connection_to Tcp to p.allocations) then Some NoTcpSocket else None
way_refusal Udp p to bytes = if nat_lt most_payload (length bytes) then Some TooLarge else None

-- Why sending is refused: the first reason that applies, in this order.
unfoldable pub send_refusal : TransportType → Protocol → SocketAddr → List ℕ → Option SendError
send_refusal transport p to bytes =
    if not (list_any (permits_over transport (socket_ip to)) p.allocations) then Some NoPermission
    else way_refusal transport p to bytes

-- ---- what is sent

-- Bytes that are sent on the control connection, by its transport and between its addresses.
abbrev pub by_control : Protocol → List ℕ → Sent
by_control p bytes = record { bytes = bytes; transport = p.agent.transport; from = p.agent.here; to = p.server }

-- A channel frame, which is padded in a stream.
abbrev pub frame_of : Protocol → Channel → List ℕ → List ℕ
frame_of p c bytes =
    channeled_text (record { frame = record { id = c.number; payload = bytes }; padded = is_tcp p.agent.transport })

-- A SEND indication to a peer, with this transaction ID.
abbrev pub indication_to : SocketAddr → ℕ → List ℕ → List ℕ
indication_to to number bytes =
    indication_text (record { method = send_method; peer = to; number = number; payload = bytes })

-- The result of `send_to`, as bytes.
abbrev pub Answer : Type 0
Answer = Result (Option Sent) SendError

-- An indication is sent with the next transaction ID. If all of them are in use, the result is `NoMemory`.
pub data IsIndicated (old : Protocol) (to : SocketAddr) (bytes : List ℕ) (answer : Answer) : Type 0 where
  Numbered : (number : ℕ) → IsNextNumber old number
      → answer ≡ Ok (Some (by_control old (indication_to to number bytes)))
      → IsIndicated old to bytes answer
  Full : AreAllTaken old → answer ≡ Err NoMemory → IsIndicated old to bytes answer

-- Over UDP, bytes are sent by the first channel to the peer if it hasn't expired, else by an indication.
abbrev pub IsSentBy : Option Channel → Protocol → SocketAddr → List ℕ → Answer → Protocol → Type 0
IsSentBy None old to bytes answer new = IsIndicated old to bytes answer × (new ≡ after_number old)
IsSentBy (Some c) old to bytes answer new = (answer ≡ Ok (Some (by_control old (frame_of old c bytes)))) × (new ≡ old)

-- Over TCP, bytes are sent as they are, on the first connection that is bound to the peer.
abbrev pub IsPassedOn : Option Connection → Protocol → List ℕ → Answer → Protocol → Type 0
IsPassedOn None old bytes answer new = ⊥
IsPassedOn (Some c) old bytes answer new =
    (answer ≡ Ok (Some (record { bytes = bytes; transport = Tcp; from = c.here; to = old.server }))) × (new ≡ old)

abbrev pub IsSentOver : TransportType → Protocol → SocketAddr → List ℕ → ℕ → Answer → Protocol → Type 0
IsSentOver Tcp old to bytes now answer new = IsPassedOn (connection_to Tcp to old.allocations) old bytes answer new
IsSentOver Udp old to bytes now answer new =
    IsSentBy (standing now (channel_to Udp to old.allocations)) old to bytes answer new

-- The result of `send_to` at `now`, and the client's state afterwards.
abbrev pub IsSendAnswered : Protocol → TransportType → SocketAddr → List ℕ → ℕ → Answer → Protocol → Type 0
IsSendAnswered old transport to bytes now answer new = MatchOption (send_refusal transport old to bytes)
    (IsSentOver transport old to bytes now answer new)
    (λ error. (answer ≡ Err error) × (new ≡ old))

-- ---- as a caller gets it, before its bytes are written

abbrev pub written_as : {T : Type 0} → (T → List ℕ) → TransmitBuild (DelayedMessageOrChannelSend T) → Sent
written_as items t = record { bytes = send_text items t.bytes; transport = t.transport; from = t.from; to = t.to }

abbrev pub answered_as : {T : Type 0} → (T → List ℕ)
    → Result (Option (TransmitBuild (DelayedMessageOrChannelSend T))) SendError → Answer
answered_as items (Ok sent) = Ok (option_map (written_as items) sent)
answered_as items (Err error) = Err error
