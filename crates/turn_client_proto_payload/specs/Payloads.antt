-- What a client delivers of the bytes from the server (RFC 8656, sections 11.4, 11.6 and 12.6).
use Rattle.std.specs.Prelude.{ℕ, ◌+◌, ◌&&◌, is_none, is_some, List, find, length, Option, Some, None, option_and_then, option_map, if◌then◌else◌}
use Rattle.std.specs.Option.{option_or}
use Rattle.std.specs.declared.net.ip_addr.IpAddr.{IpAddr}
use Rattle.std.specs.declared.net.socket_addr.SocketAddr.{SocketAddr}
use Rattle.std.specs.Net.Socket.{socket_ip}
use Rattle.stun_types_wire.specs.Grammar.{refusal}
use Rattle.stun_types_base.specs.declared.transport.TransportType.{TransportType}
use Rattle.turn_types_frame.specs.ChannelFrames.{Frame, channel_refusal, frame_at}
use Rattle.turn_types_attributes.specs.TurnRegistry.{channel_header_size}
use Rattle.turn_client_proto_allocation.specs.declared.allocation.Allocation.{Allocation}
use Rattle.turn_client_proto_peers.specs.Channel.Numbers.{is_numbered}
use Rattle.turn_client_proto_core.specs.Deleting.{is_authenticated}
use Rattle.turn_client_proto_core.specs.TurnRuns.Indications.{data_index, is_data, peer_reported, report_decoded}
use Rattle.turn_client_proto_allocation.specs.Permits.{permits}
use Rattle.turn_client_proto_core.specs.declared.protocol.Protocol.{Protocol}
use Rattle.turn_client_proto_payload.specs.declared.payload.Payload.{Payload}
use Rattle.turn_client_proto_payload.specs.declared.payload.Payload.TheVariants.{Data, Framed, Report}

-- ---- whom a client lets through

-- The transport of the first allocation with a permission for this address, whether or not it is marked as
-- expired.
abbrev pub permitted : IpAddr → List Allocation → Option TransportType
permitted ip allocations = option_map (λ a. a.transport) (find (permits ip) allocations)

-- The allocation's transport, and the peer of its first channel with this number.
abbrev pub bound_in : ℕ → Allocation → Option (TransportType × SocketAddr)
bound_in number a = option_map (λ c. (a.transport, c.peer)) (find (is_numbered number) a.channels)

-- The transport and the peer of the first channel with this number, in allocations marked as expired or not.
abbrev pub bound : ℕ → List Allocation → Option (TransportType × SocketAddr)
bound number allocations =
    option_and_then (bound_in number) (find (λ a. is_some (bound_in number a)) allocations)

-- ---- what an indication gives

-- The position of the data in the last DATA attribute, or if there is none the report of the last ICMP
-- attribute.
abbrev pub carried : List ℕ → TransportType → SocketAddr → Option Payload
carried bytes transport peer = option_or
    (option_map (λ index. Data transport peer index.0 index.1) (data_index bytes))
    (option_map (λ report. Report transport peer report) (report_decoded bytes))

-- The payload from a peer, if an allocation has a permission for its address.
abbrev pub carried_over : List ℕ → SocketAddr → Option TransportType → Option Payload
carried_over bytes peer None = None
carried_over bytes peer (Some transport) = carried bytes transport peer

-- The payload, if the indication names a peer.
abbrev pub carried_for : List Allocation → List ℕ → Option SocketAddr → Option Payload
carried_for allocations bytes None = None
carried_for allocations bytes (Some peer) = carried_over bytes peer (permitted (socket_ip peer) allocations)

-- What a message delivers. It delivers nothing unless the server has allocated and the client has not ended.
unfoldable pub payload_reported : Protocol → List ℕ → Option Payload
payload_reported p bytes = if is_authenticated p.phase && is_data bytes
    then carried_for p.allocations bytes (peer_reported bytes) else None

-- ---- what a channel frame gives

-- The data of a channel frame, which follows the header.
abbrev pub framed_by : Frame → TransportType × SocketAddr → Payload
framed_by frame to = Framed frame.id to.0 to.1 channel_header_size (channel_header_size + length frame.payload)

-- What a channel frame delivers, whatever the client's phase.
unfoldable pub payload_framed : Protocol → List ℕ → Option Payload
payload_framed p bytes = if is_none (channel_refusal bytes)
    then option_map (framed_by (frame_at bytes)) (bound (frame_at bytes).id p.allocations) else None

-- ---- what bytes give

-- What bytes deliver: they are a message, or else a channel frame.
unfoldable pub payload_of : Protocol → List ℕ → Option Payload
payload_of p bytes = if is_none (refusal bytes) then payload_reported p bytes else payload_framed p bytes
