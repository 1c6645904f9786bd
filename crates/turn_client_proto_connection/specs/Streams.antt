-- Bytes that are received over the sockets of data connections (RFC 6062, sections 4.3 and 4.5).
use Rattle.std.specs.Prelude.{ℕ, ◌==◌, Bool, not, ◌&&◌, List, [], find, length, is_none, Option, option_and_then}
use Rattle.std.specs.List.{list_any}
use Rattle.std.specs.declared.net.socket_addr.SocketAddr.{SocketAddr}
use Rattle.turn_client_proto_allocation.specs.Changes.{change_first}
use Rattle.turn_types_frame.specs.Streams.{Stream, alive}
use Rattle.turn_client_proto_allocation.specs.declared.allocation.Allocation.{Allocation}
use Rattle.turn_client_proto_allocation.specs.declared.connection.Binding.{Binding}
use Rattle.turn_client_proto_allocation.specs.declared.connection.Connection.{Connection}
use Rattle.turn_client_proto_connection.specs.Sockets.{has_from, is_from}
use Rattle.turn_client_proto_connection.specs.declared.streams.Raw.{Raw}

-- ---- by own address

-- The first connection with this own address, of an allocation and of all allocations.
abbrev pub from_in : SocketAddr → Allocation → Option Connection
from_in here a = find (is_from here) a.connections

abbrev pub from : SocketAddr → List Allocation → Option Connection
from here allocations = option_and_then (from_in here) (find (has_from here) allocations)

-- A connection with its outstanding CONNECTION_BIND set; `None` means that it is bound. Then the allocation,
-- and all allocations, after this was done to the first connection with this own address.
abbrev pub awaiting : Option Binding → Connection → Connection
awaiting awaited c = record c { awaited = awaited }

abbrev pub waits_in : SocketAddr → Option Binding → Allocation → Allocation
waits_in here awaited a = record a { connections = change_first (is_from here) (awaiting awaited) a.connections }

abbrev pub waits_from : SocketAddr → Option Binding → List Allocation → List Allocation
waits_from here awaited allocations = change_first (has_from here) (waits_in here awaited) allocations

-- A connection with its stored bytes replaced. Then the allocation, and all allocations, after this was done
-- to the first connection with this own address.
abbrev pub with_stream : Stream → Connection → Connection
with_stream stream c = record c { stream = stream }

abbrev pub exchanged_in : SocketAddr → Stream → Allocation → Allocation
exchanged_in here stream a = record a { connections = change_first (is_from here) (with_stream stream) a.connections }

abbrev pub exchanged : SocketAddr → Stream → List Allocation → List Allocation
exchanged here stream allocations = change_first (has_from here) (exchanged_in here stream) allocations

-- ---- bytes of a peer that wait

-- The connection is bound and has stored data of its peer.
abbrev pub has_raw : Connection → Bool
has_raw c = is_none c.awaited && not (length c.stream.stored == 0)

abbrev pub is_any_raw : Allocation → Bool
is_any_raw a = list_any has_raw a.connections

-- The first such connection, of an allocation and of all allocations.
abbrev pub raw_in : Allocation → Option Connection
raw_in a = find has_raw a.connections

abbrev pub first_raw : List Allocation → Option Connection
first_raw allocations = option_and_then raw_in (find is_any_raw allocations)

-- The peer and its data, as they are stored in the connection and as they are returned.
abbrev pub raw_stored : Connection → SocketAddr × List ℕ
raw_stored c = (c.peer, c.stream.stored)

abbrev pub raw_of : Raw → SocketAddr × List ℕ
raw_of r = (r.peer, r.bytes.items)

-- The allocation, and all allocations, after the stored data of the first such connection was taken.
abbrev pub emptied_in : Allocation → Allocation
emptied_in a = record a { connections = change_first has_raw (with_stream (alive [])) a.connections }

abbrev pub emptied : List Allocation → List Allocation
emptied allocations = change_first is_any_raw emptied_in allocations
