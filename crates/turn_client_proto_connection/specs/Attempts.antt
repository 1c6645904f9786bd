-- Connections that peers initiate (RFC 6062, section 4.4).
use Rattle.std.specs.Prelude.{ℕ, Bool, false, ◌||◌, List, [], ◌∷◌, ◌++◌, find, map, Option, Some, None, option_and_then, option_to_list}
use Rattle.std.specs.List.{list_any}
use Rattle.std.specs.declared.net.socket_addr.SocketAddr.{SocketAddr}
use Rattle.turn_client_proto_allocation.specs.Awaited.{is_attempt}
use Rattle.turn_client_proto_allocation.specs.Changes.{without_first}
use Rattle.turn_client_proto_allocation.specs.declared.allocation.Allocation.{Allocation}
use Rattle.turn_client_proto_allocation.specs.declared.connection.Waiting.{Waiting}
use Rattle.turn_client_proto_connection.specs.Asking.{is_joined_to, is_waiting_for}
use Rattle.turn_client_proto_connection.specs.Reported.{waiting_for}
use Rattle.turn_client_proto_connection.specs.Sockets.{awaits_socket, is_socket_for}

-- The allocation has a data connection to the peer or one that waits for a socket. An outstanding CONNECT
-- does not count: it does not prevent a connection that the peer initiates.
unfoldable pub is_joining : SocketAddr → Allocation → Bool
is_joining peer a = list_any (is_joined_to peer) a.connections || list_any (is_waiting_for peer) a.waiting

-- A connection that a peer initiated and the server announced by a CONNECTION_ATTEMPT request. Its socket is not
-- requested from the caller yet.
abbrev pub attempt_by : (connection : ℕ) → SocketAddr → (transaction_id : ℕ) → Waiting
attempt_by connection peer transaction_id = record { connection = connection; peer = peer; is_requested = false; attempt = Some transaction_id }

-- The allocation with one more of these.
abbrev pub attempted : (connection : ℕ) → SocketAddr → (transaction_id : ℕ) → Allocation → Allocation
attempted connection peer transaction_id a = record a { waiting = a.waiting ++ attempt_by connection peer transaction_id ∷ [] }

-- The allocation with one more that an indication announced: no response to it is due.
abbrev pub offered : (connection : ℕ) → SocketAddr → Allocation → Allocation
offered connection peer a = record a { waiting = a.waiting ++ waiting_for connection peer ∷ [] }

-- The transaction ID of the CONNECTION_ATTEMPT request that announced the waiting connection with this connection
-- ID to this peer, or `None` if the client requested it or an indication announced it: in a list, in an
-- allocation, and in all.
abbrev pub attempt_among : (connection : ℕ) → SocketAddr → List Waiting → Option ℕ
attempt_among connection peer waiting = option_and_then (λ (w : Waiting). w.attempt) (find (is_socket_for connection peer) waiting)

abbrev pub attempt_in : (connection : ℕ) → SocketAddr → Allocation → Option ℕ
attempt_in connection peer a = attempt_among connection peer a.waiting

abbrev pub attempt_of : (connection : ℕ) → SocketAddr → List Allocation → Option ℕ
attempt_of connection peer allocations =
    option_and_then (attempt_in connection peer) (find (awaits_socket connection peer) allocations)

-- ---- a transaction that ended

-- The transaction that timed out has the transaction ID of the CONNECTION_ATTEMPT that announced the
-- connection.
abbrev pub is_lost : Option ℕ → Waiting → Bool
is_lost None w = false
is_lost (Some ended) w = is_attempt ended w

-- The peer of the first such connection, and the connections without it.
abbrev pub peers_lost : Option ℕ → List Waiting → List SocketAddr
peers_lost ended waiting = map (λ w. w.peer) (option_to_list (find (is_lost ended) waiting))

abbrev pub not_lost : Option ℕ → List Waiting → List Waiting
not_lost ended waiting = without_first (is_lost ended) waiting
