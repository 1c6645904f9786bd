-- The effect of a response to a CONNECT on the connections, or of its timeout (RFC 6062, section 4.3).
use Rattle.std.specs.Prelude.{ℕ, Bool, true, false, not, List, [], ◌∷◌, ◌++◌, map, filter, Option, Some, None}
use Rattle.std.specs.declared.net.socket_addr.SocketAddr.{SocketAddr}
use Rattle.turn_client_proto_allocation.specs.Awaited.{is_connecting}
use Rattle.turn_client_proto_allocation.specs.Changes.{change_first}
use Rattle.turn_client_proto_allocation.specs.declared.allocation.Allocation.{Allocation}
use Rattle.turn_client_proto_allocation.specs.declared.connection.Connecting.{Connecting}
use Rattle.turn_client_proto_allocation.specs.declared.connection.Waiting.{Waiting}
use Rattle.turn_client_proto_allocation.specs.PendingRequests.{awaits_reply}
use Rattle.turn_client_proto_api.specs.declared.event.TurnEvent.{TurnEvent}
use Rattle.turn_client_proto_api.specs.declared.event.TurnEvent.TheVariants.{TcpConnectFailed}
use Rattle.turn_client_proto_allocation.specs.declared.pending.PendingRequest.{PendingRequest}
use Rattle.turn_client_proto_allocation.specs.declared.pending.PendingRequest.TheVariants.{NewConnection}

-- ---- a request that ended

-- The transaction that timed out is that of this CONNECT.
abbrev pub is_over : Option ℕ → Connecting → Bool
is_over None c = false
is_over (Some transaction_id) c = is_connecting transaction_id c

-- The peers of the CONNECTs that timed out.
abbrev pub peers_over : Option ℕ → List Connecting → List SocketAddr
peers_over ended all = map (λ c. c.peer) (filter (is_over ended) all)

-- The CONNECTs that did not time out.
abbrev pub not_over : Option ℕ → List Connecting → List Connecting
not_over ended all = filter (λ c. not (is_over ended c)) all

-- The allocation with these alone.
unfoldable pub given_up : Option ℕ → Allocation → Allocation
given_up ended a = record a { connecting = not_over ended a.connecting }

-- ---- a response

-- A connection to the peer with this connection ID. Its socket is not requested from the caller yet.
abbrev pub waiting_for : (connection : ℕ) → SocketAddr → Waiting
waiting_for connection peer = record { connection = connection; peer = peer; is_requested = false; attempt = None }

-- The allocation after the CONNECT with the `transaction_id` was granted, with this connection ID.
abbrev pub connected : (connection : ℕ) → SocketAddr → (transaction_id : ℕ) → Allocation → Allocation
connected connection peer transaction_id a = record a {
  connecting = not_over (Some transaction_id) a.connecting;
  waiting = a.waiting ++ waiting_for connection peer ∷ [];
}

-- The allocations after that: the first one that awaits the response gets the connection.
abbrev pub all_connected : (connection : ℕ) → SocketAddr → (transaction_id : ℕ) → List Allocation → List Allocation
all_connected connection peer transaction_id allocations =
    change_first (awaits_reply transaction_id) (connected connection peer transaction_id) allocations

-- The events for a response to a request: `TcpConnectFailed` if it is a CONNECT and the response has no
-- connection ID.
abbrev pub reported_of : Option PendingRequest → (connection : Option ℕ) → List TurnEvent
reported_of (Some (NewConnection peer)) None = TcpConnectFailed peer ∷ []
reported_of _ _ = []

-- The allocations after a response to the request with the `transaction_id`, by what it requested and
-- by the connection ID of the response.
abbrev pub answered : Option PendingRequest → (connection : Option ℕ) → (transaction_id : ℕ) → List Allocation → List Allocation
answered (Some (NewConnection peer)) (Some connection) transaction_id allocations = all_connected connection peer transaction_id allocations
answered (Some (NewConnection peer)) None transaction_id allocations = map (given_up (Some transaction_id)) allocations
answered _ _ transaction_id allocations = allocations

-- The request is a CONNECT.
abbrev pub is_connect : Option PendingRequest → Bool
is_connect (Some (NewConnection peer)) = true
is_connect _ = false
