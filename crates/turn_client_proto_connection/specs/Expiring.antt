-- Connections that are not bound in time (RFC 6062, section 4.3).
use Rattle.std.specs.Prelude.{ℕ, ◌==◌, nat_lt, Bool, false, not, ◌||◌, List, filter, fold, map, Option, Some, None}
use Rattle.std.specs.List.{filter_map, flat_map}
use Rattle.std.specs.Option.{option_map}
use Rattle.std.specs.declared.net.socket_addr.SocketAddr.{SocketAddr}
use Rattle.turn_client_proto_allocation.specs.Polling.{earlier}
use Rattle.turn_client_proto_allocation.specs.declared.allocation.Allocation.{Allocation}
use Rattle.turn_client_proto_allocation.specs.declared.connection.Binding.{Binding}
use Rattle.turn_client_proto_allocation.specs.declared.connection.Connection.{Connection}
use Rattle.turn_client_proto_connection.specs.Attempts.{not_lost}
use Rattle.turn_client_proto_connection.specs.Reported.{given_up}

-- The transaction that timed out has this transaction ID.
abbrev pub is_ended : Option ℕ → ℕ → Bool
is_ended None transaction_id = false
is_ended (Some ended) transaction_id = transaction_id == ended

-- The connection is not bound, and its CONNECTION_BIND timed out or its deadline has passed.
abbrev pub is_unanswered : Option ℕ → ℕ → Option Binding → Bool
is_unanswered ended now None = false
is_unanswered ended now (Some b) = is_ended ended b.number || nat_lt b.expiry now

abbrev pub has_gone : Option ℕ → ℕ → Connection → Bool
has_gone ended now c = is_unanswered ended now c.awaited

-- The peers of these connections, and their own addresses.
abbrev pub peers_gone : Option ℕ → ℕ → List Connection → List SocketAddr
peers_gone ended now connections = map (λ c. c.peer) (filter (has_gone ended now) connections)

abbrev pub sockets_gone : Option ℕ → ℕ → List Connection → List SocketAddr
sockets_gone ended now connections = map (λ c. c.here) (filter (has_gone ended now) connections)

-- The own addresses of these connections, of all allocations.
abbrev pub all_gone : Option ℕ → ℕ → List Allocation → List SocketAddr
all_gone ended now allocations = flat_map (λ (a : Allocation). sockets_gone ended now a.connections) allocations

-- The connections without these.
abbrev pub not_gone : Option ℕ → ℕ → List Connection → List Connection
not_gone ended now connections = filter (λ c. not (has_gone ended now c)) connections

-- The allocation after a poll: without these connections, without the CONNECT that timed out, and without the
-- first waiting connection that was announced by a CONNECTION_ATTEMPT with the transaction ID `ended`.
unfoldable pub polled : Option ℕ → ℕ → Allocation → Allocation
polled ended now a = record (given_up ended a) {
  connections = not_gone ended now a.connections;
  waiting = not_lost ended a.waiting;
}

-- ---- when

-- The deadline of a connection that is not bound.
abbrev pub next_of : Connection → Option ℕ
next_of c = option_map (λ b. b.expiry) c.awaited

abbrev pub nexts : List Connection → List ℕ
nexts connections = filter_map next_of connections

abbrev pub all_nexts : List Allocation → List ℕ
all_nexts allocations = flat_map (λ (a : Allocation). nexts a.connections) allocations

-- The earliest of `wait` and of the deadlines of the connections, computed one after another.
abbrev pub earlier_of : (wait : ℕ) → List Connection → ℕ
earlier_of wait connections = fold (λ w c. earlier w (next_of c)) wait connections
