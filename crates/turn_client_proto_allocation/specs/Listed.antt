-- The allocations of a client (RFC 8656, section 5).
use Rattle.std.specs.Prelude.{ℕ, Bool, not, List, map, filter}
use Rattle.std.specs.List.{list_any}
use Rattle.std.specs.declared.net.socket_addr.SocketAddr.{SocketAddr}
use Rattle.stun_types_base.specs.declared.transport.TransportType.{TransportType}
use Rattle.turn_client_proto_allocation.specs.Awaited.{is_awaited}
use Rattle.turn_client_proto_allocation.specs.declared.allocation.Allocation.{Allocation}

-- The transaction ID is that of a request of one of the allocations that the server has not answered, or of a
-- request of the server that the client has not answered.
abbrev pub is_any_awaited : ℕ → List Allocation → Bool
is_any_awaited transaction_id allocations = list_any (is_awaited transaction_id) allocations

-- The getters list the allocation: it is not marked as expired.
abbrev pub is_listed : Allocation → Bool
is_listed a = not a.is_expired

-- The relayed addresses that the getters list, with their transports.
abbrev pub relayed_listed : List Allocation → List (TransportType × SocketAddr)
relayed_listed allocations = map (λ (a : Allocation). (a.transport, a.address)) (filter is_listed allocations)
