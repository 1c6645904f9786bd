-- The allocations that `poll` removes because their time is over (RFC 8656, section 6).
use Rattle.std.specs.Prelude.{Bool, not, List, [], ◌∷◌, filter}
use Rattle.std.specs.List.{list_any}
use Rattle.std.specs.declared.net.socket_addr.SocketAddr.{SocketAddr}
use Rattle.turn_client_proto_allocation.specs.Same.{is_same_address}
use Rattle.turn_client_proto_allocation.specs.declared.allocation.Allocation.{Allocation}
use Rattle.turn_client_proto_api.specs.Expired.{pushed}
use Rattle.turn_client_proto_api.specs.declared.expired.AllocationExpired.{AllocationExpired}

-- What a user is told of an allocation when its time is over.
abbrev pub reported_of : Allocation → AllocationExpired
reported_of a = record { transport = a.transport; relayed = a.address }

-- One of the allocations has this relayed address.
abbrev pub is_held : SocketAddr → List Allocation → Bool
is_held relayed allocations = list_any (λ (a : Allocation). is_same_address a.address relayed) allocations

-- None of the allocations has the relayed address any more.
abbrev pub is_gone : List Allocation → AllocationExpired → Bool
is_gone left expired = not (is_held expired.relayed left)

-- Those of the allocations that were there before, whose relayed address none has afterwards.
abbrev pub gone_of : (held : List AllocationExpired) → (left : List Allocation) → List AllocationExpired
gone_of held left = filter (is_gone left) held

-- The list with these added, one after another.
abbrev pub pushed_all : List AllocationExpired → List AllocationExpired → List AllocationExpired
pushed_all [] allocations = allocations
pushed_all (first ∷ others) allocations = pushed_all others (pushed first allocations)
