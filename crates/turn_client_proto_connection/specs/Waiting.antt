-- Connections for which the caller is to open a socket (RFC 6062, section 4.3).
use Rattle.std.specs.Prelude.{Bool, true, not, List, find, Option}
use Rattle.std.specs.List.{list_any}
use Rattle.std.specs.Option.{option_and_then}
use Rattle.turn_client_proto_allocation.specs.Changes.{change_first}
use Rattle.turn_client_proto_allocation.specs.declared.allocation.Allocation.{Allocation}
use Rattle.turn_client_proto_allocation.specs.declared.connection.Waiting.{Waiting}

-- The socket of the connection is not requested from the caller yet.
abbrev pub is_unasked : Waiting → Bool
is_unasked w = not w.is_requested

-- The first such connection of the allocation.
abbrev pub unasked_of : Allocation → Option Waiting
unasked_of a = find is_unasked a.waiting

abbrev pub has_unasked : Allocation → Bool
has_unasked a = list_any is_unasked a.waiting

-- The first such connection of all allocations.
abbrev pub unasked : List Allocation → Option Waiting
unasked allocations = option_and_then unasked_of (find has_unasked allocations)

-- The connection with its socket requested. Then the allocation, and all allocations, after this was done to
-- the first connection whose socket was not requested yet.
abbrev pub requested : Waiting → Waiting
requested w = record w { is_requested = true }

abbrev pub requested_in : Allocation → Allocation
requested_in a = record a { waiting = change_first is_unasked requested a.waiting }

abbrev pub all_requested : List Allocation → List Allocation
all_requested allocations = change_first has_unasked requested_in allocations
