-- Which allocations, channels and permissions are to be renewed at `now` (RFC 8656, sections 8.1, 10.1 and
-- 12.1).
use Rattle.std.specs.Prelude.{ℕ, Bool, List, find, is_some, Option, Some, if◌then◌else◌}
use Rattle.std.specs.Option.{option_and_then, option_map, option_or}
use Rattle.turn_client_proto_allocation.specs.Changes.{change_first}
use Rattle.turn_client_proto_allocation.specs.Refreshing.{refreshing, wants_refresh}
use Rattle.turn_client_proto_allocation.specs.declared.allocation.Allocation.{Allocation}
use Rattle.turn_client_proto_allocation.specs.declared.refresh.PendingRefresh.{PendingRefresh}
use Rattle.turn_client_proto_peers.specs.Channel.Wanting as channels
use Rattle.turn_client_proto_peers.specs.Permission.Wanting as permissions
use Rattle.turn_client_proto_timers.specs.declared.wanting.Want.{Want}
use Rattle.turn_client_proto_timers.specs.declared.wanting.Want.TheVariants.{Refresh, Channel, Permission}

-- The first channel of an allocation that is to be renewed; and below, the first permission that is.
abbrev pub channel_wanted : ℕ → Allocation → Option Want
channel_wanted now a = option_map (λ c. Channel c.0 c.1) (channels.renewal_wanted now a)

abbrev pub permission_wanted : ℕ → Allocation → Option Want
permission_wanted now a = option_map Permission (permissions.renewal_wanted now a)

-- What is to be sent for an allocation: first a REFRESH, then a CHANNEL_BIND, then a CREATE_PERMISSION.
unfoldable pub want : ℕ → Allocation → Option Want
want now a =
    if wants_refresh now a then Some Refresh else option_or (channel_wanted now a) (permission_wanted now a)

abbrev pub wants : ℕ → Allocation → Bool
wants now a = is_some (want now a)

-- What is to be sent for the first allocation for which something is.
abbrev pub wanted : ℕ → List Allocation → Option Want
wanted now allocations = option_and_then (want now) (find (wants now) allocations)

-- The allocations after that first one awaits the response to a REFRESH.
abbrev pub refreshed_first : ℕ → PendingRefresh → List Allocation → List Allocation
refreshed_first now refresh allocations = change_first (wants now) (refreshing refresh) allocations

-- The allocations after the request `transaction_id` renews the first permission that is due in that first
-- allocation.
abbrev pub renewal_first : (now transaction_id : ℕ) → List Allocation → List Allocation
renewal_first now transaction_id allocations = change_first (wants now) (permissions.renewing now transaction_id) allocations

-- The allocations after the request `transaction_id` renews the first channel that is due in that first allocation.
abbrev pub channel_renewal_first : (now transaction_id : ℕ) → List Allocation → List Allocation
channel_renewal_first now transaction_id allocations = change_first (wants now) (channels.renewing now transaction_id) allocations
