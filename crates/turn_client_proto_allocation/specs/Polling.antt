-- Expiry of allocations (RFC 8656, section 8).
use Rattle.std.specs.Prelude.{ℕ, nat_lt, min, max, Bool, false, not, ◌||◌, ◌&&◌, List, [], filter, Option, Some, None, if◌then◌else◌}
use Rattle.std.specs.List.{filter_map, list_any}
use Rattle.turn_client_proto_allocation.specs.Awaited.{is_refresh}
use Rattle.turn_client_proto_allocation.specs.Refreshing.{is_settled, renewal}
use Rattle.turn_client_proto_allocation.specs.declared.allocation.Allocation.{Allocation}
use Rattle.turn_client_proto_allocation.specs.declared.refresh.PendingRefresh.{PendingRefresh}

-- The transaction that timed out is that of one of these requests.
abbrev pub has_ended : Option ℕ → List PendingRefresh → Bool
has_ended None refreshes = false
has_ended (Some transaction_id) refreshes = list_any (is_refresh transaction_id) refreshes

-- The allocation is retained: it has not expired; or it was marked as expired before, and a REFRESH is
-- outstanding that has not timed out.
unfoldable pub stays : Option ℕ → ℕ → Allocation → Bool
stays ended now a = nat_lt now a.expiry
    || (a.is_expired && (not (is_settled a.pending_refreshes) && not (has_ended ended a.pending_refreshes)))

-- The allocation after the transaction `ended` timed out: if it was a REFRESH of the allocation, the
-- allocation may be refreshed again.
unfoldable pub polled : Option ℕ → Allocation → Allocation
polled ended a = if has_ended ended a.pending_refreshes then record a { pending_refreshes = [] } else a

-- The next time at which a retained allocation has to be polled, if there is one: when it is to be refreshed,
-- but not before a request can be sent (`ready`), or when it expires.
unfoldable pub next_of : Option ℕ → ℕ → ℕ → Allocation → Option ℕ
next_of ended ready now a =
    if is_settled a.pending_refreshes then Some (max (renewal a) ready)
    else (if has_ended ended a.pending_refreshes then Some ready
    else (if nat_lt now a.expiry then Some a.expiry else None))

-- The earlier of `wait` and the time, or `wait` if there is no time.
abbrev pub earlier : ℕ → Option ℕ → ℕ
earlier wait None = wait
earlier wait (Some time) = min wait time

-- The allocations that are retained.
abbrev pub stored : Option ℕ → ℕ → List Allocation → List Allocation
stored ended now allocations = filter (stays ended now) allocations

-- The times at which one of the allocations has to be polled.
abbrev pub nexts : Option ℕ → ℕ → ℕ → List Allocation → List ℕ
nexts ended ready now allocations = filter_map (next_of ended ready now) allocations
