-- Which requests of a client are outstanding, by their transaction IDs (RFC 8489, section 6).
use Rattle.std.specs.Prelude.{ℕ, ◌==◌, Bool, ◌||◌, false, List, Option, Some, None}
use Rattle.std.specs.List.{list_any}
use Rattle.turn_client_proto_allocation.specs.declared.allocation.Allocation.{Allocation}
use Rattle.turn_client_proto_allocation.specs.declared.channel.Channel.{Channel}
use Rattle.turn_client_proto_allocation.specs.declared.channel.PendingChannel.{PendingChannel}
use Rattle.turn_client_proto_allocation.specs.declared.connection.Binding.{Binding}
use Rattle.turn_client_proto_allocation.specs.declared.connection.Connecting.{Connecting}
use Rattle.turn_client_proto_allocation.specs.declared.connection.Connection.{Connection}
use Rattle.turn_client_proto_allocation.specs.declared.connection.Waiting.{Waiting}
use Rattle.turn_client_proto_allocation.specs.declared.permission.PendingPermission.{PendingPermission}
use Rattle.turn_client_proto_allocation.specs.declared.permission.Permission.{Permission}
use Rattle.turn_client_proto_allocation.specs.declared.refresh.PendingRefresh.{PendingRefresh}

-- The transaction ID is in the list.
abbrev pub has_number : ℕ → List ℕ → Bool
has_number transaction_id numbers = list_any (λ n. n == transaction_id) numbers

-- A transaction has ended (timed out) and its ID is in the list.
abbrev pub is_among : Option ℕ → List ℕ → Bool
is_among None numbers = false
is_among (Some transaction_id) numbers = has_number transaction_id numbers

abbrev pub renews_permission : ℕ → Permission → Bool
renews_permission transaction_id p = has_number transaction_id p.renewals

abbrev pub asks_for_permission : ℕ → PendingPermission → Bool
asks_for_permission transaction_id p = has_number transaction_id p.numbers

abbrev pub renews_channel : ℕ → Channel → Bool
renews_channel transaction_id c = has_number transaction_id c.renewals

abbrev pub asks_for_channel : ℕ → PendingChannel → Bool
asks_for_channel transaction_id c = has_number transaction_id c.numbers

abbrev pub is_refresh : ℕ → PendingRefresh → Bool
is_refresh transaction_id r = r.number == transaction_id

abbrev pub is_connecting : ℕ → Connecting → Bool
is_connecting transaction_id c = c.number == transaction_id

-- There is a transaction ID, and it is `transaction_id`.
abbrev pub is_number : ℕ → Option ℕ → Bool
is_number transaction_id None = false
is_number transaction_id (Some n) = n == transaction_id

abbrev pub is_attempt : ℕ → Waiting → Bool
is_attempt transaction_id w = is_number transaction_id w.attempt

-- A CONNECTION_BIND with this transaction ID is outstanding.
abbrev pub is_bound_by : ℕ → Option Binding → Bool
is_bound_by transaction_id None = false
is_bound_by transaction_id (Some b) = b.number == transaction_id

abbrev pub is_binding : ℕ → Connection → Bool
is_binding transaction_id c = is_bound_by transaction_id c.awaited

-- The transaction ID is that of a request of the allocation that the server has not answered, or of a request
-- of the server that the client has not answered.
unfoldable pub is_awaited : ℕ → Allocation → Bool
is_awaited transaction_id a =
    list_any (renews_permission transaction_id) a.permissions
    || (list_any (renews_channel transaction_id) a.channels
    || (list_any (asks_for_permission transaction_id) a.pending_permissions
    || (list_any (asks_for_channel transaction_id) a.pending_channels
    || (list_any (is_refresh transaction_id) a.pending_refreshes
    || (list_any (is_connecting transaction_id) a.connecting
    || (list_any (is_attempt transaction_id) a.waiting
    || list_any (is_binding transaction_id) a.connections))))))
