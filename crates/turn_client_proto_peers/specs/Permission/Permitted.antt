-- The effect of a success response to a CREATE_PERMISSION on the first allocation that awaits it (RFC 8656,
-- section 10.3).
use Rattle.std.specs.Prelude.{ℕ, List, find, Option}
use Rattle.std.specs.Option.{option_map}
use Rattle.std.specs.declared.net.ip_addr.IpAddr.{IpAddr}
use Rattle.turn_client_proto_allocation.specs.Awaited.{asks_for_permission}
use Rattle.turn_client_proto_allocation.specs.Changes.{change_first}
use Rattle.turn_client_proto_allocation.specs.declared.allocation.Allocation.{Allocation}
use Rattle.turn_client_proto_peers.specs.Permission.Granted.{permitted, permitted_all}
use Rattle.turn_client_proto_allocation.specs.PendingRequests.{awaits_reply}

-- The allocations after the first one that awaits the response to this request got permissions for the
-- addresses.
abbrev pub all_permitted_each : List IpAddr → (transaction_id now : ℕ) → List Allocation → List Allocation
all_permitted_each ips transaction_id now allocations =
    change_first (awaits_reply transaction_id) (permitted_all ips transaction_id now) allocations

-- The same of one address.
abbrev pub all_permitted : IpAddr → (transaction_id now : ℕ) → List Allocation → List Allocation
all_permitted ip transaction_id now allocations = change_first (awaits_reply transaction_id) (permitted ip transaction_id now) allocations

-- The address of the first permission that the request with this transaction ID requests. A CHANNEL_BIND may
-- request one.
abbrev pub permission_requested : ℕ → Allocation → Option IpAddr
permission_requested transaction_id a = option_map (λ p. p.ip) (find (asks_for_permission transaction_id) a.pending_permissions)
