-- Which channels are to be renewed (RFC 8656, section 12.1).
use Rattle.std.specs.Prelude.{ℕ, find, Option, None, if◌then◌else◌}
use Rattle.std.specs.Option.{option_map}
use Rattle.std.specs.declared.net.socket_addr.SocketAddr.{SocketAddr}
use Rattle.turn_client_proto_allocation.specs.declared.allocation.Allocation.{Allocation}
use Rattle.turn_client_proto_peers.specs.Permission.Wanting.{occurs}
use Rattle.turn_client_proto_allocation.specs.Channels.{renewed_first, wants_renewal}

-- The number and peer of the first channel that is to be renewed at this time, if the allocation is valid.
unfoldable pub renewal_wanted : ℕ → Allocation → Option (ℕ × SocketAddr)
renewal_wanted now a =
    if occurs now a then option_map (λ c. (c.number, c.peer)) (find (wants_renewal now) a.channels) else None

-- The allocation when the request `transaction_id` is to renew its first channel that is to be renewed.
abbrev pub renewing : (now transaction_id : ℕ) → Allocation → Allocation
renewing now transaction_id a = record a { channels = renewed_first now transaction_id a.channels }
