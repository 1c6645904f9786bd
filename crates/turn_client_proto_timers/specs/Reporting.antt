-- Expiry of permissions, channels and connections (RFC 8656, sections 9 and 12; RFC 6062, section 4.3), and
-- the events for it.
use Rattle.std.specs.Prelude.{ℕ, List, ◌++◌, map, Option}
use Rattle.std.specs.List.{flat_map}
use Rattle.turn_client_proto_allocation.specs.declared.allocation.Allocation.{Allocation}
use Rattle.turn_client_proto_api.specs.declared.event.TurnEvent.{TurnEvent}
use Rattle.turn_client_proto_api.specs.declared.event.TurnEvent.TheVariants.{ChannelCreateFailed, PermissionCreateFailed, TcpConnectFailed}
use Rattle.turn_client_proto_peers.specs.Channel.Expiring as channels
use Rattle.turn_client_proto_connection.specs.Attempts as attempts
use Rattle.turn_client_proto_connection.specs.Expiring as joined
use Rattle.turn_client_proto_connection.specs.Reported as connections
use Rattle.turn_client_proto_peers.specs.Permission.Reporting as permissions

-- The events for the permissions and channels of an allocation: the requested ones whose request ended,
-- permissions first; then the permissions that expired, and the channel that expires.
unfoldable pub relay_failures : Option ℕ → ℕ → Allocation → List TurnEvent
relay_failures over now a =
    map (PermissionCreateFailed a.transport) (permissions.addresses_over over a.pending_permissions)
    ++ (map (ChannelCreateFailed a.transport) (channels.peers_over over a.pending_channels)
    ++ (map (PermissionCreateFailed a.transport) (permissions.addresses_expired now a.permissions)
    ++ map (ChannelCreateFailed a.transport) (channels.peers_expiring now a)))

-- The events for the connections of an allocation: the requested ones whose request ended; then those that
-- were not bound in time; then the first that the server announced by the request that ended.
unfoldable pub connection_failures : Option ℕ → ℕ → Allocation → List TurnEvent
connection_failures over now a = map TcpConnectFailed (connections.peers_over over a.connecting)
    ++ (map TcpConnectFailed (joined.peers_gone over now a.connections)
    ++ map TcpConnectFailed (attempts.peers_lost over a.waiting))

-- The events for an allocation.
unfoldable pub failures : Option ℕ → ℕ → Allocation → List TurnEvent
failures over now a = relay_failures over now a ++ connection_failures over now a

abbrev pub all_failures : Option ℕ → ℕ → List Allocation → List TurnEvent
all_failures over now allocations = flat_map (failures over now) allocations

-- The allocation with the permissions, channels and connections that are left.
abbrev pub polled : Option ℕ → ℕ → Allocation → Allocation
polled over now a = joined.polled over now (channels.polled over now (permissions.polled over now a))
