-- A span of time in which nothing is due of what a client holds (RFC 8656, sections 8, 9 and 12; RFC 6062,
-- section 4.3).
use Rattle.std.specs.Prelude.{◌≡◌, ℕ, nat_le, Bool, true, false, ◌&&◌, List, Option, Some, None}
use Rattle.std.specs.List.{list_all, list_any}
use Rattle.turn_client_proto_allocation.specs.Channels.{protected_until}
use Rattle.turn_client_proto_allocation.specs.Polling.{nexts}
use Rattle.turn_client_proto_allocation.specs.StunProtoTransaction.Least.{IsLeastOf}
use Rattle.turn_client_proto_allocation.specs.declared.allocation.Allocation.{Allocation}
use Rattle.turn_client_proto_allocation.specs.declared.channel.Channel.{Channel}
use Rattle.turn_client_proto_allocation.specs.declared.channel.ExpiredChannel.{ExpiredChannel}
use Rattle.turn_client_proto_allocation.specs.declared.connection.Binding.{Binding}
use Rattle.turn_client_proto_allocation.specs.declared.connection.Connection.{Connection}
use Rattle.turn_client_proto_allocation.specs.declared.permission.Permission.{Permission}
use Rattle.turn_client_proto_connection.specs.Expiring as joined
use Rattle.turn_client_proto_connection.specs.Waiting.{has_unasked}
use Rattle.turn_client_proto_core.specs.declared.protocol.Protocol.{Protocol}
use Rattle.turn_client_proto_peers.specs.Channel.Expiring as channels
use Rattle.turn_client_proto_peers.specs.Permission.Reporting as permissions
use Rattle.turn_client_proto_timers.specs.Polling.{pace_of, ready_after}
use Rattle.turn_client_proto_timers.specs.declared.quiet.Quiet.{Quiet}

-- The connection is bound, or may be bound until then.
abbrev pub is_binding_until : ℕ → Option Binding → Bool
is_binding_until time None = true
is_binding_until time (Some b) = nat_le time b.expiry

-- One element of an allocation doesn't expire before the time: a permission, a channel, the protection of an
-- expired channel, a connection.
abbrev pub permits_until : ℕ → Permission → Bool
permits_until time p = nat_le time p.expiry

abbrev pub binds_until : ℕ → Channel → Bool
binds_until time c = nat_le time c.expiry

abbrev pub protects_until : ℕ → ExpiredChannel → Bool
protects_until time c = nat_le time (protected_until c)

abbrev pub connects_until : ℕ → Connection → Bool
connects_until time c = is_binding_until time c.awaited

-- Nothing of the allocation expires before the time, nor does the allocation itself.
abbrev pub lasts_until : ℕ → Allocation → Bool
lasts_until time a = nat_le time a.expiry
    && (list_all (permits_until time) a.permissions
    && (list_all (binds_until time) a.channels
    && (list_all (protects_until time) a.expired_channels
    && list_all (connects_until time) a.connections)))

-- From `since` on, and before `until`, nothing is due of the allocations of a client that last sent a message at
-- `last`: no socket is to be requested, nothing expires, and nothing is to be renewed. `until` is the least of
-- `horizon` and of the times at which something has to be polled.
pub record IsQuietOf (pace : ℕ) (last : Option ℕ) (allocations : List Allocation) (q : Quiet) : Type 0 where
  pub none_waits : list_any has_unasked allocations ≡ false
  pub lasting : list_all (lasts_until q.until) allocations ≡ true
  pub next : ℕ
  pub least : IsLeastOf q.horizon (nexts None (ready_after pace last q.since) q.since allocations) next
  pub sooner : ℕ
  pub least_of_permissions : IsLeastOf next
      (permissions.all_nexts None (ready_after pace last q.since) q.since allocations) sooner
  pub earliest : ℕ
  pub least_of_channels : IsLeastOf sooner
      (channels.all_nexts None (ready_after pace last q.since) q.since allocations) earliest
  pub least_of_connections : IsLeastOf earliest (joined.all_nexts allocations) q.until

-- The same of a client.
abbrev pub IsQuiet : Protocol → Quiet → Type 0
IsQuiet p q = IsQuietOf (pace_of p) p.last_send p.allocations q
