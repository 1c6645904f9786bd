use Rattle.std.proofs.Common.{◌≡◌, ◌*◌, ◌≤◌, length, take}
use Rattle.turn_client_proto_connection.specs.Visible.{connections_listed}
use Rattle.turn_client_proto_connection.proofs.visible.connections_count.Given as goal

-- The elements of the allocations so far are counted. Each list has fewer than 2^32 elements.
abbrev pub invariant-loop-a : goal.invariant-loop-a
invariant-loop-a l = (l.count ≡ length (connections_listed (take l.a-index l.a-items))) × (l.count ≤ l.a-index * 4294967295)
    × (length l.a-items ≡ l.most) × (l.most ≤ 4294967295)
