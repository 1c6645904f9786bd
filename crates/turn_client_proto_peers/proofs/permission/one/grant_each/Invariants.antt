use Rattle.std.proofs.Common.{◌≡◌, ◌++◌, take}
use Rattle.turn_client_proto_peers.specs.Permission.Granted.{granted_each}
use Rattle.turn_client_proto_peers.proofs.permission.one.grant_each.Given as goal

-- The permissions for the addresses so far are appended.
abbrev pub invariant-loop-ip : goal.invariant-loop-ip
invariant-loop-ip l = l.permissions ≡ l.fn.permissions ++ granted_each (take l.ip-index l.ips) l.now
