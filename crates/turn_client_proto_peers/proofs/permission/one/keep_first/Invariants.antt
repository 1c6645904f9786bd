use Rattle.std.proofs.Common.{◌≡◌, length, take}
use Rattle.turn_client_proto_peers.proofs.permission.one.keep_first.Given as goal

-- The first ones are as they were.
abbrev pub invariant-loop-permissions : goal.invariant-loop-permissions
invariant-loop-permissions l = take l.count l.permissions ≡ take l.count l.fn.permissions

abbrev pub decreases-loop-permissions : goal.decreases-loop-permissions
decreases-loop-permissions l = length l.permissions
