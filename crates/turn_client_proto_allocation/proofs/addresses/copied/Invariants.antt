use Rattle.std.proofs.Common.{◌≡◌, take}
use Rattle.turn_client_proto_allocation.proofs.addresses.copied.Given as goal

-- The addresses so far are in the list.
abbrev pub invariant-loop-ip : goal.invariant-loop-ip
invariant-loop-ip l = l.list ≡ take l.ip-index l.ips
