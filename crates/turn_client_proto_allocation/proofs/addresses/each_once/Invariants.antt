use Rattle.std.proofs.Common.{◌≡◌, ◌∷◌, take}
use Rattle.turn_client_proto_allocation.specs.Permissions.{each_once}
use Rattle.turn_client_proto_allocation.proofs.addresses.each_once.Given as goal

-- The addresses so far, each once.
abbrev pub invariant-loop-index : goal.invariant-loop-index
invariant-loop-index l = l.ips ≡ each_once (l.ip ∷ take l.index l.others)
