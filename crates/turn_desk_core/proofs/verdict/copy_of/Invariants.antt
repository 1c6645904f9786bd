use Rattle.std.proofs.Common.{◌≡◌, ◌≤◌, length, take}
use Rattle.turn_desk_core.proofs.verdict.copy_of.Given as goal

-- The addresses before the index are copied.
abbrev pub invariant-loop-addr : goal.invariant-loop-addr
invariant-loop-addr l = (l.addr-index ≤ length l.addresses) × (l.copy ≡ take l.addr-index l.addresses)
