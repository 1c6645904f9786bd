use Rattle.std.proofs.Common.{◌≡◌, ◌++◌, take, drop}
use Rattle.stun_types_attributes.specs.Xor.{xor_bytes}
use Rattle.stun_types_attributes.proofs.octets.xor_in_place.Given as goal

-- The bytes before index i are xored, and the others are unchanged.
abbrev pub invariant-loop-i : goal.invariant-loop-i
invariant-loop-i l = l.bytes ≡ xor_bytes (take l.i l.initial.bytes) l.mask ++ drop l.i l.initial.bytes
