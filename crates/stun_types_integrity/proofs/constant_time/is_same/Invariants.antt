use Rattle.std.proofs.Common.{◌≡◌, ◌↔◌, length}
use Rattle.stun_types_integrity.proofs.constant_time.is_same.Given as goal

-- All bytes are equal exactly if those before were and those left are. Equally many are left of both.
abbrev pub invariant-loop-one_byte : goal.invariant-loop-one_byte
invariant-loop-one_byte l =
    record {
      equal : ((l.difference ≡ 0) × (l.one_left ≡ l.other_left)) ↔ (l.fn.one ≡ l.fn.other);
      many : length l.one_left ≡ length l.other_left;
    }

abbrev pub decreases-loop-one_byte : goal.decreases-loop-one_byte
decreases-loop-one_byte l = length l.one_left
