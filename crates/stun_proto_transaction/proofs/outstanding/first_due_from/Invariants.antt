use Rattle.std.proofs.Common.{◌≡◌, ℕ, ◌<◌, ◌≤◌, false, get_or}
use Rattle.stun_proto_transaction.specs.Agents.{Transaction, is_due}
use Rattle.stun_proto_transaction.proofs.outstanding.first_due_from.Given as goal

-- No transmission of the requests seen so far is due.
abbrev pub invariant-loop-position : goal.invariant-loop-position
invariant-loop-position l = (j : ℕ) (d : ℕ × Transaction) → l.fn.from ≤ j → j < l.position → is_due l.fn.is_tcp l.fn.now (get_or l.fn.entries j d).1 ≡ false
