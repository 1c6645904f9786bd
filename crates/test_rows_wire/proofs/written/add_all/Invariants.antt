use Rattle.stun_types_write.specs.Adding.{IsStarted}
use Rattle.test_rows_wire.proofs.written.add_all.Given as goal

-- The loop keeps the message in a state in which attributes can be added.
abbrev pub invariant-loop : goal.invariant-loop
invariant-loop g l = IsStarted (g.W.MessageWrite.draft l.writer).bytes
