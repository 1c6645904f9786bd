use Rattle.std.proofs.Common.{◌≡◌, ◌<◌, ◌-◌, ◌^◌, ℕ, true}
use Rattle.turn_client_proto_core.specs.Numbering.{following, is_taken}
use Rattle.turn_client_proto_core.proofs.protocol.Protocol.first_free.Given as goal

-- All transaction IDs tried so far are in use.
abbrev pub invariant-loop : goal.invariant-loop
invariant-loop l = record {
  is : l.number ≡ following l.fn.from l.counter;
  passed : (k : ℕ) → k < l.counter → is_taken l.self (following l.fn.from k) ≡ true;
}

abbrev pub decreases-loop : goal.decreases-loop
decreases-loop l = 2 ^ 96 - l.counter
