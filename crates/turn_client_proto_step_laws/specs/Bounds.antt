-- How many connections that peers open wait for their socket (RFC 6062, section 4.4).
use Rattle.std.specs.Prelude.{ℕ, ◌≤◌, Bool, List, filter, is_some, length}
use Rattle.turn_client_proto_timers.specs.TurnRuns.Members.{IsIn}
use Rattle.turn_client_proto_timers.specs.Allocation.declared.allocation.Allocation.{Allocation}
use Rattle.turn_client_proto_timers.specs.Allocation.declared.connection.Waiting.{Waiting}

-- The server announced the connection by a CONNECTION_ATTEMPT. The client requested any other one.
abbrev pub is_announced : Waiting → Bool
is_announced w = is_some w.attempt

-- In each allocation at most this many connections wait that the server announced.
abbrev pub WaitAtMost : (limit : ℕ) → List Allocation → Type 0
WaitAtMost limit allocations = (a : Allocation) → IsIn a allocations → length (filter is_announced a.waiting) ≤ limit
