-- The waits that a caller sets, as contracts see them.
use Rattle.std.specs.Prelude.{Option, Some, None}
use Rattle.std.specs.Duration.{as_nanos}
use Rattle.stun_proto_agent.specs.Transaction.Schedule.{Waits}
use Rattle.stun_proto_agent.specs.State.{default_waits}
use Rattle.turn_client_proto_api.specs.declared.waits.SetWaits.{SetWaits}

-- The waits that are set, or else those of a new agent.
abbrev pub waits_of : Option SetWaits → Waits
waits_of (Some w) = record {
  initial = as_nanos w.initial;
  most = Some (as_nanos w.max);
  retransmits = w.retransmits;
  final = as_nanos w.last;
}
waits_of None = default_waits
