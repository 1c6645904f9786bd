-- The causes of a client's queued events, in the order of the events.
use Rattle.std.specs.Prelude.{◌≡◌, ℕ, ◌-◌, nat_lt, Bool, true, false, List, [], ◌∷◌, ◌++◌, Option, Some, None, if◌then◌else◌}
use Rattle.turn_client_proto_api.specs.declared.cause.TurnCause.{TurnCause}
use Rattle.turn_client_proto_api.specs.declared.cause.TurnCause.TheVariants.{OutOfMemory}
use Rattle.turn_client_proto_api.specs.declared.causes.Causes.{Causes}
use Rattle.turn_client_proto_api.specs.declared.causes.Run.{Run}
use Rattle.turn_client_proto_api.specs.declared.event.TurnEvent.{TurnEvent}
use Rattle.turn_client_proto_api.specs.declared.event.TurnEvent.TheVariants.{AllocationCreated, AllocationCreateFailed, PermissionCreated, PermissionCreateFailed, ChannelCreated, ChannelCreateFailed, TcpConnected, TcpConnectFailed}

-- The causes of a client that has no event.
abbrev pub no_causes : Causes
no_causes = record { runs = []; covered = 0; left = 0; last = OutOfMemory; is_failure = false }

-- The causes after this one was noted for the events after the first `before` of `events`.
abbrev pub pushed : (before events : ℕ) → TurnCause → Causes → Causes
pushed before events cause c = record c {
  runs = c.runs ++ record { count = events - before; cause = cause } ∷ [];
  covered = events;
}

-- The causes after events may have been queued: the cause is noted for those that were. Or it is not, because
-- memory ran out, or ran out earlier: the cause of another event that is still queued is not noted.
pub data IsPushed (before events : ℕ) (cause : TurnCause) (old new : Causes) : Type 0 where
  Pushed : nat_lt before events ≡ true → old.covered ≡ before → new ≡ pushed before events cause old
      → IsPushed before events cause old new
  Short : new ≡ old → IsPushed before events cause old new

-- The event reports that something failed or ended.
abbrev pub is_failure : TurnEvent → Bool
is_failure (AllocationCreated transport relayed) = false
is_failure (AllocationCreateFailed family) = true
is_failure (PermissionCreated transport ip) = false
is_failure (PermissionCreateFailed transport ip) = true
is_failure (ChannelCreated transport peer) = false
is_failure (ChannelCreateFailed transport peer) = true
is_failure (TcpConnected peer) = false
is_failure (TcpConnectFailed peer) = true

-- The causes after the event that follows the last of a run was taken.
abbrev pub next_run : List Run → Causes → Causes
next_run [] c = record c { last = OutOfMemory }
next_run (run ∷ rest) c = record c { runs = rest; left = run.count - 1; last = run.cause }

-- The causes after the oldest event was taken. Its cause is that of the event before it, if one message or
-- call queued both; else it is the next one, or none that was noted.
abbrev pub advanced : TurnEvent → Causes → Causes
advanced event c = record (if nat_lt 0 c.left then record c { left = c.left - 1 } else next_run c.runs c) {
  covered = c.covered - 1;
  is_failure = is_failure event;
}

-- The cause of the event that was taken last. One that reports a success has none.
abbrev pub cause_taken : Causes → Option TurnCause
cause_taken c = if c.is_failure then Some c.last else None
