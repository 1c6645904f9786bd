-- What a client notes of `poll`.
use Rattle.std.specs.Bool.{MatchBool}
use Rattle.std.specs.Prelude.{◌≡◌, ◌⊎◌, ℕ, Bool, not, ◌&&◌, List, [], map, take, if◌then◌else◌}
use Rattle.turn_client_proto_api.specs.declared.cause.TurnCause.{TurnCause}
use Rattle.turn_client_proto_api.specs.declared.cause.TurnCause.TheVariants.{Deleted, Expired, Unanswered}
use Rattle.turn_client_proto_api.specs.Causes.{IsPushed}
use Rattle.turn_client_proto_api.specs.declared.causes.Causes.{Causes}
use Rattle.turn_client_proto_api.specs.Expired.{rest_of}
use Rattle.turn_client_proto_api.specs.declared.expired.AllocationExpired.{AllocationExpired}
use Rattle.turn_client_proto_core.specs.Deleting.{is_authenticated}
use Rattle.turn_client_proto_core.specs.declared.protocol.Protocol.{Protocol}
use Rattle.turn_client_proto_recv.specs.declared.notes.Notes.{Notes}
use Rattle.turn_client_proto.specs.Gone.{gone_of, pushed_all, reported_of}

-- Why `poll` queued an event: no response came in time, or time was over; or the user requested the end of the
-- allocations before.
abbrev pub IsTimed : (is_deleted : Bool) → TurnCause → Type 0
IsTimed is_deleted cause = MatchBool is_deleted (cause ≡ Deleted) ((cause ≡ Unanswered) ⊎ (cause ≡ Expired))

-- Events of `poll` were noted, one after another, each with such a cause.
pub data AreTimed (is_deleted : Bool) (old : Causes) : Causes → Type 0 where
  Start : AreTimed is_deleted old old
  Next : (c new : Causes) → AreTimed is_deleted old c → (before events : ℕ) (cause : TurnCause)
      → IsTimed is_deleted cause → IsPushed before events cause c new → AreTimed is_deleted old new

-- A poll was noted. What is noted of allocations that expired, `expired_after` says.
pub record IsPollNoted (old new : Notes) : Type 0 where
  pub causes : AreTimed old.is_deleted old.causes new.causes
  pub others : new ≡ record old { causes = new.causes; expired = new.expired }

-- ---- allocations that expired

-- The allocations of which the user is told if `poll` removes them: where the client believes short lifetimes, its
-- first two; it never has more. After `delete` there are none: the user knows that they go.
abbrev pub held_of : Protocol → Notes → List AllocationExpired
held_of p n = if p.short_lifetimes && not n.is_deleted then take 2 (map reported_of p.allocations) else []

-- The expired allocations after `poll`, of a client that held these before and is `p` afterwards: those that were
-- removed are added. A client that failed in `poll` holds nothing, but no time was over.
abbrev pub expired_after : (held : List AllocationExpired) → Protocol → List AllocationExpired → List AllocationExpired
expired_after held p expired =
    if is_authenticated p.phase then pushed_all (gone_of held p.allocations) expired else expired

-- The notes after the user was told of the oldest expired allocation, or there was none.
abbrev pub after_report : Notes → Notes
after_report n = record n { expired = rest_of n.expired }
