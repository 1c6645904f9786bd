-- The runs of a simulation.
use Rattle.std.specs.Prelude.{◌≡◌, ℕ, ◌^◌, nat_le, Bool, true, false, not, List, [], ◌∷◌, filter, Option, Some, None}
use Rattle.std.specs.Bool.{MatchBool}
use Rattle.stun_proto_server.specs.Users.{HashesDiffer}
use Rattle.turn_client_proto.specs.Recv.ClientState.{ClientState, Leaves}
use Rattle.turn_desk_world.specs.Calls.{IsCallReported, IsTransmittedAs, IsFed}
use Rattle.turn_desk_world.specs.Desks.{IsDeskAnswered}
use Rattle.turn_desk_world.specs.Determined.{AreSame, HaveSameEvents}
use Rattle.turn_desk_world.specs.Model.{World}
use Rattle.turn_desk_event.specs.declared.answer.Answer.{Answer}
use Rattle.turn_desk_event.specs.declared.answer.Answer.TheVariants.{OutOfRange}
use Rattle.turn_desk_event.specs.declared.event.Event.{Event}
use Rattle.turn_desk_event.specs.declared.event.Event.TheVariants.{Call, Draw, ToClient, ToDesk}

-- Whether a time is in range for a client: at most 2^62, which is `CLIENT_END`.
abbrev pub is_in_range : ℕ → Bool
is_in_range now = nat_le now (2 ^ 62)

-- `Does` relates the client's states if the time is in range. Otherwise the result is `OutOfRange`, and
-- nothing changes.
unfoldable pub IsInRange : ℕ → (ClientState → ClientState → Type 0) → ClientState → Answer → ClientState → Type 0
IsInRange now Does before answer after =
    MatchBool (is_in_range now) (Does before after) ((answer ≡ OutOfRange) × (after ≡ before))

-- `IsInRange` for a client that may not exist. If there is none, the result is `OutOfRange`, and nothing
-- changes.
unfoldable pub IsAtClient : ℕ → (ClientState → ClientState → Type 0) → Option ClientState → Answer → Option ClientState → Type 0
IsAtClient now Does None answer new = (answer ≡ OutOfRange) × (new ≡ None)
IsAtClient now Does (Some before) answer None = ⊥
IsAtClient now Does (Some before) answer (Some after) = IsInRange now Does before answer after

-- Nothing but the client may have changed.
abbrev pub IsOfClient : World → World → Type 0
IsOfClient old new = new ≡ record old { client = new.client }

-- The result of an event, and the state that it leaves, by the contracts of the client's calls and of the
-- server core's.
abbrev pub IsStep : Event → World → Answer → World → Type 0
IsStep (Call call now) old answer new =
    IsAtClient now (λ p q. IsCallReported call answer p now q) old.client answer new.client × IsOfClient old new
IsStep (Draw now) old answer new =
    IsAtClient now (Leaves (λ p q. IsTransmittedAs answer p now q)) old.client answer new.client × IsOfClient old new
IsStep (ToClient bytes from to now) old answer new =
    IsAtClient now (λ p q. IsFed answer p bytes.items from to now q) old.client answer new.client × IsOfClient old new
IsStep (ToDesk bytes from now decision seed) old answer new =
    IsDeskAnswered answer old.desk bytes.items from now decision seed new.desk × (new ≡ record old { desk = new.desk })

-- The pairs of an event and its result are a run from `old` to `new`: each event starts in the state that the
-- one before it left.
unfoldable pub IsRun : World → List (Event × Answer) → World → Type 0
IsRun old [] new = new ≡ old
IsRun old (pair ∷ pairs) new = (next : World) × IsStep pair.0 old pair.1 next × IsRun next pairs new

-- ---- each side for itself

-- Whether the event is for the server core.
abbrev pub is_at_desk : Event × Answer → Bool
is_at_desk pair = is_to_desk pair.0
  where
    is_to_desk : Event → Bool
    is_to_desk (Call call now) = false
    is_to_desk (Draw now) = false
    is_to_desk (ToClient bytes from to now) = false
    is_to_desk (ToDesk bytes from now decision seed) = true

-- The server core's events alone are a run too, with the same results.
abbrev pub IsDeskRun : World → List (Event × Answer) → World → Type 0
IsDeskRun old pairs new = IsRun old (filter is_at_desk pairs) (record new { client = old.client })

-- The client's events alone are a run too, with the same results.
abbrev pub IsClientRun : World → List (Event × Answer) → World → Type 0
IsClientRun old pairs new = IsRun old (filter (λ pair. not (is_at_desk pair)) pairs) (record new { desk = old.desk })

-- These are the only results that the events can have from this state, and `new` is the only state that they
-- can leave.
abbrev pub IsOnlyRun : World → List (Event × Answer) → World → Type 0
IsOnlyRun old pairs new = (others : List (Event × Answer)) (left : World)
    → HaveSameEvents pairs others → IsRun old others left → AreSame pairs others × (new ≡ left)

-- Each side's own events alone give its results, and no others are possible. For the server core, the latter
-- has a premise: no two of its users have equal USERHASHes, because such a hash may name either user (RFC
-- 8489, section 14.4).
pub record IsRunOfEach (old : World) (pairs : List (Event × Answer)) (new : World) : Type 0 where
  pub desk : IsDeskRun old pairs new
  pub client : IsClientRun old pairs new
  pub only_desk : HashesDiffer old.desk.auth
      → IsOnlyRun old (filter is_at_desk pairs) (record new { client = old.client })
  pub only_client : IsOnlyRun old (filter (λ pair. not (is_at_desk pair)) pairs) (record new { desk = old.desk })
