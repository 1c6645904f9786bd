-- A driver's loop over a network that takes time.
use Rattle.std.specs.Prelude.{◌≡◌, ◌≤◌, ◌⊎◌, ℕ, max, List, [], ◌∷◌, Bool, IsTrue}
use Rattle.stun_types_base.specs.declared.data.Data.{Data}
use Rattle.stun_types_base.specs.declared.transmit.Transmit.{Transmit}
use Rattle.turn_desk_event.specs.declared.answer.Answer.{Answer}
use Rattle.turn_desk_event.specs.declared.answer.Answer.TheVariants as answer
use Rattle.turn_desk_event.specs.declared.event.ClientCall.TheVariants.{Poll, PollEvent}
use Rattle.turn_desk_event.specs.declared.event.Event.{Event}
use Rattle.turn_desk_event.specs.declared.event.Event.TheVariants.{Call, Draw}
use Rattle.turn_desk_world.specs.Model.{World}
use Rattle.turn_desk_world.specs.Runs.{IsRun}
use Rattle.test_driver.specs.declared.driving.Turn.{Turn}
use Rattle.test_driver.specs.declared.driving.Turn.TheVariants.{Transmits, Waits, Connects, Ends}
use Rattle.test_driver.specs.declared.network.Network.{Network}

-- The event happened and had this answer.
abbrev pub Happened : Event → World → Answer → World → Type 0
Happened event old ret new = IsRun old ((event, ret) ∷ []) new

-- ---- the network

-- The latency, the lead of the server core's clock, and whether anything is forged are the same.
pub record IsAlike (before after : Network) : Type 0 where
  pub latency : after.latency ≡ before.latency
  pub lead : after.lead ≡ before.lead
  pub forges : after.forges ≡ before.forges

-- So is the time by the client's clock.
pub record IsStill (before after : Network) : Type 0 where
  pub time : after.time ≡ before.time
  pub alike : IsAlike before after

-- ---- what the loop does

-- An answer that transmits nothing (`IsQuiet`), and any answer.
abbrev pub IsQuiet : Answer → Type 0
IsQuiet (answer.Transmit sent) = ⊥
IsQuiet _ = Unit {0}

abbrev pub IsAny : Answer → Type 0
IsAny ret = Unit {0}

-- At this time the client was polled for a message, with an answer of which `Is` holds; or it was polled, or for
-- an event.
abbrev pub IsTurn : (Is : Answer → Type 0) → (now : ℕ) → Event → Answer → Type 0
IsTurn Is now event ret = ((event ≡ Draw now) × Is ret) ⊎ ((event ≡ Call Poll now) ⊎ (event ≡ Call PollEvent now))

-- Nothing else happened, at times in order between `from` and `to`.
unfoldable pub IsDriven : (Is : Answer → Type 0) → (from : ℕ) → List (Event × Answer) → (to : ℕ) → Type 0
IsDriven Is from [] to = from ≤ to
IsDriven Is from (pair ∷ pairs) to = (now : ℕ) × (from ≤ now) × IsTurn Is now pair.0 pair.1 × IsDriven Is now pairs to

-- A run in which the loop did nothing else, no longer than until the given time, if that was still to come.
pub record Drives (Is : Answer → Type 0) (until : ℕ) (before : Network) (old : World) (after : Network) (new : World)
    : Type 0 where
  pub log : List (Event × Answer)
  pub run : IsRun old log new
  pub driven : IsDriven Is before.time log after.time
  pub in_time : after.time ≤ max before.time until
  pub alike : IsAlike before after

-- The client transmitted nothing, and then this, which ended the run.
pub record HasTransmitted (until : ℕ) (before : Network) (old : World) (sent : Transmit Data) (after : Network)
    (new : World) : Type 0 where
  pub quiet : World
  pub drives : Drives IsQuiet until before old after quiet
  pub step : Happened (Draw after.time) quiet (answer.Transmit sent) new

-- The client transmitted nothing, and the given time has come.
pub record HasRested (until : ℕ) (before : Network) (old : World) (after : Network) (new : World) : Type 0 where
  pub drives : Drives IsQuiet until before old after new
  pub late : until ≤ after.time

-- How a part of the loop ended, which was to go on until the given time.
abbrev pub IsDrivenTo : (until : ℕ) → Network → World → Turn → Network → World → Type 0
IsDrivenTo until before old (Transmits sent) after new = HasTransmitted until before old sent after new
IsDrivenTo until before old (Waits time) after new = HasRested until before old after new
IsDrivenTo until before old (Connects id peer) after new = Drives IsQuiet until before old after new
IsDrivenTo until before old Ends after new = Drives IsQuiet until before old after new

-- The loop goes on without a message of the client's.
abbrev pub IsNoMessage : Turn → Type 0
IsNoMessage (Transmits sent) = ⊥
IsNoMessage _ = Unit {0}

-- One turn of the loop, which takes no time. If the client waits, nothing is said of until when.
abbrev pub IsTaken : Network → World → Turn → Network → World → Type 0
IsTaken before old (Transmits sent) after new = HasTransmitted before.time before old sent after new
IsTaken before old (Waits time) after new = Drives IsQuiet before.time before old after new
IsTaken before old (Connects id peer) after new = Drives IsQuiet before.time before old after new
IsTaken before old Ends after new = Drives IsQuiet before.time before old after new

-- The loop went on, and if `came` is true, until the given time.
pub record HasWaited (until : ℕ) (before : Network) (old : World) (came : Bool) (after : Network) (new : World)
    : Type 0 where
  pub drives : Drives IsAny until before old after new
  pub late : IsTrue came → until ≤ after.time
