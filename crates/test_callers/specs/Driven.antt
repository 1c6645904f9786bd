-- A turn of the loop that drives a client, as events of a simulation and their results.
use Rattle.std.specs.Prelude.{◌≡◌, ◌+◌, ◌^◌, ◌++◌, ℕ, List, [], ◌∷◌, Some}
use Rattle.stun_types.specs.Base.declared.data.Data.{Data}
use Rattle.stun_types.specs.Base.declared.transmit.Transmit.{Transmit}
use Rattle.turn_client_proto.specs.Api.declared.event.TurnEvent.{TurnEvent}
use Rattle.turn_client_proto.specs.ClientState.{ClientState}
use Rattle.turn_desk.specs.Model.{World}
use Rattle.turn_desk.specs.Runs.{IsRun}
use Rattle.turn_desk_event.specs.declared.answer.Answer.{Answer}
use Rattle.turn_desk_event.specs.declared.answer.Answer.TheVariants as answer
use Rattle.turn_desk_event.specs.declared.event.ClientCall.{ClientCall}
use Rattle.turn_desk_event.specs.declared.event.ClientCall.TheVariants.{Poll, PollEvent, Delete, CreatePermission, BindChannel, SendTo}
use Rattle.turn_desk_event.specs.declared.event.Event.{Event}
use Rattle.turn_desk_event.specs.declared.event.Event.TheVariants.{Call, Draw}

-- Events of a simulation in order, each with its result.
abbrev pub Pairs : Type 0
Pairs = List (Event × Answer)

-- ---- a call that is repeated

-- The pairs are this many parts, one after another, each of which is as `IsPart` says.
pub data AreParts (IsPart : Pairs → Type 0) : ℕ → Pairs → Type 0 where
  NoPart : AreParts IsPart 0 []
  OneMore : {many : ℕ} {parts part : Pairs} → AreParts IsPart many parts → IsPart part
      → AreParts IsPart (many + 1) (parts ++ part)

-- A call is repeated until it gives nothing. A loop ends after 2^64 - 1 calls that gave something, too.
pub data AreRepeated (event : Event) (IsPart : Pairs → Type 0) (pairs : Pairs) : Type 0 where
  UpToNothing : (many : ℕ) (parts : Pairs) → AreParts IsPart many parts → pairs ≡ parts ++ (event, answer.Nothing) ∷ []
      → AreRepeated event IsPart pairs
  UpToLimit : (many : ℕ) → AreParts IsPart many pairs → many + 1 ≡ 2 ^ 64 → AreRepeated event IsPart pairs

-- ---- a turn

-- `poll_transmit` gives a message.
pub record IsMessageDraw (now : ℕ) (pairs : Pairs) : Type 0 where
  pub sent : Transmit Data
  pub is : pairs ≡ (Draw now, answer.Transmit sent) ∷ []

-- A call by which a driver answers an event.
abbrev pub IsResponse : ClientCall → Type 0
IsResponse (CreatePermission transport ip) = Unit {0}
IsResponse (BindChannel transport peer) = Unit {0}
IsResponse (SendTo transport to bytes) = Unit {0}
IsResponse Delete = Unit {0}
IsResponse _ = ⊥

-- `poll_event` gives an event. A call may answer it.
pub data IsEventTaken (now : ℕ) (pairs : Pairs) : Type 0 where
  Alone : (event : TurnEvent) → pairs ≡ (Call PollEvent now, answer.Event event) ∷ [] → IsEventTaken now pairs
  Answered : (event : TurnEvent) (call : ClientCall) (ret : Answer) → IsResponse call
      → pairs ≡ (Call PollEvent now, answer.Event event) ∷ (Call call now, ret) ∷ [] → IsEventTaken now pairs

-- A turn of a driver's loop at `now`: `poll_transmit` is called until it gives nothing; `poll` once; and
-- `poll_event` until it gives nothing, where each event may be answered by a call.
pub record IsTurn (now : ℕ) (pairs : Pairs) : Type 0 where
  pub draws : Pairs
  pub by_draw : AreRepeated (Draw now) (IsMessageDraw now) draws
  pub polled : Answer
  pub takes : Pairs
  pub taken : AreRepeated (Call PollEvent now) (IsEventTaken now) takes
  pub are_all : pairs ≡ draws ++ (Call Poll now, polled) ∷ takes

-- ---- what it does with a client

-- In every simulation with this client, these events have these results, and leave nothing but the client changed.
abbrev pub IsRunOfClient : Pairs → (old new : ClientState) → Type 0
IsRunOfClient pairs old new = (w : World) → w.client ≡ Some old → IsRun w pairs (record w { client = Some new })

-- What was done with a client is a turn of a driver's loop.
pub record HasTakenTurn (now : ℕ) (old new : ClientState) : Type 0 where
  pub pairs : Pairs
  pub turn : IsTurn now pairs
  pub run : IsRunOfClient pairs old new
