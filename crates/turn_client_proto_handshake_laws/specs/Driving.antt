-- How a client that receives nothing is driven: `poll_transmit` is called until it returns nothing, then
-- `poll`, and then again from the time that `poll` returned (RFC 8489, section 6.2.1).
use Rattle.std.specs.Prelude.{◌≡◌, ◌≤◌, ◌<◌, ◌^◌, ◌++◌, ℕ, List, [], ◌∷◌, length, option_to_list}
use Rattle.std.specs.Prelude.{Option, Some, None, IfNone}
use Rattle.turn_client_proto_api.specs.declared.answer.TurnPollRet.{TurnPollRet}
use Rattle.turn_client_proto_api.specs.declared.answer.TurnPollRet.TheVariants as answer
use Rattle.turn_client_proto_api.specs.declared.event.TurnEvent.{TurnEvent}
use Rattle.turn_client_proto_core.specs.Ending.{HasFailed}
use Rattle.turn_client_proto_core.specs.declared.protocol.Protocol.{Protocol}
use Rattle.turn_client_proto_timers.specs.Drawing.{HasToSend, IsTransmitted}
use Rattle.turn_client_proto_api.specs.Sent.{Sent}
use Rattle.turn_client_proto_timers.specs.Polling.{IsPolled}
use Rattle.turn_client_proto_handshake_laws.specs.declared.driving.Stage.{Stage}
use Rattle.turn_client_proto_handshake_laws.specs.declared.driving.Stage.TheVariants.{Drawing, Polling, Over, Failed}
use Rattle.turn_client_proto_handshake_laws.specs.declared.driving.Stage.TheVariants.{Astray}

-- The latest time at which a client may be called, in nanoseconds.
abbrev pub client_end : ℕ
client_end = 2 ^ 62

-- ---- calls

-- A call, its time, and its result.
pub data Call : Type 0 where
  -- `poll_transmit` was called.
  Draws : (now : ℕ) (sent : Option Sent) → Call
  -- `poll_transmit` was called, and memory ran out.
  DrawFails : (now : ℕ) → Call
  -- `poll` was called.
  Polls : (now : ℕ) (ret : TurnPollRet) → Call
  -- `poll_event` was called for the oldest event.
  Takes : (event : Option TurnEvent) → Call
  -- A getter was called.
  Looks : Call

-- The oldest queued event is taken, if there is one.
pub record IsEventTaken (old : Protocol) (event : Option TurnEvent) (new : Protocol) : Type 0 where
  pub first : old.events ≡ option_to_list event ++ new.events
  pub none : IfNone event (old.events ≡ [])
  pub others : new ≡ record old { events = new.events }

-- What a call does to a client, by its contract.
abbrev pub IsCalled : Protocol → Call → Protocol → Type 0
IsCalled old (Draws now sent) new = IsTransmitted old now sent new
IsCalled old (DrawFails now) new = HasFailed old new × HasToSend old now
IsCalled old (Polls now ret) new = IsPolled old now ret new
IsCalled old (Takes event) new = IsEventTaken old event new
IsCalled old Looks new = new ≡ old

-- ---- the driver

-- A stage is what the driver does next (`Stage`, src/driving.rt).

-- After `poll_transmit`: the driver calls it again until it returns nothing.
abbrev pub transmitted_at : (now : ℕ) → Option Sent → Stage
transmitted_at now (Some sent) = Drawing now
transmitted_at now None = Polling now

-- After `poll`: the driver waits until the time that it returned, whatever that is.
abbrev pub polled_at : (now : ℕ) → TurnPollRet → Stage
polled_at now (answer.WaitUntil time) = Drawing time
polled_at now (answer.AllocateTcpSocket connection socket peer) = Astray
polled_at now (answer.TcpClose here server) = Astray
polled_at now answer.Closed = Over now
polled_at now answer.NoMemory = Failed now

-- The stage after a call.
abbrev pub stage_after : Stage → Call → Stage
stage_after stage (Draws now sent) = transmitted_at now sent
stage_after stage (DrawFails now) = Failed now
stage_after stage (Polls now ret) = polled_at now ret
stage_after stage (Takes event) = stage
stage_after stage Looks = stage

-- The calls that the driver may make at a stage, up to the latest time of a client. Events may be taken and
-- getters called at any stage.
abbrev pub ComesAt : Stage → Call → Type 0
ComesAt stage (Draws now sent) = (stage ≡ Drawing now) × (now ≤ client_end)
ComesAt stage (DrawFails now) = (stage ≡ Drawing now) × (now ≤ client_end)
ComesAt stage (Polls now ret) = (stage ≡ Polling now) × (now ≤ client_end)
ComesAt stage (Takes event) = Unit {0}
ComesAt stage Looks = Unit {0}

-- A client was driven by these calls, from one stage to another.
unfoldable pub IsDriven : Stage → Protocol → List Call → Stage → Protocol → Type 0
IsDriven stage old [] last new = (last ≡ stage) × (new ≡ old)
IsDriven stage old (call ∷ calls) last new = (between : Protocol) × ComesAt stage call × IsCalled old call between
    × IsDriven (stage_after stage call) between calls last new

-- The driver does nothing more: the client was closed or has failed, or requests a socket, or the time is
-- after the latest one.
abbrev pub HasStopped : Stage → Type 0
HasStopped (Drawing now) = client_end < now
HasStopped (Polling now) = client_end < now
HasStopped (Over now) = Unit {0}
HasStopped (Failed now) = Unit {0}
HasStopped Astray = Unit {0}

-- One call of the driver, and the stage after it.
pub record IsStep (stage : Stage) (old : Protocol) (next : Stage) (new : Protocol) : Type 0 where
  pub call : Call
  pub comes : ComesAt stage call
  pub called : IsCalled old call new
  pub leads : next ≡ stage_after stage call

-- A client was driven from one stage to another by `many` calls.
pub record IsDrivenBy (many : ℕ) (stage : Stage) (old : Protocol) (last : Stage) (new : Protocol) : Type 0 where
  pub calls : List Call
  pub driven : IsDriven stage old calls last new
  pub length_is : length calls ≡ many
