-- What holds of a client that receives nothing (RFC 8489, section 6.2.1; RFC 8656, section 7).
use Rattle.std.specs.Prelude.{◌≡◌, ◌<◌, ◌≤◌, ◌+◌, ◌++◌, ℕ, List, [], ◌∷◌, true, None, Contains, map, take}
use Rattle.turn_client_proto_api.specs.StunProtoAgent.Sending.{is_request}
use Rattle.turn_client_proto_api.specs.StunProtoAgent.State.{default_waits}
use Rattle.turn_client_proto_api.specs.StunTypesWire.Grammar.{refusal}
use Rattle.stun_types_base.specs.declared.transport.TransportType.TheVariants.{Tcp, Udp}
use Rattle.turn_client_proto_api.specs.declared.answer.TurnPollRet.{TurnPollRet}
use Rattle.turn_client_proto_api.specs.declared.answer.TurnPollRet.TheVariants as answer
use Rattle.turn_client_proto_api.specs.declared.event.TurnEvent.TheVariants.{AllocationCreateFailed}
use Rattle.turn_client_proto_core.specs.declared.protocol.Phase.TheVariants.{Ended}
use Rattle.turn_client_proto_core.specs.declared.protocol.Protocol.{Protocol}
use Rattle.turn_client_proto_messages.specs.ReportedRequests.{reported_request}
use Rattle.turn_client_proto_messages.specs.declared.request.TurnRequest.TheVariants.{FirstAllocate}
use Rattle.turn_client_proto_messages.specs.TurnRuns.StunWire.{decoded_by}
use Rattle.turn_client_proto_handshake_laws.specs.Driving.{Call, Draws, DrawFails, Polls, Takes, Looks}
use Rattle.turn_client_proto_handshake_laws.specs.Sent.{Beginning, end_of, first_number, first_request, slots_of}
use Rattle.turn_client_proto_handshake_laws.specs.Sent.{sendings, sent_at, slots_until, reported}
use Rattle.turn_client_proto_handshake_laws.specs.declared.driving.Stage.{Stage}
use Rattle.turn_client_proto_handshake_laws.specs.declared.driving.Stage.TheVariants.{Drawing, Polling, Over, Failed}
use Rattle.turn_client_proto_handshake_laws.specs.declared.driving.Stage.TheVariants.{Astray}

-- The first request was transmitted at the first `many` slots, and nothing else was transmitted.
pub record HasStarted (b : Beginning) (calls : List Call) : Type 0 where
  pub many : ℕ
  pub sent : sendings calls ≡ sent_at b (take many (slots_of b))

-- What was transmitted, by what the driver does next: once `poll_transmit` has returned nothing, the first
-- request at each slot up to now. If more may come, or memory ran out, the first request at some number of
-- first slots.
abbrev pub HasSent : Beginning → List Call → Stage → Type 0
HasSent b calls (Drawing now) = HasStarted b calls
HasSent b calls (Polling now) = sendings calls ≡ sent_at b (slots_until b now)
HasSent b calls (Over now) = sendings calls ≡ sent_at b (slots_until b now)
HasSent b calls (Failed now) = HasStarted b calls
HasSent b calls Astray = ⊥

-- The result of `poll`: before the end a later time, not after the end; at the end `Closed`. Memory may run
-- out only at the end, for the events.
abbrev pub IsAnswer : Beginning → (now : ℕ) → TurnPollRet → Type 0
IsAnswer b now (answer.WaitUntil time) = (now < time) × (time ≤ end_of b)
IsAnswer b now (answer.AllocateTcpSocket connection socket peer) = ⊥
IsAnswer b now (answer.TcpClose here server) = ⊥
IsAnswer b now answer.Closed = now ≡ end_of b
IsAnswer b now answer.NoMemory = now ≡ end_of b

-- Each `poll` has such a result. Memory runs out in `poll_transmit` only at a slot, when the request is to be
-- transmitted.
abbrev pub IsAnswered : Beginning → Call → Type 0
IsAnswered b (Draws now sent) = Unit {0}
IsAnswered b (DrawFails now) = Contains (slots_of b) now
IsAnswered b (Polls now ret) = IsAnswer b now ret
IsAnswered b (Takes event) = Unit {0}
IsAnswered b Looks = Unit {0}

-- No event was reported, and none is queued.
abbrev pub IsSilent : List Call → Protocol → Type 0
IsSilent calls new = (reported calls ≡ []) × (new.events ≡ [])

-- What was reported and what is queued, by what the driver does next: nothing before the end; and then, for
-- each family in order, that no address was allocated.
abbrev pub HasReported : Beginning → List Call → Stage → Protocol → Type 0
HasReported b calls (Drawing now) new = IsSilent calls new
HasReported b calls (Polling now) new = IsSilent calls new
HasReported b calls (Over now) new = (now ≡ end_of b) × (new.phase ≡ Ended)
    × (reported calls ++ new.events ≡ map AllocationCreateFailed b.config.families)
HasReported b calls (Failed now) new = IsSilent calls new
HasReported b calls Astray new = ⊥

-- The first request is a message and a request, and it decodes as one that asks for an allocation.
pub record IsAllocate (b : Beginning) : Type 0 where
  pub message : refusal (first_request b) ≡ None
  pub request : is_request (first_request b) ≡ true
  pub reported : decoded_by (first_request b)
      ≡ reported_request (FirstAllocate b.config.transport b.config.families b.config.options) (first_number b)

-- ---- the slots in transaction IDs

-- When a request is transmitted, in nanoseconds after the first time: the example of RFC 8489, section 6.2.1.
abbrev pub usual_slots : List ℕ
usual_slots = 0 ∷ 500_000_000 ∷ 1_500_000_000 ∷ 3_500_000_000 ∷ 7_500_000_000 ∷ 15_500_000_000 ∷ 31_500_000_000 ∷ []

-- When it is given up, in nanoseconds after the first time.
abbrev pub usual_end : ℕ
usual_end = 39_500_000_000

-- Over TCP there is one slot, whatever the waits. With the default waits, there are these slots over UDP, and
-- over both transports this end.
pub record AreSlots (b : Beginning) : Type 0 where
  pub tcp : b.transport ≡ Tcp → slots_of b ≡ b.made ∷ []
  pub udp : b.transport ≡ Udp → b.config.waits ≡ default_waits
      → slots_of b ≡ map (λ nanos. b.made + nanos) usual_slots
  pub end : b.config.waits ≡ default_waits → end_of b ≡ b.made + usual_end
