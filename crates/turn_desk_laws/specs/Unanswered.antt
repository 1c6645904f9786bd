-- A client whose first request gets no response, in a simulation: what happens, by positions, and what the
-- client does (RFC 8489, section 6.2.1; RFC 8656, section 7.1).
use Rattle.std.specs.Prelude.{◌≡◌, ◌≢◌, ◌⊎◌, ◌<◌, ◌≤◌, ◌+◌, ◌++◌, ℕ, true, false, max, length}
use Rattle.std.specs.Prelude.{List, [], ◌∷◌, None, Some, Vec}
use Rattle.std.specs.List.{flat_map}
use Rattle.std.specs.declared.alloc.Global.{Global}
use Rattle.std.specs.declared.net.socket_addr.SocketAddr.{SocketAddr}
use Rattle.turn_desk_core.specs.StunTypesBase.declared.transport.TransportType.TheVariants.{Udp}
use Rattle.turn_desk_core.specs.StunTypesWire.Grammar.{number_at, refusal}
use Rattle.turn_desk_event.specs.StunProtoTransaction.Schedule.{end_at, slot_at}
use Rattle.turn_client_proto_messages.specs.StunProtoClient.Challenges.{ChallengeFields, challenge_visible}
use Rattle.turn_desk_core.specs.StunTypesWire.declared.algorithm.IntegrityAlgorithm.{IntegrityAlgorithm}
use Rattle.turn_client_proto_api.specs.StunProtoAgent.Handling.{is_response}
use Rattle.turn_client_proto_api.specs.Config.{Config}
use Rattle.turn_client_proto_api.specs.Sent.{sent_of}
use Rattle.turn_client_proto_api.specs.declared.event.TurnEvent.{TurnEvent}
use Rattle.turn_client_proto_handshake_laws.specs.Choosing.{IsAnsweredBy}
use Rattle.turn_client_proto_handshake_laws.specs.Driving.{client_end}
use Rattle.turn_client_proto_handshake_laws.specs.Requested.{count_of}
use Rattle.turn_client_proto_handshake_laws.specs.Sent.{Begins, HasRoom, IsUsual, Sending, first_number, first_sent, sent_at}
use Rattle.turn_client_proto_handshake_laws.specs.Stages.{HasEnded, failures}
use Rattle.turn_desk_event.specs.declared.answer.Answer.{Answer}
use Rattle.turn_desk_event.specs.declared.answer.Answer.TheVariants as answer
use Rattle.turn_desk_core.specs.declared.decision.Decision.{Decision}
use Rattle.turn_desk_event.specs.declared.event.ClientCall.{ClientCall}
use Rattle.turn_desk_event.specs.declared.event.ClientCall.TheVariants as call
use Rattle.turn_desk_event.specs.declared.event.Event.{Event}
use Rattle.turn_desk_event.specs.declared.event.Event.TheVariants.{Call, Draw, ToClient, ToDesk}
use Rattle.turn_desk_world_laws.specs.World.Model.{World}
use Rattle.turn_desk_progress_laws.specs.Loops.{Gives, IsNoneDue, IsOnSchedule, Timing, counted}
use Rattle.turn_desk_progress_laws.specs.Promises.{HasClient}
use Rattle.turn_desk_progress_laws.specs.Scripts.{BringsOn, IsLook, Plan}

-- ---- where it begins

-- The client is new, and nothing has come to it. Its user name fits into a request, and it is configured for
-- at most two address families, and as usual (`IsUsual`). Of the plan only the client counts, whose first draw (the first call of
-- `poll_transmit`) is at `plan.client.made`. Nothing is said of the server core.
pub record HasNewClient (plan : Plan) (w : World) : Type 0 where
  pub client : HasClient plan [] w (λ p. Begins plan.client p)
  pub room : HasRoom plan.client.config
  pub usual : IsUsual plan.client.config

-- ---- where it is

-- How far the client's first request is: it wasn't made yet; it is outstanding; or the end of its schedule has
-- passed, and the client was polled then.
pub data RequestState : Type 0 where
  Unmade : RequestState
  Outstanding : RequestState
  TimedOut : RequestState

-- How far the request is; how often it was transmitted, and when last; and which bytes of a message have come
-- over TCP from the server, if not all of it has come.
pub record Position : Type 0 where
  pub request : RequestState
  pub timing : Timing
  pub buffered : List ℕ

-- Nothing was done yet.
abbrev pub begin : Position
begin = record { request = Unmade; timing = record { many = 0; sent = 0; challenged = 0; came = 0 }; buffered = [] }

-- The time at which the client gives its request up.
abbrev pub end_in : Plan → ℕ
end_in plan = end_at plan.client.made plan.client.config.waits

-- ---- what comes to the client

-- A response to another request than the client's has no effect on the client if it is hardened. Otherwise it
-- has none unless it is a challenge that the client can answer: such a challenge is stored.
abbrev pub IsWithoutEffect : Config → (message : List ℕ) → Type 0
IsWithoutEffect config message = (config.hardened ≡ true)
    ⊎ ((reported : ChallengeFields) (algorithm : IntegrityAlgorithm) → challenge_visible message ≡ Some reported
    → IsAnsweredBy config reported algorithm → ⊥)

-- A message that doesn't answer the client's request: it is an indication or a request, or a response with
-- another transaction ID (RFC 8489, section 6.3).
pub data IsNoResponse (plan : Plan) (message : List ℕ) : Type 0 where
  OtherClass : is_response message ≡ false → IsNoResponse plan message
  OtherNumber : number_at message ≢ first_number plan.client → IsWithoutEffect plan.client.config message
      → IsNoResponse plan message

-- All of a message may come unless it answers the outstanding request. Before the request is made and after it
-- has timed out any message may come; and so may a part of any message.
abbrev pub MayCome : Plan → RequestState → (message rest : List ℕ) → Type 0
MayCome plan Outstanding message [] = IsNoResponse plan message
MayCome plan Outstanding message (byte ∷ rest) = Unit {0}
MayCome plan _ message rest = Unit {0}

-- The bytes of a message that have come, until all of it has come.
abbrev pub until_whole : (come rest : List ℕ) → List ℕ
until_whole come [] = []
until_whole come (byte ∷ rest) = come

-- ---- what happens

-- The first draw is at the time at which the client begins, and every other one at any time.
abbrev pub MayDraw : Plan → RequestState → (now : ℕ) → Type 0
MayDraw plan Unmade now = now ≡ plan.client.made
MayDraw plan _ now = Unit {0}

-- Once the client was drawn, its request is made.
abbrev pub after_draw : RequestState → RequestState
after_draw Unmade = Outstanding
after_draw request = request

-- The client is polled before its request is given up.
abbrev pub IsBeforeEnd : Plan → RequestState → (now : ℕ) → Type 0
IsBeforeEnd plan Outstanding now = now < end_in plan
IsBeforeEnd plan _ now = Unit {0}

-- What happens at a position, and where it leads. The client may be called at any time up to the latest time
-- of a client: nothing is presumed of the order of the times, nor of how late a call is.
pub data Goes (plan : Plan) (position : Position) (event : Event) (ret : Answer) (next : Position) : Type 0 where
  -- The client is drawn.
  Draws : (now : ℕ) → MayDraw plan position.request now → now ≤ client_end → event ≡ Draw now
      → next ≡ record position { request = after_draw position.request; timing = counted now ret position.timing }
      → Goes plan position event ret next
  -- The client is polled before the end of its request's schedule, or before or after that request.
  Polls : (now : ℕ) → IsBeforeEnd plan position.request now → now ≤ client_end → event ≡ Call call.Poll now
      → next ≡ position → Goes plan position event ret next
  -- The client is polled for the first time at or after that end.
  TimesOut : (now : ℕ) → position.request ≡ Outstanding → end_in plan ≤ now → now ≤ client_end
      → event ≡ Call call.Poll now → next ≡ record position { request = TimedOut } → Goes plan position event ret next
  -- Its events are polled, or a getter or `poll_recv` is called.
  Looks : (what : ClientCall) (now : ℕ) → IsLook what → event ≡ Call what now → next ≡ position
      → Goes plan position event ret next
  Receives : (now : ℕ) → event ≡ Call call.PollRecv now → next ≡ position → Goes plan position event ret next
  -- Anything comes to the server core, from anywhere.
  Serves : (bytes : Vec ℕ Global) (from : SocketAddr) (now : ℕ) (decision : Decision) (seed : List ℕ)
      → event ≡ ToDesk bytes from now decision seed → next ≡ position → Goes plan position event ret next
  -- Any bytes come to the client from another address than the server's, or at another one than its own.
  Strays : (bytes : Vec ℕ Global) (from to : SocketAddr) (now : ℕ)
      → (from ≢ plan.client.server) ⊎ (to ≢ plan.client.here) → event ≡ ToClient bytes from to now → next ≡ position
      → Goes plan position event ret next
  -- A datagram comes that is no message.
  Garbles : (bytes : Vec ℕ Global) (from to : SocketAddr) (now : ℕ) → plan.client.transport ≡ Udp
      → refusal bytes.items ≢ None → event ≡ ToClient bytes from to now → next ≡ position
      → Goes plan position event ret next
  -- A message, or over TCP a chunk of it, comes from the server, if it may.
  Brings : (message rest : List ℕ) (bytes : Vec ℕ Global) (now : ℕ) → refusal message ≡ None
      → MayCome plan position.request message rest
      → BringsOn plan.client.transport message position.buffered bytes.items rest → now ≤ client_end
      → event ≡ ToClient bytes plan.client.server plan.client.here now
      → next ≡ record position { buffered = until_whole (position.buffered ++ bytes.items) rest }
      → Goes plan position event ret next

-- The events and results lead from one position to another.
unfoldable pub IsUnanswered : Plan → Position → List (Event × Answer) → Position → Type 0
IsUnanswered plan position [] last = last ≡ position
IsUnanswered plan position (pair ∷ pairs) last =
    (next : Position) × Goes plan position pair.0 pair.1 next × IsUnanswered plan next pairs last

-- ---- what a draw gives

-- The first draw gives the first request. While that is outstanding, it goes by its schedule: it comes again
-- at the first draw at or after each slot, and at no other (`IsOnSchedule`). Then nothing comes.
abbrev pub IsDrawAt : Plan → RequestState → Timing → (now : ℕ) → Answer → Type 0
IsDrawAt plan Unmade t now ret = Gives ret (λ sent. sent ≡ first_sent plan.client)
IsDrawAt plan Outstanding t now ret = IsOnSchedule plan t now ret
IsDrawAt plan TimedOut t now ret = ret ≡ answer.Nothing

-- What is transmitted, and when, in order.
abbrev pub sending_of : Event → Answer → List Sending
sending_of (Draw now) (answer.Transmit sent) = record { now = now; sent = sent_of sent } ∷ []
sending_of (Draw now) _ = []
sending_of _ ret = []

abbrev pub sendings_in : List (Event × Answer) → List Sending
sendings_in pairs = flat_map (λ (pair : Event × Answer). sending_of pair.0 pair.1) pairs

-- None of these times is before its slot: the first not before the one with this index, and so on.
unfoldable pub AreNotEarly : Plan → (index : ℕ) → (times : List ℕ) → Type 0
AreNotEarly plan index [] = Unit {0}
AreNotEarly plan index (time ∷ times) =
    (slot_at plan.client.made plan.client.config.waits index ≤ time) × AreNotEarly plan (index + 1) times

-- All that was transmitted is the first request, the same bytes under the same transaction ID, from the
-- client's own address to the server's: at most once for each slot, and never before it.
pub record HasSent (plan : Plan) (t : Timing) (sendings : List Sending) : Type 0 where
  pub times : List ℕ
  pub sent : sendings ≡ sent_at plan.client times
  pub many : length times ≡ t.many
  pub most : t.many ≤ count_of plan.client
  pub slots : AreNotEarly plan 0 times

-- ---- what a poll gives

-- A wait until a time that is not after the end, nor after the next slot (or now, if that slot has passed). It
-- is later than now if no transmission is due.
pub record IsWait (plan : Plan) (t : Timing) (now : ℕ) (ret : Answer) : Type 0 where
  pub time : ℕ
  pub wait_is : ret ≡ answer.Wait time
  pub by_end : time ≤ end_in plan
  pub by_slot : t.many < count_of plan.client
      → time ≤ max now (slot_at plan.client.made plan.client.config.waits t.many)
  pub later : IsNoneDue plan plan.client.made t.many now → now < time

-- Before the end of the schedule such a wait, and at the first poll at or after it `Closed`. Then the events
-- are to be polled at once, and once that was done, the client is closed.
abbrev pub IsPolledAt : Plan → (reported : List TurnEvent) → RequestState → Timing → (now : ℕ) → Answer → Type 0
IsPolledAt plan reported Unmade t now ret = ret ≡ answer.Wait now
IsPolledAt plan reported Outstanding t now ret =
    (now < end_in plan → IsWait plan t now ret) × (end_in plan ≤ now → ret ≡ answer.Closed)
IsPolledAt plan reported TimedOut t now ret = (reported ≡ failures plan.client → ret ≡ answer.Closed)
    × (reported ≢ failures plan.client → ret ≡ answer.Wait now)

-- ---- what is reported

-- The client has ended. The events that were reported and those that are left are, for each family in order,
-- that no address was allocated.
pub record HasTimedOut (plan : Plan) (reported : List TurnEvent) (head : List ℕ) (w : World) : Type 0 where
  pub left : List TurnEvent
  pub decodes : reported ++ left ≡ failures plan.client
  pub client : HasClient plan head w (λ p. HasEnded plan.client left p)

-- Before the request has timed out, nothing is reported.
abbrev pub HasReported : Plan → (reported : List TurnEvent) → RequestState → (buffered : List ℕ) → World → Type 0
HasReported plan reported Unmade buffered w = reported ≡ []
HasReported plan reported Outstanding buffered w = reported ≡ []
HasReported plan reported TimedOut buffered w = HasTimedOut plan reported buffered w
