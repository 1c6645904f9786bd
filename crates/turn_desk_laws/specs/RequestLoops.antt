-- What becomes of a request of a client that a loop drives, over a network that takes time (RFC 8489, sections 6.2.1
-- and 6.3.1; RFC 8656, sections 10 and 12).
use Rattle.std.specs.Prelude.{◌≡◌, ◌≢◌, ◌≤◌, ◌<◌, ◌+◌, ◌⊎◌, ◌++◌, ℕ, true, List, [], ◌∷◌, length, Some, Vec}
use Rattle.std.specs.FinMap as map
use Rattle.std.specs.declared.alloc.Global.{Global}
use Rattle.std.specs.declared.net.socket_addr.SocketAddr.{SocketAddr}
use Rattle.turn_desk_core.specs.StunTypesWire.Attributes.{kind_at}
use Rattle.turn_desk_core.specs.StunTypesWire.declared.class.MessageClass.TheVariants.{Success}
use Rattle.turn_desk_core.specs.StunTypesWire.Types.{class_of}
use Rattle.turn_desk_core.specs.declared.decision.Decision.{Decision}
use Rattle.turn_desk_event.specs.StunProtoTransaction.Schedule.{end_at}
use Rattle.turn_client_proto_messages.specs.StunProtoClient.Challenges.{ChallengeFields, challenge_visible}
use Rattle.turn_client_proto_messages.specs.StunProtoTransaction.Agents.{Transaction}
use Rattle.turn_client_proto_messages.specs.Waiting.{Queued}
use Rattle.turn_client_proto_handshake_laws.specs.Driving.{client_end}
use Rattle.turn_client_proto_progress_laws.specs.Speaking.{AreHeldBeyond}
use Rattle.turn_client_proto_step_laws.specs.Recv.ClientState.{Protocol}
use Rattle.turn_desk_event.specs.declared.answer.Answer.{Answer}
use Rattle.turn_desk_event.specs.declared.answer.Answer.TheVariants as answer
use Rattle.turn_desk_event.specs.declared.event.ClientCall.{ClientCall}
use Rattle.turn_desk_event.specs.declared.event.ClientCall.TheVariants as call
use Rattle.turn_desk_event.specs.declared.event.Event.{Event}
use Rattle.turn_desk_event.specs.declared.event.Event.TheVariants.{Call, Draw, ToClient, ToDesk}
use Rattle.turn_desk_world_laws.specs.World.Model.{World}
use Rattle.turn_desk_world_laws.specs.World.Runs.{IsRun, IsStep}
use Rattle.turn_desk_progress_laws.specs.Asking.{Idle, IsCleanRun, IsOwnCall, IsRequestOf, replies_in}
use Rattle.turn_desk_progress_laws.specs.Loops.{Gives, IsLoop, MayBegin, Position, sent_after, start}
use Rattle.turn_desk_progress_laws.specs.Promises.{HasClient}
use Rattle.turn_desk_progress_laws.specs.Scripts.{BringsOn, Done, Plan}
use Rattle.turn_client_proto_api.specs.Sent.{Sent}

-- ---- where it begins

-- A loop has ended with an allocation (Loops.antt), and a clean run has followed it (Asking.antt).
pub record HasAllocated (plan : Plan) (old : World) (address : SocketAddr) (new : World) : Type 0 where
  pub may : MayBegin plan old
  pub between : World
  pub first : List (Event × Answer)
  pub run : IsRun old first between
  pub position : Position
  pub loop : IsLoop plan old.desk.auth start first position
  pub signed : Sent
  pub lifetime : ℕ
  pub reply : List ℕ
  pub done : position.progress ≡ Done signed address lifetime reply
  pub second : List (Event × Answer)
  pub again : IsRun between second new
  pub clean : IsCleanRun plan (replies_in first []) Idle second Idle

-- A call at the time `made` made this request. Neither is the request given up by `until`, by its schedule, nor has
-- the allocation ended by then.
pub record HasMade (plan : Plan) (what : ClientCall) (made until : ℕ) (request : List ℕ) (old new : World) : Type 0
  where
    pub beyond : HasClient plan [] old (λ p. AreHeldBeyond until p.allocations)
    pub early : until < end_at made plan.client.config.waits
    pub in_range : until ≤ client_end
    pub step : IsStep (Call what made) old answer.Done new
    pub is : IsRequestOf old new request

-- The call requests a permission or a channel.
abbrev pub IsRequestCall : ClientCall → Type 0
IsRequestCall (call.CreatePermission transport ip) = Unit {0}
IsRequestCall (call.BindChannel transport peer) = Unit {0}
IsRequestCall _ = ⊥

-- ---- where it is

-- What was done with the request so far.
pub data Stage : Type 0 where
  -- It is queued, and was not transmitted yet.
  Pending : Stage
  -- It was transmitted.
  Transmitted : Stage
  -- The server core granted it by a reply, of which these first bytes reached the client so far.
  Granted : (reply head : List ℕ) → Stage
  -- The same of a reply by which the server core challenged it.
  Challenged : (reply head : List ℕ) → Stage
  -- All of that reply reached the client.
  Got : (reply : List ℕ) → Stage

-- What was done so far; the time of the client's last event; and a time at or after which the client transmitted
-- nothing, in nanoseconds by the client's clock.
pub record RequestPosition : Type 0 where
  pub stage : Stage
  pub last : ℕ
  pub sent : ℕ

-- The request was made at this time. The client transmitted its last message no later than at `sent`.
abbrev pub requested : (made sent : ℕ) → RequestPosition
requested made sent = record { stage = Pending; last = made; sent = sent }

-- A time is not before that of the client's last event, and not after `until`.
pub record IsNext (until : ℕ) (position : RequestPosition) (now : ℕ) : Type 0 where
  pub later : position.last ≤ now
  pub early : now ≤ until

-- ---- what happens, and where it leads

-- The reply hasn't reached the client as a whole.
abbrev pub IsAwaited : Stage → Type 0
IsAwaited Pending = Unit {0}
IsAwaited Transmitted = Unit {0}
IsAwaited (Granted reply head) = Unit {0}
IsAwaited (Challenged reply head) = Unit {0}
IsAwaited (Got reply) = ⊥

-- The result is this request.
abbrev pub IsGiven : (request : List ℕ) → Answer → Type 0
IsGiven request ret = Gives ret (λ sent. sent.bytes ≡ request)

-- What was done with the request after a draw with this result.
abbrev pub IsDrawTo : (request : List ℕ) → Stage → Answer → (next : Stage) → Type 0
IsDrawTo request Pending ret next =
    (IsGiven request ret × (next ≡ Transmitted)) ⊎ ((IsGiven request ret → ⊥) × (next ≡ Pending))
IsDrawTo request stage ret next = next ≡ stage

-- The state after a chunk of the reply: `head` has come then, and `rest` is still to come.
abbrev pub brought : (reply head rest : List ℕ) → Stage
brought reply head [] = Got reply
brought reply head (byte ∷ rest) = Granted reply head

-- What happens, and where its result leads. The request reaches the server core from the client's own address, at
-- any time by the server core's clock, and its reply the client from the server's address.
pub data Leads (plan : Plan) (request : List ℕ) (until : ℕ) (position : RequestPosition) (event : Event) (ret : Answer)
    (next : RequestPosition) : Type 0 where
  -- The client is drawn, and may give nothing, another message, this request, or this request again.
  Draws : (now : ℕ) (stage : Stage) → IsAwaited position.stage → IsNext until position now → event ≡ Draw now
      → IsDrawTo request position.stage ret stage
      → next ≡ record { stage = stage; last = now; sent = sent_after now ret position.sent }
      → Leads plan request until position event ret next
  -- `poll` and the getters are called, events are polled, and permissions and channels are requested.
  Calls : (what : ClientCall) (now : ℕ) → IsAwaited position.stage → IsOwnCall what → IsNext until position now
      → event ≡ Call what now → next ≡ record position { last = now } → Leads plan request until position event ret next
  Receives : (now : ℕ) → IsNext until position now → event ≡ Call call.PollRecv now
      → next ≡ record position { last = now } → Leads plan request until position event ret next
  -- Anything reaches the server core.
  AtDesk : (bytes : Vec ℕ Global) (from : SocketAddr) (now : ℕ) (decision : Decision) (seed : List ℕ)
      → event ≡ ToDesk bytes from now decision seed → next ≡ position → Leads plan request until position event ret next
  -- The request reaches the server core, which grants it by a success response.
  Grants : (bytes reply : Vec ℕ Global) (now : ℕ) (decision : Decision) (seed : List ℕ) → position.stage ≡ Transmitted
      → bytes.items ≡ request → event ≡ ToDesk bytes plan.client.here now decision seed → ret ≡ answer.Reply reply
      → class_of (kind_at reply.items) ≡ Success → next ≡ record position { stage = Granted reply.items [] }
      → Leads plan request until position event ret next
  -- The request reaches the server core, which challenges it.
  Challenges : (bytes reply : Vec ℕ Global) (now : ℕ) (decision : Decision) (seed : List ℕ) (reported : ChallengeFields)
      → position.stage ≡ Transmitted → bytes.items ≡ request
      → event ≡ ToDesk bytes plan.client.here now decision seed → ret ≡ answer.Reply reply
      → challenge_visible reply.items ≡ Some reported → next ≡ record position { stage = Challenged reply.items [] }
      → Leads plan request until position event ret next
  -- The success response, or a chunk of it, reaches the client.
  Brings : (reply head rest : List ℕ) (bytes : Vec ℕ Global) (now : ℕ) → position.stage ≡ Granted reply head
      → BringsOn plan.client.transport reply head bytes.items rest → IsNext until position now
      → event ≡ ToClient bytes plan.client.server plan.client.here now
      → next ≡ record position { stage = brought reply (head ++ bytes.items) rest; last = now }
      → Leads plan request until position event ret next
  -- A chunk of the challenge reaches the client, and more is to come.
  Turns : (reply head rest : List ℕ) (bytes : Vec ℕ Global) (now : ℕ) → position.stage ≡ Challenged reply head
      → BringsOn plan.client.transport reply head bytes.items rest → rest ≢ [] → IsNext until position now
      → event ≡ ToClient bytes plan.client.server plan.client.here now
      → next ≡ record position { stage = Challenged reply (head ++ bytes.items); last = now }
      → Leads plan request until position event ret next

-- The events and results lead from one place to another.
unfoldable pub IsAskingLoop : Plan → (request : List ℕ) → (until : ℕ) → RequestPosition → List (Event × Answer)
    → RequestPosition → Type 0
IsAskingLoop plan request until position [] last = last ≡ position
IsAskingLoop plan request until position (pair ∷ pairs) last =
    (next : RequestPosition) × Leads plan request until position pair.0 pair.1 next
    × IsAskingLoop plan request until next pairs last

-- ---- the queue, and what a draw gives

-- The client transmitted its last message no later than at `sent`.
abbrev pub HasLastSent : (sent : ℕ) → Protocol → Type 0
HasLastSent sent p = (last : ℕ) → p.last_send ≡ Some last → last ≤ sent

-- The request is queued, behind this many other messages.
pub record IsQueuedAfter (request : List ℕ) (ahead : ℕ) (p : Protocol) : Type 0 where
  pub before : List Queued
  pub own : Queued
  pub after : List Queued
  pub queue_is : p.queue ≡ before ++ own ∷ after
  pub bytes_are : own.bytes ≡ request
  pub requests : own.is_request ≡ true
  pub many : length before ≡ ahead

abbrev pub IsQueued : Plan → (request : List ℕ) → (ahead : ℕ) → World → Type 0
IsQueued plan request ahead w = HasClient plan [] w (λ p. IsQueuedAfter request ahead p)

-- The bytes are those of a request to which no response has come.
pub record IsOutstanding (bytes : List ℕ) (p : Protocol) : Type 0 where
  pub number : ℕ
  pub transaction : Transaction
  pub there : map.get p.agent.outstanding number ≡ Some transaction
  pub bytes_are : transaction.bytes ≡ bytes

-- What a draw gives while the request is queued behind this many other messages.
pub data IsDrawOf (plan : Plan) (request : List ℕ) (ahead : ℕ) (old : World) (ret : Answer) (new : World) : Type 0 where
  -- A request is due again, by its own schedule, and the queue stays as it is.
  Again : HasClient plan [] old (λ p. Gives ret (λ sent. IsOutstanding sent.bytes p)) → IsQueued plan request ahead new
      → IsDrawOf plan request ahead old ret new
  -- No other message is queued before the request, and the result is the request.
  Itself : ahead ≡ 0 → IsGiven request ret → IsDrawOf plan request ahead old ret new
  -- The result is the first of the other messages.
  Before : (left : ℕ) → ahead ≡ left + 1 → Gives ret (λ sent. Unit {0}) → IsQueued plan request left new
      → IsDrawOf plan request ahead old ret new
