-- A client that a loop drives, and a network that takes time: each message is delivered once, unaltered, at any
-- later time; what the client retransmits may be lost (RFC 8489, sections 6.2.1 and 6.2.2).
use Rattle.std.specs.Prelude.{◌≡◌, ◌<◌, ◌≤◌, ◌+◌, ◌⊎◌, ◌++◌, ℕ, List, [], ◌∷◌, Some, None, Vec}
use Rattle.std.specs.FinMap as map
use Rattle.std.specs.declared.alloc.Global.{Global}
use Rattle.std.specs.declared.net.socket_addr.SocketAddr.{SocketAddr}
use Rattle.turn_desk_core.specs.StunTypesBase.Times.{time_after}
use Rattle.turn_desk_core.specs.StunTypesWire.declared.algorithm.IntegrityAlgorithm.{IntegrityAlgorithm}
use Rattle.turn_desk_core.specs.StunProtoServer.Server.{Server}
use Rattle.turn_desk_core.specs.StunProtoServer.Users.{HashesDiffer}
use Rattle.turn_desk_event.specs.StunProtoTransaction.Schedule.{end_at, slot_at}
use Rattle.turn_client_proto_messages.specs.StunProtoClient.Digests.{IsRight}
use Rattle.turn_client_proto_api.specs.Sent.{Sent, sent_of}
use Rattle.turn_client_proto_step_laws.specs.Sound.{IsWhole}
use Rattle.turn_client_proto_messages.specs.Api.Options.{cadence}
use Rattle.turn_client_proto_handshake_laws.specs.Choosing.{HasTextName}
use Rattle.turn_client_proto_handshake_laws.specs.Driving.{client_end}
use Rattle.turn_client_proto_handshake_laws.specs.Requested.{count_of}
use Rattle.turn_client_proto_handshake_laws.specs.Sent.{Begins, HasRoom, IsUsual, first_sent}
use Rattle.turn_client_proto_handshake_laws.specs.Stages.{AsksForOne}
use Rattle.turn_desk_event.specs.declared.answer.Answer.{Answer}
use Rattle.turn_desk_event.specs.declared.answer.Answer.TheVariants as answer
use Rattle.turn_desk_core.specs.declared.decision.Decision.{Decision}
use Rattle.turn_desk_core.specs.declared.decision.Decision.TheVariants as by
use Rattle.turn_desk_event.specs.declared.event.ClientCall.{ClientCall}
use Rattle.turn_desk_event.specs.declared.event.ClientCall.TheVariants as call
use Rattle.turn_desk_event.specs.declared.event.Event.{Event}
use Rattle.turn_desk_event.specs.declared.event.Event.TheVariants.{Call, Draw, ToClient, ToDesk}
use Rattle.turn_desk_world_laws.specs.World.Model.{World}
use Rattle.turn_desk_progress_laws.specs.Promises.{AreApart, HasClient, IsOwnSent, IsStrongestOf, key_in_realm}
use Rattle.turn_desk_progress_laws.specs.Scripts.{BringsOn, IsLook, Plan, Progress, Start, Requested, Challenged, Came}
use Rattle.turn_desk_progress_laws.specs.Scripts.{Signed, Granted, brought_first, brought_second, replied_first}
use Rattle.turn_desk_progress_laws.specs.Scripts.{replied_second, transmitted_first}

-- ---- where it begins

-- The state in which such a run begins. Of the plan only the client counts, which begins at its first draw (the
-- first call of `poll_transmit`), at `plan.client.made`: the time of a second draw makes no difference.
--
-- - The client is new, and nothing has come to it. Its user name is UTF-8 and fits into a request, and it is
--   configured for at most two address families, and as usual (`IsUsual`).
-- - The server core has its user, stores nothing for its address, and has no two users with the same hash.
pub record MayBegin (plan : Plan) (w : World) : Type 0 where
  pub client : HasClient plan [] w (λ p. Begins plan.client p)
  pub room : HasRoom plan.client.config
  pub usual : IsUsual plan.client.config
  pub text : HasTextName plan.client.config
  pub unknown : map.get w.desk.auth.clients plan.client.here ≡ None
  pub user : map.get w.desk.auth.users plan.client.config.credentials.username
      ≡ Some plan.client.config.credentials.password
  pub hashes : HashesDiffer w.desk.auth

-- ---- where it is

-- What was done when, in nanoseconds: by the client's clock, but where another one is named.
pub record Timing : Type 0 where
  -- How often the client transmitted the request that it makes at this position.
  pub many : ℕ
  -- The time at which it last transmitted something.
  pub sent : ℕ
  -- The time by the server core's clock at which the first request reached it, and its nonce was generated.
  pub challenged : ℕ
  -- The time at which the last reply had come to the client as a whole.
  pub came : ℕ

-- What was done so far, and the time of the client's last event.
pub record Position : Type 0 where
  pub progress : Progress
  pub last : ℕ
  pub timing : Timing

-- Nothing was done yet.
abbrev pub start : Position
start = record { progress = Start; last = 0; timing = record { many = 0; sent = 0; challenged = 0; came = 0 } }

-- A time isn't before that of the client's last event, and a client may be called then.
pub record IsNext (position : Position) (now : ℕ) : Type 0 where
  pub later : position.last ≤ now
  pub in_range : now ≤ client_end

-- ---- what happens to the client

-- The client may be drawn again: it has begun, and holds no allocation yet.
abbrev pub DrawsAgain : Progress → Type 0
DrawsAgain (Requested request) = Unit {0}
DrawsAgain (Challenged request reply head) = Unit {0}
DrawsAgain Came = Unit {0}
DrawsAgain (Signed request) = Unit {0}
DrawsAgain (Granted request address lifetime reply head) = Unit {0}
DrawsAgain _ = ⊥

-- The first message that the client transmits once the first reply has come is its second request. A message
-- that it transmits while a request is outstanding leads nowhere else, nor does a draw that gives nothing.
abbrev pub transmitted_next : Answer → Progress
transmitted_next (answer.Transmit sent) = Signed (sent_of sent)
transmitted_next _ = Came

abbrev pub after_draw : Progress → Answer → Progress
after_draw Came ret = transmitted_next ret
after_draw progress ret = progress

-- A message that the client transmits is counted.
abbrev pub count_after : Answer → (many : ℕ) → ℕ
count_after (answer.Transmit sent) many = many + 1
count_after _ many = many

abbrev pub sent_after : (now : ℕ) → Answer → (sent : ℕ) → ℕ
sent_after now (answer.Transmit message) sent = now
sent_after now _ sent = sent

abbrev pub counted : (now : ℕ) → Answer → Timing → Timing
counted now ret t = record t { many = count_after ret t.many; sent = sent_after now ret t.sent }

-- Once all of a reply has come, nothing was transmitted yet of what the client makes next.
abbrev pub arrived : (now : ℕ) (rest : List ℕ) → Timing → Timing
arrived now [] t = record t { many = 0; came = now }
arrived now (byte ∷ rest) t = t

-- `poll` may be called before the request that the client awaits or makes would be given up; and if client and
-- server core can't come together, at any time after the first reply.
abbrev pub MayPoll : Plan → Server → Progress → Timing → (now : ℕ) → Type 0
MayPoll plan server Start t now = Unit {0}
MayPoll plan server (Requested request) t now = now < end_at plan.client.made plan.client.config.waits
MayPoll plan server (Challenged request reply head) t now = now < end_at plan.client.made plan.client.config.waits
MayPoll plan server Came t now =
    (now < end_at t.came plan.client.config.waits) ⊎ AreApart plan.client.config server
MayPoll plan server (Signed request) t now = now < end_at t.came plan.client.config.waits
MayPoll plan server (Granted request address lifetime reply head) t now = now < end_at t.came plan.client.config.waits
MayPoll plan server _ t now = ⊥

-- ---- what happens, and where it leads

-- What happens at a position, and where its result leads. A request is delivered to the server core from the
-- address from which it is sent, and its reply to that address, from the one to which it is sent. Of each request
-- one transmission reaches the server core, whose clock is its own.
pub data Leads (plan : Plan) (server : Server) (position : Position) (event : Event) (ret : Answer) (next : Position)
    : Type 0 where
  -- The first draw.
  DrawsFirst : position.progress ≡ Start → IsNext position plan.client.made → event ≡ Draw plan.client.made
      → next ≡ record {
        progress = transmitted_first ret;
        last = plan.client.made;
        timing = record position.timing { many = 1; sent = plan.client.made };
      }
      → Leads plan server position event ret next
  -- Any later draw.
  DrawsOn : (now : ℕ) → DrawsAgain position.progress → IsNext position now → event ≡ Draw now
      → next ≡ record {
        progress = after_draw position.progress ret;
        last = now;
        timing = counted now ret position.timing;
      }
      → Leads plan server position event ret next
  -- The first request reaches the server core, at any time.
  AsksFirst : (request : Sent) (bytes : Vec ℕ Global) (now : ℕ) (decision : Decision) (seed : List ℕ)
      → position.progress ≡ Requested request → bytes.items ≡ request.bytes
      → event ≡ ToDesk bytes request.from now decision seed
      → next ≡ record {
        progress = replied_first request ret;
        last = position.last;
        timing = record position.timing { challenged = now };
      }
      → Leads plan server position event ret next
  -- The reply, or a chunk of it, reaches the client.
  GivesFirst : (request : Sent) (reply head rest : List ℕ) (bytes : Vec ℕ Global) (now : ℕ)
      → position.progress ≡ Challenged request reply head
      → BringsOn plan.client.transport reply head bytes.items rest → IsNext position now
      → event ≡ ToClient bytes request.to request.from now
      → next ≡ record {
        progress = brought_first request reply (head ++ bytes.items) rest;
        last = now;
        timing = arrived now rest position.timing;
      }
      → Leads plan server position event ret next
  -- The second request reaches the server core before its nonce expires. An address of the client's one family
  -- is decided, without flow information and scope.
  AsksSecond : (request : Sent) (bytes : Vec ℕ Global) (now : ℕ) (address : SocketAddr) (lifetime : ℕ) (seed : List ℕ)
      → position.progress ≡ Signed request → bytes.items ≡ request.bytes
      → now < time_after position.timing.challenged server.nonce_expiry
      → AsksForOne plan.client address → IsWhole address
      → event ≡ ToDesk bytes request.from now (by.Allocate (address ∷ []) lifetime) seed
      → next ≡ record position { progress = replied_second request address lifetime ret }
      → Leads plan server position event ret next
  GivesSecond : (request : Sent) (address : SocketAddr) (lifetime : ℕ) (reply head rest : List ℕ) (bytes : Vec ℕ Global)
      (now : ℕ) → position.progress ≡ Granted request address lifetime reply head
      → BringsOn plan.client.transport reply head bytes.items rest → IsNext position now
      → event ≡ ToClient bytes request.to request.from now
      → next ≡ record {
        progress = brought_second request address lifetime reply (head ++ bytes.items) rest;
        last = now;
        timing = arrived now rest position.timing;
      }
      → Leads plan server position event ret next
  -- At any position the client's events may be polled, and its getters and `poll_recv` called.
  Looks : (what : ClientCall) (now : ℕ) → IsLook what → IsNext position now → event ≡ Call what now
      → next ≡ record position { last = now } → Leads plan server position event ret next
  Receives : (now : ℕ) → IsNext position now → event ≡ Call call.PollRecv now → next ≡ record position { last = now }
      → Leads plan server position event ret next
  Polls : (now : ℕ) → MayPoll plan server position.progress position.timing now → IsNext position now
      → event ≡ Call call.Poll now → next ≡ record position { last = now } → Leads plan server position event ret next

-- The events and results lead from one position to another.
unfoldable pub IsLoop : Plan → Server → Position → List (Event × Answer) → Position → Type 0
IsLoop plan server position [] last = last ≡ position
IsLoop plan server position (pair ∷ pairs) last =
    (next : Position) × Leads plan server position pair.0 pair.1 next × IsLoop plan server next pairs last

-- ---- what a draw gives

-- The result is a message of which `Is` holds.
abbrev pub Gives : Answer → (Sent → Type 0) → Type 0
Gives (answer.Transmit sent) Is = Is (sent_of sent)
Gives _ Is = ⊥

-- Whether the next transmission of a request that was transmitted `many` times is due, by its schedule, which
-- begins at `made` (RFC 8489, section 6.2.1).
abbrev pub IsTransmissionDue : Plan → (made many now : ℕ) → Type 0
IsTransmissionDue plan made many now =
    (many < count_of plan.client) × (slot_at made plan.client.config.waits many ≤ now)

abbrev pub IsNoneDue : Plan → (made many now : ℕ) → Type 0
IsNoneDue plan made many now = many < count_of plan.client → now < slot_at made plan.client.config.waits many

-- The first request is transmitted exactly by its schedule: at the first draw at or after each slot, and at no
-- other.
pub record IsOnSchedule (plan : Plan) (t : Timing) (now : ℕ) (ret : Answer) : Type 0 where
  pub due : IsTransmissionDue plan plan.client.made t.many now → Gives ret (λ sent. sent ≡ first_sent plan.client)
  pub none : IsNoneDue plan plan.client.made t.many now → ret ≡ answer.Nothing

-- The second request: it is valid under the user's key in the server core's realm, by the strongest common
-- algorithm.
pub record IsSecondRequest (plan : Plan) (old : World) (request : Sent) : Type 0 where
  pub is_own : IsOwnSent plan request
  pub algorithm : IntegrityAlgorithm
  pub strongest : IsStrongestOf plan.client.config.algorithms old.desk.auth.algorithms algorithm
  pub right : IsRight request.bytes (key_in_realm plan old algorithm)

-- The second request is transmitted from 50 ms after the last message on. Its schedule begins when the challenge
-- came; if waits are so short that its second transmission is due before these 50 ms, it is transmitted then.
pub record IsSignedInTime (plan : Plan) (old : World) (t : Timing) (now : ℕ) (ret : Answer) : Type 0 where
  pub signs : time_after t.sent cadence ≤ now → Gives ret (IsSecondRequest plan old)
  pub again : IsTransmissionDue plan t.came 1 now → Gives ret (IsSecondRequest plan old)
  pub rests : now < time_after t.sent cadence → IsNoneDue plan t.came 1 now → ret ≡ answer.Nothing

-- The second request, once transmitted, goes on by its schedule: never before a slot, and at the first draw at
-- or after it. A slot that had passed when the last message was sent may wait until 50 ms after that message.
pub record IsSignedAgain (plan : Plan) (t : Timing) (now : ℕ) (request : Sent) (ret : Answer) : Type 0 where
  pub in_time : IsTransmissionDue plan t.came t.many now → IsNoneDue plan t.came t.many t.sent
      → Gives ret (λ sent. sent ≡ request)
  pub late : IsTransmissionDue plan t.came t.many now → time_after t.sent cadence ≤ now
      → Gives ret (λ sent. sent ≡ request)
  pub none : IsNoneDue plan t.came t.many now → ret ≡ answer.Nothing
  pub either : (ret ≡ answer.Nothing) ⊎ Gives ret (λ sent. sent ≡ request)

-- What a draw gives at a position.
abbrev pub IsTransmittedAt : Plan → World → Progress → Timing → (now : ℕ) → Answer → Type 0
IsTransmittedAt plan old Start t now ret = Gives ret (λ sent. sent ≡ first_sent plan.client)
IsTransmittedAt plan old (Requested request) t now ret = IsOnSchedule plan t now ret
IsTransmittedAt plan old (Challenged request reply head) t now ret = IsOnSchedule plan t now ret
IsTransmittedAt plan old Came t now ret = (AreApart plan.client.config old.desk.auth → ret ≡ answer.Nothing)
    × ((AreApart plan.client.config old.desk.auth → ⊥) → IsSignedInTime plan old t now ret)
IsTransmittedAt plan old (Signed request) t now ret = IsSignedAgain plan t now request ret
IsTransmittedAt plan old (Granted request address lifetime reply head) t now ret = IsSignedAgain plan t now request ret
IsTransmittedAt plan old _ t now ret = Unit {0}

-- The same of any event: no more is said of one that isn't a draw.
abbrev pub IsGivenBy : Plan → World → Position → Event → Answer → Type 0
IsGivenBy plan old position (Draw now) ret = IsTransmittedAt plan old position.progress position.timing now ret
IsGivenBy plan old position _ ret = Unit {0}
