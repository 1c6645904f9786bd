-- A client that holds an allocation, and that a loop drives at any times, over a network that takes time: it
-- renews the allocation by REFRESHs, which the server core grants, or challenges because its nonce has expired
-- (RFC 8656, sections 8.1 to 8.3; RFC 8489, sections 6.2.1, 9.2.4 and 9.2.5).
use Rattle.std.specs.Prelude.{◌≡◌, ◌≢◌, ◌<◌, ◌≤◌, ◌+◌, ◌*◌, ◌==◌, ◌⊎◌, ◌++◌, ◌&&◌, ℕ, nat_lt, nat_le, Bool, true, false, if◌then◌else◌}
use Rattle.std.specs.Prelude.{List, [], ◌∷◌, Some, Vec}
use Rattle.std.specs.declared.alloc.Global.{Global}
use Rattle.turn_desk_core.specs.StunTypesBase.Times.{time_after}
use Rattle.turn_desk_core.specs.StunTypesWire.Attributes.{kind_at}
use Rattle.turn_desk_core.specs.StunTypesWire.Grammar.{number_at}
use Rattle.turn_desk_core.specs.StunTypesWire.declared.class.MessageClass.TheVariants.{Success}
use Rattle.turn_desk_core.specs.StunTypesWire.Types.{class_of, method_of}
use Rattle.turn_desk_core.specs.TurnTypesAttributes.TurnRegistry.{refresh_method}
use Rattle.turn_desk_event.specs.StunProtoTransaction.Schedule.{end_at, slot_at}
use Rattle.turn_client_proto_api.specs.StunProtoAuth.Claims.{claimed}
use Rattle.turn_client_proto_messages.specs.StunProtoClient.Challenges.{ChallengeFields, challenge_visible}
use Rattle.turn_client_proto_api.specs.Sent.{Sent, sent_of}
use Rattle.turn_client_proto_messages.specs.Api.Options.{cadence}
use Rattle.turn_client_proto_handshake_laws.specs.Driving.{client_end}
use Rattle.turn_client_proto_handshake_laws.specs.Requested.{count_of}
use Rattle.turn_desk_event.specs.declared.answer.Answer.{Answer}
use Rattle.turn_desk_event.specs.declared.answer.Answer.TheVariants as answer
use Rattle.turn_desk_core.specs.declared.decision.Decision.{Decision}
use Rattle.turn_desk_core.specs.declared.decision.Decision.TheVariants as by
use Rattle.turn_desk_event.specs.declared.event.ClientCall.{ClientCall}
use Rattle.turn_desk_event.specs.declared.event.ClientCall.TheVariants as call
use Rattle.turn_desk_event.specs.declared.event.Event.{Event}
use Rattle.turn_desk_event.specs.declared.event.Event.TheVariants.{Call, Draw, ToClient, ToDesk}
use Rattle.turn_desk_world_laws.specs.World.Model.{World}
use Rattle.turn_desk_progress_laws.specs.Loops.{Gives, IsNoneDue, IsTransmissionDue, Position}
use Rattle.turn_desk_progress_laws.specs.Promises.{IsOwnSent}
use Rattle.turn_desk_progress_laws.specs.Renewals.{IsOwnRefresh}
use Rattle.turn_desk_progress_laws.specs.Scripts.{BringsOn, IsLook, Plan}
use Rattle.turn_desk_progress_laws.specs.Turns.{due, least, second}
use Rattle.turn_desk_laws.specs.RefreshStages.{most_challenges}

-- ---- where it is

-- What was done so far since the allocation was last granted.
pub data Renewal : Type 0 where
  -- The client transmitted no REFRESH for it yet.
  Holding : Renewal
  -- The client transmitted this REFRESH, and the server core hasn't replied to it.
  Refreshing : (request : Sent) → Renewal
  -- The server core has granted it this many seconds, and these first bytes of its reply reached the client so
  -- far.
  Renewing : (request : Sent) (more : ℕ) (reply head : List ℕ) → Renewal
  -- The server core's reply is a challenge, of which these first bytes reached the client so far.
  Challenged : (request : Sent) (reply head : List ℕ) → Renewal
  -- All of that challenge of that request reached the client, and it transmitted no REFRESH since.
  Turned : (request : Sent) (reply : List ℕ) → Renewal

-- What was done when, in nanoseconds by the client's clock.
pub record RenewalPosition : Type 0 where
  pub progress : Renewal
  -- The time of the client's last event.
  pub last : ℕ
  -- The time at which the allocation was last granted, and for how many seconds.
  pub from : ℕ
  pub lifetime : ℕ
  -- The time at which the client last transmitted something.
  pub sent : ℕ
  -- Where the schedule of the REFRESH begins: the time at which it was first transmitted; or, if it answers a
  -- challenge, at which the challenge had come. How often the client transmitted it.
  pub made : ℕ
  pub many : ℕ
  -- The REFRESH answers a challenge, and is still queued: it was transmitted by its schedule alone, or not at
  -- all.
  pub queued : Bool
  -- How many challenges came since the allocation was last granted.
  pub challenges : ℕ
  -- The client may transmit its second request once more. It does if that was transmitted by its schedule
  -- alone, and so is still queued.
  pub again : Bool

-- Where a loop that was granted an allocation ends, and the renewals begin.
abbrev pub held_after : Position → (lifetime : ℕ) → RenewalPosition
held_after position lifetime = record {
  progress = Holding;
  last = position.last;
  from = position.timing.came;
  lifetime = lifetime;
  sent = position.timing.sent;
  made = 0;
  many = 0;
  queued = false;
  challenges = 0;
  again = true;
}

-- The end of the allocation.
abbrev pub ends_at : RenewalPosition → ℕ
ends_at p = p.from + p.lifetime * second

-- A time isn't before that of the client's last event, and it is before the allocation's end; and a client may
-- be called then.
pub record IsInTime (p : RenewalPosition) (now : ℕ) : Type 0 where
  pub later : p.last ≤ now
  pub in_range : now ≤ client_end
  pub before : now < ends_at p

-- ---- what happens to the client

-- `poll` may be called before the REFRESH that is outstanding would be given up.
abbrev pub MayPollOn : Plan → Renewal → (made now : ℕ) → Type 0
MayPollOn plan Holding made now = Unit {0}
MayPollOn plan _ made now = now < end_at made plan.client.config.waits

-- The message is a REFRESH.
abbrev pub is_refresh : Sent → Bool
is_refresh sent = method_of (kind_at sent.bytes) == refresh_method

-- Whether the next transmission of a request that counts as transmitted `count` times is due by its schedule.
abbrev pub is_slot_due : Plan → (made count now : ℕ) → Bool
is_slot_due plan made count now =
    nat_lt count (count_of plan.client) && nat_le (slot_at made plan.client.config.waits count) now

-- A draw at which a transmission is due by the request's schedule leaves the request in the queue.
abbrev pub queued_after : Plan → (now : ℕ) → RenewalPosition → Bool
queued_after plan now p = p.queued && is_slot_due plan p.made (p.many + 1) now

-- A message that the client transmits while it holds the allocation is the REFRESH, if it is one. From 50 ms
-- after the last message on, the second request leaves the queue if it is queued.
abbrev pub holding_draw : (now : ℕ) → Answer → RenewalPosition → RenewalPosition
holding_draw now (answer.Transmit message) p = if is_refresh (sent_of message)
    then record p {
      progress = Refreshing (sent_of message);
      last = now;
      sent = now;
      made = now;
      many = 1;
      again = false;
    }
    else record p { progress = Holding; last = now; sent = now; again = false }
holding_draw now _ p = record p {
  progress = Holding;
  last = now;
  again = p.again && nat_lt now (time_after p.sent cadence);
}

-- A message that it transmits while a REFRESH is outstanding is counted.
abbrev pub counted_draw : Plan → (now : ℕ) → Answer → RenewalPosition → RenewalPosition
counted_draw plan now (answer.Transmit message) p =
    record p { last = now; sent = now; many = p.many + 1; queued = queued_after plan now p }
counted_draw plan now _ p = record p { last = now }

-- The first message that it transmits once the challenge has come is the next REFRESH.
abbrev pub turned_next : (request : Sent) (reply : List ℕ) → Answer → Renewal
turned_next request reply (answer.Transmit message) = Refreshing (sent_of message)
turned_next request reply _ = Turned request reply

abbrev pub position_after_draw : Plan → (now : ℕ) → Answer → Renewal → RenewalPosition → RenewalPosition
position_after_draw plan now ret Holding p = holding_draw now ret p
position_after_draw plan now ret (Turned request reply) p =
    record (counted_draw plan now ret p) { progress = turned_next request reply ret }
position_after_draw plan now ret _ p = counted_draw plan now ret p

-- Once all of the success response has come, the allocation is granted for the new lifetime.
abbrev pub renewed_by : (request : Sent) (more : ℕ) (reply head rest : List ℕ) (now : ℕ) → RenewalPosition
    → RenewalPosition
renewed_by request more reply head [] now p = record p {
  progress = Holding;
  last = now;
  from = now;
  lifetime = more;
  challenges = 0;
}
renewed_by request more reply head (byte ∷ rest) now p =
    record p { progress = Renewing request more reply head; last = now }

-- Once all of a challenge has come, the client makes another REFRESH.
abbrev pub challenged_by : (request : Sent) (reply head rest : List ℕ) (now : ℕ) → RenewalPosition → RenewalPosition
challenged_by request reply head [] now p = record p {
  progress = Turned request reply;
  last = now;
  made = now;
  many = 0;
  queued = true;
  challenges = p.challenges + 1;
}
challenged_by request reply head (byte ∷ rest) now p =
    record p { progress = Challenged request reply head; last = now }

-- ---- what happens, and where it leads

-- What happens at a position, and where its result leads. Of each REFRESH one transmission reaches the server
-- core, unaltered from where it was sent, at any time by the server core's own clock.
pub data Renews (plan : Plan) (p : RenewalPosition) (event : Event) (ret : Answer) (next : RenewalPosition)
    : Type 0 where
  Draws : (now : ℕ) → IsInTime p now → event ≡ Draw now → next ≡ position_after_draw plan now ret p.progress p
      → Renews plan p event ret next
  Polls : (now : ℕ) → IsInTime p now → MayPollOn plan p.progress p.made now → event ≡ Call call.Poll now
      → next ≡ record p { last = now } → Renews plan p event ret next
  Looks : (what : ClientCall) (now : ℕ) → IsLook what → IsInTime p now → event ≡ Call what now
      → next ≡ record p { last = now } → Renews plan p event ret next
  Receives : (now : ℕ) → IsInTime p now → event ≡ Call call.PollRecv now → next ≡ record p { last = now }
      → Renews plan p event ret next
  -- The server core grants as many seconds as are decided, which are ten minutes or more: its reply is a
  -- success response.
  Grants : (request : Sent) (now more : ℕ) (bytes reply : Vec ℕ Global) (seed : List ℕ)
      → p.progress ≡ Refreshing request → bytes.items ≡ request.bytes → least ≤ more
      → event ≡ ToDesk bytes request.from now (by.Refresh more) seed → ret ≡ answer.Reply reply
      → class_of (kind_at reply.items) ≡ Success
      → next ≡ record p { progress = Renewing request more reply.items [] } → Renews plan p event ret next
  -- The server core's nonce for the client has expired: its reply is a challenge, whatever is decided. It
  -- challenges a client no more often in a row than a client answers.
  Challenges : (request : Sent) (now : ℕ) (bytes reply : Vec ℕ Global) (reported : ChallengeFields)
      (decision : Decision) (seed : List ℕ) → p.progress ≡ Refreshing request → bytes.items ≡ request.bytes
      → p.challenges < most_challenges
      → event ≡ ToDesk bytes request.from now decision seed → ret ≡ answer.Reply reply
      → challenge_visible reply.items ≡ Some reported
      → next ≡ record p { progress = Challenged request reply.items [] } → Renews plan p event ret next
  -- The reply, or a chunk of it, reaches the client. Before all of it has come, the REFRESH left the queue.
  GivesSuccess : (request : Sent) (more : ℕ) (reply head rest : List ℕ) (bytes : Vec ℕ Global) (now : ℕ)
      → p.progress ≡ Renewing request more reply head → p.queued ≡ false
      → BringsOn plan.client.transport reply head bytes.items rest → IsInTime p now
      → event ≡ ToClient bytes request.to request.from now
      → next ≡ renewed_by request more reply (head ++ bytes.items) rest now p → Renews plan p event ret next
  GivesChallenge : (request : Sent) (reply head rest : List ℕ) (bytes : Vec ℕ Global) (now : ℕ)
      → p.progress ≡ Challenged request reply head → p.queued ≡ false
      → BringsOn plan.client.transport reply head bytes.items rest → IsInTime p now
      → event ≡ ToClient bytes request.to request.from now
      → next ≡ challenged_by request reply (head ++ bytes.items) rest now p → Renews plan p event ret next

-- The events and results lead from one position to another.
unfoldable pub IsRenewalLoop : Plan → RenewalPosition → List (Event × Answer) → RenewalPosition → Type 0
IsRenewalLoop plan p [] last = last ≡ p
IsRenewalLoop plan p (pair ∷ pairs) last =
    (next : RenewalPosition) × Renews plan p pair.0 pair.1 next × IsRenewalLoop plan next pairs last

-- ---- what a draw gives

-- The message is a REFRESH that requests a lifetime, valid under the user's key in the server core's realm, from
-- the client's own address to the server's.
pub record IsRefreshSent (plan : Plan) (old : World) (sent : Sent) : Type 0 where
  pub is_own : IsOwnSent plan sent
  pub refresh : IsOwnRefresh plan old sent.bytes

-- It is such a REFRESH, with another transaction ID than the request that was challenged, and with the nonce of
-- the challenge.
pub record IsNextRefresh (plan : Plan) (old : World) (request : Sent) (reply : List ℕ) (sent : Sent) : Type 0 where
  pub is : IsRefreshSent plan old sent
  pub other : number_at sent.bytes ≢ number_at request.bytes
  pub nonce : (reported : ChallengeFields) → challenge_visible reply ≡ Some reported
      → (claimed sent.bytes).nonce ≡ Some reported.nonce

-- The message is the second request once more, which may still be queued.
abbrev pub IsSecondAgain : RenewalPosition → (secondly sent : Sent) → Type 0
IsSecondAgain p secondly sent = (p.again ≡ true) × (sent ≡ secondly)

-- While the allocation is held, the first draw at or after a minute before its end, and 50 ms after the last
-- message, gives a REFRESH, and draws before give none. If the second request is still queued, it comes first,
-- 50 ms after the last message.
pub record IsDueRefresh (plan : Plan) (old : World) (secondly : Sent) (p : RenewalPosition) (now : ℕ) (ret : Answer)
    : Type 0 where
  pub refreshes : due p.from p.lifetime ≤ now → time_after p.sent cadence ≤ now
      → Gives ret (λ sent. IsRefreshSent plan old sent ⊎ IsSecondAgain p secondly sent)
  pub early : now < due p.from p.lifetime → (ret ≡ answer.Nothing) ⊎ Gives ret (λ sent. IsSecondAgain p secondly sent)
  pub rests : now < time_after p.sent cadence → ret ≡ answer.Nothing

-- A REFRESH that is outstanding is transmitted again by its schedule (RFC 8489, section 6.2.1): never before a
-- slot, and at the first draw at or after it. While it is still queued, the slot that comes next may wait until
-- 50 ms after the last message, and at a draw then it comes, whether or not a slot is due.
pub record IsRefreshAgain (plan : Plan) (p : RenewalPosition) (now : ℕ) (request : Sent) (ret : Answer) : Type 0 where
  pub in_time : p.queued ≡ false → IsTransmissionDue plan p.made p.many now → Gives ret (λ sent. sent ≡ request)
  pub late : IsTransmissionDue plan p.made p.many now → time_after p.sent cadence ≤ now
      → Gives ret (λ sent. sent ≡ request)
  pub none : p.queued ≡ false → IsNoneDue plan p.made p.many now → ret ≡ answer.Nothing
  pub either : (ret ≡ answer.Nothing) ⊎ Gives ret (λ sent. sent ≡ request)

-- Once a challenge has come, the next REFRESH is transmitted from 50 ms after the last message on. If waits are
-- so short that its second transmission is due before these 50 ms, it is transmitted then.
pub record IsNextInTime (plan : Plan) (old : World) (p : RenewalPosition) (now : ℕ) (request : Sent) (reply : List ℕ)
    (ret : Answer) : Type 0 where
  pub goes : time_after p.sent cadence ≤ now → Gives ret (IsNextRefresh plan old request reply)
  pub again : IsTransmissionDue plan p.made 1 now → Gives ret (IsNextRefresh plan old request reply)
  pub rests : now < time_after p.sent cadence → IsNoneDue plan p.made 1 now → ret ≡ answer.Nothing

-- What a draw gives at a position.
abbrev pub IsDrawAt : Plan → World → (secondly : Sent) → Renewal → RenewalPosition → (now : ℕ) → Answer → Type 0
IsDrawAt plan old secondly Holding p now ret = IsDueRefresh plan old secondly p now ret
IsDrawAt plan old secondly (Refreshing request) p now ret = IsRefreshAgain plan p now request ret
IsDrawAt plan old secondly (Renewing request more reply head) p now ret = IsRefreshAgain plan p now request ret
IsDrawAt plan old secondly (Challenged request reply head) p now ret = IsRefreshAgain plan p now request ret
IsDrawAt plan old secondly (Turned request reply) p now ret = IsNextInTime plan old p now request reply ret

-- The same of any event: no more is said of one that isn't a draw.
abbrev pub IsDrawBy : Plan → World → (secondly : Sent) → RenewalPosition → Event → Answer → Type 0
IsDrawBy plan old secondly p (Draw now) ret = IsDrawAt plan old secondly p.progress p now ret
IsDrawBy plan old secondly p _ ret = Unit {0}

-- What has come of a reply.
abbrev pub head_of : Renewal → List ℕ
head_of (Renewing request more reply head) = head
head_of (Challenged request reply head) = head
head_of _ = []
