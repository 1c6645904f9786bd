-- A connection to a peer, by a client that a loop drives, over a network that takes time (RFC 8656, section 10; RFC
-- 6062, section 4.3). The application of a client that holds an allocation over TCP requests a permission, and then
-- a connection to a peer of its IP. Each message is delivered once, unaltered, at any later time, in any chunks. The
-- server core may challenge a request instead of granting it (RFC 8489, section 9.2.4): then the client answers.
use Rattle.std.specs.Prelude.{◌≡◌, ◌≢◌, ◌≤◌, ◌<◌, ◌+◌, ◌-◌, ◌⊎◌, ◌++◌, ℕ, List, [], ◌∷◌, Option, Some, None, Vec}
use Rattle.std.specs.Net.Socket.{socket_ip}
use Rattle.std.specs.declared.alloc.Global.{Global}
use Rattle.std.specs.declared.net.socket_addr.SocketAddr.{SocketAddr}
use Rattle.turn_desk_core.specs.StunTypesBase.declared.transport.TransportType.TheVariants.{Tcp}
use Rattle.turn_desk_core.specs.StunTypesBase.Times.{time_after}
use Rattle.turn_desk_event.specs.StunProtoTransaction.Schedule.{end_at}
use Rattle.turn_client_proto_messages.specs.StunProtoClient.Challenges.{ChallengeFields, challenge_visible}
use Rattle.turn_client_proto_messages.specs.Allocation.Permissions.{permission_lifetime}
use Rattle.turn_client_proto_messages.specs.Allocation.Refreshing.{renewed_before}
use Rattle.turn_client_proto_api.specs.declared.answer.Socket5Tuple.{Socket5Tuple}
use Rattle.turn_client_proto_api.specs.Sent.{Sent, sent_of}
use Rattle.turn_client_proto_step_laws.specs.Recv.Sockets.{binding_time}
use Rattle.turn_client_proto_handshake_laws.specs.Core.Responding.{most_resends}
use Rattle.turn_client_proto_handshake_laws.specs.Driving.{client_end}
use Rattle.turn_client_proto_progress_laws.specs.Resting.{refresh_due}
use Rattle.turn_desk_event.specs.declared.answer.Answer.{Answer}
use Rattle.turn_desk_event.specs.declared.answer.Answer.TheVariants as answer
use Rattle.turn_desk_core.specs.declared.decision.Decision.{Decision}
use Rattle.turn_desk_core.specs.declared.decision.Decision.TheVariants as by
use Rattle.turn_desk_event.specs.declared.event.ClientCall.{ClientCall}
use Rattle.turn_desk_event.specs.declared.event.ClientCall.TheVariants as call
use Rattle.turn_desk_event.specs.declared.event.Event.{Event}
use Rattle.turn_desk_event.specs.declared.event.Event.TheVariants.{Call, Draw, ToClient, ToDesk}
use Rattle.turn_desk_progress_laws.specs.Links.{IsSuccess}
use Rattle.turn_desk_progress_laws.specs.Loops as loops
use Rattle.turn_desk_progress_laws.specs.Scripts.{IsLook, Plan}

-- The peer of the connection, the connection ID that the server core decides, and the local address of its socket.
pub record Target : Type 0 where
  pub peer : SocketAddr
  pub number : ℕ
  pub local : SocketAddr

-- The method of a request: CREATE_PERMISSION, CONNECT, CONNECTION_BIND.
pub data Method : Type 0 where
  Permission : Method
  Connect : Method
  Bind : Method

-- ---- where it is

pub data Reached : Type 0 where
  -- The allocation is held.
  Held : Reached
  -- `create_permission` was refused.
  Unpermitted : Reached
  -- A request of this method is queued: the application's call succeeded, or all of a challenge has come.
  Queued : Method → Reached
  -- It was transmitted.
  Transmitted : Method → (request : Sent) → Reached
  -- The server core granted it, and these first bytes of the reply have come.
  Answered : Method → (request : Sent) (reply head : List ℕ) → Reached
  -- The server core challenged it, and these first bytes of the reply have come.
  Challenged : Method → (request : Sent) (reply head : List ℕ) → Reached
  -- All of the reply to the CREATE_PERMISSION has come.
  Permitted : Reached
  -- All of the reply to the CONNECT has come. `Clear`: after that, events were polled until none was queued.
  Known : Reached
  Clear : Reached
  -- The client requested a socket, for a connection with this connection ID to this peer.
  Waiting : (connection : ℕ) (socket : Socket5Tuple) (peer : SocketAddr) → Reached
  -- All of the reply to the CONNECTION_BIND has come, and these bytes after it.
  Bound : (more : List ℕ) → Reached
  -- The client refused another call, or requested no socket though no event was queued.
  Off : Reached

-- A challenged request and the challenge to it.
pub record Challenge : Type 0 where
  pub request : Sent
  pub reply : List ℕ

-- What was done when, in nanoseconds by the client's clock.
pub record Timing : Type 0 where
  -- The last message was transmitted.
  pub sent : ℕ
  -- The last request was queued; and the oldest one of its method that may still be outstanding.
  pub made : ℕ
  pub oldest : ℕ
  -- All of the reply to the CREATE_PERMISSION had come.
  pub granted : ℕ
  -- How many challenges the client answered since the last success response that came to it from the server. Those
  -- to a CONNECTION_BIND don't count.
  pub challenges : ℕ
  -- The challenge that the last request answers, if it answers one.
  pub again : Option Challenge

-- What was done so far, and the time of the client's last event.
pub record Position : Type 0 where
  pub reached : Reached
  pub last : ℕ
  pub timing : Timing

-- The allocation was granted at the end of a loop.
abbrev pub holding : loops.Position → Position
holding position = record {
  reached = Held;
  last = position.last;
  timing = record {
    sent = position.timing.sent;
    made = 0;
    oldest = 0;
    granted = 0;
    challenges = 0;
    again = None;
  };
}

-- A time isn't before that of the client's last event, and a client may be called then.
pub record IsNext (position : Position) (now : ℕ) : Type 0 where
  pub later : position.last ≤ now
  pub in_range : now ≤ client_end

-- ---- when the client may be called

-- The time at which a permission that was granted at this time is to be renewed.
abbrev pub permission_due : (granted : ℕ) → ℕ
permission_due granted = time_after granted permission_lifetime - renewed_before

-- Neither the allocation nor the permission is to be renewed yet.
pub record IsQuiet (lifetime since : ℕ) (t : Timing) (now : ℕ) : Type 0 where
  pub before_refresh : now < refresh_due lifetime since
  pub before_permission : now < permission_due t.granted

-- The same while a request of this method is queued or outstanding: until the permission is granted, the client holds
-- the allocation alone.
abbrev pub IsQuietFor : (lifetime since : ℕ) → Method → Timing → (now : ℕ) → Type 0
IsQuietFor lifetime since Permission t now = now < refresh_due lifetime since
IsQuietFor lifetime since method t now = IsQuiet lifetime since t now

-- The same at any position.
abbrev pub IsQuietAt : (lifetime since : ℕ) → Reached → Timing → (now : ℕ) → Type 0
IsQuietAt lifetime since Held t now = now < refresh_due lifetime since
IsQuietAt lifetime since Unpermitted t now = Unit {0}
IsQuietAt lifetime since (Queued method) t now = IsQuietFor lifetime since method t now
IsQuietAt lifetime since (Transmitted method request) t now = IsQuietFor lifetime since method t now
IsQuietAt lifetime since (Answered method request reply head) t now = IsQuietFor lifetime since method t now
IsQuietAt lifetime since (Challenged method request reply head) t now = IsQuietFor lifetime since method t now
IsQuietAt lifetime since _ t now = IsQuiet lifetime since t now

-- `poll_transmit` may be called at any time while a request is queued, and else while nothing is to be renewed.
abbrev pub MayDraw : (lifetime since : ℕ) → Reached → Timing → (now : ℕ) → Type 0
MayDraw lifetime since (Queued method) t now = Unit {0}
MayDraw lifetime since reached t now = IsQuietAt lifetime since reached t now

-- No outstanding request would be given up, and no connection whose socket was given.
abbrev pub IsPending : Plan → Method → Timing → (now : ℕ) → Type 0
IsPending plan Bind t now = (now < end_at t.oldest plan.client.config.waits) × (now ≤ time_after t.made binding_time)
IsPending plan method t now = now < end_at t.oldest plan.client.config.waits

-- `poll` may be called while nothing is to be renewed, and before an outstanding request would be given up. Once the
-- connection ID is known, it may be called at any time.
abbrev pub MayPoll : Plan → (lifetime since : ℕ) → Reached → Timing → (now : ℕ) → Type 0
MayPoll plan lifetime since Known t now = Unit {0}
MayPoll plan lifetime since Clear t now = Unit {0}
MayPoll plan lifetime since (Queued method) t now =
    IsQuietFor lifetime since method t now × IsPending plan method t now
MayPoll plan lifetime since (Transmitted method request) t now =
    IsQuietFor lifetime since method t now × IsPending plan method t now
MayPoll plan lifetime since (Answered method request reply head) t now =
    IsQuietFor lifetime since method t now × IsPending plan method t now
MayPoll plan lifetime since (Challenged method request reply head) t now =
    IsQuietFor lifetime since method t now × IsPending plan method t now
MayPoll plan lifetime since (Bound more) t now =
    IsQuiet lifetime since t now × (now < end_at t.oldest plan.client.config.waits)
MayPoll plan lifetime since reached t now = IsQuietAt lifetime since reached t now

-- ---- where a result leads

abbrev pub called : Answer → (done refused : Reached) → Reached
called answer.Done done refused = done
called _ done refused = refused

-- Something was requested by the application, at this time.
abbrev pub requested : (now : ℕ) → Timing → Timing
requested now t = record t { made = now; oldest = now; again = None }

-- A queued request that is given is transmitted. Nothing else is.
abbrev pub transmitted_next : Method → Answer → Reached
transmitted_next method (answer.Transmit sent) = Transmitted method (sent_of sent)
transmitted_next method _ = Queued method

abbrev pub after_draw : Reached → Answer → Reached
after_draw (Queued method) ret = transmitted_next method ret
after_draw reached ret = reached

abbrev pub timing_after_draw : (now : ℕ) → Answer → Timing → Timing
timing_after_draw now (answer.Transmit message) t = record t { sent = now }
timing_after_draw now _ t = t

-- All of a success response has come.
abbrev pub permitted : (now : ℕ) → Timing → Timing
permitted now t = record t { granted = now; challenges = 0 }

-- All of a challenge has come. A challenge to a CONNECTION_BIND isn't counted, and that request stays outstanding.
abbrev pub challenged : Method → (now : ℕ) → Sent → List ℕ → Timing → Timing
challenged Bind now request reply t = record t {
  made = now;
  again = Some (record { request = request; reply = reply });
}
challenged method now request reply t = record t {
  made = now;
  oldest = now;
  challenges = t.challenges + 1;
  again = Some (record { request = request; reply = reply });
}

-- `poll` requests a socket, or not.
abbrev pub polled : Answer → (other : Reached) → Reached
polled (answer.Socket id socket peer) other = Waiting id socket peer
polled _ other = other

abbrev pub after_poll : Reached → Answer → Reached
after_poll Known ret = polled ret Known
after_poll Clear ret = polled ret Off
after_poll reached ret = reached

-- An event is polled, or none is queued.
abbrev pub emptied : ClientCall → Answer → Reached
emptied call.PollEvent answer.Nothing = Clear
emptied _ _ = Known

abbrev pub after_look : ClientCall → Reached → Answer → Reached
after_look what Known ret = emptied what ret
after_look what reached ret = reached

-- The decision of the server core: for a CONNECT it is the connection ID.
abbrev pub IsDecided : Target → Method → Decision → Type 0
IsDecided target Connect decision = decision ≡ by.Connect target.number
IsDecided target method decision = Unit {0}

-- A client answers nine challenges in a row to requests that it sends to the server, with no success response
-- between them; the tenth would end it. Challenges to a CONNECTION_BIND don't count.
abbrev pub MayChallenge : Method → Timing → Type 0
MayChallenge Bind t = Unit {0}
MayChallenge method t = t.challenges ≤ most_resends

-- A position at which no bytes of the peer can have come.
abbrev pub IsUnbound : Reached → Type 0
IsUnbound (Bound more) = ⊥
IsUnbound _ = Unit {0}

-- What happens at a position, and where its result leads. A request is delivered to the server core from the address
-- from which it is sent, and its reply to that address, from the one to which it is sent. The server core's clock is
-- its own. The allocation was granted at `since`, for `lifetime` seconds.
pub data Leads (plan : Plan) (lifetime since : ℕ) (target : Target) (position : Position) (event : Event) (ret : Answer)
    (next : Position) : Type 0 where
  AsksPermission : (now : ℕ) → position.reached ≡ Held → IsNext position now → now < refresh_due lifetime since
      → event ≡ Call (call.CreatePermission Tcp (socket_ip target.peer)) now
      → next ≡ record {
        reached = called ret (Queued Permission) Unpermitted;
        last = now;
        timing = requested now position.timing;
      }
      → Leads plan lifetime since target position event ret next
  AsksConnect : (now : ℕ) → position.reached ≡ Permitted → IsNext position now
      → IsQuiet lifetime since position.timing now → event ≡ Call (call.TcpConnect target.peer) now
      → next ≡ record {
        reached = called ret (Queued Connect) Off;
        last = now;
        timing = requested now position.timing;
      }
      → Leads plan lifetime since target position event ret next
  -- The client is given a socket, whose local address isn't the client's own.
  Opens : (connection : ℕ) (socket : Socket5Tuple) (peer : SocketAddr) (now : ℕ)
      → position.reached ≡ Waiting connection socket peer → target.local ≢ plan.client.here → IsNext position now
      → event ≡ Call (call.AllocatedTcpSocket target.number target.peer (Some target.local)) now
      → next ≡ record {
        reached = called ret (Queued Bind) Off;
        last = now;
        timing = requested now position.timing;
      }
      → Leads plan lifetime since target position event ret next
  -- `poll_transmit` is called.
  Draws : (now : ℕ) → MayDraw lifetime since position.reached position.timing now → IsNext position now
      → event ≡ Draw now
      → next ≡ record {
        reached = after_draw position.reached ret;
        last = now;
        timing = timing_after_draw now ret position.timing;
      }
      → Leads plan lifetime since target position event ret next
  -- The request reaches the server core, which grants it.
  Grants : (method : Method) (request : Sent) (bytes reply : Vec ℕ Global) (now : ℕ) (decision : Decision)
      (seed : List ℕ) → position.reached ≡ Transmitted method request → bytes.items ≡ request.bytes
      → IsDecided target method decision → event ≡ ToDesk bytes request.from now decision seed
      → ret ≡ answer.Reply reply → IsSuccess reply.items
      → next ≡ record position { reached = Answered method request reply.items [] }
      → Leads plan lifetime since target position event ret next
  -- The request reaches the server core, which challenges it: of a CREATE_PERMISSION or a CONNECT its nonce is stale.
  Challenges : (method : Method) (request : Sent) (bytes reply : Vec ℕ Global) (now : ℕ) (decision : Decision)
      (seed : List ℕ) (reported : ChallengeFields) → position.reached ≡ Transmitted method request
      → bytes.items ≡ request.bytes → MayChallenge method position.timing
      → event ≡ ToDesk bytes request.from now decision seed → ret ≡ answer.Reply reply
      → challenge_visible reply.items ≡ Some reported
      → next ≡ record position { reached = Challenged method request reply.items [] }
      → Leads plan lifetime since target position event ret next
  -- A chunk of the reply reaches the client, and more is to come.
  GivesPart : (method : Method) (request : Sent) (reply head rest : List ℕ) (bytes : Vec ℕ Global) (now : ℕ)
      → position.reached ≡ Answered method request reply head → bytes.items ≢ []
      → reply ≡ (head ++ bytes.items) ++ rest → rest ≢ [] → IsNext position now
      → event ≡ ToClient bytes request.to request.from now
      → next ≡ record position { reached = Answered method request reply (head ++ bytes.items); last = now }
      → Leads plan lifetime since target position event ret next
  TurnsPart : (method : Method) (request : Sent) (reply head rest : List ℕ) (bytes : Vec ℕ Global) (now : ℕ)
      → position.reached ≡ Challenged method request reply head → bytes.items ≢ []
      → reply ≡ (head ++ bytes.items) ++ rest → rest ≢ [] → IsNext position now
      → event ≡ ToClient bytes request.to request.from now
      → next ≡ record position { reached = Challenged method request reply (head ++ bytes.items); last = now }
      → Leads plan lifetime since target position event ret next
  -- The last chunk of the reply reaches the client.
  GivesPermission : (request : Sent) (reply head : List ℕ) (bytes : Vec ℕ Global) (now : ℕ)
      → position.reached ≡ Answered Permission request reply head → bytes.items ≢ [] → reply ≡ head ++ bytes.items
      → IsNext position now → event ≡ ToClient bytes request.to request.from now
      → next ≡ record { reached = Permitted; last = now; timing = permitted now position.timing }
      → Leads plan lifetime since target position event ret next
  GivesConnect : (request : Sent) (reply head : List ℕ) (bytes : Vec ℕ Global) (now : ℕ)
      → position.reached ≡ Answered Connect request reply head → bytes.items ≢ [] → reply ≡ head ++ bytes.items
      → IsNext position now → event ≡ ToClient bytes request.to request.from now
      → next ≡ record position { reached = Known; last = now }
      → Leads plan lifetime since target position event ret next
  -- Bytes of the peer may follow at once.
  GivesBind : (request : Sent) (reply head more : List ℕ) (bytes : Vec ℕ Global) (now : ℕ)
      → position.reached ≡ Answered Bind request reply head → bytes.items ≢ [] → head ++ bytes.items ≡ reply ++ more
      → IsNext position now → event ≡ ToClient bytes request.to request.from now
      → next ≡ record position { reached = Bound more; last = now }
      → Leads plan lifetime since target position event ret next
  TurnsAll : (method : Method) (request : Sent) (reply head : List ℕ) (bytes : Vec ℕ Global) (now : ℕ)
      → position.reached ≡ Challenged method request reply head → bytes.items ≢ [] → reply ≡ head ++ bytes.items
      → IsNext position now → event ≡ ToClient bytes request.to request.from now
      → next ≡ record {
        reached = Queued method;
        last = now;
        timing = challenged method now request reply position.timing;
      }
      → Leads plan lifetime since target position event ret next
  -- At any position the client's events may be polled and its getters called.
  Looks : (what : ClientCall) (now : ℕ) → IsLook what → IsNext position now → event ≡ Call what now
      → next ≡ record position { reached = after_look what position.reached ret; last = now }
      → Leads plan lifetime since target position event ret next
  -- Until the connection is bound, `poll_recv` may be called.
  Receives : (now : ℕ) → IsUnbound position.reached → IsNext position now → event ≡ Call call.PollRecv now
      → next ≡ record position { last = now } → Leads plan lifetime since target position event ret next
  Polls : (now : ℕ) → MayPoll plan lifetime since position.reached position.timing now → IsNext position now
      → event ≡ Call call.Poll now
      → next ≡ record position { reached = after_poll position.reached ret; last = now }
      → Leads plan lifetime since target position event ret next

-- The events and results lead from one position to another.
unfoldable pub IsConnecting : Plan → (lifetime since : ℕ) → Target → Position → List (Event × Answer) → Position
    → Type 0
IsConnecting plan lifetime since target position [] last = last ≡ position
IsConnecting plan lifetime since target position (pair ∷ pairs) last =
    (next : Position) × Leads plan lifetime since target position pair.0 pair.1 next
    × IsConnecting plan lifetime since target next pairs last
