-- A connection to a peer over an honest network (RFC 8656, section 10; RFC 6062, section 4.3). The
-- application of a client that holds an allocation requests a permission, and then a connection to a peer of
-- its IP. Each request is transmitted, delivered to the server core and granted, and the reply is delivered,
-- in any chunks. The client requests a socket, and is given one.
use Rattle.std.specs.Prelude.{◌≡◌, ◌≢◌, ◌≤◌, ◌<◌, ◌+◌, ◌*◌, ◌⊎◌, ◌++◌, ℕ, List, [], ◌∷◌, Some, Vec}
use Rattle.std.specs.Net.Socket.{socket_ip}
use Rattle.std.specs.declared.alloc.Global.{Global}
use Rattle.std.specs.declared.net.socket_addr.SocketAddr.{SocketAddr}
use Rattle.turn_desk_core.specs.StunTypesWire.Attributes.{kind_at}
use Rattle.turn_desk_core.specs.StunTypesWire.declared.class.MessageClass.TheVariants.{Success}
use Rattle.turn_desk_core.specs.StunTypesWire.Types.{class_of}
use Rattle.turn_desk_core.specs.StunTypesBase.declared.transport.TransportType.TheVariants.{Tcp}
use Rattle.turn_desk_core.specs.StunTypesBase.Times.{time_after}
use Rattle.turn_desk_event.specs.StunProtoTransaction.Schedule.{end_at}
use Rattle.turn_client_proto_messages.specs.Allocation.Refreshing.{second}
use Rattle.turn_client_proto_api.specs.declared.answer.Socket5Tuple.{Socket5Tuple}
use Rattle.turn_client_proto_api.specs.Sent.{Sent, sent_of}
use Rattle.turn_client_proto_handshake_laws.specs.Driving.{client_end}
use Rattle.turn_client_proto_messages.specs.Api.Options.{cadence}
use Rattle.turn_client_proto_progress_laws.specs.Resting.{refresh_due}
use Rattle.turn_desk_event.specs.declared.answer.Answer.{Answer}
use Rattle.turn_desk_event.specs.declared.answer.Answer.TheVariants as answer
use Rattle.turn_desk_core.specs.declared.decision.Decision.{Decision}
use Rattle.turn_desk_core.specs.declared.decision.Decision.TheVariants as by
use Rattle.turn_desk_event.specs.declared.event.ClientCall.{ClientCall}
use Rattle.turn_desk_event.specs.declared.event.ClientCall.TheVariants as call
use Rattle.turn_desk_event.specs.declared.event.Event.{Event}
use Rattle.turn_desk_event.specs.declared.event.Event.TheVariants.{Call, Draw, ToClient, ToDesk}
use Rattle.turn_desk_progress_laws.specs.Scripts.{BringsOn, IsLook, Plan}

-- The peer of the connection, the connection ID that the server core gives it, and the local address of its
-- socket. The times at which a permission for the peer's IP is requested (`requested`) and at which its
-- request is transmitted, granted and answered (`granted`). The same two times for the connection (`made`,
-- `first`).
pub record Link : Type 0 where
  pub peer : SocketAddr
  pub number : ℕ
  pub local : SocketAddr
  pub requested : ℕ
  pub granted : ℕ
  pub made : ℕ
  pub first : ℕ

-- The connection is requested at most 60 s after the permission was granted, and before a REFRESH is due.
-- Requests are transmitted at least 50 ms apart.
pub record IsTimelyLink (plan : Plan) (lifetime : ℕ) (link : Link) : Type 0 where
  pub requested : link.requested ≤ link.granted
  pub permitted : time_after plan.second cadence ≤ link.granted
  pub following : link.granted ≤ link.made
  pub soon : link.made ≤ link.granted + 60 * second
  pub before_refresh : link.made < refresh_due lifetime plan.second
  pub called : link.made ≤ link.first
  pub apart : time_after link.granted cadence ≤ link.first
  pub in_range : link.first ≤ client_end

-- ---- what was done so far

pub data Reached : Type 0 where
  -- The allocation is held.
  Held : Reached
  -- `create_permission` succeeded (`Requested`), or was refused (`Unpermitted`).
  Requested : Reached
  Unpermitted : Reached
  -- Its request was transmitted.
  AskTransmitted : (request : Sent) → Reached
  -- The server core granted it, and these first bytes of the reply reached the client so far.
  Permitting : (request : Sent) (reply head : List ℕ) → Reached
  -- All of the reply reached the client.
  Permitted : Reached
  -- `tcp_connect` succeeded.
  Called : Reached
  -- Its request was transmitted.
  Transmitted : (request : Sent) → Reached
  -- The server core granted it, and these first bytes of the reply reached the client so far.
  Reported : (request : Sent) (reply head : List ℕ) → Reached
  -- All of the reply reached the client.
  Known : Reached
  -- After that, events were polled until none was queued.
  Clear : Reached
  -- `poll` was called, and the client requested no socket.
  Eventful : Reached
  -- The client requested a socket, for a connection with this connection ID to this peer.
  Waiting : (connection : ℕ) (socket : Socket5Tuple) (peer : SocketAddr) → Reached
  -- It was given one. The last message was transmitted at `last`.
  Opened : (last : ℕ) → Reached
  -- It transmitted a request at `sent`.
  Binding : (sent : ℕ) (request : Sent) → Reached
  -- The server core granted it, and these first bytes of the reply reached the socket so far.
  Answered : (sent : ℕ) (request : Sent) (reply head : List ℕ) → Reached
  -- All of the reply reached the socket, and these bytes after it.
  Bound : (more : List ℕ) → Reached
  -- The client refused a call, transmitted nothing, or requested no socket though no event was queued.
  Off : Reached

-- ---- where a result leads

abbrev pub called : Answer → (done refused : Reached) → Reached
called answer.Done done refused = done
called _ done refused = refused

abbrev pub transmitted : Answer → (Sent → Reached) → Reached
transmitted (answer.Transmit sent) leads = leads (sent_of sent)
transmitted _ leads = Off

abbrev pub polled : Answer → (other : Reached) → Reached
polled (answer.Socket id socket peer) other = Waiting id socket peer
polled _ other = other

abbrev pub emptied : Answer → Reached
emptied answer.Nothing = Clear
emptied _ = Known

abbrev pub permitted_by : Sent → (reply head rest : List ℕ) → Reached
permitted_by request reply head [] = Permitted
permitted_by request reply head (byte ∷ rest) = Permitting request reply head

abbrev pub brought_reply : Sent → (reply head rest : List ℕ) → Reached
brought_reply request reply head [] = Known
brought_reply request reply head (byte ∷ rest) = Reported request reply head

-- ---- what may come

-- The reply is a success response.
abbrev pub IsSuccess : List ℕ → Type 0
IsSuccess reply = class_of (kind_at reply) ≡ Success

-- Nothing has to be renewed at `now`.
pub record IsQuietTime (plan : Plan) (lifetime : ℕ) (link : Link) (now : ℕ) : Type 0 where
  pub before_refresh : now < refresh_due lifetime plan.second
  pub soon : now ≤ link.granted + 60 * second

-- Nothing is queued, and no response is awaited.
abbrev pub IsAtRest : Reached → Type 0
IsAtRest progress = (progress ≡ Held) ⊎ (progress ≡ Permitted)

-- A request is queued, and the last message was transmitted at `last`.
abbrev pub IsReadyAfter : Plan → Link → Reached → (last : ℕ) → Type 0
IsReadyAfter plan link Requested last = last ≡ plan.second
IsReadyAfter plan link Called last = last ≡ link.granted
IsReadyAfter plan link (Opened sent) last = last ≡ sent
IsReadyAfter plan link _ last = ⊥

-- A request that was made at `made` is queued, and `poll` may be called.
abbrev pub IsMadeAt : Link → Reached → (made : ℕ) → Type 0
IsMadeAt link Requested made = made ≡ link.requested
IsMadeAt link Called made = made ≡ link.made
IsMadeAt link _ made = ⊥

-- As far as was seen, events may be queued.
abbrev pub IsKnowing : Reached → Type 0
IsKnowing progress = (progress ≡ Known) ⊎ (progress ≡ Eventful)

-- The position after a getter, or after events are polled: this may take an event that kept the client from
-- requesting a socket.
abbrev pub seen : Reached → Reached
seen Eventful = Known
seen progress = progress

-- A position at which no bytes of the peer can have come.
abbrev pub IsUnbound : Reached → Type 0
IsUnbound (Bound more) = ⊥
IsUnbound _ = Unit {0}

-- What happens at a position, and where its result leads. A request is delivered to the server core from the
-- address from which it is sent, and its reply to that address, from the one to which it is sent.
pub data Links (plan : Plan) (lifetime : ℕ) (link : Link) (progress : Reached) (event : Event) (ret : Answer)
    (next : Reached) : Type 0 where
  AskPermission : progress ≡ Held → event ≡ Call (call.CreatePermission Tcp (socket_ip link.peer)) link.requested
      → next ≡ called ret Requested Unpermitted → Links plan lifetime link progress event ret next
  DrawPermission : progress ≡ Requested → event ≡ Draw link.granted → next ≡ transmitted ret (λ request. AskTransmitted request)
      → Links plan lifetime link progress event ret next
  GrantPermission : (request : Sent) (bytes reply : Vec ℕ Global) (decision : Decision) (seed : List ℕ)
      → progress ≡ AskTransmitted request → bytes.items ≡ request.bytes
      → event ≡ ToDesk bytes request.from link.granted decision seed → ret ≡ answer.Reply reply → IsSuccess reply.items
      → next ≡ Permitting request reply.items [] → Links plan lifetime link progress event ret next
  GivePermission : (request : Sent) (reply head rest : List ℕ) (bytes : Vec ℕ Global)
      → progress ≡ Permitting request reply head → BringsOn Tcp reply head bytes.items rest
      → event ≡ ToClient bytes request.to request.from link.granted
      → next ≡ permitted_by request reply (head ++ bytes.items) rest → Links plan lifetime link progress event ret next
  AskConnect : progress ≡ Permitted → event ≡ Call (call.TcpConnect link.peer) link.made → next ≡ called ret Called Off
      → Links plan lifetime link progress event ret next
  DrawConnect : progress ≡ Called → event ≡ Draw link.first → next ≡ transmitted ret (λ request. Transmitted request)
      → Links plan lifetime link progress event ret next
  -- It is granted this connection ID.
  GrantConnect : (request : Sent) (bytes reply : Vec ℕ Global) (seed : List ℕ)
      → progress ≡ Transmitted request → bytes.items ≡ request.bytes
      → event ≡ ToDesk bytes request.from link.first (by.Connect link.number) seed → ret ≡ answer.Reply reply
      → IsSuccess reply.items → next ≡ Reported request reply.items [] → Links plan lifetime link progress event ret next
  GiveConnect : (request : Sent) (reply head rest : List ℕ) (bytes : Vec ℕ Global)
      → progress ≡ Reported request reply head → BringsOn Tcp reply head bytes.items rest
      → event ≡ ToClient bytes request.to request.from link.first
      → next ≡ brought_reply request reply (head ++ bytes.items) rest → Links plan lifetime link progress event ret next
  -- The client's events are polled.
  Empties : (now : ℕ) → IsKnowing progress → now ≤ client_end → event ≡ Call call.PollEvent now → next ≡ emptied ret
      → Links plan lifetime link progress event ret next
  -- `poll` is called, whether or not the client's events were polled.
  PollsKnown : (now : ℕ) → IsKnowing progress → now ≤ client_end → event ≡ Call call.Poll now → next ≡ polled ret Eventful
      → Links plan lifetime link progress event ret next
  PollsClear : (now : ℕ) → progress ≡ Clear → now ≤ client_end → event ≡ Call call.Poll now → next ≡ polled ret Off
      → Links plan lifetime link progress event ret next
  -- The client is given a socket, whose local address isn't the client's own.
  Opens : (connection now : ℕ) (socket : Socket5Tuple) (peer : SocketAddr) → progress ≡ Waiting connection socket peer
      → link.local ≢ plan.client.here → now ≤ client_end
      → event ≡ Call (call.AllocatedTcpSocket link.number link.peer (Some link.local)) now
      → next ≡ called ret (Opened link.first) Off → Links plan lifetime link progress event ret next
  DrawBind : (last now : ℕ) → progress ≡ Opened last → time_after last cadence ≤ now → now ≤ client_end
      → event ≡ Draw now → next ≡ transmitted ret (λ request. Binding now request) → Links plan lifetime link progress event ret next
  GrantBind : (sent now : ℕ) (request : Sent) (bytes reply : Vec ℕ Global) (decision : Decision) (seed : List ℕ)
      → progress ≡ Binding sent request → bytes.items ≡ request.bytes → event ≡ ToDesk bytes request.from now decision seed
      → ret ≡ answer.Reply reply → IsSuccess reply.items → next ≡ Answered sent request reply.items []
      → Links plan lifetime link progress event ret next
  GiveBind : (sent now : ℕ) (request : Sent) (reply head rest : List ℕ) (bytes : Vec ℕ Global)
      → progress ≡ Answered sent request reply head → bytes.items ≢ [] → reply ≡ (head ++ bytes.items) ++ rest → rest ≢ []
      → now ≤ client_end → event ≡ ToClient bytes request.to request.from now
      → next ≡ Answered sent request reply (head ++ bytes.items) → Links plan lifetime link progress event ret next
  -- Bytes of the peer may follow the response at once.
  EndBind : (sent now : ℕ) (request : Sent) (reply head more : List ℕ) (bytes : Vec ℕ Global)
      → progress ≡ Answered sent request reply head → bytes.items ≢ [] → head ++ bytes.items ≡ reply ++ more
      → now ≤ client_end → event ≡ ToClient bytes request.to request.from now → next ≡ Bound more
      → Links plan lifetime link progress event ret next
  -- While nothing has to be renewed, `poll_transmit` and `poll` may be called at a position where nothing is
  -- queued.
  DrawsIdly : (now : ℕ) → IsAtRest progress → IsQuietTime plan lifetime link now → event ≡ Draw now → next ≡ progress
      → Links plan lifetime link progress event ret next
  PollsIdly : (now : ℕ) → IsAtRest progress → IsQuietTime plan lifetime link now → event ≡ Call call.Poll now
      → next ≡ progress → Links plan lifetime link progress event ret next
  -- `poll_transmit` may be called too early.
  DrawsEarly : (last now : ℕ) → IsReadyAfter plan link progress last → now < time_after last cadence → event ≡ Draw now
      → next ≡ progress → Links plan lifetime link progress event ret next
  -- `poll` may be called before the queued request would be given up.
  PollsEarly : (made now : ℕ) → IsMadeAt link progress made → now < end_at made plan.client.config.waits
      → IsQuietTime plan lifetime link now → event ≡ Call call.Poll now → next ≡ progress
      → Links plan lifetime link progress event ret next
  -- At any position the client's events may be polled and its getters called.
  Looks : (what : ClientCall) (now : ℕ) → IsLook what → event ≡ Call what now → next ≡ seen progress
      → Links plan lifetime link progress event ret next
  -- Until the connection is bound, `poll_recv` may be called.
  Receives : (now : ℕ) → IsUnbound progress → event ≡ Call call.PollRecv now → next ≡ progress
      → Links plan lifetime link progress event ret next

-- The events and results lead from one position to another.
unfoldable pub IsLinkScript : Plan → (lifetime : ℕ) → Link → Reached → List (Event × Answer) → Reached → Type 0
IsLinkScript plan lifetime link progress [] last = last ≡ progress
IsLinkScript plan lifetime link progress (pair ∷ pairs) last =
    (next : Reached) × Links plan lifetime link progress pair.0 pair.1 next
    × IsLinkScript plan lifetime link next pairs last
