-- An honest network: a client transmits twice, and each message is delivered once, unaltered, between the
-- client's own address and the server's; a reply over UDP at once, over TCP in any chunks (RFC 8489, sections
-- 6.2.1 and 6.2.2).
use Rattle.std.specs.Prelude.{◌≡◌, ◌≢◌, ◌<◌, ◌++◌, ℕ, List, [], ◌∷◌, map, Vec}
use Rattle.std.specs.declared.alloc.Global.{Global}
use Rattle.std.specs.declared.net.socket_addr.SocketAddr.{SocketAddr}
use Rattle.turn_desk_core.specs.StunTypesBase.declared.transport.TransportType.{TransportType}
use Rattle.turn_desk_core.specs.StunTypesBase.declared.transport.TransportType.TheVariants.{Udp, Tcp}
use Rattle.turn_desk_event.specs.StunProtoTransaction.Schedule.{end_at}
use Rattle.turn_client_proto_api.specs.Config.{Config}
use Rattle.turn_client_proto_api.specs.Sent.{Sent, sent_of}
use Rattle.turn_client_proto_handshake_laws.specs.Sent.{Beginning}
use Rattle.turn_client_proto_step_laws.specs.Sound.{IsWhole}
use Rattle.turn_client_proto_handshake_laws.specs.Stages.{AsksForOne}
use Rattle.turn_desk_event.specs.declared.answer.Answer.{Answer}
use Rattle.turn_desk_event.specs.declared.answer.Answer.TheVariants as answer
use Rattle.turn_desk_core.specs.declared.decision.Decision.{Decision}
use Rattle.turn_desk_core.specs.declared.decision.Decision.TheVariants as by
use Rattle.turn_desk_event.specs.declared.event.ClientCall.{ClientCall}
use Rattle.turn_desk_event.specs.declared.event.ClientCall.TheVariants as call
use Rattle.turn_desk_event.specs.declared.event.Event.{Event}
use Rattle.turn_desk_event.specs.declared.event.Event.TheVariants.{Call, Draw, ToClient, ToDesk}

-- The client that begins, and the time of its second call of `poll_transmit`. The time at which it begins is
-- that of the first.
pub record Plan : Type 0 where
  pub client : Beginning
  pub second : ℕ

-- The plan of a client over a transport with these settings.
abbrev pub plan_over : TransportType → (here server : SocketAddr) → Config → (seed : List ℕ) → (made second : ℕ) → Plan
plan_over transport here server config seed made second = record {
  client = record {
    transport = transport;
    here = here;
    server = server;
    config = config;
    seed = seed;
    made = made;
  };
  second = second;
}

-- What was done so far.
pub data Progress : Type 0 where
  Start : Progress
  -- The client transmitted its first request.
  Requested : (request : Sent) → Progress
  -- The server core replied to it, and these first bytes of the reply reached the client so far.
  Challenged : (request : Sent) (reply head : List ℕ) → Progress
  -- All of that reply reached the client.
  Came : Progress
  -- The client transmitted its second request.
  Signed : (request : Sent) → Progress
  -- The server core, with this decision, replied to it, and these first bytes of the reply reached the client
  -- so far.
  Granted : (request : Sent) (address : SocketAddr) (lifetime : ℕ) (reply head : List ℕ) → Progress
  -- All of that reply reached the client.
  Done : (request : Sent) (address : SocketAddr) (lifetime : ℕ) (reply : List ℕ) → Progress
  -- The client transmitted no second request.
  Barred : Progress
  -- The client transmitted no first request, or the server core didn't reply.
  Silent : Progress

-- The position to which a result leads.
abbrev pub transmitted_first : Answer → Progress
transmitted_first (answer.Transmit sent) = Requested (sent_of sent)
transmitted_first _ = Silent

abbrev pub replied_first : Sent → Answer → Progress
replied_first request (answer.Reply reply) = Challenged request reply.items []
replied_first request _ = Silent

abbrev pub transmitted_second : Answer → Progress
transmitted_second (answer.Transmit sent) = Signed (sent_of sent)
transmitted_second _ = Barred

abbrev pub replied_second : (request : Sent) (address : SocketAddr) (lifetime : ℕ) → Answer → Progress
replied_second request address lifetime (answer.Reply reply) = Granted request address lifetime reply.items []
replied_second request address lifetime _ = Silent

-- After the first bytes `head` of a reply, `chunk` comes, and `rest` is still to come. Over UDP the whole
-- reply comes at once; over TCP some bytes of it.
abbrev pub BringsOn : TransportType → (reply head chunk rest : List ℕ) → Type 0
BringsOn Udp reply head chunk rest = (chunk ≡ reply) × (rest ≡ [])
BringsOn Tcp reply head chunk rest = (chunk ≢ []) × (reply ≡ (head ++ chunk) ++ rest)

-- The position to which this leads: `head` has come then, and `rest` is still to come.
abbrev pub brought_first : Sent → (reply head rest : List ℕ) → Progress
brought_first request reply head [] = Came
brought_first request reply head (byte ∷ rest) = Challenged request reply head

abbrev pub brought_second : Sent → (address : SocketAddr) (lifetime : ℕ) (reply head rest : List ℕ) → Progress
brought_second request address lifetime reply head [] = Done request address lifetime reply
brought_second request address lifetime reply head (byte ∷ rest) = Granted request address lifetime reply head

-- The call polls for an event, or is a getter.
abbrev pub IsLook : ClientCall → Type 0
IsLook call.PollEvent = Unit {0}
IsLook (call.HavePermission transport ip) = Unit {0}
IsLook (call.Permissions transport relayed) = Unit {0}
IsLook call.Channels = Unit {0}
IsLook call.Connections = Unit {0}
IsLook call.RelayedAddresses = Unit {0}
IsLook _ = ⊥

-- A position at which `poll` may be called: any until the client holds an allocation.
abbrev pub IsPolledAt : Progress → Type 0
IsPolledAt (Done request address lifetime reply) = ⊥
IsPolledAt _ = Unit {0}

-- What happens at a position, and where its result leads. A request is delivered to the server core from the
-- address from which it is sent, and its reply to that address, from the one to which it is sent.
pub data Follows (plan : Plan) (progress : Progress) (event : Event) (ret : Answer) (next : Progress) : Type 0 where
  DrawFirst : progress ≡ Start → event ≡ Draw plan.client.made → next ≡ transmitted_first ret
      → Follows plan progress event ret next
  AskFirst : (request : Sent) (bytes : Vec ℕ Global) (decision : Decision) (seed : List ℕ) → progress ≡ Requested request
      → bytes.items ≡ request.bytes → event ≡ ToDesk bytes request.from plan.client.made decision seed
      → next ≡ replied_first request ret → Follows plan progress event ret next
  GiveFirst : (request : Sent) (reply head rest : List ℕ) (bytes : Vec ℕ Global)
      → progress ≡ Challenged request reply head → BringsOn plan.client.transport reply head bytes.items rest
      → event ≡ ToClient bytes request.to request.from plan.client.made
      → next ≡ brought_first request reply (head ++ bytes.items) rest → Follows plan progress event ret next
  DrawSecond : progress ≡ Came → event ≡ Draw plan.second → next ≡ transmitted_second ret → Follows plan progress event ret next
  -- An address of the client's one family is decided, without flow information and scope.
  AskSecond : (request : Sent) (bytes : Vec ℕ Global) (address : SocketAddr) (lifetime : ℕ) (seed : List ℕ)
      → progress ≡ Signed request → bytes.items ≡ request.bytes → AsksForOne plan.client address → IsWhole address
      → event ≡ ToDesk bytes request.from plan.second (by.Allocate (address ∷ []) lifetime) seed
      → next ≡ replied_second request address lifetime ret → Follows plan progress event ret next
  GiveSecond : (request : Sent) (address : SocketAddr) (lifetime : ℕ) (reply head rest : List ℕ) (bytes : Vec ℕ Global)
      → progress ≡ Granted request address lifetime reply head
      → BringsOn plan.client.transport reply head bytes.items rest
      → event ≡ ToClient bytes request.to request.from plan.second
      → next ≡ brought_second request address lifetime reply (head ++ bytes.items) rest
      → Follows plan progress event ret next
  -- At any position the client's events may be polled and its getters called.
  Looks : (what : ClientCall) (now : ℕ) → IsLook what → event ≡ Call what now → next ≡ progress
      → Follows plan progress event ret next
  -- Until the client holds an allocation, `poll` may be called, before the time at which a request that was
  -- made at the first call of `poll_transmit` would be given up.
  Polls : (now : ℕ) → IsPolledAt progress → now < end_at plan.client.made plan.client.config.waits
      → event ≡ Call call.Poll now → next ≡ progress → Follows plan progress event ret next
  -- At any position `poll_recv` may be called.
  Receives : (now : ℕ) → event ≡ Call call.PollRecv now → next ≡ progress → Follows plan progress event ret next
  -- If the client transmitted no second request, `poll_transmit` may be called again.
  DrawsOn : (now : ℕ) → progress ≡ Barred → event ≡ Draw now → next ≡ Barred → Follows plan progress event ret next

-- The chunks make up these bytes, and none of them is empty. Each chunk has its result beside it.
unfoldable pub IsCut : List ℕ → List (Vec ℕ Global × Answer) → Type 0
IsCut bytes [] = bytes ≡ []
IsCut bytes (chunk ∷ chunks) =
    (chunk.0.items ≢ []) × (left : List ℕ) × (bytes ≡ chunk.0.items ++ left) × IsCut left chunks

-- The chunks come to the client at `now`, in order, in reply to the request.
abbrev pub given : Sent → (now : ℕ) → List (Vec ℕ Global × Answer) → List (Event × Answer)
given request now chunks =
    map (λ (chunk : Vec ℕ Global × Answer). (ToClient chunk.0 request.to request.from now, chunk.1)) chunks

-- The events and results lead from one position to another.
unfoldable pub IsScript : Plan → Progress → List (Event × Answer) → Progress → Type 0
IsScript plan progress [] last = last ≡ progress
IsScript plan progress (pair ∷ pairs) last =
    (next : Progress) × Follows plan progress pair.0 pair.1 next × IsScript plan next pairs last
