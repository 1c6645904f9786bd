-- Runs after an honest one, in which something is requested and the client's request is granted (RFC 8656,
-- sections 10 and 12).
use Rattle.std.specs.Prelude.{◌≡◌, ◌≢◌, ◌<◌, ◌≤◌, ◌++◌, ℕ, List, [], ◌∷◌, Some, None, Vec}
use Rattle.std.specs.declared.alloc.Global.{Global}
use Rattle.std.specs.declared.net.socket_addr.SocketAddr.{SocketAddr}
use Rattle.turn_desk_core.specs.StunTypesWire.Attributes.{kind_at}
use Rattle.turn_desk_core.specs.StunTypesWire.declared.class.MessageClass.TheVariants.{Success}
use Rattle.turn_desk_core.specs.StunTypesWire.Types.{class_of}
use Rattle.turn_desk_core.specs.StunTypesBase.declared.data.Data.{Data}
use Rattle.turn_desk_core.specs.StunTypesBase.declared.transmit.Transmit.{Transmit}
use Rattle.turn_desk_core.specs.StunTypesBase.declared.transport.TransportType.TheVariants.{Udp, Tcp}
use Rattle.turn_client_proto_messages.specs.StunProtoClient.Challenges.{challenge_visible}
use Rattle.turn_client_proto_messages.specs.TurnRuns.Members.{IsIn}
use Rattle.turn_client_proto_api.specs.Sent.{sent_of}
use Rattle.turn_client_proto_handshake_laws.specs.Driving.{client_end}
use Rattle.turn_client_proto_progress_laws.specs.Asking.{IsMade}
use Rattle.turn_client_proto_step_laws.specs.Recv.ClientState.{ClientState}
use Rattle.turn_desk_world_laws.specs.World.Model.{World}
use Rattle.turn_desk_event.specs.declared.answer.Answer.{Answer}
use Rattle.turn_desk_event.specs.declared.answer.Answer.TheVariants as answer
use Rattle.turn_desk_core.specs.declared.decision.Decision.{Decision}
use Rattle.turn_desk_event.specs.declared.event.ClientCall.{ClientCall}
use Rattle.turn_desk_event.specs.declared.event.ClientCall.TheVariants as call
use Rattle.turn_desk_event.specs.declared.event.Event.{Event}
use Rattle.turn_desk_event.specs.declared.event.Event.TheVariants.{Call, Draw, ToClient, ToDesk}
use Rattle.turn_desk_progress_laws.specs.Scripts.{BringsOn, IsLook, Plan}

-- The call is `poll`, one for the client's events, a getter, or a request for a permission or a channel.
abbrev pub IsOwnCall : ClientCall → Type 0
IsOwnCall call.Poll = Unit {0}
IsOwnCall (call.CreatePermission transport ip) = Unit {0}
IsOwnCall (call.BindChannel transport peer) = Unit {0}
IsOwnCall what = IsLook what

-- ---- before

-- The server core's replies so far, the newest first.
abbrev pub with_reply : Event → Answer → List (List ℕ) → List (List ℕ)
with_reply (ToDesk bytes from now decision seed) (answer.Reply reply) replies = reply.items ∷ replies
with_reply _ _ replies = replies

unfoldable pub replies_in : List (Event × Answer) → (earlier : List (List ℕ)) → List (List ℕ)
replies_in [] earlier = earlier
replies_in (pair ∷ pairs) earlier = replies_in pairs (with_reply pair.0 pair.1 earlier)

-- The call doesn't give the client a socket with its own local address.
abbrev pub IsOtherSocket : Plan → ClientCall → Type 0
IsOtherSocket plan (call.AllocatedTcpSocket connection peer (Some here)) = here ≢ plan.client.here
IsOtherSocket plan _ = Unit {0}

-- How far a reply is delivered over TCP: none is under way, or these first bytes of it have come.
pub data Delivery : Type 0 where
  Idle : Delivery
  Half : (reply head : List ℕ) → Delivery

-- The state after a chunk: `head` has come then, and `rest` is still to come.
abbrev pub delivered : (reply head rest : List ℕ) → Delivery
delivered reply head [] = Idle
delivered reply head (byte ∷ rest) = Half reply head

-- What may happen after an honest run, if `replies` are the server core's replies so far:
--
-- - The client is called or polled.
-- - Anything reaches the server core.
-- - Over UDP anything reaches the client, but each challenge among it is one of these replies.
-- - Over TCP nothing but these replies reaches the client, each whole, in any chunks, from the server's
--   address to the client's.
-- - Bytes that come after the latest time of a client have no effect.
pub data IsClean (plan : Plan) (replies : List (List ℕ)) (at : Delivery) (event : Event) (next : Delivery)
    : Type 0 where
  Calls : (what : ClientCall) (now : ℕ) → IsOtherSocket plan what → event ≡ Call what now → next ≡ at
      → IsClean plan replies at event next
  Draws : (now : ℕ) → event ≡ Draw now → next ≡ at → IsClean plan replies at event next
  AtDesk : (bytes : Vec ℕ Global) (from : SocketAddr) (now : ℕ) (decision : Decision) (seed : List ℕ)
      → event ≡ ToDesk bytes from now decision seed → next ≡ at → IsClean plan replies at event next
  Datagram : (bytes : Vec ℕ Global) (from to : SocketAddr) (now : ℕ) → plan.client.transport ≡ Udp
      → (challenge_visible bytes.items ≢ None → IsIn bytes.items replies) → event ≡ ToClient bytes from to now
      → next ≡ at → IsClean plan replies at event next
  Late : (bytes : Vec ℕ Global) (from to : SocketAddr) (now : ℕ) → client_end < now → event ≡ ToClient bytes from to now
      → next ≡ at → IsClean plan replies at event next
  Begins : (reply rest : List ℕ) (bytes : Vec ℕ Global) (now : ℕ) → plan.client.transport ≡ Tcp → at ≡ Idle
      → IsIn reply replies → BringsOn Tcp reply [] bytes.items rest → now ≤ client_end
      → event ≡ ToClient bytes plan.client.server plan.client.here now → next ≡ delivered reply bytes.items rest
      → IsClean plan replies at event next
  Continues : (reply head rest : List ℕ) (bytes : Vec ℕ Global) (now : ℕ) → plan.client.transport ≡ Tcp
      → at ≡ Half reply head → BringsOn Tcp reply head bytes.items rest → now ≤ client_end
      → event ≡ ToClient bytes plan.client.server plan.client.here now
      → next ≡ delivered reply (head ++ bytes.items) rest → IsClean plan replies at event next

unfoldable pub IsCleanRun : Plan → (replies : List (List ℕ)) → Delivery → List (Event × Answer) → Delivery → Type 0
IsCleanRun plan replies at [] last = last ≡ at
IsCleanRun plan replies at (pair ∷ pairs) last = (next : Delivery) × IsClean plan replies at pair.0 next
    × IsCleanRun plan (with_reply pair.0 pair.1 replies) next pairs last

-- ---- the request

-- The client made this request between the two states: it is outstanding in the second, and was not in the
-- first.
pub record IsRequestOf (w v : World) (request : List ℕ) : Type 0 where
  pub old : ClientState
  pub old_there : w.client ≡ Some old
  pub new : ClientState
  pub new_there : v.client ≡ Some new
  pub made : IsMade old.core new.core request

-- What was done with the request so far.
pub data Stop : Type 0 where
  -- It is queued.
  Pending : Stop
  -- It was transmitted.
  Transmitted : Stop
  -- The server core granted it by a reply, of which these first bytes reached the client so far.
  Granted : (reply head : List ℕ) → Stop
  -- All of that reply reached the client.
  Got : (reply : List ℕ) → Stop

-- The state after a chunk of the reply: `head` has come then, and `rest` is still to come.
abbrev pub given : (reply head rest : List ℕ) → Stop
given reply head [] = Got reply
given reply head (byte ∷ rest) = Granted reply head

-- The server core has granted the request.
abbrev pub IsReplied : Stop → Type 0
IsReplied Pending = ⊥
IsReplied Transmitted = ⊥
IsReplied (Granted reply head) = Unit {0}
IsReplied (Got reply) = Unit {0}

-- What may happen while the request is queued, up to `now`: the client is called in one of these ways or
-- polled for a message, and anything reaches the server core; but nothing reaches the client.
abbrev pub IsBetween : (now : ℕ) → Event → Type 0
IsBetween now (Call what at) = IsOwnCall what × (at ≤ now)
IsBetween now (Draw at) = at ≤ now
IsBetween now (ToClient bytes from to at) = ⊥
IsBetween now (ToDesk bytes from at decision seed) = Unit {0}

-- What happens then, and where it leads. At one time the request is transmitted, reaches the server core from
-- the client's own address, and is granted by a success response; and the response reaches the client from
-- the server's address.
pub data Follows (plan : Plan) (request : List ℕ) (now : ℕ) (stop : Stop) (event : Event) (ret : Answer) (next : Stop)
    : Type 0 where
  Between : stop ≡ Pending → IsBetween now event → next ≡ Pending → Follows plan request now stop event ret next
  IsTransmitted : (sent : Transmit Data) → stop ≡ Pending → event ≡ Draw now → ret ≡ answer.Transmit sent
      → (sent_of sent).bytes ≡ request → next ≡ Transmitted → Follows plan request now stop event ret next
  IsGranted : (bytes reply : Vec ℕ Global) (decision : Decision) (seed : List ℕ) → stop ≡ Transmitted → bytes.items ≡ request
      → event ≡ ToDesk bytes plan.client.here now decision seed → ret ≡ answer.Reply reply
      → class_of (kind_at reply.items) ≡ Success → next ≡ Granted reply.items []
      → Follows plan request now stop event ret next
  -- Between the chunks, and after them, `poll_recv` may be called.
  Receives : (at : ℕ) → IsReplied stop → event ≡ Call call.PollRecv at → next ≡ stop
      → Follows plan request now stop event ret next
  IsGiven : (reply head rest : List ℕ) (bytes : Vec ℕ Global) → stop ≡ Granted reply head
      → BringsOn plan.client.transport reply head bytes.items rest
      → event ≡ ToClient bytes plan.client.server plan.client.here now → next ≡ given reply (head ++ bytes.items) rest
      → Follows plan request now stop event ret next

-- The events and results lead from one stop to another.
unfoldable pub IsAskingScript : Plan → (request : List ℕ) → (now : ℕ) → Stop → List (Event × Answer) → Stop → Type 0
IsAskingScript plan request now stop [] last = last ≡ stop
IsAskingScript plan request now stop (pair ∷ pairs) last =
    (next : Stop) × Follows plan request now stop pair.0 pair.1 next × IsAskingScript plan request now next pairs last
