-- A server core stores a nonce for each address, so it challenges a CONNECTION_BIND that comes from a new
-- one, that of the socket. The request is then sent again (RFC 8489, sections 9.2.4 and 9.2.5; RFC 6062,
-- section 4.3).
use Rattle.std.specs.Prelude.{◌≡◌, ◌≢◌, ◌≤◌, ◌++◌, ℕ, List, [], ◌∷◌, Some, None, Vec}
use Rattle.std.specs.declared.alloc.Global.{Global}
use Rattle.std.specs.declared.net.socket_addr.SocketAddr.{SocketAddr}
use Rattle.turn_desk_core.specs.StunTypesWire.Grammar.{refusal}
use Rattle.turn_desk_core.specs.StunTypesWire.declared.algorithm.IntegrityAlgorithm.{IntegrityAlgorithm}
use Rattle.turn_client_proto_messages.specs.StunProtoClient.Challenges.{ChallengeFields, challenge_visible}
use Rattle.turn_desk_core.specs.TurnTypesAttributes.TurnRegistry.{connection_bind_method}
use Rattle.turn_client_proto_api.specs.declared.event.TurnEvent.{TurnEvent}
use Rattle.turn_client_proto_handshake_laws.specs.Coming.{IsPartOf}
use Rattle.turn_client_proto_api.specs.Sent.{Sent}
use Rattle.turn_client_proto_handshake_laws.specs.Driving.{client_end}
use Rattle.turn_client_proto_progress_laws.specs.Holders.{Holder}
use Rattle.turn_client_proto_progress_laws.specs.Replies.{CanAnswer, IsChallengeOf}
use Rattle.turn_client_proto_step_laws.specs.Recv.ClientState.{Protocol}
use Rattle.turn_desk_world_laws.specs.World.Model.{World}
use Rattle.turn_desk_event.specs.declared.answer.Answer.{Answer}
use Rattle.turn_desk_event.specs.declared.answer.Answer.TheVariants as answer
use Rattle.turn_desk_core.specs.declared.decision.Decision.{Decision}
use Rattle.turn_desk_event.specs.declared.event.ClientCall.{ClientCall}
use Rattle.turn_desk_event.specs.declared.event.ClientCall.TheVariants as call
use Rattle.turn_desk_event.specs.declared.event.Event.{Event}
use Rattle.turn_desk_event.specs.declared.event.Event.TheVariants.{Call, ToClient, ToDesk}
use Rattle.turn_desk_progress_laws.specs.Scripts.{IsLook, Plan}
use Rattle.turn_desk_progress_laws.specs.Standing.{IsOfSettings}
use Rattle.turn_desk_progress_laws.specs.Joining.{IsBinding, IsHeldBy, OfNumber, IsAtStep}
use Rattle.turn_desk_progress_laws.specs.Linked.{HasLinked}
use Rattle.turn_desk_progress_laws.specs.Links.{Binding, Link, Links, Opened, Reached}

-- What was done so far. `At`: what a script without a challenge has done.
pub data Retry : Type 0 where
  At : (progress : Reached) → Retry
  -- The server core challenged the request that was transmitted at `sent`, and these first bytes of its reply
  -- reached the socket so far.
  Turned : (sent : ℕ) (request : Sent) (reply head : List ℕ) → Retry

-- Once all of the challenge has come, another request may be transmitted, 50 ms after the last one.
abbrev pub turned : (sent : ℕ) (request : Sent) (reply head rest : List ℕ) → Retry
turned sent request reply head [] = At (Opened sent)
turned sent request reply head (byte ∷ rest) = Turned sent request reply head

pub data Relinks (plan : Plan) (lifetime : ℕ) (link : Link) (progress : Retry) (event : Event) (ret : Answer) (next : Retry)
    : Type 0 where
  Goes : (from to : Reached) → progress ≡ At from → Links plan lifetime link from event ret to → next ≡ At to
      → Relinks plan lifetime link progress event ret next
  -- The server core's reply is a challenge.
  TurnsBind : (sent now : ℕ) (request : Sent) (bytes reply : Vec ℕ Global) (reported : ChallengeFields) (decision : Decision)
      (seed : List ℕ) → progress ≡ At (Binding sent request) → bytes.items ≡ request.bytes
      → event ≡ ToDesk bytes link.local now decision seed → ret ≡ answer.Reply reply
      → challenge_visible reply.items ≡ Some reported → next ≡ Turned sent request reply.items []
      → Relinks plan lifetime link progress event ret next
  GiveTurn : (sent now : ℕ) (request : Sent) (reply head rest : List ℕ) (bytes : Vec ℕ Global)
      → progress ≡ Turned sent request reply head → bytes.items ≢ [] → reply ≡ (head ++ bytes.items) ++ rest
      → now ≤ client_end → event ≡ ToClient bytes request.to request.from now
      → next ≡ turned sent request reply (head ++ bytes.items) rest → Relinks plan lifetime link progress event ret next
  LooksOn : (sent : ℕ) (request : Sent) (reply head : List ℕ) (what : ClientCall) (now : ℕ)
      → progress ≡ Turned sent request reply head → IsLook what → event ≡ Call what now → next ≡ progress
      → Relinks plan lifetime link progress event ret next
  ReceivesOn : (sent : ℕ) (request : Sent) (reply head : List ℕ) (now : ℕ) → progress ≡ Turned sent request reply head
      → event ≡ Call call.PollRecv now → next ≡ progress → Relinks plan lifetime link progress event ret next

unfoldable pub IsRelinkScript : Plan → (lifetime : ℕ) → Link → Retry → List (Event × Answer) → Retry → Type 0
IsRelinkScript plan lifetime link progress [] last = last ≡ progress
IsRelinkScript plan lifetime link progress (pair ∷ pairs) last =
    (next : Retry) × Relinks plan lifetime link progress pair.0 pair.1 next
    × IsRelinkScript plan lifetime link next pairs last

-- What holds when such a script has reached a position: what `HasLinked` says, if no challenge is under way.
abbrev pub HasRelinked : Plan → World → SocketAddr → Link → Retry → World → Type 0
HasRelinked plan old address link (At progress) new = HasLinked plan old address link progress new
HasRelinked plan old address link (Turned sent request reply head) new = Unit {0}

-- ---- how a world stands there

-- The reply is a challenge of the server core, which the client can answer.
pub record IsTurned (old : World) (link : Link) (sent : ℕ) (request : Sent) (reply head : List ℕ) (h : Holder)
    (events : List TurnEvent) (p : Protocol) (transaction_id : ℕ) : Type 0 where
  pub binding : IsBinding link sent request head h events p transaction_id
  pub message : refusal reply ≡ None
  pub reported : ChallengeFields
  pub challenge : IsChallengeOf reported connection_bind_method transaction_id reply
  pub of : IsOfSettings old.desk.auth reported
  pub choice : IntegrityAlgorithm
  pub can : CanAnswer h reported choice
  pub part : IsPartOf head reply

abbrev pub IsAtStageAgain : Plan → World → SocketAddr → (lifetime : ℕ) → Link → Retry → World → Type 0
IsAtStageAgain plan old address lifetime link (At progress) w = IsAtStep plan old address lifetime link progress w
IsAtStageAgain plan old address lifetime link (Turned sent request reply head) w =
    IsHeldBy plan old address lifetime link []
    (λ h events p. OfNumber (λ transaction_id. IsTurned old link sent request reply head h events p transaction_id)) w
