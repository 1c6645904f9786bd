-- A request for a permission or a channel, whose response the client of a simulation awaits, also after the server core
-- challenged earlier ones for the same (RFC 8489, section 9.2.5).
use Rattle.std.specs.Prelude.{◌≡◌, ◌≢◌, ◌≤◌, ℕ, List, [], length, Some}
use Rattle.std.specs.declared.net.socket_addr.SocketAddr.{SocketAddr}
use Rattle.turn_client_proto_messages.specs.StunProtoAuth.Claims.{claimed}
use Rattle.turn_client_proto_messages.specs.StunProtoClient.Challenges.{ChallengeFields, challenge_visible}
use Rattle.turn_client_proto_messages.specs.StunTypesWire.Grammar.{number_at}
use Rattle.turn_client_proto_messages.specs.StunTypesWire.declared.algorithm.IntegrityAlgorithm.{IntegrityAlgorithm}
use Rattle.turn_client_proto_handshake_laws.specs.Choosing.{IsAnsweredBy}
use Rattle.turn_client_proto_handshake_laws.specs.Driving.{client_end}
use Rattle.turn_client_proto_progress_laws.specs.Asking.{AChannel, APermission, HasMadeRequest, Wanted}
use Rattle.turn_client_proto_progress_laws.specs.Speaking.{AreHeldBeyond}
use Rattle.turn_desk_event.specs.declared.answer.Answer.TheVariants as answer
use Rattle.turn_desk_event.specs.declared.event.ClientCall.{ClientCall}
use Rattle.turn_desk_event.specs.declared.event.ClientCall.TheVariants as call
use Rattle.turn_desk_event.specs.declared.event.Event.TheVariants.{Call}
use Rattle.turn_desk_world_laws.specs.World.Model.{World}
use Rattle.turn_desk_world_laws.specs.World.Runs.{IsStep}
use Rattle.turn_desk_progress_laws.specs.Asking.{IsRequestOf}
use Rattle.turn_desk_progress_laws.specs.Loops.{MayBegin}
use Rattle.turn_desk_progress_laws.specs.Promises.{HasClient}
use Rattle.turn_desk_progress_laws.specs.Scripts.{Plan}
use Rattle.turn_desk_progress_laws.specs.Standing.{IsOfSettings}
use Rattle.turn_desk_laws.specs.RenewalStages.{KeepsSettings}
use Rattle.turn_client_proto_progress_laws.specs.RequestChallenges.{Counted}
use Rattle.turn_desk_laws.specs.RequestLoops.{IsQueued}

-- The client can answer a challenge that announces what the server core accepts.
pub record CanAnswer (plan : Plan) (old : World) : Type 0 where
  pub reported : ChallengeFields
  pub choice : IntegrityAlgorithm
  pub of : IsOfSettings old.desk.auth reported
  pub answered : IsAnsweredBy plan.client.config reported choice

-- The call asks for this.
abbrev pub IsCallFor : ClientCall → Wanted → Type 0
IsCallFor (call.CreatePermission transport ip) wanted = wanted ≡ APermission ip
IsCallFor (call.BindChannel transport peer) wanted = (channel : ℕ) × (wanted ≡ AChannel channel peer)
IsCallFor _ wanted = ⊥

-- A loop began in the state `old`. The client awaits the response to this request for what the call asked for. It
-- doesn't give the request up by `until`, and its allocation doesn't end by `beyond`. It has answered this many
-- challenges in a row, with no success response between them.
pub record IsRequestAwaited (plan : Plan) (old : World) (address : SocketAddr) (what : ClientCall) (request : List ℕ)
    (until beyond challenges : ℕ) (w : World) : Type 0 where
  pub may : MayBegin plan old
  pub can : CanAnswer plan old
  pub keeps : KeepsSettings plan old w.desk
  pub wanted : Wanted
  pub is_for : IsCallFor what wanted
  pub client : HasClient plan [] w
      (λ p. HasMadeRequest plan.client old.desk.auth.realm address wanted request until beyond (Counted challenges) p)

-- A call made this request. The allocation doesn't end by `beyond`. At the call, the client had answered this many
-- challenges in a row, with no success response between them.
pub record HasCalled (plan : Plan) (what : ClientCall) (made beyond challenges : ℕ) (request : List ℕ) (old new : World)
    : Type 0 where
  pub holds : HasClient plan [] old (λ p. AreHeldBeyond beyond p.allocations)
  pub counted : HasClient plan [] old (λ p. p.resends ≡ challenges)
  pub step : IsStep (Call what made) old answer.Done new
  pub is : IsRequestOf old new request

-- So many messages are queued. Some first bytes of a reply may have come.
pub record HasQueued (plan : Plan) (many : ℕ) (w : World) : Type 0 where
  pub head : List ℕ
  pub client : HasClient plan head w (λ p. length p.queue ≡ many)

-- A time that is early enough, and at which a client may be called.
pub record IsWithin (beyond until : ℕ) : Type 0 where
  pub early : until ≤ beyond
  pub in_range : until ≤ client_end

-- A challenge by this reply made the client make another request for the same: under the challenge's nonce and with
-- another transaction ID. It is queued last.
pub record IsRequestedAgain (plan : Plan) (old : World) (address : SocketAddr) (what : ClientCall) (request : List ℕ)
    (reply : List ℕ) (until beyond challenges : ℕ) (w v : World) : Type 0 where
  pub again : List ℕ
  pub is : IsRequestOf w v again
  pub other : number_at again ≢ number_at request
  pub nonce : (reported : ChallengeFields) → challenge_visible reply ≡ Some reported
      → (claimed again).nonce ≡ Some reported.nonce
  pub awaited : IsRequestAwaited plan old address what again until beyond challenges v
  pub queued : (many : ℕ) → HasQueued plan many w → IsQueued plan again many v
