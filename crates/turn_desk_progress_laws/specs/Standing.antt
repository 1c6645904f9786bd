-- The state of the simulation at each position of an honest network.
use Rattle.std.specs.Prelude.{◌≡◌, ◌⊎◌, ◌++◌, ℕ, Bool, false, List, [], ◌∷◌, None, Some}
use Rattle.std.specs.declared.net.socket_addr.SocketAddr.{SocketAddr}
use Rattle.turn_desk_core.specs.StunTypesWire.Grammar.{refusal}
use Rattle.turn_desk_core.specs.StunTypesWire.declared.algorithm.IntegrityAlgorithm.{IntegrityAlgorithm}
use Rattle.turn_client_proto_messages.specs.StunProtoClient.Challenges.{ChallengeFields, challenge_visible, lacks_list, list_for_choice}
use Rattle.turn_client_proto_messages.specs.StunProtoClient.Choice.{supports, takes}
use Rattle.turn_client_proto_messages.specs.StunProtoClient.Client.{standing_key}
use Rattle.turn_client_proto_messages.specs.StunProtoClient.Digests.{IsRight}
use Rattle.turn_client_proto_api.specs.StunProtoAuth.Nonce.{features_in, takes_anonymous_username}
use Rattle.turn_desk_core.specs.StunProtoServer.Server.{Server}
use Rattle.turn_client_proto_api.specs.declared.event.TurnEvent.{TurnEvent}
use Rattle.turn_client_proto_api.specs.Sent.{Sent}
use Rattle.turn_client_proto_step_laws.specs.Recv.ClientState.{Protocol}
use Rattle.turn_client_proto_messages.specs.Waiting.{Queued}
use Rattle.turn_client_proto_handshake_laws.specs.Sent.{Begins, first_request}
use Rattle.turn_client_proto_handshake_laws.specs.Requested.{sent_of}
use Rattle.turn_client_proto_handshake_laws.specs.Choosing.{Choice, IsAnsweredBy, IsBarring, signed_sent, standing_by}
use Rattle.turn_client_proto_handshake_laws.specs.Stages.{AsksForOne, HasChosen, HasEnded, HasSigned, Holds}
use Rattle.turn_client_proto_handshake_laws.specs.Coming.{IsPartOf}
use Rattle.turn_client_proto_handshake_laws.specs.Stages.{IsAsking, IsGrant, created, failures, first_requested}
use Rattle.turn_desk_step_laws.specs.Challenged.{IsFirstChallenge}
use Rattle.turn_desk_core.specs.State.{State}
use Rattle.turn_desk_core.specs.Steps.{key_at}
use Rattle.turn_desk_world_laws.specs.World.Model.{World}
use Rattle.turn_desk_progress_laws.specs.Promises.{HasClient, allocation_granted}
use Rattle.turn_desk_progress_laws.specs.Scripts.{Plan, Progress, Start, Requested, Challenged, Came}
use Rattle.turn_desk_progress_laws.specs.Scripts.{Signed, Granted, Done, Barred, Silent}

-- The challenge has the server's realm, announces what the server accepts, and has the list that it announces.
pub record IsOfSettings (server : Server) (reported : ChallengeFields) : Type 0 where
  pub realm : reported.realm ≡ server.realm
  pub takes_own : (hardened : Bool) (algorithm : IntegrityAlgorithm)
      → takes hardened (list_for_choice hardened reported) algorithm ≡ supports server.algorithms algorithm
  pub hides : (features_in reported.nonce).anonymous_username ≡ takes_anonymous_username server.anonymous_username
  pub listed : lacks_list reported ≡ false

-- The client is new, and the server core is unchanged.
pub record IsAtStart (plan : Plan) (old w : World) : Type 0 where
  pub client : HasClient plan [] w (λ p. Begins plan.client p)
  pub desk_is : w.desk ≡ old.desk

-- The client transmitted its first request, and awaits the reply.
pub record IsRequested (plan : Plan) (old : World) (request : Sent) (w : World) : Type 0 where
  pub request_is : request ≡ sent_of plan.client (first_requested plan.client)
  pub client : HasClient plan [] w (λ p. IsAsking plan.client 1 plan.client.made p)
  pub desk_is : w.desk ≡ old.desk

-- The server core replied to it with a challenge.
abbrev pub IsFirstReply : Plan → (old : State) → (reply : List ℕ) → (new : State) → Type 0
IsFirstReply plan old reply new =
    IsFirstChallenge old plan.client.here (first_request plan.client) plan.client.made reply new

-- These first bytes of that reply have come.
pub record IsChallenged (plan : Plan) (old : World) (request : Sent) (reply head : List ℕ) (w : World) : Type 0 where
  pub request_is : request ≡ sent_of plan.client (first_requested plan.client)
  pub client : HasClient plan head w (λ p. IsAsking plan.client 1 plan.client.made p)
  pub part : IsPartOf head reply
  pub challenge : IsFirstReply plan old.desk reply w.desk

-- The server core has challenged the client in this way, and stores the nonce for it.
pub record IsUnder (plan : Plan) (old : State) (reported : ChallengeFields) (desk : State) : Type 0 where
  pub reply : List ℕ
  pub challenge : IsFirstReply plan old reply desk
  pub reported_is : challenge.reported ≡ reported

-- The client answers that challenge, and the statement `Is` holds of its core.
pub record IsChosen (plan : Plan) (old : World) (c : Choice) (Is : Protocol → Type 0) (w : World) : Type 0 where
  pub under : IsUnder plan old.desk c.reported w.desk
  pub made : c.made ≡ plan.client.made
  pub answered : IsAnsweredBy plan.client.config c.reported c.algorithm
  pub client : HasClient plan [] w Is

-- The challenge can't be answered, and the client has ended.
pub record IsOver (plan : Plan) (old : World) (reported : List TurnEvent) (w : World) : Type 0 where
  pub challenge : ChallengeFields
  pub under : IsUnder plan old.desk challenge w.desk
  pub barring : IsBarring plan.client.config challenge
  pub left : List TurnEvent
  pub decodes : reported ++ left ≡ failures plan.client
  pub client : HasClient plan [] w (λ p. HasEnded plan.client left p)

-- The signed request is queued.
abbrev pub Chooses : Plan → Choice → Protocol → Type 0
Chooses plan c p = HasChosen plan.client c 1 plan.client.made p

pub record HasChoice (plan : Plan) (old w : World) : Type 0 where
  pub choice : Choice
  pub chosen : IsChosen plan old choice (Chooses plan choice) w

-- The request was transmitted at the second call of `poll_transmit`: it was taken from the queue; or, if the
-- waits are so short that it was due again, it is still queued.
pub record HasTransmitted (plan : Plan) (c : Choice) (p : Protocol) : Type 0 where
  pub used : ℕ
  pub is : HasChosen plan.client c used plan.second p ⊎ HasSigned plan.client c used plan.second p

pub record IsSigned (plan : Plan) (old : World) (request : Sent) (w : World) : Type 0 where
  pub choice : Choice
  pub request_is : request ≡ signed_sent plan.client choice
  pub chosen : IsChosen plan old choice (HasTransmitted plan choice) w

-- The server core has granted what the client requested. It stores the client's key for its address, and the
-- reply is valid under that key.
pub record IsGranting (plan : Plan) (old : World) (choice : Choice) (request : Sent) (address : SocketAddr)
    (lifetime : ℕ) (reply : List ℕ) (w : World) : Type 0 where
  pub request_is : request ≡ signed_sent plan.client choice
  pub made : choice.made ≡ plan.client.made
  pub answered : IsAnsweredBy plan.client.config choice.reported choice.algorithm
  pub of : IsOfSettings old.desk.auth choice.reported
  pub asks : AsksForOne plan.client address
  pub request_right : IsRight request.bytes (standing_key (standing_by plan.client choice))
  pub message : refusal reply ≡ None
  pub grant : IsGrant plan.client choice address lifetime reply
  pub no_challenge : challenge_visible reply ≡ None
  pub keeps : key_at w.desk.auth plan.client.here ≡ Some (standing_key (standing_by plan.client choice))
  pub granted : w.desk.grants ≡ old.desk.grants ++ allocation_granted plan request.bytes address lifetime ∷ []

-- These first bytes of its reply have come.
pub record IsReplied (plan : Plan) (old : World) (request : Sent) (address : SocketAddr) (lifetime : ℕ)
    (reply head : List ℕ) (w : World) : Type 0 where
  pub choice : Choice
  pub is : IsGranting plan old choice request address lifetime reply w
  pub part : IsPartOf head reply
  pub client : HasClient plan head w (HasTransmitted plan choice)

-- The client holds the allocation.
pub record IsHeld (plan : Plan) (old : World) (reported : List TurnEvent) (request : Sent) (address : SocketAddr)
    (lifetime : ℕ) (reply : List ℕ) (w : World) : Type 0 where
  pub choice : Choice
  pub is : IsGranting plan old choice request address lifetime reply w
  pub queue : List Queued
  pub left : List TurnEvent
  pub decodes : reported ++ left ≡ created plan.client address
  pub client : HasClient plan [] w (λ p. Holds plan.client choice address lifetime plan.second plan.second queue left p)

-- No event was reported so far.
abbrev pub Untold : List TurnEvent → Type 0 → Type 0
Untold reported Is = (reported ≡ []) × Is

-- The state of the simulation at a position, if the events `reported` were reported so far.
abbrev pub IsAtStage : Plan → World → List TurnEvent → Progress → World → Type 0
IsAtStage plan old reported Start w = Untold reported (IsAtStart plan old w)
IsAtStage plan old reported (Requested request) w = Untold reported (IsRequested plan old request w)
IsAtStage plan old reported (Challenged request reply head) w = Untold reported (IsChallenged plan old request reply head w)
IsAtStage plan old reported Came w = Untold reported (HasChoice plan old w) ⊎ IsOver plan old reported w
IsAtStage plan old reported (Signed request) w = Untold reported (IsSigned plan old request w)
IsAtStage plan old reported (Granted request address lifetime reply head) w =
    Untold reported (IsReplied plan old request address lifetime reply head w)
IsAtStage plan old reported (Done request address lifetime reply) w = IsHeld plan old reported request address lifetime reply w
IsAtStage plan old reported Barred w = IsOver plan old reported w
IsAtStage plan old reported Silent w = ⊥
