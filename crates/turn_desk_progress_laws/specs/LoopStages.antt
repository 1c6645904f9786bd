-- The state of the simulation at each position of a loop (Loops.antt), and what holds there.
use Rattle.std.specs.Prelude.{◌≡◌, ◌⊎◌, ◌≤◌, ◌+◌, ◌++◌, ℕ, List, [], ◌∷◌, Some, None}
use Rattle.std.specs.declared.net.socket_addr.SocketAddr.{SocketAddr}
use Rattle.turn_desk_core.specs.StunTypesWire.Grammar.{refusal}
use Rattle.turn_client_proto_messages.specs.StunProtoClient.Challenges.{ChallengeFields, challenge_visible}
use Rattle.turn_client_proto_messages.specs.StunProtoClient.Client.{standing_key}
use Rattle.turn_client_proto_messages.specs.StunProtoClient.Digests.{IsRight}
use Rattle.turn_client_proto_messages.specs.Waiting.{Queued}
use Rattle.turn_client_proto_api.specs.declared.event.TurnEvent.{TurnEvent}
use Rattle.turn_client_proto_api.specs.Sent.{Sent}
use Rattle.turn_client_proto_step_laws.specs.Recv.ClientState.{Protocol}
use Rattle.turn_client_proto_handshake_laws.specs.Sent.{first_request, first_sent}
use Rattle.turn_client_proto_handshake_laws.specs.Choosing.{Choice, IsAnsweredBy, IsBarring, signed_sent, standing_by}
use Rattle.turn_client_proto_handshake_laws.specs.Coming.{IsPartOf}
use Rattle.turn_client_proto_handshake_laws.specs.Stages.{AsksForOne, HasChosen, HasEnded, HasSigned, Holds}
use Rattle.turn_client_proto_handshake_laws.specs.Stages.{IsAsking, IsGrant, created, failures}
use Rattle.turn_desk_step_laws.specs.Challenged.{IsFirstChallenge}
use Rattle.turn_desk_core.specs.State.{State}
use Rattle.turn_desk_core.specs.Steps.{key_at}
use Rattle.turn_desk_world_laws.specs.World.Model.{World}
use Rattle.turn_desk_progress_laws.specs.Loops.{IsTransmissionDue, Position, Timing}
use Rattle.turn_desk_progress_laws.specs.Promises.{HasClient, allocation_granted}
use Rattle.turn_desk_progress_laws.specs.Scripts.{Plan, Progress, Start, Requested, Challenged, Came}
use Rattle.turn_desk_progress_laws.specs.Scripts.{Signed, Granted, Done, Barred, Silent}
use Rattle.turn_desk_progress_laws.specs.Standing.{IsAtStart, IsOfSettings, IsUnder, Untold}

-- The plan of a client that begins at this time: what Standing.antt says of a challenge at the time at which the
-- client begins is said by it of a challenge at this time.
abbrev pub plan_at : Plan → (made : ℕ) → Plan
plan_at plan made = record plan { client = record plan.client { made = made } }

-- The client transmitted its first request, and awaits the reply.
pub record IsRequestedSo (plan : Plan) (old : World) (t : Timing) (request : Sent) (w : World) : Type 0 where
  pub request_is : request ≡ first_sent plan.client
  pub client : HasClient plan [] w (λ p. IsAsking plan.client t.many t.sent p)
  pub desk_is : w.desk ≡ old.desk

-- The server core replied to it with this challenge, of which these first bytes have come.
pub record IsChallengedSo (plan : Plan) (old : World) (t : Timing) (request : Sent) (reply head : List ℕ) (w : World)
    : Type 0 where
  pub request_is : request ≡ first_sent plan.client
  pub client : HasClient plan head w (λ p. IsAsking plan.client t.many t.sent p)
  pub part : IsPartOf head reply
  pub challenge : IsFirstChallenge old.desk plan.client.here (first_request plan.client) t.challenged reply w.desk

-- The client answers the challenge, which came at `t.came`. The statement `Is` holds of its core.
pub record IsAnswering (plan : Plan) (old : World) (t : Timing) (c : Choice) (head : List ℕ) (Is : Protocol → Type 0)
    (w : World) : Type 0 where
  pub under : IsUnder (plan_at plan t.challenged) old.desk c.reported w.desk
  pub made : c.made ≡ t.came
  pub answered : IsAnsweredBy plan.client.config c.reported c.algorithm
  pub client : HasClient plan head w Is

-- The signed request is queued, and was not transmitted yet.
pub record HasChosenSo (plan : Plan) (old : World) (t : Timing) (w : World) : Type 0 where
  pub none_sent : t.many ≡ 0
  pub choice : Choice
  pub is : IsAnswering plan old t choice [] (λ p. HasChosen plan.client choice 1 t.sent p) w

-- The challenge can't be answered, and the client has ended.
pub record IsOverSo (plan : Plan) (old : World) (reported : List TurnEvent) (t : Timing) (w : World) : Type 0 where
  pub challenge : ChallengeFields
  pub under : IsUnder (plan_at plan t.challenged) old.desk challenge w.desk
  pub barring : IsBarring plan.client.config challenge
  pub left : List TurnEvent
  pub decodes : reported ++ left ≡ failures plan.client
  pub client : HasClient plan [] w (λ p. HasEnded plan.client left p)

-- The signed request was transmitted `many` times, the last time at `sent`: from the queue and by its schedule,
-- or by its schedule alone, and it is still queued.
pub data IsTransmittedBy (plan : Plan) (c : Choice) (many sent : ℕ) (p : Protocol) : Type 0 where
  Left : HasSigned plan.client c many sent p → IsTransmittedBy plan c many sent p
  Queues : IsTransmissionDue plan c.made many sent → HasChosen plan.client c (many + 1) sent p
      → IsTransmittedBy plan c many sent p

abbrev pub Transmits : Plan → Timing → Choice → Protocol → Type 0
Transmits plan t c p = IsTransmittedBy plan c t.many t.sent p

pub record IsSignedSo (plan : Plan) (old : World) (t : Timing) (request : Sent) (w : World) : Type 0 where
  pub choice : Choice
  pub request_is : request ≡ signed_sent plan.client choice
  pub is : IsAnswering plan old t choice [] (Transmits plan t choice) w

-- The server core has granted what the client requested. It stores the client's key for its address, and the
-- reply is valid under that key.
pub record HasGranted (plan : Plan) (old : World) (choice : Choice) (request : Sent) (address : SocketAddr)
    (lifetime : ℕ) (reply : List ℕ) (desk : State) : Type 0 where
  pub request_is : request ≡ signed_sent plan.client choice
  pub answered : IsAnsweredBy plan.client.config choice.reported choice.algorithm
  pub of : IsOfSettings old.desk.auth choice.reported
  pub asks : AsksForOne plan.client address
  pub request_right : IsRight request.bytes (standing_key (standing_by plan.client choice))
  pub message : refusal reply ≡ None
  pub grant : IsGrant plan.client choice address lifetime reply
  pub no_challenge : challenge_visible reply ≡ None
  pub keeps : key_at desk.auth plan.client.here ≡ Some (standing_key (standing_by plan.client choice))
  pub granted : desk.grants ≡ old.desk.grants ++ allocation_granted plan request.bytes address lifetime ∷ []

-- These first bytes of its reply have come.
pub record IsRepliedSo (plan : Plan) (old : World) (t : Timing) (request : Sent) (address : SocketAddr) (lifetime : ℕ)
    (reply head : List ℕ) (w : World) : Type 0 where
  pub choice : Choice
  pub made : choice.made ≡ t.came
  pub is : HasGranted plan old choice request address lifetime reply w.desk
  pub part : IsPartOf head reply
  pub client : HasClient plan head w (Transmits plan t choice)

-- The client holds the allocation, for its lifetime from the time at which all of the reply had come.
pub record IsHeldSo (plan : Plan) (old : World) (reported : List TurnEvent) (t : Timing) (request : Sent)
    (address : SocketAddr) (lifetime : ℕ) (reply : List ℕ) (w : World) : Type 0 where
  pub choice : Choice
  pub is : HasGranted plan old choice request address lifetime reply w.desk
  pub queue : List Queued
  pub left : List TurnEvent
  pub decodes : reported ++ left ≡ created plan.client address
  pub client : HasClient plan [] w (λ p. Holds plan.client choice address lifetime t.came t.sent queue left p)

-- The state of the simulation, if the events `reported` were reported so far.
abbrev pub IsStageOf : Plan → World → List TurnEvent → Progress → Timing → World → Type 0
IsStageOf plan old reported Start t w = Untold reported (IsAtStart plan old w)
IsStageOf plan old reported (Requested request) t w = Untold reported (IsRequestedSo plan old t request w)
IsStageOf plan old reported (Challenged request reply head) t w =
    Untold reported (IsChallengedSo plan old t request reply head w)
IsStageOf plan old reported Came t w = Untold reported (HasChosenSo plan old t w) ⊎ IsOverSo plan old reported t w
IsStageOf plan old reported (Signed request) t w = Untold reported (IsSignedSo plan old t request w)
IsStageOf plan old reported (Granted request address lifetime reply head) t w =
    Untold reported (IsRepliedSo plan old t request address lifetime reply head w)
IsStageOf plan old reported (Done request address lifetime reply) t w =
    IsHeldSo plan old reported t request address lifetime reply w
IsStageOf plan old reported Barred t w = ⊥
IsStageOf plan old reported Silent t w = ⊥

-- The state at a position; and nothing was transmitted after the client's last event.
pub record IsAtPosition (plan : Plan) (old : World) (reported : List TurnEvent) (position : Position) (w : World)
    : Type 0 where
  pub sent_before : position.timing.sent ≤ position.last
  pub stage : IsStageOf plan old reported position.progress position.timing w
