-- The state of the simulation at each position of the renewals (RenewalLoops.antt).
use Rattle.std.specs.Prelude.{◌≡◌, ◌≢◌, ◌⊎◌, ◌≤◌, ◌<◌, ◌+◌, ◌^◌, ◌++◌, ℕ, Bool, true, false, List, [], ◌∷◌, length, Some}
use Rattle.std.specs.declared.net.socket_addr.SocketAddr.{SocketAddr}
use Rattle.turn_desk_core.specs.StunTypesWire.Grammar.{number_at}
use Rattle.turn_client_proto_messages.specs.StunProtoClient.Challenges.{ChallengeFields, challenge_visible}
use Rattle.turn_client_proto_messages.specs.Waiting.{Queued}
use Rattle.turn_client_proto_api.specs.declared.event.TurnEvent.{TurnEvent}
use Rattle.turn_client_proto_api.specs.Sent.{Sent}
use Rattle.turn_client_proto_handshake_laws.specs.Choosing.{Choice, signed_sent}
use Rattle.turn_client_proto_handshake_laws.specs.Coming.{IsPartOf}
use Rattle.turn_client_proto_handshake_laws.specs.Driving.{client_end}
use Rattle.turn_client_proto_handshake_laws.specs.Stages.{Holds, created, signed_queued}
use Rattle.turn_client_proto_progress_laws.specs.Keeping.{IsKeeping, IsTerm}
use Rattle.turn_client_proto_progress_laws.specs.Refreshed.{IsRenewal, refresh_sent}
use Rattle.turn_desk_core.specs.State.{State}
use Rattle.turn_desk_world_laws.specs.World.Model.{World}
use Rattle.turn_desk_progress_laws.specs.Joining.{ReportsOwn}
use Rattle.turn_desk_progress_laws.specs.Loops.{Timing}
use Rattle.turn_desk_progress_laws.specs.Promises.{HasClient}
use Rattle.turn_desk_progress_laws.specs.Scripts.{Plan}
use Rattle.turn_desk_progress_laws.specs.Standing.{IsOfSettings}
use Rattle.turn_desk_progress_laws.specs.Turns.{least}
use Rattle.turn_desk_progress_laws.specs.Watched.{IsAgreed, term_of}
use Rattle.turn_desk_laws.specs.RefreshStages.{IsRefreshingOn, most_challenges, refresh_queued}
use Rattle.turn_desk_laws.specs.RenewalLoops.{Renewal, RenewalPosition, Holding, Refreshing, Renewing, Challenged, Turned}

-- ---- what stays so

-- The server core has the realm, the users and the settings that it had when the run began. If it stores anything
-- for the client's address, that is a nonce that announces what it accepts.
pub record KeepsSettings (plan : Plan) (old : World) (desk : State) : Type 0 where
  pub realm : desk.auth.realm ≡ old.desk.auth.realm
  pub users : desk.auth.users ≡ old.desk.auth.users
  pub algorithms : desk.auth.algorithms ≡ old.desk.auth.algorithms
  pub anonymous : desk.auth.anonymous_username ≡ old.desk.auth.anonymous_username
  pub announces : ReportsOwn old.desk.auth.algorithms old.desk.auth.anonymous_username plan.client.here desk.auth

-- The client has answered a challenge of that server core.
pub record IsAuthenticated (plan : Plan) (old : World) (choice : Choice) (desk : State) : Type 0 where
  pub agreed : IsAgreed plan old.desk choice
  pub keeps : KeepsSettings plan old desk

-- ---- after the handshake

-- Nothing is queued; or the second request is, if it may be transmitted once more.
abbrev pub IsSecondLeft : Plan → Choice → (secondly : Sent) → (again : Bool) → List Queued → Type 0
IsSecondLeft plan c secondly again queue = (queue ≡ [])
    ⊎ ((again ≡ true) × (queue ≡ signed_queued plan.client c ∷ []) × (secondly ≡ signed_sent plan.client c))

-- The client holds what it was granted when all of the reply to its second request had come.
pub record IsHoldingSo (plan : Plan) (old : World) (reported : List TurnEvent) (t : Timing) (secondly : Sent)
    (address : SocketAddr) (lifetime : ℕ) (w : World) : Type 0 where
  pub choice : Choice
  pub signs : IsAuthenticated plan old choice w.desk
  pub early : t.came ≤ client_end
  pub fits : lifetime < 2 ^ 32
  pub queue : List Queued
  pub left : IsSecondLeft plan choice secondly true queue
  pub events : List TurnEvent
  pub decodes : reported ++ events ≡ created plan.client address
  pub client : HasClient plan [] w (λ p. Holds plan.client choice address lifetime t.came t.sent queue events p)

-- ---- at each position

-- The client holds the allocation, and no REFRESH is outstanding.
pub record IsHeldAt (plan : Plan) (old : World) (address : SocketAddr) (secondly : Sent) (p : RenewalPosition)
    (w : World) : Type 0 where
  pub choice : Choice
  pub signs : IsAuthenticated plan old choice w.desk
  pub first : ℕ
  pub lasts : IsTerm (term_of first p.from p.lifetime)
  pub unqueued : p.queued ≡ false
  pub unchallenged : p.challenges ≡ 0
  pub queue : List Queued
  pub left : IsSecondLeft plan choice secondly p.again queue
  pub events : List TurnEvent
  pub client : HasClient plan [] w
      (λ q. IsKeeping plan.client choice address (term_of first p.from p.lifetime) p.sent queue events q)

-- A REFRESH that is still queued counts as transmitted once more than it was.
abbrev pub count_by : (queued : Bool) (many : ℕ) → ℕ
count_by true many = many + 1
count_by false many = many

abbrev pub queue_by : (queued : Bool) → Queued → List Queued
queue_by true one = one ∷ []
queue_by false one = []

-- A REFRESH with the transaction ID `number` is outstanding, and these first bytes of a reply have come.
pub record IsOutstandingAt (plan : Plan) (old : World) (address : SocketAddr) (p : RenewalPosition) (choice : Choice)
    (number : ℕ) (head : List ℕ) (w : World) : Type 0 where
  pub signs : IsAuthenticated plan old choice w.desk
  pub first : ℕ
  pub lasts : IsTerm (term_of first p.from p.lifetime)
  pub fits : number < 2 ^ 96
  pub earlier : List ℕ
  pub count : length earlier ≡ p.challenges
  pub events : List TurnEvent
  pub client : HasClient plan head w (λ q. IsRefreshingOn plan.client choice address (term_of first p.from p.lifetime)
      earlier number p.made (count_by p.queued p.many) p.sent
      (queue_by p.queued (refresh_queued plan.client choice number)) events q)

-- The client transmitted it, and awaits the reply.
pub record IsRequestedAt (plan : Plan) (old : World) (address : SocketAddr) (p : RenewalPosition) (request : Sent)
    (w : World) : Type 0 where
  pub choice : Choice
  pub number : ℕ
  pub is : IsOutstandingAt plan old address p choice number [] w
  pub request_is : request ≡ refresh_sent plan.client choice number p.made

-- The server core has granted it, and these first bytes of its reply have come.
pub record IsRenewedAt (plan : Plan) (old : World) (address : SocketAddr) (p : RenewalPosition) (request : Sent)
    (more : ℕ) (reply head : List ℕ) (w : World) : Type 0 where
  pub choice : Choice
  pub number : ℕ
  pub is : IsOutstandingAt plan old address p choice number head w
  pub request_is : request ≡ refresh_sent plan.client choice number p.made
  pub enough : least ≤ more
  pub lifetime_fits : more < 2 ^ 32
  pub part : IsPartOf head reply
  pub renewal : IsRenewal plan.client choice number more reply

-- The server core has challenged it, and these first bytes of its reply have come.
pub record IsChallengedAt (plan : Plan) (old : World) (address : SocketAddr) (p : RenewalPosition) (request : Sent)
    (reply head : List ℕ) (w : World) : Type 0 where
  pub choice : Choice
  pub number : ℕ
  pub is : IsOutstandingAt plan old address p choice number head w
  pub request_is : request ≡ refresh_sent plan.client choice number p.made
  pub few : p.challenges < most_challenges
  pub reported : ChallengeFields
  pub visible : challenge_visible reply ≡ Some reported
  pub number_is : number_at reply ≡ number
  pub of : IsOfSettings old.desk.auth reported
  pub part : IsPartOf head reply

-- The client has answered that challenge by another REFRESH, which is queued and was not transmitted yet.
pub record IsTurnedAt (plan : Plan) (old : World) (address : SocketAddr) (p : RenewalPosition) (request : Sent)
    (reply : List ℕ) (w : World) : Type 0 where
  pub choice : Choice
  pub number : ℕ
  pub is : IsOutstandingAt plan old address p choice number [] w
  pub still_queued : p.queued ≡ true
  pub none_sent : p.many ≡ 0
  pub visible : challenge_visible reply ≡ Some choice.reported
  pub other : number ≢ number_at request.bytes

-- The state of the simulation, if the handshake's second request was `secondly`.
abbrev pub IsStageAt : Plan → World → SocketAddr → (secondly : Sent) → Renewal → RenewalPosition → World → Type 0
IsStageAt plan old address secondly Holding p w = IsHeldAt plan old address secondly p w
IsStageAt plan old address secondly (Refreshing request) p w = IsRequestedAt plan old address p request w
IsStageAt plan old address secondly (Renewing request more reply head) p w =
    IsRenewedAt plan old address p request more reply head w
IsStageAt plan old address secondly (Challenged request reply head) p w =
    IsChallengedAt plan old address p request reply head w
IsStageAt plan old address secondly (Turned request reply) p w = IsTurnedAt plan old address p request reply w

-- The state at a position.
abbrev pub IsAtRenewal : Plan → World → SocketAddr → (secondly : Sent) → RenewalPosition → World → Type 0
IsAtRenewal plan old address secondly p w = IsStageAt plan old address secondly p.progress p w
