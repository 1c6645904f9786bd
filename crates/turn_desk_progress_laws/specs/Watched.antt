-- The state of the simulation while a client renews its allocation.
use Rattle.std.specs.Prelude.{◌≡◌, ◌⊎◌, ◌≤◌, ◌<◌, ◌+◌, ◌^◌, ◌++◌, ℕ, Bool, true, false, List, [], ◌∷◌, Some}
use Rattle.std.specs.FinMap as map
use Rattle.std.specs.declared.net.socket_addr.SocketAddr.{SocketAddr}
use Rattle.turn_desk_core.specs.StunProtoServer.Users.{HashesDiffer}
use Rattle.turn_client_proto_api.specs.declared.event.TurnEvent.{TurnEvent}
use Rattle.turn_client_proto_handshake_laws.specs.Choosing.{Choice, IsAnsweredBy, IsChoice}
use Rattle.turn_client_proto_api.specs.Sent.{Sent}
use Rattle.turn_client_proto_handshake_laws.specs.Driving.{client_end}
use Rattle.turn_client_proto_messages.specs.Api.Options.{cadence}
use Rattle.turn_client_proto_messages.specs.Waiting.{Queued}
use Rattle.turn_client_proto_handshake_laws.specs.Coming.{IsPartOf}
use Rattle.turn_client_proto_handshake_laws.specs.Stages.{Holds, created, signed_queued}
use Rattle.turn_client_proto_progress_laws.specs.Keeping.{IsKeeping, IsRefreshing, IsTerm, Term, due_of, next_of}
use Rattle.turn_client_proto_progress_laws.specs.Refreshed.{IsRenewal, refresh_sent}
use Rattle.turn_desk_world_laws.specs.World.Model.{World}
use Rattle.turn_desk_core.specs.State.{State}
use Rattle.turn_desk_progress_laws.specs.Promises.{HasClient}
use Rattle.turn_desk_progress_laws.specs.Scripts.{Plan}
use Rattle.turn_desk_progress_laws.specs.Standing.{IsOfSettings}
use Rattle.turn_desk_progress_laws.specs.Renewals.{AreEarly, IsBefore}
use Rattle.turn_desk_progress_laws.specs.Turns.{Turn, Watch, Watching, Refreshing, Renewing, Off, least}

-- ---- what stays so

-- The server core has the client's user, the realm that it had when the run began, and no two users with the
-- same hash.
pub record IsServing (plan : Plan) (old desk : State) : Type 0 where
  pub realm : desk.auth.realm ≡ old.auth.realm
  pub user : map.get desk.auth.users plan.client.config.credentials.username
      ≡ Some plan.client.config.credentials.password
  pub hashes : HashesDiffer desk.auth

-- The client has answered a challenge of that server core.
pub record IsAgreed (plan : Plan) (old : State) (c : Choice) : Type 0 where
  pub chosen : IsChoice plan.client c
  pub answered : IsAnsweredBy plan.client.config c.reported c.algorithm
  pub of : IsOfSettings old.auth c.reported

-- Nothing is queued, or only the signed ALLOCATE once more.
abbrev pub IsLeft : Plan → Choice → List Queued → Type 0
IsLeft plan c queue = (queue ≡ []) ⊎ (queue ≡ signed_queued plan.client c ∷ [])

-- ---- after the handshake

-- The client holds what it was granted at the second call of `poll_transmit`.
pub record IsHolding (plan : Plan) (old : World) (reported : List TurnEvent) (address : SocketAddr) (lifetime : ℕ)
    (w : World) : Type 0 where
  pub choice : Choice
  pub agreed : IsAgreed plan old.desk choice
  pub serving : IsServing plan old.desk w.desk
  pub fits : lifetime < 2 ^ 32
  pub queue : List Queued
  pub left : IsLeft plan choice queue
  pub events : List TurnEvent
  pub decodes : reported ++ events ≡ created plan.client address
  pub client : HasClient plan [] w
      (λ p. Holds plan.client choice address lifetime plan.second plan.second queue events p)

-- ---- at each turn

-- No event is queued, if that was reported.
abbrev pub IsReported : Bool → List TurnEvent → Type 0
IsReported true events = events ≡ []
IsReported false events = Unit {0}

-- What is queued and what was transmitted before are one message at most.
abbrev pub IsLeftOf : Plan → Choice → List Queued → List Sent → Type 0
IsLeftOf plan c [] early = AreEarly early
IsLeftOf plan c (one ∷ rest) early = (one ≡ signed_queued plan.client c) × (rest ≡ []) × (early ≡ [])

-- The time that the queued messages take: each is transmitted 50 ms after the last.
abbrev pub room_of : List Queued → ℕ
room_of [] = cadence
room_of (one ∷ rest) = cadence + room_of rest

-- The term of an allocation: the seconds that were granted first and last, and the time of the last grant.
abbrev pub term_of : (first from lifetime : ℕ) → Term
term_of first from lifetime = record { first = first; lifetime = lifetime; from = from }

-- The client keeps the allocation.
pub record IsWatched (plan : Plan) (old : World) (address : SocketAddr) (s : Watch) (w : World) : Type 0 where
  pub choice : Choice
  pub agreed : IsAgreed plan old.desk choice
  pub serving : IsServing plan old.desk w.desk
  pub first : ℕ
  pub lasts : IsTerm (term_of first s.from s.lifetime)
  pub last : ℕ
  pub queue : List Queued
  pub rested : last + room_of queue ≤ due_of (term_of first s.from s.lifetime)
  pub left : IsLeftOf plan choice queue s.early
  pub until : IsBefore s.transmitted s.until (next_of (term_of first s.from s.lifetime) last queue)
  pub events : List TurnEvent
  pub reported : IsReported s.reported events
  pub client : HasClient plan [] w
      (λ p. IsKeeping plan.client choice address (term_of first s.from s.lifetime) last queue events p)

-- It has transmitted a REFRESH, and these first bytes of a reply have come.
pub record IsAwaiting (plan : Plan) (old : World) (address : SocketAddr) (request : Sent) (from lifetime now : ℕ)
    (head : List ℕ) (w : World) : Type 0 where
  pub choice : Choice
  pub agreed : IsAgreed plan old.desk choice
  pub serving : IsServing plan old.desk w.desk
  pub first : ℕ
  pub lasts : IsTerm (term_of first from lifetime)
  pub in_time : now ≡ due_of (term_of first from lifetime)
  pub in_range : now ≤ client_end
  pub number : ℕ
  pub fits : number < 2 ^ 96
  pub request_is : request ≡ refresh_sent plan.client choice number now
  pub many : ℕ
  pub events : List TurnEvent
  pub client : HasClient plan head w
      (λ p. IsRefreshing plan.client choice address (term_of first from lifetime) number now many now events p)

-- The server core has granted the REFRESH, and these first bytes of its reply have come.
pub record IsAnswered (plan : Plan) (old : World) (address : SocketAddr) (request : Sent) (reply head : List ℕ)
    (lifetime now : ℕ) (w : World) : Type 0 where
  pub from : ℕ
  pub before : ℕ
  pub awaits : IsAwaiting plan old address request from before now head w
  pub enough : least ≤ lifetime
  pub fits : lifetime < 2 ^ 32
  pub part : IsPartOf head reply
  pub renewal : IsRenewal plan.client awaits.choice awaits.number lifetime reply

-- The state of the simulation at a turn.
abbrev pub IsAtStep : Plan → World → SocketAddr → Turn → World → Type 0
IsAtStep plan old address (Watching s) w = IsWatched plan old address s w
IsAtStep plan old address (Refreshing request from lifetime now) w =
    IsAwaiting plan old address request from lifetime now [] w
IsAtStep plan old address (Renewing request reply head lifetime now) w =
    IsAnswered plan old address request reply head lifetime now w
IsAtStep plan old address Off w = ⊥
