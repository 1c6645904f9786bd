-- The state of the simulation at each position of a client whose first request gets no response
-- (Unanswered.antt).
use Rattle.std.specs.Prelude.{◌≡◌, ℕ, List, []}
use Rattle.turn_client_proto_api.specs.declared.event.TurnEvent.{TurnEvent}
use Rattle.turn_client_proto_handshake_laws.specs.Coming.{IsPartOf}
use Rattle.turn_client_proto_handshake_laws.specs.Sent.{Begins, Sending}
use Rattle.turn_client_proto_handshake_laws.specs.Stages.{IsAsking}
use Rattle.turn_desk_world_laws.specs.World.Model.{World}
use Rattle.turn_desk_progress_laws.specs.Loops.{Timing}
use Rattle.turn_desk_progress_laws.specs.Promises.{HasClient}
use Rattle.turn_desk_progress_laws.specs.Scripts.{Plan}
use Rattle.turn_desk_laws.specs.Unanswered.{HasSent, HasTimedOut, Position, RequestState, Unmade, Outstanding, TimedOut}

-- The client is new, and no event was reported.
pub record IsNewSo (plan : Plan) (reported : List TurnEvent) (t : Timing) (head : List ℕ) (w : World) : Type 0 where
  pub untold : reported ≡ []
  pub none_sent : t.many ≡ 0
  pub client : HasClient plan head w (λ p. Begins plan.client p)

-- The client awaits the response to its first request, and no event was reported.
pub record IsAskingSo (plan : Plan) (reported : List TurnEvent) (t : Timing) (head : List ℕ) (w : World) : Type 0 where
  pub untold : reported ≡ []
  pub client : HasClient plan head w (λ p. IsAsking plan.client t.many t.sent p)

-- The state of the simulation, if these bytes of a message have come over TCP.
abbrev pub IsStageOf : Plan → List TurnEvent → RequestState → Timing → (head : List ℕ) → World → Type 0
IsStageOf plan reported Unmade t head w = IsNewSo plan reported t head w
IsStageOf plan reported Outstanding t head w = IsAskingSo plan reported t head w
IsStageOf plan reported TimedOut t head w = HasTimedOut plan reported head w

-- The state at a position, by what was reported and transmitted so far.
pub record IsAtPosition (plan : Plan) (reported : List TurnEvent) (sendings : List Sending) (position : Position)
    (w : World) : Type 0 where
  pub message : List ℕ
  pub part : IsPartOf position.buffered message
  pub sent : HasSent plan position.timing sendings
  pub stage : IsStageOf plan reported position.request position.timing position.buffered w
