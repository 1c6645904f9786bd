-- How a simulation stands while its client renews an allocation.
use Rattle.std.proofs.Common.{◌≡◌, ℕ, Bool, true, false, List, [], ◌∷◌, None, refl, sym, ap, ◌∙◌, subst, inl, inr, arith}
use Rattle.std.specs.Prelude.{find, IsSome, ◌==◌}
use Rattle.std.specs.List.{list_any}
use Rattle.std.specs.FinMap as map
use Rattle.std.proofs.lemmas.Bool.{cases_Bool, eqb-true}
use Rattle.std.specs.declared.net.socket_addr.SocketAddr.{SocketAddr}
use Rattle.turn_desk_core.specs.StunTypesAuthAttributes.Userhashes.{userhash_of}
use Rattle.turn_client_proto_messages.specs.StunProtoClient.Client.{account_key}
use Rattle.turn_client_proto_messages.specs.StunProtoClient.Digests.{IsRight}
use Rattle.turn_client_proto_messages.specs.TurnRuns.Messages.{Message}
use Rattle.turn_client_proto_messages.specs.Waiting.{Queued, is_answer}
use Rattle.turn_client_proto_handshake_laws.specs.Choosing.{Choice}
use Rattle.turn_client_proto_progress_laws.specs.Refreshed.{IsSignedRefresh, refresh_request, refresh_sent}
use Rattle.turn_desk_core.specs.State.{State}
use Rattle.turn_desk_event.specs.declared.answer.Answer.{Answer}
use Rattle.turn_desk_event.specs.declared.event.Event.{Event}
use Rattle.turn_desk_world_laws.specs.World.Model.{World}
use Rattle.turn_desk_world_laws.specs.World.Runs.{IsRun, IsStep}
use Rattle.turn_client_proto_api.specs.Sent.{Sent}
use Rattle.turn_desk_progress_laws.specs.Joining.{IsSameDesk}
use Rattle.turn_desk_progress_laws.specs.Links.{Link}
use Rattle.turn_desk_progress_laws.specs.Loops.{MayBegin}
use Rattle.turn_desk_progress_laws.specs.Scripts.{Plan}
use Rattle.turn_desk_progress_laws.specs.Watched.{IsAgreed, IsServing}
use Rattle.turn_desk_progress_laws.proofs.Same.{step_same}
use Rattle.turn_desk_progress_laws.proofs.Simulation.{strongest_of_both}
use Rattle.turn_desk_laws.specs.RefreshStages.{refresh_queued}
use Rattle.turn_desk_laws.specs.RenewalLoops.{Renewal, RenewalPosition, Holding, Refreshing, Renewing, Challenged, Turned, IsRefreshSent}
use Rattle.turn_desk_laws.specs.RenewalStages.{IsAuthenticated, IsChallengedAt, IsHeldAt, IsOutstandingAt, IsRenewedAt, IsRequestedAt, IsSecondLeft, IsStageAt, KeepsSettings, queue_by}

-- ---- the server core

module _ (plan : Plan) (old : World) where
  pub keeps_so : (choice : Choice) (d e : State) → e ≡ d → IsAuthenticated plan old choice d → IsAuthenticated plan old choice e
  keeps_so choice d e same is = subst (λ (x : State). IsAuthenticated plan old choice x) (sym same) is

  module _ (may : MayBegin plan old) where
    pub serving_of : (d : State) → KeepsSettings plan old d → IsServing plan old.desk d
    serving_of d k = record {
      realm = k.realm;
      user = ap (λ m. map.get m plan.client.config.credentials.username) k.users ∙ may.user;
      hashes = λ a b one other same. may.hashes a b
          (subst (λ m. IsSome (map.get m a)) k.users one)
          (subst (λ m. IsSome (map.get m b)) k.users other)
          (subst (λ (r : List ℕ). userhash_of a r ≡ userhash_of b r) k.realm same);
    }

    -- For the address of the client.
    abbrev own_link : Link
    own_link = record { peer = plan.client.server; number = 0; local = plan.client.here; requested = 0; granted = 0; made = 0; first = 0 }

    of_same : (w : World) → IsSameDesk own_link old w → KeepsSettings plan old w.desk
    of_same w s = record {
      realm = s.realm;
      users = s.users;
      algorithms = s.algorithms;
      anonymous = s.anonymous;
      announces = s.decodes (λ stored there. absurd (Prim.cc (sym may.unknown ∙ there)));
    }

    pub keeps_first : KeepsSettings plan old old.desk
    keeps_first = record { realm = refl; users = refl; algorithms = refl; anonymous = refl; announces = λ stored there. absurd (Prim.cc (sym may.unknown ∙ there)) }

    pub keeps_on : (event : Event) (w v : World) (ret : Answer) → IsStep event w ret v → KeepsSettings plan old w.desk → KeepsSettings plan old v.desk
    keeps_on event w v ret step k = of_same v (step_same own_link old event w v ret step (record {
      realm = k.realm;
      users = k.users;
      algorithms = k.algorithms;
      anonymous = k.anonymous;
      decodes = λ own. k.announces;
    }))

    pub keeps_run : (pairs : List (Event × Answer)) (w v : World) → IsRun w pairs v → KeepsSettings plan old w.desk → KeepsSettings plan old v.desk
    unfolding IsRun
    keeps_run [] w v run k = subst (λ (x : World). KeepsSettings plan old x.desk) (sym run) k
    keeps_run (pair ∷ pairs) w v run k = keeps_run pairs run.0 v run.2 (keeps_on pair.0 w run.0 pair.1 run.1 k)

-- ---- what is queued

pub none_answers : (queued : Bool) (b : Plan) (choice : Choice) (number : ℕ) → list_any is_answer (queue_by queued (refresh_queued b.client choice number)) ≡ false
none_answers true b choice number = refl
none_answers false b choice number = refl

pub none_found : (queued : Bool) (b : Plan) (choice : Choice) (number : ℕ) → find is_answer (queue_by queued (refresh_queued b.client choice number)) ≡ None
none_found true b choice number = refl
none_found false b choice number = refl

pub second_answers : (plan : Plan) (choice : Choice) (secondly : Sent) (again : Bool) (queue : List Queued) → IsSecondLeft plan choice secondly again queue → list_any is_answer queue ≡ false
second_answers plan choice secondly again queue (inl none) = ap (list_any is_answer) none
second_answers plan choice secondly again queue (inr some) = ap (list_any is_answer) some.1

-- Numbers that differ aren't equal.
pub not_equal : (a b : ℕ) → (a ≡ b → ⊥) → (a == b) ≡ false
not_equal a b differ = elim (cases_Bool (a == b)) [
  | inl same ↦ absurd (differ (eqb-true a b same))
  | inr apart ↦ apart
]

-- ---- a REFRESH

module _ (plan : Plan) (old : World) (choice : Choice) (agreed : IsAgreed plan old.desk choice) where
  in_realm : (bytes realm : List ℕ) → choice.reported.realm ≡ realm → IsRight bytes (account_key plan.client.config.credentials choice.reported.realm choice.algorithm)
      → IsRight bytes (account_key plan.client.config.credentials realm choice.algorithm)
  in_realm bytes realm same right = subst (λ (r : List ℕ). IsRight bytes (account_key plan.client.config.credentials r choice.algorithm)) same right

  pub refresh_so : (number made : ℕ) → IsSignedRefresh plan.client choice number → IsRefreshSent plan old (refresh_sent plan.client choice number made)
  refresh_so number made is = record {
    is_own = record { transport = refl; from = refl; to = refl };
    refresh = record {
      message = is.message;
      request = ap (λ (m : Message). m.class) is.reported;
      method = is.method;
      lifetime = ap (λ (m : Message). m.lifetime) is.reported;
      algorithm = choice.algorithm;
      strongest = strongest_of_both plan.client.config old.desk.auth choice.reported agreed.of choice.algorithm agreed.answered;
      right = in_realm (refresh_request plan.client choice number) old.desk.auth.realm agreed.of.realm is.valid;
    };
  }

-- ---- where the client has moved on

module _ (plan : Plan) (old : World) (address : SocketAddr) (p q : RenewalPosition) (challenges : q.challenges ≡ p.challenges) (w v : World)
    (moves : (choice : Choice) (number : ℕ) (head : List ℕ) → IsOutstandingAt plan old address p choice number head w → IsOutstandingAt plan old address q choice number head v) where
  pub requested_on : (request : Sent) → IsRequestedAt plan old address p request w → IsRequestedAt plan old address q request v
  requested_on request s = record { choice = s.choice; number = s.number; is = moves s.choice s.number [] s.is; request_is = s.request_is }

  pub renewed_on : (request : Sent) (more : ℕ) (reply head : List ℕ) → IsRenewedAt plan old address p request more reply head w → IsRenewedAt plan old address q request more reply head v
  renewed_on request more reply head s = record {
    choice = s.choice;
    number = s.number;
    is = moves s.choice s.number head s.is;
    request_is = s.request_is;
    enough = s.enough;
    lifetime_fits = s.lifetime_fits;
    part = s.part;
    renewal = s.renewal;
  }

  pub challenged_on : (request : Sent) (reply head : List ℕ) → IsChallengedAt plan old address p request reply head w → IsChallengedAt plan old address q request reply head v
  challenged_on request reply head s = record {
    choice = s.choice;
    number = s.number;
    is = moves s.choice s.number head s.is;
    request_is = s.request_is;
    few = (let few = s.few in let same = challenges in omega (arith, few, same));
    reported = s.reported;
    visible = s.visible;
    number_is = s.number_is;
    of = s.of;
    part = s.part;
  }

-- At the same position.
module _ (plan : Plan) (old : World) (address : SocketAddr) (secondly : Sent) (p : RenewalPosition) (w v : World)
    (moves : (choice : Choice) (number : ℕ) (head : List ℕ) → IsOutstandingAt plan old address p choice number head w → IsOutstandingAt plan old address p choice number head v) where
  pub stands_on : (progress : Renewal) → (IsHeldAt plan old address secondly p w → IsHeldAt plan old address secondly p v) → IsStageAt plan old address secondly progress p w → IsStageAt plan old address secondly progress p v
  stands_on Holding held s = held s
  stands_on (Refreshing request) held s = requested_on plan old address p p refl w v moves request s
  stands_on (Renewing request more reply head) held s = renewed_on plan old address p p refl w v moves request more reply head s
  stands_on (Challenged request reply head) held s = challenged_on plan old address p p refl w v moves request reply head s
  stands_on (Turned request reply) held s = record {
    choice = s.choice;
    number = s.number;
    is = moves s.choice s.number [] s.is;
    still_queued = s.still_queued;
    none_sent = s.none_sent;
    visible = s.visible;
    other = s.other;
  }

-- ---- a position that differs only in what was done, and when last

module _ (plan : Plan) (old : World) (address : SocketAddr) (secondly : Sent) (p : RenewalPosition) (progress : Renewal) (last : ℕ) (w : World) where
  abbrev q : RenewalPosition
  q = record p { progress = progress; last = last }

  outstanding_at : (choice : Choice) (number : ℕ) (head : List ℕ) → IsOutstandingAt plan old address p choice number head w → IsOutstandingAt plan old address q choice number head w
  outstanding_at choice number head x = record {
    signs = x.signs;
    first = x.first;
    lasts = x.lasts;
    fits = x.fits;
    earlier = x.earlier;
    count = x.count;
    events = x.events;
    client = x.client;
  }

  pub stage_on : (x : Renewal) → IsStageAt plan old address secondly x p w → IsStageAt plan old address secondly x q w
  stage_on Holding k = record {
    choice = k.choice;
    signs = k.signs;
    first = k.first;
    lasts = k.lasts;
    unqueued = k.unqueued;
    unchallenged = k.unchallenged;
    queue = k.queue;
    left = k.left;
    events = k.events;
    client = k.client;
  }
  stage_on (Refreshing request) s = requested_on plan old address p q refl w w outstanding_at request s
  stage_on (Renewing request more reply head) s = renewed_on plan old address p q refl w w outstanding_at request more reply head s
  stage_on (Challenged request reply head) s = challenged_on plan old address p q refl w w outstanding_at request reply head s
  stage_on (Turned request reply) s = record {
    choice = s.choice;
    number = s.number;
    is = outstanding_at s.choice s.number [] s.is;
    still_queued = s.still_queued;
    none_sent = s.none_sent;
    visible = s.visible;
    other = s.other;
  }
