use Rattle.std.proofs.Common.{◌≡◌, ◌≤◌, ℕ, List, [], ◌∷◌, ap, refl, sym, subst}
use Rattle.std.specs.declared.net.socket_addr.SocketAddr.{SocketAddr}
use Rattle.turn_client_proto_messages.specs.StunProtoClient.Client.{account_key}
use Rattle.turn_client_proto_messages.specs.StunProtoClient.Digests.{IsRight}
use Rattle.turn_client_proto_handshake_laws.specs.Choosing.{Choice}
use Rattle.turn_client_proto_api.specs.Sent.{Sent}
use Rattle.turn_client_proto_messages.specs.Waiting.{Queued}
use Rattle.turn_client_proto_progress_laws.specs.Refreshed.{IsSignedRefresh, refresh_request}
use Rattle.turn_client_proto_progress_laws.specs.Keeping.{next_of}
use Rattle.turn_client_proto_messages.specs.TurnRuns.Messages.{Message}
use Rattle.turn_desk_event.specs.declared.answer.Answer.{Answer}
use Rattle.turn_desk_core.specs.declared.decision.Decision.TheVariants as by
use Rattle.turn_desk_event.specs.declared.event.Event.{Event}
use Rattle.turn_desk_event.specs.declared.event.Event.TheVariants.{ToDesk}
use Rattle.turn_desk_world_laws.specs.World.Model.{World}
use Rattle.turn_desk_world_laws.specs.World.Runs.{IsRun, IsStep}
use Rattle.turn_desk_progress_laws.specs.Promises.{IsFresh}
use Rattle.turn_desk_progress_laws.specs.Scripts.{Done, IsScript, Plan, Start}
use Rattle.turn_desk_progress_laws.proofs.Simulation.{strongest_of_both}
use Rattle.turn_desk_progress_laws.specs.Renewals.{AreEarly, HasRenewed, HoldsStill, IsOwnRefresh}
use Rattle.turn_desk_progress_laws.specs.Turns.{Draws, DrawsOn, Drives, Gives, Grants, IsDriven, Looks, Off, Polls, PollsOn, Receives, Refreshing, Renewing, Turn, Watching, due, least, watching}
use Rattle.turn_desk_progress_laws.specs.Watched.{IsAgreed, IsAwaiting, IsLeftOf, IsAtStep, term_of}
use Rattle.turn_desk_progress_laws.proofs.Times.{sooner}
use Rattle.turn_desk_progress_laws.proofs.Waiting.{before_due}
use Rattle.turn_desk_progress_laws.proofs.renewals.renewed_in_time.Goals as goal

module _ (c : goal.After-refreshes_are_signed) (plan : Plan) (old : World) (fresh : IsFresh plan old) (address : SocketAddr) where
  -- ---- one event

  module _ (w v : World) (turn next : Turn) (event : Event) (ret : Answer) where
    -- With the turn, the event and the next turn as a constructor has them.
    abbrev At : Turn → Event → Turn → Type 0
    At from happening to = IsAtStep plan old address from w → IsStep happening w ret v → IsAtStep plan old address to v

    as_said : (from : Turn) (happening : Event) (to : Turn) → turn ≡ from → event ≡ happening → next ≡ to → At from happening to → At turn event next
    as_said from happening to one two three is = λ occurs step.
        subst (λ (n : Turn). IsAtStep plan old address n v) (sym three)
        (is (subst (λ (x : Turn). IsAtStep plan old address x w) one occurs) (subst (λ (e : Event). IsStep e w ret v) two step))

    one : Drives plan turn event ret next → At turn event next
    one (Draws s now at reached in_range is to) = as_said _ _ _ at is to (λ occurs step. c.watched_clients_draw.ensures plan old w v address s now ret fresh occurs reached in_range step)
    one (Polls s now at reached in_range is to) = as_said _ _ _ at is to (λ occurs step. c.watched_clients_wait.ensures plan old w v address s now ret occurs reached in_range step)
    one (DrawsOn now under is to) = as_said _ _ _ refl is to (λ occurs step. c.refreshing_worlds_wait.ensures.draws plan old w v address turn now ret occurs under step)
    one (PollsOn now under before is to) = as_said _ _ _ refl is to (λ occurs step. c.refreshing_worlds_wait.ensures.polls plan old w v address turn now ret occurs under before step)
    one (Looks what now look is to) = as_said _ _ _ refl is to (λ occurs step. c.watched_worlds_stand_still.ensures.looks plan old w v address turn what now ret occurs look step)
    one (Receives now is to) = as_said _ _ _ refl is to (λ occurs step. c.watched_worlds_stand_still.ensures.receives plan old w v address turn now ret fresh occurs step)
    one (Grants request from lifetime now more bytes reply seed at same enough is replied success to) =
        as_said _ _ _ at is to (λ occurs step.
        c.refreshes_are_granted.ensures plan old w v address request from lifetime now more bytes reply seed fresh occurs same enough (subst (λ (a : Answer). IsStep (ToDesk bytes request.from now (by.Refresh more) seed) w a v) replied step) success)
    one (Gives request reply head rest lifetime now bytes at on is to) =
        as_said _ _ _ at is to (λ occurs step. c.renewals_are_taken.ensures plan old w v address request reply head rest lifetime now bytes ret occurs on step)

  -- ---- all of them

  all : (w new : World) (turn last : Turn) (pairs : List (Event × Answer)) → IsAtStep plan old address turn w → IsRun w pairs new → IsDriven plan turn pairs last → IsAtStep plan old address last new
  unfolding IsRun IsDriven
  all w new turn last [] occurs run is = subst (λ (t : Turn). IsAtStep plan old address t new) (sym is) (subst (λ (x : World). IsAtStep plan old address turn x) (sym run) occurs)
  all w new turn last (pair ∷ pairs) occurs run is = all run.0 new is.0 last pairs (one w run.0 turn is.0 pair.0 pair.1 is.1 occurs run.1) run.2 is.2

  -- ---- what that means

  left_early : (choice : Choice) (queue : List Queued) (early : List Sent) → IsLeftOf plan choice queue early → AreEarly early
  left_early choice [] early left = left
  left_early choice (one ∷ rest) early left = subst (λ (l : List Sent). AreEarly l) (sym left.2) tt

  in_realm : (choice : Choice) (bytes realm : List ℕ) → choice.reported.realm ≡ realm → IsRight bytes (account_key plan.client.config.credentials choice.reported.realm choice.algorithm)
      → IsRight bytes (account_key plan.client.config.credentials realm choice.algorithm)
  in_realm choice bytes realm same right = subst (λ (r : List ℕ). IsRight bytes (account_key plan.client.config.credentials r choice.algorithm)) same right

  refresh_of : (choice : Choice) (number : ℕ) → IsAgreed plan old.desk choice → IsSignedRefresh plan.client choice number → IsOwnRefresh plan old (refresh_request plan.client choice number)
  refresh_of choice number agreed is = record {
    message = is.message;
    request = ap (λ (m : Message). m.class) is.reported;
    method = is.method;
    lifetime = ap (λ (m : Message). m.lifetime) is.reported;
    algorithm = choice.algorithm;
    strongest = strongest_of_both plan.client.config old.desk.auth choice.reported agreed.of choice.algorithm agreed.answered;
    right = in_realm choice (refresh_request plan.client choice number) old.desk.auth.realm agreed.of.realm is.valid;
  }

  refreshing_held : (request : Sent) (from lifetime now : ℕ) (head : List ℕ) (w : World) → IsAwaiting plan old address request from lifetime now head w → HoldsStill plan address head w
  refreshing_held request from lifetime now head w x = record {
    core = x.client.core;
    there = x.client.there;
    is = (c.keepers_are_reported.ensures.refreshing_shows plan.client x.choice address (term_of x.first from lifetime) x.number now x.many now x.events x.client.core x.client.is).0;
  }

  come : (w : World) (turn : Turn) → IsAtStep plan old address turn w → HasRenewed plan old address turn w
  come w (Watching s) k = record {
    held = record {
      core = k.client.core;
      there = k.client.there;
      is = (c.keepers_are_reported.ensures.keeping_shows plan.client k.choice address (term_of k.first s.from s.lifetime) k.last k.queue k.events k.client.core k.client.is).0;
    };
    by_due = sooner s.transmitted s.until (next_of (term_of k.first s.from s.lifetime) k.last k.queue) (due s.from s.lifetime) (before_due plan k.choice (term_of k.first s.from s.lifetime) k.lasts k.last k.queue s.early k.rested k.left) k.until;
    early = left_early k.choice k.queue s.early k.left;
  }
  come w (Refreshing request from lifetime now) x =
      let signed = c.refreshes_are_signed.ensures.request plan.client x.choice x.number fresh.room fresh.text x.agreed.chosen x.fits in
      record {
        held = refreshing_held request from lifetime now [] w x;
        in_time = x.in_time;
        is_own = record { transport = ap (λ (r : Sent). r.transport) x.request_is; from = ap (λ (r : Sent). r.from) x.request_is; to = ap (λ (r : Sent). r.to) x.request_is };
        refresh = subst (λ (r : Sent). IsOwnRefresh plan old r.bytes) (sym x.request_is) (refresh_of x.choice x.number x.agreed signed);
      }
  come w (Renewing request reply head lifetime now) a = refreshing_held request a.from a.before now head w a.awaits
  come w Off none = absurd none

  pub occurs : (one new : World) (first again : List (Event × Answer)) (request : Sent) (lifetime : ℕ) (reply : List ℕ) (turn : Turn) → IsRun old first one → IsScript plan Start first (Done request address lifetime reply) → least ≤ lifetime → IsRun one again new
      → IsDriven plan (watching plan.second lifetime plan.second) again turn → IsAtStep plan old address turn new
  occurs one new first again request lifetime reply turn run is enough more driven =
      let held = c.handshakes_are_held.ensures plan old one first request address lifetime reply fresh run is in
      all one new (watching plan.second lifetime plan.second) turn again (c.held_worlds_are_watched.ensures plan old one _ address lifetime fresh held enough) more driven

pub returns-clause-promised : goal.returns-clause-promised
returns-clause-promised c = λ plan old one new first again request address lifetime reply turn fresh run is enough more driven.
    come c plan old fresh address new turn (occurs c plan old fresh address one new first again request lifetime reply turn run is enough more driven)

pub returns-clause-occurs : goal.returns-clause-occurs
returns-clause-occurs c = λ plan old one new first again request address lifetime reply turn fresh run is enough more driven.
    occurs c plan old fresh address one new first again request lifetime reply turn run is enough more driven
