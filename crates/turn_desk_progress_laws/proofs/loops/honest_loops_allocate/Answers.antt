use Rattle.std.proofs.Common.{◌≡◌, ◌++◌, ℕ, List, [], ◌∷◌, ap, refl, sym, ◌∙◌, subst, inl, inr, append_assoc}
use Rattle.std.proofs.lemmas.List.{append-nil}
use Rattle.std.specs.declared.net.socket_addr.SocketAddr.{SocketAddr}
use Rattle.turn_client_proto_messages.specs.StunProtoClient.Client.{account_key}
use Rattle.turn_client_proto_messages.specs.StunProtoClient.Digests.{IsRight}
use Rattle.turn_client_proto_messages.specs.Allocation.Listed.{relayed_listed}
use Rattle.turn_client_proto_api.specs.declared.event.TurnEvent.{TurnEvent}
use Rattle.turn_client_proto_api.specs.Sent.{Sent}
use Rattle.turn_client_proto_handshake_laws.specs.Requested as asks
use Rattle.turn_client_proto_handshake_laws.specs.Requested.{sent_of}
use Rattle.turn_client_proto_handshake_laws.specs.Choosing.{Choice, signed_requested}
use Rattle.turn_client_proto_handshake_laws.specs.Stages.{first_requested}
use Rattle.turn_desk_event.specs.declared.answer.Answer.{Answer}
use Rattle.turn_desk_event.specs.declared.event.Event.{Event}
use Rattle.turn_desk_event.specs.declared.event.Event.TheVariants.{Draw}
use Rattle.turn_desk_world_laws.specs.World.Model.{World}
use Rattle.turn_desk_world_laws.specs.World.Runs.{IsRun}
use Rattle.turn_desk_progress_laws.specs.Loops.{IsLoop, MayBegin, Position, Timing, start}
use Rattle.turn_desk_progress_laws.specs.LoopStages.{IsAtPosition, IsHeldSo, IsOverSo, IsStageOf, plan_at}
use Rattle.turn_desk_progress_laws.specs.Promises.{IsOwnSent, HasCome, IsAllocated, CannotAgree, event_in, events_in}
use Rattle.turn_desk_progress_laws.specs.Scripts.{Requested, Barred, Came, Challenged, Done, Granted, Progress, Plan, Signed, Silent, Start}
use Rattle.turn_desk_progress_laws.proofs.Looping.{itself, not_apart}
use Rattle.turn_desk_progress_laws.proofs.Serving.{of_settings}
use Rattle.turn_desk_progress_laws.proofs.Simulation.{are_apart, strongest_of_both, together}
use Rattle.turn_desk_progress_laws.proofs.loops.honest_loops_allocate.Goals as goal

module _ (c : goal.After-ended_loops_rest) (plan : Plan) (old : World) (may : MayBegin plan old) where
  -- ---- all of them

  all : (w new : World) (reported : List TurnEvent) (position last : Position) (pairs : List (Event × Answer)) → IsAtPosition plan old reported position w → IsRun w pairs new → IsLoop plan old.desk.auth position pairs last → IsAtPosition plan old (reported ++ events_in pairs) last new
  unfolding IsRun IsLoop
  all w new reported position last [] occurs run is =
      subst (λ (l : List TurnEvent). IsAtPosition plan old l last new) (sym (append-nil reported))
      (subst (λ (p : Position). IsAtPosition plan old reported p new) (sym is) (subst (λ (x : World). IsAtPosition plan old reported position x) (sym run) occurs))
  all w new reported position last (pair ∷ pairs) occurs run is =
      let following = c.events_of_loops_lead_on.ensures plan old w run.0 reported position is.0 pair.0 pair.1 may is.1 occurs run.1 in
      subst (λ (l : List TurnEvent). IsAtPosition plan old l last new) (append_assoc reported (event_in pair.1) (events_in pairs))
      (all run.0 new (reported ++ event_in pair.1) is.0 last pairs following.0 run.2 is.2)

  pub occurs : (new : World) (pairs : List (Event × Answer)) (position : Position) → IsRun old pairs new → IsLoop plan old.desk.auth start pairs position → IsAtPosition plan old (events_in pairs) position new
  occurs new pairs position run is = all old new [] start position pairs (record { sent_before = itself 0; stage = (refl, record { client = may.client; desk_is = refl }) }) run is

  -- ---- what that means

  unauthenticated : (reported : List TurnEvent) (t : Timing) (w : World) → IsOverSo plan old reported t w → CannotAgree plan old reported w
  unauthenticated reported t w is = record {
    apart = are_apart plan.client.config old.desk.auth is.challenge (of_settings (plan_at plan t.challenged) old.desk w.desk is.challenge is.under) is.barring;
    held = record {
      core = is.client.core;
      there = is.client.there;
      is = (ap relayed_listed is.client.is.allocations, ap (λ (l : List TurnEvent). reported ++ l) is.client.is.events_are ∙ is.decodes);
    };
    granted = is.under.challenge.granted;
    quiet = λ now ret next early step. c.ended_loops_rest.ensures.quiet plan old w next reported ret t now is early step;
    closed = λ now ret next early gone step. c.ended_loops_rest.ensures.closed plan old w next reported ret t now is early gone step;
  }

  own_sent : (request : Sent) (a : asks.Requested) → request ≡ sent_of plan.client a → IsOwnSent plan request
  own_sent request a is = record {
    transport = ap (λ (r : Sent). r.transport) is;
    from = ap (λ (r : Sent). r.from) is;
    to = ap (λ (r : Sent). r.to) is;
  }

  in_realm : (choice : Choice) (bytes realm : List ℕ) → choice.reported.realm ≡ realm → IsRight bytes (account_key plan.client.config.credentials choice.reported.realm choice.algorithm)
      → IsRight bytes (account_key plan.client.config.credentials realm choice.algorithm)
  in_realm choice bytes realm same right = subst (λ (r : List ℕ). IsRight bytes (account_key plan.client.config.credentials r choice.algorithm)) same right

  allocated : (reported : List TurnEvent) (t : Timing) (request : Sent) (address : SocketAddr) (lifetime : ℕ) (reply : List ℕ) (w : World) → IsHeldSo plan old reported t request address lifetime reply w → IsAllocated plan old reported request address lifetime reply w
  allocated reported t request address lifetime reply w is = record {
    together = together plan.client.config old.desk.auth is.choice.reported is.is.of is.choice.algorithm is.is.answered;
    algorithm = is.choice.algorithm;
    is_own = own_sent request (signed_requested plan.client is.choice) is.is.request_is;
    strongest = strongest_of_both plan.client.config old.desk.auth is.choice.reported is.is.of is.choice.algorithm is.is.answered;
    request_is_right = in_realm is.choice request.bytes old.desk.auth.realm is.is.of.realm is.is.request_right;
    reply_is_right = in_realm is.choice reply old.desk.auth.realm is.is.of.realm is.is.grant.right;
    held = record {
      core = is.client.core;
      there = is.client.there;
      is = (is.client.is.visible, ap (λ (l : List TurnEvent). reported ++ l) is.client.is.events_are ∙ is.decodes);
    };
    granted = is.is.granted;
  }

  come : (reported : List TurnEvent) (t : Timing) (w : World) (progress : Progress) → IsStageOf plan old reported progress t w → HasCome plan old reported progress w
  come reported t w Start is = is.0
  come reported t w (Requested request) is = (is.0, own_sent request (first_requested plan.client) is.1.request_is)
  come reported t w (Challenged request reply head) is = is.0
  come reported t w Came (inl is) = (λ apart. absurd (not_apart plan old t.challenged is.1.choice w.desk is.1.is.under is.1.is.answered apart), λ other. is.0)
  come reported t w Came (inr is) = (λ apart. unauthenticated reported t w is, λ other. absurd (other (unauthenticated reported t w is).apart))
  come reported t w (Signed request) is = (not_apart plan old t.challenged is.1.choice w.desk is.1.is.under is.1.is.answered, is.0, own_sent request (signed_requested plan.client is.1.choice) is.1.request_is)
  come reported t w (Granted request address lifetime reply head) is = (together plan.client.config old.desk.auth is.1.choice.reported is.1.is.of is.1.choice.algorithm is.1.is.answered, is.0)
  come reported t w (Done request address lifetime reply) is = allocated reported t request address lifetime reply w is
  come reported t w Barred is = absurd is
  come reported t w Silent is = is

pub returns-clause-promised : goal.returns-clause-promised
returns-clause-promised c = λ plan old new pairs position may run is. come c plan old may (events_in pairs) position.timing new position.progress (occurs c plan old may new pairs position run is).stage

pub returns-clause-sendings : goal.returns-clause-sendings
returns-clause-sendings c = λ plan old w v pairs position next now ret may run is leads step.
    (c.events_of_loops_lead_on.ensures plan old w v (events_in pairs) position next (Draw now) ret may leads (occurs c plan old may w pairs position run is) step).1

pub returns-clause-occurs : goal.returns-clause-occurs
returns-clause-occurs c = λ plan old new pairs position may run is. occurs c plan old may new pairs position run is

pub returns-clause-premises : goal.returns-clause-premises
returns-clause-premises c = λ plan old fresh. record {
  client = fresh.client;
  room = fresh.room;
  usual = fresh.usual;
  text = fresh.text;
  unknown = fresh.unknown;
  user = fresh.user;
  hashes = fresh.hashes;
}
