use Rattle.std.proofs.Common.{◌≡◌, ◌++◌, ℕ, List, [], ◌∷◌, ap, refl, sym, ◌∙◌, subst, inl, inr, append_assoc}
use Rattle.std.proofs.lemmas.List.{append-nil}
use Rattle.std.specs.declared.net.socket_addr.SocketAddr.{SocketAddr}
use Rattle.turn_client_proto_messages.specs.StunProtoClient.Client.{account_key}
use Rattle.turn_client_proto_messages.specs.StunProtoClient.Digests.{IsRight}
use Rattle.turn_client_proto_messages.specs.Allocation.Listed.{relayed_listed}
use Rattle.turn_client_proto_api.specs.declared.event.TurnEvent.{TurnEvent}
use Rattle.turn_client_proto_api.specs.Sent.{Sent}
use Rattle.turn_client_proto_step_laws.specs.Recv.ClientState.{Protocol}
use Rattle.turn_client_proto_handshake_laws.specs.Requested as asks
use Rattle.turn_client_proto_handshake_laws.specs.Requested.{sent_of}
use Rattle.turn_client_proto_handshake_laws.specs.Choosing.{Choice, signed_requested}
use Rattle.turn_client_proto_handshake_laws.specs.Stages.{first_requested}
use Rattle.turn_desk_event.specs.declared.answer.Answer.{Answer}
use Rattle.turn_desk_event.specs.declared.event.Event.{Event}
use Rattle.turn_desk_world_laws.specs.World.Model.{World}
use Rattle.turn_desk_world_laws.specs.World.Runs.{IsRun}
use Rattle.turn_desk_progress_laws.specs.Promises.{IsOwnSent, AreApart, HasCome, IsAllocated, IsFresh, CannotAgree, event_in, events_in}
use Rattle.turn_desk_progress_laws.specs.Scripts.{Requested, Barred, Came, Challenged, Done, Granted, IsScript, Progress, Plan, Signed, Silent, Start}
use Rattle.turn_desk_progress_laws.specs.Standing.{IsChosen, IsHeld, IsOver, IsAtStage}
use Rattle.turn_desk_progress_laws.proofs.Simulation.{are_apart, strongest_of_both, together}
use Rattle.turn_desk_progress_laws.proofs.Serving.{of_settings}
use Rattle.turn_desk_progress_laws.proofs.honest.honest_runs_allocate.Goals as goal

module _ (c : goal.After-ended_worlds_rest) (plan : Plan) (old : World) (fresh : IsFresh plan old) where
  -- ---- all of them

  all : (w new : World) (reported : List TurnEvent) (progress last : Progress) (pairs : List (Event × Answer)) → IsAtStage plan old reported progress w → IsRun w pairs new → IsScript plan progress pairs last → IsAtStage plan old (reported ++ events_in pairs) last new
  unfolding IsRun IsScript
  all w new reported progress last [] occurs run is =
      subst (λ (l : List TurnEvent). IsAtStage plan old l last new) (sym (append-nil reported))
      (subst (λ (p : Progress). IsAtStage plan old reported p new) (sym is) (subst (λ (x : World). IsAtStage plan old reported progress x) (sym run) occurs))
  all w new reported progress last (pair ∷ pairs) occurs run is =
      let following = c.events_lead_on.ensures plan old w run.0 reported progress is.0 pair.0 pair.1 fresh is.1 occurs run.1 in
      subst (λ (l : List TurnEvent). IsAtStage plan old l last new) (append_assoc reported (event_in pair.1) (events_in pairs))
      (all run.0 new (reported ++ event_in pair.1) is.0 last pairs following run.2 is.2)

  -- ---- what that means

  unauthenticated : (reported : List TurnEvent) (w : World) → IsOver plan old reported w → CannotAgree plan old reported w
  unauthenticated reported w is = record {
    apart = are_apart plan.client.config old.desk.auth is.challenge (of_settings plan old.desk w.desk is.challenge is.under) is.barring;
    held = record {
      core = is.client.core;
      there = is.client.there;
      is = (ap relayed_listed is.client.is.allocations, ap (λ (l : List TurnEvent). reported ++ l) is.client.is.events_are ∙ is.decodes);
    };
    granted = is.under.challenge.granted;
    quiet = λ now ret next early step. c.ended_worlds_rest.ensures.quiet plan old w next reported ret now is early step;
    closed = λ now ret next early gone step. c.ended_worlds_rest.ensures.closed plan old w next reported ret now is early gone step;
  }

  not_apart : (choice : Choice) (w : World) (Is : Protocol → Type 0) → IsChosen plan old choice Is w → AreApart plan.client.config old.desk.auth → ⊥
  not_apart choice w Is is = together plan.client.config old.desk.auth choice.reported (of_settings plan old.desk w.desk choice.reported is.under) choice.algorithm is.answered

  own_sent : (request : Sent) (a : asks.Requested) → request ≡ sent_of plan.client a → IsOwnSent plan request
  own_sent request a is = record {
    transport = ap (λ (r : Sent). r.transport) is;
    from = ap (λ (r : Sent). r.from) is;
    to = ap (λ (r : Sent). r.to) is;
  }

  in_realm : (choice : Choice) (bytes realm : List ℕ) → choice.reported.realm ≡ realm → IsRight bytes (account_key plan.client.config.credentials choice.reported.realm choice.algorithm)
      → IsRight bytes (account_key plan.client.config.credentials realm choice.algorithm)
  in_realm choice bytes realm same right = subst (λ (r : List ℕ). IsRight bytes (account_key plan.client.config.credentials r choice.algorithm)) same right

  allocated : (reported : List TurnEvent) (request : Sent) (address : SocketAddr) (lifetime : ℕ) (reply : List ℕ) (w : World) → IsHeld plan old reported request address lifetime reply w → IsAllocated plan old reported request address lifetime reply w
  allocated reported request address lifetime reply w is = record {
    together = together plan.client.config old.desk.auth is.choice.reported is.is.of is.choice.algorithm is.is.answered;
    algorithm = is.choice.algorithm;
    is_own = own_sent request (signed_requested plan.client is.choice) is.is.request_is;
    strongest = strongest_of_both plan.client.config old.desk.auth is.choice.reported is.is.of is.choice.algorithm is.is.answered;
    request_is_right = in_realm is.choice request.bytes old.desk.auth.realm is.is.of.realm is.is.request_right;
    reply_is_right = in_realm is.choice reply old.desk.auth.realm is.is.of.realm is.is.grant.right;
    held = record {
      core = is.client.core;
      there = is.client.there;
      is = (is.client.is.visible, ap (λ (l : List TurnEvent). reported ++ l) is.client.is.events_are ∙ is.decodes);
    };
    granted = is.is.granted;
  }

  come : (reported : List TurnEvent) (w : World) (progress : Progress) → IsAtStage plan old reported progress w → HasCome plan old reported progress w
  come reported w Start is = is.0
  come reported w (Requested request) is = (is.0, own_sent request (first_requested plan.client) is.1.request_is)
  come reported w (Challenged request reply head) is = is.0
  come reported w Came (inl is) = (λ apart. absurd (not_apart is.1.choice w _ is.1.chosen apart), λ other. is.0)
  come reported w Came (inr is) = (λ apart. unauthenticated reported w is, λ other. absurd (other (unauthenticated reported w is).apart))
  come reported w (Signed request) is = (not_apart is.1.choice w _ is.1.chosen, is.0, own_sent request (signed_requested plan.client is.1.choice) is.1.request_is)
  come reported w (Granted request address lifetime reply head) is = (together plan.client.config old.desk.auth is.1.choice.reported is.1.is.of is.1.choice.algorithm is.1.is.answered, is.0)
  come reported w (Done request address lifetime reply) is = allocated reported request address lifetime reply w is
  come reported w Barred is = unauthenticated reported w is
  come reported w Silent is = is

  pub occurs : (new : World) (pairs : List (Event × Answer)) (progress : Progress) → IsRun old pairs new → IsScript plan Start pairs progress → IsAtStage plan old (events_in pairs) progress new
  occurs new pairs progress run is = all old new [] Start progress pairs (refl, record { client = fresh.client; desk_is = refl }) run is

pub returns-clause-promised : goal.returns-clause-promised
returns-clause-promised c = λ plan old new pairs progress fresh run is. come c plan old fresh (events_in pairs) new progress (occurs c plan old fresh new pairs progress run is)

pub returns-clause-occurs : goal.returns-clause-occurs
returns-clause-occurs c = λ plan old new pairs progress fresh run is. occurs c plan old fresh new pairs progress run is
