use Rattle.std.proofs.Common.{◌≡◌, ◌⊎◌, ℕ, List, [], Some, None, refl, sym, ◌∙◌, subst, inl, inr}
use Rattle.turn_client_proto_api.specs.Sent.{Sent, sent_of}
use Rattle.turn_client_proto_step_laws.specs.Recv.ClientState.{Protocol}
use Rattle.turn_client_proto_handshake_laws.specs.Requested.{IsDue, IsQuiet}
use Rattle.turn_client_proto_handshake_laws.specs.Sent.{first_request, first_sent}
use Rattle.turn_client_proto_handshake_laws.specs.Stages.{IsAsking, first_requested}
use Rattle.turn_desk_event.specs.declared.answer.Answer.{Answer}
use Rattle.turn_desk_event.specs.declared.answer.Answer.TheVariants as answer
use Rattle.turn_desk_core.specs.State.{State}
use Rattle.turn_desk_step_laws.specs.Challenged.{IsFirstChallenge}
use Rattle.turn_desk_world_laws.specs.World.Calls.{IsTransmittedAs}
use Rattle.turn_desk_world_laws.specs.World.Model.{World}
use Rattle.turn_desk_progress_laws.specs.Loops.{IsOnSchedule, Timing, counted}
use Rattle.turn_desk_progress_laws.specs.Promises.{HasClient, control_at, event_in, over}
use Rattle.turn_desk_progress_laws.specs.Scripts.{Plan}
use Rattle.turn_desk_progress_laws.proofs.Clients.{draws}
use Rattle.turn_desk_progress_laws.proofs.Indexes.{same_sent, untold}
use Rattle.turn_desk_progress_laws.proofs.Looping.{clash}
use Rattle.turn_desk_progress_laws.proofs.loops.later_draws_ask_again.Goals as goal

module _ (c : goal.After-asking_clients_wait) (plan : Plan) (w v : World) (t : Timing) (now : ℕ) (head : List ℕ) (h : HasClient plan head w (λ p. IsAsking plan.client t.many t.sent p)) where
  pub record Asks (ret : Answer) : Type 0 where
    pub client : HasClient plan head v (λ p. IsAsking plan.client (counted now ret t).many (counted now ret t).sent p)
    pub desk : v.desk ≡ w.desk
    pub silent : event_in ret ≡ []
    pub given : IsOnSchedule plan t now ret

  by_draw : (ret : Answer) (core : Protocol) → v.client ≡ Some (over (control_at plan.client.transport head) core) → v.desk ≡ w.desk → IsTransmittedAs ret h.core now core
      → IsDue plan.client (first_requested plan.client) t.many now ⊎ IsQuiet plan.client (first_requested plan.client) t.many now → Asks ret
  unfolding IsTransmittedAs
  by_draw (answer.Transmit sent) core there same transmitted (inl due) =
      let s = c.asking_clients_wait.ensures.again plan.client t.many t.sent h.core core now (Some (sent_of sent)) h.is due transmitted in
      let so : sent_of sent ≡ first_sent plan.client = same_sent (sent_of sent) (first_sent plan.client) s.0 in
      record {
        client = record { core = core; there = there; is = s.1 };
        desk = same;
        silent = refl;
        given = record { due = λ again. so; none = λ none. clash plan plan.client.made t.many now due none };
      }
  by_draw (answer.Transmit sent) core there same transmitted (inr quiet) = absurd (Prim.cc (c.asking_clients_wait.ensures.still plan.client t.many t.sent h.core core now (Some (sent_of sent)) h.is quiet transmitted).0)
  by_draw answer.Nothing core there same transmitted (inl due) = absurd (Prim.cc (c.asking_clients_wait.ensures.again plan.client t.many t.sent h.core core now None h.is due transmitted).0)
  by_draw answer.Nothing core there same transmitted (inr quiet) =
      let s = c.asking_clients_wait.ensures.still plan.client t.many t.sent h.core core now None h.is quiet transmitted in
      record {
        client = record { core = core; there = there; is = subst (λ (p : Protocol). IsAsking plan.client t.many t.sent p) (sym s.1) h.is };
        desk = same;
        silent = refl;
        given = record { due = λ due. clash plan plan.client.made t.many now due quiet; none = λ none. refl };
      }
  by_draw _ core there same transmitted due = absurd transmitted

pub returns-clause-requested : goal.returns-clause-requested
returns-clause-requested c = λ plan old w v reported ret t request now is early step.
    let d = draws (control_at plan.client.transport []) w v is.1.client.core now ret is.1.client.there early step in
    let s = by_draw c plan w v t now [] is.1.client ret d.core d.there d.desk d.transmitted (c.asking_clients_wait.ensures.cases plan.client (first_requested plan.client) t.many now) in (
      (
        untold reported (event_in ret) is.0 s.silent,
        record { request_is = is.1.request_is; client = s.client; desk_is = s.desk ∙ is.1.desk_is },
      ),
      s.given,
    )

pub returns-clause-challenged : goal.returns-clause-challenged
returns-clause-challenged c = λ plan old w v reported ret t request reply head now is early step.
    let d = draws (control_at plan.client.transport head) w v is.1.client.core now ret is.1.client.there early step in
    let s = by_draw c plan w v t now head is.1.client ret d.core d.there d.desk d.transmitted (c.asking_clients_wait.ensures.cases plan.client (first_requested plan.client) t.many now) in (
      (
        untold reported (event_in ret) is.0 s.silent,
        record {
          request_is = is.1.request_is;
          client = s.client;
          part = is.1.part;
          challenge = subst (λ (d : State). IsFirstChallenge old.desk plan.client.here (first_request plan.client) t.challenged reply d) (sym s.desk) is.1.challenge;
        },
      ),
      s.given,
    )
