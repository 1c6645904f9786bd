use Rattle.std.proofs.Common.{◌≡◌, ◌<◌, ◌≤◌, ◌+◌, ◌⊎◌, ℕ, List, [], Some, None, refl, sym, ◌∙◌, subst, inl, inr}
use Rattle.std.specs.declared.net.socket_addr.SocketAddr.{SocketAddr}
use Rattle.turn_desk_core.specs.StunTypesBase.Times.{time_after}
use Rattle.turn_client_proto_messages.specs.Api.Options.{cadence}
use Rattle.turn_client_proto_api.specs.Sent.{Sent, sent_of}
use Rattle.turn_client_proto_step_laws.specs.Recv.ClientState.{Protocol}
use Rattle.turn_client_proto_handshake_laws.specs.Choosing.{Choice, signed_requested, signed_sent}
use Rattle.turn_client_proto_handshake_laws.specs.Stages.{HasChosen, HasSigned}
use Rattle.turn_desk_event.specs.declared.answer.Answer.{Answer}
use Rattle.turn_desk_event.specs.declared.answer.Answer.TheVariants as answer
use Rattle.turn_desk_core.specs.State.{State}
use Rattle.turn_desk_world_laws.specs.World.Calls.{IsTransmittedAs}
use Rattle.turn_desk_world_laws.specs.World.Model.{World}
use Rattle.turn_desk_progress_laws.specs.Loops.{IsNoneDue, IsSignedAgain, IsTransmissionDue, Timing, counted}
use Rattle.turn_desk_progress_laws.specs.LoopStages.{HasGranted, IsTransmittedBy, Left, Queues, Transmits, plan_at}
use Rattle.turn_desk_progress_laws.specs.Promises.{HasClient, control_at, event_in, over}
use Rattle.turn_desk_progress_laws.specs.Scripts.{Plan}
use Rattle.turn_desk_progress_laws.specs.Standing.{IsUnder}
use Rattle.turn_desk_progress_laws.proofs.Clients.{draws}
use Rattle.turn_desk_progress_laws.proofs.Indexes.{same_sent, untold}
use Rattle.turn_desk_progress_laws.proofs.Looping.{clash, due_so, never, none_so, passes}
use Rattle.turn_desk_progress_laws.proofs.Times.{order}
use Rattle.turn_desk_progress_laws.proofs.loops.later_draws_sign_again.Goals as goal

module _ (c : goal.After-signed_clients_wait) (plan : Plan) (w v : World) (t : Timing) (now : ℕ) (head : List ℕ) (choice : Choice) (made : choice.made ≡ t.came) (request : Sent) (request_is : request ≡ signed_sent plan.client choice)
    (h : HasClient plan head w (Transmits plan t choice)) (later : t.sent ≤ now) where
  pub record Sends (ret : Answer) : Type 0 where
    pub client : HasClient plan head v (Transmits plan (counted now ret t) choice)
    pub desk : v.desk ≡ w.desk
    pub silent : event_in ret ≡ []
    pub given : IsSignedAgain plan t now request ret

  abbrev Due : (many : ℕ) → Type 0
  Due many = IsTransmissionDue plan choice.made many now

  abbrev Quiet : (many : ℕ) → Type 0
  Quiet many = IsNoneDue plan choice.made many now

  abbrev Early : Type 0
  Early = (now < time_after t.sent cadence) ⊎ (time_after t.sent cadence ≤ now)

  same_request : (sent : Sent) → Some sent ≡ Some (signed_sent plan.client choice) → sent ≡ request
  same_request sent is = same_sent sent (signed_sent plan.client choice) is ∙ sym request_is

  module _ (core : Protocol) (there : v.client ≡ Some (over (control_at plan.client.transport head) core)) (same : v.desk ≡ w.desk) where
    -- ---- it isn't queued

    by_left : (ret : Answer) → HasSigned plan.client choice t.many t.sent h.core → IsTransmittedAs ret h.core now core → Due t.many ⊎ Quiet t.many → Sends ret
    unfolding IsTransmittedAs
    by_left (answer.Transmit sent) signed transmitted (inl due) =
        let s = c.signed_clients_wait.ensures.again plan.client choice t.many t.sent h.core core now (Some (sent_of sent)) signed due transmitted in
        let so : sent_of sent ≡ request = same_request (sent_of sent) s.0 in
        record {
          client = record { core = core; there = there; is = Left s.1 };
          desk = same;
          silent = refl;
          given = record { in_time = λ again before. so; late = λ again time. so; none = λ none. clash plan choice.made t.many now due (none_so plan choice.made t.came t.many now made none); either = inr so };
        }
    by_left (answer.Transmit sent) signed transmitted (inr quiet) = absurd (Prim.cc (c.signed_clients_wait.ensures.still plan.client choice t.many t.sent h.core core now (Some (sent_of sent)) signed quiet transmitted).0)
    by_left answer.Nothing signed transmitted (inl due) = absurd (Prim.cc (c.signed_clients_wait.ensures.again plan.client choice t.many t.sent h.core core now None signed due transmitted).0)
    by_left answer.Nothing signed transmitted (inr quiet) =
        let s = c.signed_clients_wait.ensures.still plan.client choice t.many t.sent h.core core now None signed quiet transmitted in
        record {
          client = record { core = core; there = there; is = Left (subst (λ (p : Protocol). HasSigned plan.client choice t.many t.sent p) (sym s.1) signed) };
          desk = same;
          silent = refl;
          given = record { in_time = λ due before. clash plan choice.made t.many now (due_so plan choice.made t.came t.many now made due) quiet; late = λ due time. clash plan choice.made t.many now (due_so plan choice.made t.came t.many now made due) quiet; none = λ none. refl; either = inl refl };
        }
    by_left _ signed transmitted due = absurd transmitted

    -- ---- it is still queued

    module _ (before : IsTransmissionDue plan choice.made t.many t.sent) (chosen : HasChosen plan.client choice (t.many + 1) t.sent h.core) where
      -- The next slot has passed.
      passed : {A : Type 0} → IsNoneDue plan t.came t.many now → A
      passed none = clash plan choice.made t.many now (before.0, passes _ _ _ before.1 later) (none_so plan choice.made t.came t.many now made none)

      by_queue : (ret : Answer) → IsTransmittedAs ret h.core now core → Due (t.many + 1) ⊎ Quiet (t.many + 1) → Early → Sends ret
      unfolding IsTransmittedAs
      by_queue (answer.Transmit sent) transmitted (inl due) early =
          let s = c.chosen_clients_sign.ensures.again plan.client choice (t.many + 1) t.sent h.core core now (Some (sent_of sent)) chosen due transmitted in
          let so : sent_of sent ≡ request = same_request (sent_of sent) s.0 in
          record {
            client = record { core = core; there = there; is = Queues due s.1 };
            desk = same;
            silent = refl;
            given = record { in_time = λ again before. so; late = λ again time. so; none = λ none. passed none; either = inr so };
          }
      by_queue (answer.Transmit sent) transmitted (inr quiet) (inl early) =
          absurd (Prim.cc (c.chosen_clients_sign.ensures.rests plan.client choice (t.many + 1) t.sent h.core core now (Some (sent_of sent)) chosen quiet early transmitted).0)
      by_queue (answer.Transmit sent) transmitted (inr quiet) (inr late) =
          let s = c.chosen_clients_sign.ensures.signs plan.client choice (t.many + 1) t.sent h.core core now (Some (sent_of sent)) chosen quiet late transmitted in
          let so : sent_of sent ≡ request = same_request (sent_of sent) s.0 in
          record {
            client = record { core = core; there = there; is = Left s.1 };
            desk = same;
            silent = refl;
            given = record { in_time = λ again before. so; late = λ again time. so; none = λ none. passed none; either = inr so };
          }
      by_queue answer.Nothing transmitted (inl due) early =
          absurd (Prim.cc (c.chosen_clients_sign.ensures.again plan.client choice (t.many + 1) t.sent h.core core now None chosen due transmitted).0)
      by_queue answer.Nothing transmitted (inr quiet) (inl early) =
          let s = c.chosen_clients_sign.ensures.rests plan.client choice (t.many + 1) t.sent h.core core now None chosen quiet early transmitted in
          record {
            client = record { core = core; there = there; is = Queues before (subst (λ (p : Protocol). HasChosen plan.client choice (t.many + 1) t.sent p) (sym s.1) chosen) };
            desk = same;
            silent = refl;
            given = record { in_time = λ due none. clash plan choice.made t.many t.sent before (none_so plan choice.made t.came t.many t.sent made none); late = λ due time. never now (time_after t.sent cadence) early time; none = λ none. refl; either = inl refl };
          }
      by_queue answer.Nothing transmitted (inr quiet) (inr late) =
          absurd (Prim.cc (c.chosen_clients_sign.ensures.signs plan.client choice (t.many + 1) t.sent h.core core now None chosen quiet late transmitted).0)
      by_queue _ transmitted due early = absurd transmitted

    by_draw : (ret : Answer) → IsTransmittedAs ret h.core now core → Transmits plan t choice h.core → Sends ret
    by_draw ret transmitted (Left signed) = by_left ret signed transmitted (c.asking_clients_wait.ensures.cases plan.client (signed_requested plan.client choice) t.many now)
    by_draw ret transmitted (Queues before chosen) =
        by_queue before chosen ret transmitted (c.asking_clients_wait.ensures.cases plan.client (signed_requested plan.client choice) (t.many + 1) now) (order now (time_after t.sent cadence))

pub returns-clause-signed : goal.returns-clause-signed
returns-clause-signed c = λ plan old w v reported ret t request now is later early step.
    let h = is.1.is.client in
    let d = draws (control_at plan.client.transport []) w v h.core now ret h.there early step in
    let s = by_draw c plan w v t now [] is.1.choice is.1.is.made request is.1.request_is h later d.core d.there d.desk ret d.transmitted h.is in (
      (
        untold reported (event_in ret) is.0 s.silent,
        record {
          choice = is.1.choice;
          request_is = is.1.request_is;
          is = record {
            under = subst (λ (d : State). IsUnder (plan_at plan t.challenged) old.desk is.1.choice.reported d) (sym s.desk) is.1.is.under;
            made = is.1.is.made;
            answered = is.1.is.answered;
            client = s.client;
          };
        },
      ),
      s.given,
    )

pub returns-clause-granted : goal.returns-clause-granted
returns-clause-granted c = λ plan old w v reported ret t request address lifetime reply head now is later early step.
    let h = is.1.client in
    let d = draws (control_at plan.client.transport head) w v h.core now ret h.there early step in
    let s = by_draw c plan w v t now head is.1.choice is.1.made request is.1.is.request_is h later d.core d.there d.desk ret d.transmitted h.is in (
      (
        untold reported (event_in ret) is.0 s.silent,
        record {
          choice = is.1.choice;
          made = is.1.made;
          is = subst (λ (d : State). HasGranted plan old is.1.choice request address lifetime reply d) (sym s.desk) is.1.is;
          part = is.1.part;
          client = s.client;
        },
      ),
      s.given,
    )
