use Rattle.std.proofs.Common.{◌≡◌, ◌++◌, ◌<◌, ◌+◌, ℕ, List, [], ◌∷◌, sym, ◌∙◌, subst, inl, inr}
use Rattle.std.specs.declared.net.socket_addr.SocketAddr.{SocketAddr}
use Rattle.turn_desk_event.specs.StunProtoTransaction.Schedule.{end_at}
use Rattle.turn_client_proto_api.specs.declared.event.TurnEvent.{TurnEvent}
use Rattle.turn_client_proto_api.specs.Sent.{Sent}
use Rattle.turn_client_proto_step_laws.specs.Recv.ClientState.{Protocol}
use Rattle.turn_client_proto_handshake_laws.specs.Choosing.{Choice}
use Rattle.turn_client_proto_handshake_laws.specs.Stages.{HasChosen, HasEnded, Holds, IsAsking, signed_queued}
use Rattle.turn_desk_event.specs.declared.answer.Answer.{Answer}
use Rattle.turn_desk_event.specs.declared.event.ClientCall.{ClientCall}
use Rattle.turn_desk_event.specs.declared.event.ClientCall.TheVariants.{Poll}
use Rattle.turn_desk_event.specs.declared.event.Event.TheVariants.{Call}
use Rattle.turn_desk_core.specs.State.{State}
use Rattle.turn_desk_world_laws.specs.World.Model.{World}
use Rattle.turn_desk_world_laws.specs.World.Runs.{IsStep}
use Rattle.turn_desk_progress_laws.specs.Loops.{MayPoll, Timing}
use Rattle.turn_desk_progress_laws.specs.LoopStages.{HasGranted, IsHeldSo, IsOverSo, IsStageOf, IsTransmittedBy, Left, Queues, Transmits, plan_at}
use Rattle.turn_desk_progress_laws.specs.Promises.{HasClient, control_at, event_in}
use Rattle.turn_desk_progress_laws.specs.Scripts.{IsLook, Plan, Progress, Start, Requested, Challenged, Came, Signed, Granted, Done, Barred, Silent}
use Rattle.turn_desk_progress_laws.specs.Standing.{IsUnder}
use Rattle.turn_desk_progress_laws.proofs.Clients.{IsLooked, IsLookedOn, Rests, Still, Took, look_rests, looks, poll_rests, same_desk}
use Rattle.turn_desk_progress_laws.proofs.Indexes.{reports_on, reports_still}
use Rattle.turn_desk_progress_laws.proofs.Looping.{not_apart, stays_so}
use Rattle.turn_desk_progress_laws.proofs.loops.positions_stay.Goals as goal

module _ (c : goal.After-stages_are_reported) (plan : Plan) (old w v : World) (reported : List TurnEvent) (ret : Answer) (t : Timing) where
  -- ---- looks

  module _ (what : ClientCall) (now : ℕ) (look : IsLook what) (step : IsStep (Call what now) w ret v) where
    asking_looks : (head : List ℕ) → HasClient plan head w (λ p. IsAsking plan.client t.many t.sent p) → Rests ret w v
    asking_looks head h = look_rests (control_at plan.client.transport head) w v h.core what now ret h.there (λ event q taken. c.stages_are_reported.ensures.asking plan.client t.many t.sent h.core q event h.is taken) look step

    chosen_looks : (choice : Choice) → HasClient plan [] w (λ p. HasChosen plan.client choice 1 t.sent p) → Rests ret w v
    chosen_looks choice h =
        look_rests (control_at plan.client.transport []) w v h.core what now ret h.there (λ event q taken. c.stages_are_reported.ensures.signing plan.client choice 1 t.sent (signed_queued plan.client choice ∷ []) h.core q event h.is taken) look step

    signed_looks : (choice : Choice) (head : List ℕ) (h : HasClient plan head w (Transmits plan t choice)) → Rests ret w v
    signed_looks choice head h = by h.is
      where
        by : IsTransmittedBy plan choice t.many t.sent h.core → Rests ret w v
        by (Left is) =
            look_rests (control_at plan.client.transport head) w v h.core what now ret h.there (λ event q taken. c.stages_are_reported.ensures.signing plan.client choice t.many t.sent [] h.core q event is taken) look step
        by (Queues due is) =
            look_rests (control_at plan.client.transport head) w v h.core what now ret h.there (λ event q taken. c.stages_are_reported.ensures.signing plan.client choice (t.many + 1) t.sent (signed_queued plan.client choice ∷ []) h.core q event is taken) look step

    over_looks : IsOverSo plan old reported t w → IsOverSo plan old (reported ++ event_in ret) t v
    over_looks is = let l = looks (control_at plan.client.transport []) w v is.client.core what now ret is.client.there look step in by l l.looked
      where
        by : (l : IsLookedOn (control_at plan.client.transport []) is.client.core ret w v) → IsLooked is.client.core ret l.core → IsOverSo plan old (reported ++ event_in ret) t v
        by l (Took event taken said) =
            let e = c.ended_clients_rest.ensures.reported plan.client is.left is.client.core l.core event is.client.is taken in
            record {
              challenge = is.challenge;
              under = subst (λ (d : State). IsUnder (plan_at plan t.challenged) old.desk is.challenge d) (sym (same_desk w v l.of)) is.under;
              barring = is.barring;
              left = e.0;
              decodes = reports_on reported ret event is.left e.0 said e.1 ∙ is.decodes;
              client = record { core = l.core; there = l.there; is = e.2 };
            }
        by l (Still same silent) = record {
          challenge = is.challenge;
          under = subst (λ (d : State). IsUnder (plan_at plan t.challenged) old.desk is.challenge d) (sym (same_desk w v l.of)) is.under;
          barring = is.barring;
          left = is.left;
          decodes = reports_still reported ret is.left silent ∙ is.decodes;
          client = record { core = l.core; there = l.there; is = subst (λ (q : Protocol). HasEnded plan.client is.left q) (sym same) is.client.is };
        }

    held_looks : (request : Sent) (address : SocketAddr) (lifetime : ℕ) (reply : List ℕ) → IsHeldSo plan old reported t request address lifetime reply w → IsHeldSo plan old (reported ++ event_in ret) t request address lifetime reply v
    held_looks request address lifetime reply is = let l = looks (control_at plan.client.transport []) w v is.client.core what now ret is.client.there look step in by l l.looked
      where
        granted_so : v.desk ≡ w.desk → HasGranted plan old is.choice request address lifetime reply v.desk
        granted_so same = subst (λ (d : State). HasGranted plan old is.choice request address lifetime reply d) (sym same) is.is

        by : (l : IsLookedOn (control_at plan.client.transport []) is.client.core ret w v) → IsLooked is.client.core ret l.core → IsHeldSo plan old (reported ++ event_in ret) t request address lifetime reply v
        by l (Took event taken said) =
            let e = c.stages_are_reported.ensures.held plan.client is.choice address lifetime t.came t.sent is.queue is.left is.client.core l.core event is.client.is taken in
            record {
              choice = is.choice;
              is = granted_so (same_desk w v l.of);
              queue = is.queue;
              left = e.0;
              decodes = reports_on reported ret event is.left e.0 said e.1 ∙ is.decodes;
              client = record { core = l.core; there = l.there; is = e.2 };
            }
        by l (Still same silent) = record {
          choice = is.choice;
          is = granted_so (same_desk w v l.of);
          queue = is.queue;
          left = is.left;
          decodes = reports_still reported ret is.left silent ∙ is.decodes;
          client = record {
            core = l.core;
            there = l.there;
            is = subst (λ (q : Protocol). Holds plan.client is.choice address lifetime t.came t.sent is.queue is.left q) (sym same) is.client.is;
          };
        }

    looks_at : (progress : Progress) → IsStageOf plan old reported progress t w → IsStageOf plan old (reported ++ event_in ret) progress t v
    looks_at Start is =
        stays_so plan old reported Start t ret w v (look_rests (control_at plan.client.transport []) w v is.1.client.core what now ret is.1.client.there (λ event q taken. c.stages_are_reported.ensures.fresh plan.client is.1.client.core q event is.1.client.is taken) look step) is
    looks_at (Requested request) is = stays_so plan old reported (Requested request) t ret w v (asking_looks [] is.1.client) is
    looks_at (Challenged request reply head) is = stays_so plan old reported (Challenged request reply head) t ret w v (asking_looks head is.1.client) is
    looks_at Came (inl is) = stays_so plan old reported Came t ret w v (chosen_looks is.1.choice is.1.is.client) (inl is)
    looks_at Came (inr is) = inr (over_looks is)
    looks_at (Signed request) is = stays_so plan old reported (Signed request) t ret w v (signed_looks is.1.choice [] is.1.is.client) is
    looks_at (Granted request address lifetime reply head) is = stays_so plan old reported (Granted request address lifetime reply head) t ret w v (signed_looks is.1.choice head is.1.client) is
    looks_at (Done request address lifetime reply) is = held_looks request address lifetime reply is
    looks_at Barred is = absurd is
    looks_at Silent is = absurd is

  -- ---- polls

  module _ (now : ℕ) (step : IsStep (Call Poll now) w ret v) where
    asking_polls : (head : List ℕ) → now < end_at plan.client.made plan.client.config.waits → HasClient plan head w (λ p. IsAsking plan.client t.many t.sent p) → Rests ret w v
    asking_polls head before h = poll_rests (control_at plan.client.transport head) w v h.core now ret h.there (λ r q polled. (c.asking_clients_wait.ensures.polled plan.client t.many t.sent h.core q now r h.is before polled).unchanged) step

    before_end : (choice : Choice) → choice.made ≡ t.came → now < end_at t.came plan.client.config.waits → now < end_at choice.made plan.client.config.waits
    before_end choice made before = subst (λ (m : ℕ). now < end_at m plan.client.config.waits) (sym made) before

    chosen_polls : (choice : Choice) → now < end_at choice.made plan.client.config.waits → HasClient plan [] w (λ p. HasChosen plan.client choice 1 t.sent p) → Rests ret w v
    chosen_polls choice before h =
        poll_rests (control_at plan.client.transport []) w v h.core now ret h.there (λ r q polled. (c.chosen_clients_sign.ensures.polled plan.client choice 1 t.sent h.core q now r h.is before polled).unchanged) step

    signed_polls : (choice : Choice) → now < end_at choice.made plan.client.config.waits → (head : List ℕ) (h : HasClient plan head w (Transmits plan t choice)) → Rests ret w v
    signed_polls choice before head h = by h.is
      where
        by : IsTransmittedBy plan choice t.many t.sent h.core → Rests ret w v
        by (Left is) =
            poll_rests (control_at plan.client.transport head) w v h.core now ret h.there (λ r q polled. (c.signed_clients_wait.ensures.polled plan.client choice t.many t.sent h.core q now r is before polled).unchanged) step
        by (Queues due is) =
            poll_rests (control_at plan.client.transport head) w v h.core now ret h.there (λ r q polled. (c.chosen_clients_sign.ensures.polled plan.client choice (t.many + 1) t.sent h.core q now r is before polled).unchanged) step

    over_polls : IsOverSo plan old reported t w → Rests ret w v
    over_polls is = poll_rests (control_at plan.client.transport []) w v is.client.core now ret is.client.there (λ r q polled. (c.ended_clients_rest.ensures.polled plan.client is.left is.client.core q now r is.client.is polled).1) step

    polls_at : (progress : Progress) → MayPoll plan old.desk.auth progress t now → IsStageOf plan old reported progress t w → IsStageOf plan old (reported ++ event_in ret) progress t v
    polls_at Start at is =
        stays_so plan old reported Start t ret w v (poll_rests (control_at plan.client.transport []) w v is.1.client.core now ret is.1.client.there (λ r q polled. (c.new_clients_ask.ensures.polled plan.client is.1.client.core q now r is.1.client.is polled).1) step) is
    polls_at (Requested request) at is = stays_so plan old reported (Requested request) t ret w v (asking_polls [] at is.1.client) is
    polls_at (Challenged request reply head) at is = stays_so plan old reported (Challenged request reply head) t ret w v (asking_polls head at is.1.client) is
    polls_at Came (inl at) (inl is) = stays_so plan old reported Came t ret w v (chosen_polls is.1.choice (before_end is.1.choice is.1.is.made at) is.1.is.client) (inl is)
    polls_at Came (inr apart) (inl is) = absurd (not_apart plan old t.challenged is.1.choice w.desk is.1.is.under is.1.is.answered apart)
    polls_at Came at (inr is) = stays_so plan old reported Came t ret w v (over_polls is) (inr is)
    polls_at (Signed request) at is = stays_so plan old reported (Signed request) t ret w v (signed_polls is.1.choice (before_end is.1.choice is.1.is.made at) [] is.1.is.client) is
    polls_at (Granted request address lifetime reply head) at is =
        stays_so plan old reported (Granted request address lifetime reply head) t ret w v (signed_polls is.1.choice (before_end is.1.choice is.1.made at) head is.1.client) is
    polls_at (Done request address lifetime reply) at is = absurd at
    polls_at Barred at is = absurd is
    polls_at Silent at is = absurd is

pub returns-clause-looks : goal.returns-clause-looks
returns-clause-looks c = λ plan old w v reported ret progress t what now is look step. looks_at c plan old w v reported ret t what now look step progress is

pub returns-clause-polls : goal.returns-clause-polls
returns-clause-polls c = λ plan old w v reported ret progress t now is at step. polls_at c plan old w v reported ret t now step progress at is
