-- What leads from one position of a loop to another.
use Rattle.std.proofs.Common.{◌≡◌, ◌<◌, ◌≤◌, ◌+◌, ℕ, arith, List, [], ◌∷◌, ◌++◌, refl, sym, ap, ◌∙◌, subst}
use Rattle.std.proofs.lemmas.List.{append-nil}
use Rattle.turn_client_proto_messages.specs.StunProtoClient.Client.{account_key, standing_key}
use Rattle.turn_client_proto_messages.specs.StunProtoClient.Digests.{IsRight}
use Rattle.turn_client_proto_api.specs.declared.event.TurnEvent.{TurnEvent}
use Rattle.turn_client_proto_step_laws.specs.Recv.ClientState.{Protocol}
use Rattle.turn_client_proto_messages.specs.Waiting.{Queued}
use Rattle.turn_client_proto_handshake_laws.specs.Choosing.{Choice, IsAnsweredBy, IsChoice, IsSignedAllocate, signed_request, signed_sent, standing_by}
use Rattle.turn_client_proto_handshake_laws.specs.Coming.{IsUnserved}
use Rattle.turn_client_proto_handshake_laws.specs.Sent.{Beginning}
use Rattle.turn_client_proto_handshake_laws.specs.Stages.{IsSigning, signed_queued}
use Rattle.turn_desk_core.specs.State.{State}
use Rattle.turn_desk_event.specs.declared.answer.Answer.{Answer}
use Rattle.turn_desk_event.specs.declared.answer.Answer.TheVariants as answer
use Rattle.turn_desk_world_laws.specs.World.Model.{World}
use Rattle.turn_desk_progress_laws.specs.Loops.{IsNoneDue, IsSecondRequest, IsTransmissionDue, Timing, arrived, sent_after}
use Rattle.turn_desk_progress_laws.specs.LoopStages.{IsStageOf, IsTransmittedBy, Left, Queues, plan_at}
use Rattle.turn_desk_progress_laws.specs.Promises.{AreApart, event_in}
use Rattle.turn_desk_progress_laws.specs.Scripts.{Plan, Progress}
use Rattle.turn_desk_progress_laws.specs.Standing.{IsOfSettings, IsUnder}
use Rattle.turn_desk_progress_laws.proofs.Clients.{Rests}
use Rattle.turn_desk_progress_laws.proofs.Serving.{of_settings}
use Rattle.turn_desk_progress_laws.proofs.Simulation.{strongest_of_both, together}

-- ---- times

pub never : {A : Type 0} (a b : ℕ) → a < b → b ≤ a → A
never a b less more = absurd (omega (arith, less, more))

pub passes : (a b c : ℕ) → a ≤ b → b ≤ c → a ≤ c
passes a b c one other = omega (arith, one, other)

pub itself : (a : ℕ) → a ≤ a
itself a = omega arith

pub clash : {A : Type 0} (plan : Plan) (made many now : ℕ) → IsTransmissionDue plan made many now → IsNoneDue plan made many now → A
clash plan made many now due none = never _ _ (none due.0) due.1

-- A draw isn't later than itself.
pub sent_sooner : (ret : Answer) (sent now : ℕ) → sent ≤ now → sent_after now ret sent ≤ now
sent_sooner (answer.Transmit message) sent now before = itself now
sent_sooner _ sent now before = before

pub arrived_sooner : (rest : List ℕ) (t : Timing) (now : ℕ) → t.sent ≤ now → (arrived now rest t).sent ≤ now
arrived_sooner [] t now before = before
arrived_sooner (byte ∷ rest) t now before = before

-- ---- where nothing has changed

-- The simulation stays at its position.
pub stays_so : (plan : Plan) (old : World) (reported : List TurnEvent) (progress : Progress) (t : Timing) (ret : Answer) (w v : World) → Rests ret w v → IsStageOf plan old reported progress t w → IsStageOf plan old (reported ++ event_in ret) progress t v
stays_so plan old reported progress t ret w v r is =
    subst (λ (l : List TurnEvent). IsStageOf plan old l progress t v) (sym (ap (λ (e : List TurnEvent). reported ++ e) r.silent ∙ append-nil reported))
    (subst (λ (x : World). IsStageOf plan old reported progress t x) (sym r.same) is)

-- ---- the choice

pub choice_so : (plan : Plan) (c : Choice) (many sent : ℕ) (p : Protocol) → IsTransmittedBy plan c many sent p → IsChoice plan.client c
choice_so plan c many sent p (Left is) = is.choice
choice_so plan c many sent p (Queues due is) = is.choice

-- Nothing is allocated to the client.
pub unserved_so : (plan : Plan) (c : Choice) (many sent : ℕ) (p : Protocol) → IsTransmittedBy plan c many sent p
    → ((b : Beginning) (c : Choice) (many last : ℕ) (queue : List Queued) (p : Protocol) → IsSigning b c many last queue p → IsUnserved b p) → IsUnserved plan.client p
unserved_so plan c many sent p (Left is) so = so plan.client c many sent [] p is
unserved_so plan c many sent p (Queues due is) so = so plan.client c (many + 1) sent (signed_queued plan.client c ∷ []) p is

-- By the times of the choice.
pub due_so : (plan : Plan) (made came many now : ℕ) → made ≡ came → IsTransmissionDue plan came many now → IsTransmissionDue plan made many now
due_so plan made came many now same due = subst (λ (x : ℕ). IsTransmissionDue plan x many now) (sym same) due

pub none_so : (plan : Plan) (made came many now : ℕ) → made ≡ came → IsNoneDue plan came many now → IsNoneDue plan made many now
none_so plan made came many now same none = subst (λ (x : ℕ). IsNoneDue plan x many now) (sym same) none

module _ (plan : Plan) (old : World) (at : ℕ) (choice : Choice) (desk : State) (under : IsUnder (plan_at plan at) old.desk choice.reported desk) (answered : IsAnsweredBy plan.client.config choice.reported choice.algorithm) where
  pub settings_so : IsOfSettings old.desk.auth choice.reported
  settings_so = of_settings (plan_at plan at) old.desk desk choice.reported under

  pub not_apart : AreApart plan.client.config old.desk.auth → ⊥
  not_apart = together plan.client.config old.desk.auth choice.reported settings_so choice.algorithm answered

  pub second_so : IsSignedAllocate plan.client choice → IsSecondRequest plan old (signed_sent plan.client choice)
  second_so signed = record {
    is_own = record { transport = refl; from = refl; to = refl };
    algorithm = choice.algorithm;
    strongest = strongest_of_both plan.client.config old.desk.auth choice.reported settings_so choice.algorithm answered;
    right = subst (λ (r : List ℕ). IsRight (signed_request plan.client choice) (account_key plan.client.config.credentials r choice.algorithm)) settings_so.realm signed.valid;
  }
