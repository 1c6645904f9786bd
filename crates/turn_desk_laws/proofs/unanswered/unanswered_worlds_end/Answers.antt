use Rattle.std.proofs.Common.{◌≡◌, ◌++◌, ◌≤◌, ℕ, arith, List, [], ◌∷◌, refl, sym, ap, ◌∙◌, subst, append_assoc}
use Rattle.std.proofs.lemmas.List.{append-nil}
use Rattle.turn_client_proto_api.specs.declared.event.TurnEvent.{TurnEvent}
use Rattle.turn_client_proto_messages.specs.Judging.{signer_of}
use Rattle.turn_client_proto_messages.specs.declared.request.TurnRequest.TheVariants.{FirstAllocate}
use Rattle.turn_client_proto_handshake_laws.specs.Coming.{IsPartOf}
use Rattle.turn_client_proto_handshake_laws.specs.Sent.{Sending, first_number, first_request}
use Rattle.turn_desk_event.specs.declared.answer.Answer.{Answer}
use Rattle.turn_desk_event.specs.declared.event.Event.{Event}
use Rattle.turn_desk_world_laws.specs.World.Model.{World}
use Rattle.turn_desk_world_laws.specs.World.Runs.{IsRun}
use Rattle.turn_desk_progress_laws.specs.Loops.{Timing}
use Rattle.turn_desk_progress_laws.specs.Promises.{event_in, events_in}
use Rattle.turn_desk_progress_laws.specs.Scripts.{Plan}
use Rattle.turn_desk_progress_laws.proofs.Coming.{none_yet}
use Rattle.turn_desk_progress_laws.proofs.Indexes.{first_fits}
use Rattle.turn_desk_laws.specs.Unanswered.{AreNotEarly, HasNewClient, HasReported, HasSent, IsUnanswered, Outstanding, Position, RequestState, TimedOut, Unmade, begin, sending_of, sendings_in}
use Rattle.turn_desk_laws.specs.UnansweredStages.{IsAtPosition, IsStageOf}
use Rattle.turn_desk_laws.proofs.unanswered.unanswered_worlds_end.Goals as goal

module _ (c : goal.After-unanswered_clients_time_out) (plan : Plan) (old : World) (fresh : HasNewClient plan old) where
  -- ---- all of them

  all : (w new : World) (reported : List TurnEvent) (sendings : List Sending) (position last : Position) (pairs : List (Event × Answer)) → IsAtPosition plan reported sendings position w → IsRun w pairs new → IsUnanswered plan position pairs last
      → IsAtPosition plan (reported ++ events_in pairs) (sendings ++ sendings_in pairs) last new
  unfolding IsRun IsUnanswered
  all w new reported sendings position last [] occurs run is =
      subst (λ (l : List TurnEvent). IsAtPosition plan l (sendings ++ []) last new) (sym (append-nil reported))
      (subst (λ (l : List Sending). IsAtPosition plan reported l last new) (sym (append-nil sendings))
      (subst (λ (p : Position). IsAtPosition plan reported sendings p new) (sym is) (subst (λ (x : World). IsAtPosition plan reported sendings position x) (sym run) occurs)))
  all w new reported sendings position last (pair ∷ pairs) occurs run is =
      let following = c.unanswered_events_lead_on.ensures plan w run.0 reported sendings position is.0 pair.0 pair.1 fresh.room fresh.usual is.1 occurs run.1 in
      let sent : (sendings ++ sending_of pair.0 pair.1) ++ sendings_in pairs ≡ sendings ++ sendings_in (pair ∷ pairs) = append_assoc sendings (sending_of pair.0 pair.1) (sendings_in pairs) in
      subst (λ (l : List Sending). IsAtPosition plan (reported ++ events_in (pair ∷ pairs)) l last new) sent
      (subst (λ (l : List TurnEvent). IsAtPosition plan l ((sendings ++ sending_of pair.0 pair.1) ++ sendings_in pairs) last new) (append_assoc reported (event_in pair.1) (events_in pairs))
      (all run.0 new (reported ++ event_in pair.1) (sendings ++ sending_of pair.0 pair.1) is.0 last pairs following run.2 is.2))

  started : IsPartOf [] (first_request plan.client)
  started = none_yet (first_request plan.client)
      (c.proof_requests_are_read.ensures.message (signer_of plan.client.config) (FirstAllocate plan.client.config.transport plan.client.config.families plan.client.config.options) (first_number plan.client)
      (c.new_clients_ask.ensures.short plan.client fresh.room) fresh.room.1 (first_fits plan.client))

  none_sent : HasSent plan begin.timing []
  unfolding AreNotEarly
  none_sent = record { times = []; sent = refl; many = refl; most = omega arith; slots = tt }

  at_start : IsAtPosition plan [] [] begin old
  at_start = record {
    message = first_request plan.client;
    part = started;
    sent = none_sent;
    stage = record { untold = refl; none_sent = refl; client = fresh.client };
  }

  pub occurs : (new : World) (pairs : List (Event × Answer)) (position : Position) → IsRun old pairs new → IsUnanswered plan begin pairs position → IsAtPosition plan (events_in pairs) (sendings_in pairs) position new
  occurs new pairs position run is = all old new [] [] begin position pairs at_start run is

  reported_at : (reported : List TurnEvent) (new : World) (request : RequestState) (t : Timing) (buffered : List ℕ) → IsStageOf plan reported request t buffered new → HasReported plan reported request buffered new
  reported_at reported new Unmade t buffered is = is.untold
  reported_at reported new Outstanding t buffered is = is.untold
  reported_at reported new TimedOut t buffered is = is

pub returns-clause-draws : goal.returns-clause-draws
returns-clause-draws c = λ plan old w v pairs position now ret fresh run is may early step.
    let o = occurs c plan old fresh w pairs position run is in
    (c.unanswered_clients_ask_again.ensures.asks plan w v (events_in pairs) position.request position.timing position.buffered now ret fresh.room fresh.usual o.stage may early step).1

pub returns-clause-sent : goal.returns-clause-sent
returns-clause-sent c = λ plan old new pairs position fresh run is. (occurs c plan old fresh new pairs position run is).sent

pub returns-clause-polls : goal.returns-clause-polls
returns-clause-polls c = λ plan old w v pairs position now ret fresh run is early step.
    let o = occurs c plan old fresh w pairs position run is in
    c.unanswered_clients_time_out.ensures.gives plan w v (events_in pairs) position.request position.timing position.buffered now ret o.stage early step

pub returns-clause-reported : goal.returns-clause-reported
returns-clause-reported c = λ plan old new pairs position fresh run is.
    let o = occurs c plan old fresh new pairs position run is in reported_at c plan old fresh (events_in pairs) new position.request position.timing position.buffered o.stage

pub returns-clause-occurs : goal.returns-clause-occurs
returns-clause-occurs c = λ plan old new pairs position fresh run is. occurs c plan old fresh new pairs position run is

pub returns-clause-premises : goal.returns-clause-premises
returns-clause-premises c = λ plan old may. record { client = may.client; room = may.room; usual = may.usual }
