use Rattle.std.proofs.Common.{◌≡◌, ◌++◌, ℕ, List, [], refl, sym, subst}
use Rattle.turn_client_proto_api.specs.declared.event.TurnEvent.{TurnEvent}
use Rattle.turn_client_proto_handshake_laws.specs.Coming.{IsPartOf}
use Rattle.turn_client_proto_handshake_laws.specs.Sent.{HasRoom, IsUsual, Sending}
use Rattle.turn_desk_event.specs.declared.answer.Answer.{Answer}
use Rattle.turn_desk_event.specs.declared.event.ClientCall.TheVariants as call
use Rattle.turn_desk_event.specs.declared.event.Event.{Event}
use Rattle.turn_desk_event.specs.declared.event.Event.TheVariants.{Call, ToClient, ToDesk}
use Rattle.turn_desk_world_laws.specs.World.Model.{World}
use Rattle.turn_desk_world_laws.specs.World.Runs.{IsStep}
use Rattle.turn_desk_progress_laws.specs.Loops.{Timing}
use Rattle.turn_desk_progress_laws.specs.Promises.{event_in}
use Rattle.turn_desk_progress_laws.specs.Scripts.{Plan}
use Rattle.turn_desk_laws.specs.Unanswered.{Brings, Draws, Garbles, Goes, HasSent, Looks, Outstanding, Polls, Position, Receives, RequestState, Serves, Strays, TimesOut, sending_of}
use Rattle.turn_desk_laws.specs.UnansweredStages.{IsAtPosition, IsStageOf}
use Rattle.turn_desk_laws.proofs.UnansweredStaying.{sent_same}
use Rattle.turn_desk_laws.proofs.unanswered.unanswered_events_lead_on.Goals as goal

module _ (c : goal.After-unanswered_clients_ignore) (plan : Plan) (w v : World) (reported : List TurnEvent) (sendings : List Sending) (room : HasRoom plan.client.config) (usual : IsUsual plan.client.config) (position next : Position) (event : Event) (ret : Answer) (is : IsAtPosition plan reported sendings position w) where
  abbrev t : Timing
  t = position.timing

  abbrev After : Position → Event → Type 0
  After to happening = IsAtPosition plan (reported ++ event_in ret) (sendings ++ sending_of happening ret) to v

  -- With the event and the next position as a constructor has them.
  as_said : (happening : Event) (to : Position) → event ≡ happening → next ≡ to → (IsStep happening w ret v → After to happening) → IsStep event w ret v → After next event
  as_said happening to one two so step =
      let s = so (subst (λ (e : Event). IsStep e w ret v) one step) in
      subst (λ (n : Position). After n event) (sym two) (subst (λ (e : Event). After to e) (sym one) s)

  -- Nothing is transmitted.
  untransmitted : (happening : Event) → sending_of happening ret ≡ [] → HasSent plan t (sendings ++ sending_of happening ret)
  untransmitted happening none = sent_same plan t sendings (sending_of happening ret) none is.sent

  -- The request is as before, and no other bytes are buffered.
  stays : (happening : Event) → sending_of happening ret ≡ [] → IsStageOf plan (reported ++ event_in ret) position.request t position.buffered v → After position happening
  stays happening none stage = record { message = is.message; part = is.part; sent = untransmitted happening none; stage = stage }

  one : Goes plan position event ret next → IsStep event w ret v → After next event
  one (Draws now may early is_event to) = as_said _ _ is_event to (λ step. record {
    message = is.message;
    part = is.part;
    sent = c.unanswered_clients_ask_again.ensures.sends plan w v reported sendings position.request t position.buffered now ret room usual is.stage may early step is.sent;
    stage = (c.unanswered_clients_ask_again.ensures.asks plan w v reported position.request t position.buffered now ret room usual is.stage may early step).0;
  })
  one (Polls now before early is_event to) = as_said _ _ is_event to (λ step. stays (Call call.Poll now) refl (c.unanswered_clients_time_out.ensures.waits plan w v reported position.request t position.buffered now ret is.stage before early step))
  one (TimesOut now at over early is_event to) = as_said _ _ is_event to (λ step. record {
    message = is.message;
    part = is.part;
    sent = untransmitted (Call call.Poll now) refl;
    stage = c.unanswered_clients_time_out.ensures.ends plan w v reported t position.buffered now ret (subst (λ (r : RequestState). IsStageOf plan reported r t position.buffered w) at is.stage) over early step;
  })
  one (Looks what now look is_event to) = as_said _ _ is_event to (λ step. stays (Call what now) refl (c.unanswered_clients_stay.ensures.looks plan w v reported position.request t position.buffered what now ret is.stage look step))
  one (Receives now is_event to) = as_said _ _ is_event to (λ step. stays (Call call.PollRecv now) refl (c.unanswered_clients_stay.ensures.receives plan w v reported position.request t position.buffered is.message now ret is.stage is.part step))
  one (Serves bytes from now decision seed is_event to) =
      as_said _ _ is_event to (λ step. stays (ToDesk bytes from now decision seed) refl (c.unanswered_clients_stay.ensures.serves plan w v reported position.request t position.buffered bytes from now decision seed ret is.stage step))
  one (Strays bytes from far now elsewhere is_event to) =
      as_said _ _ is_event to (λ step. stays (ToClient bytes from far now) refl (c.unanswered_clients_ignore.ensures.strays plan w v reported position.request t position.buffered bytes from far now ret is.stage elsewhere step))
  one (Garbles bytes from far now udp none is_event to) =
      as_said _ _ is_event to (λ step. stays (ToClient bytes from far now) refl (c.unanswered_clients_ignore.ensures.garbles plan w v reported position.request t position.buffered bytes from far now ret is.stage udp none step))
  one (Brings message rest bytes now whole may on early is_event to) = as_said _ _ is_event to (λ step.
      let s = c.unanswered_clients_ignore.ensures.brings plan w v reported position.request t position.buffered message rest bytes now ret is.stage whole may on early step in
      record { message = s.1.0; part = s.1.1; sent = untransmitted (ToClient bytes plan.client.server plan.client.here now) refl; stage = s.0 })

pub returns : goal.returns
returns c = λ plan w v reported sendings position next event ret room usual goes is step. one c plan w v reported sendings room usual position next event ret is goes step
