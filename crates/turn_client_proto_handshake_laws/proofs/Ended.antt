-- A client that has ended.
use Rattle.std.proofs.Common.{◌≡◌, ℕ, ◌++◌, Bool, false, List, [], ◌∷◌, Option, None, refl, sym, ap, ◌∙◌, subst, inl, inr}
use Rattle.std.specs.Prelude.{find, option_to_list}
use Rattle.std.specs.Bool.{MatchBool}
use Rattle.std.specs.List.{list_any}
use Rattle.turn_client_proto_api.specs.StunProtoAgent.State as agents
use Rattle.turn_client_proto_api.specs.declared.answer.TurnPollRet.{TurnPollRet}
use Rattle.turn_client_proto_api.specs.declared.answer.TurnPollRet.TheVariants as answer
use Rattle.turn_client_proto_api.specs.declared.event.TurnEvent.{TurnEvent}
use Rattle.turn_client_proto_core.specs.Outcomes.{IsIgnored}
use Rattle.turn_client_proto_core.specs.Receiving.{IsProcessed, IsProcessedIn, is_unawaited}
use Rattle.turn_client_proto_messages.specs.Waiting.{Queued, is_answer}
use Rattle.turn_client_proto_core.specs.declared.protocol.Phase.{Phase}
use Rattle.turn_client_proto_core.specs.declared.protocol.Protocol.{Protocol}
use Rattle.turn_client_proto_timers.specs.Drawing.{Again, Fresh, IsAnswerSent, IsStarted, IsTransmitted, IsNextSent, IsStill, is_resting}
use Rattle.turn_client_proto_api.specs.Sent.{Sent}
use Rattle.turn_client_proto_timers.specs.Polling.{HasToReportIn, IsPolled, IsPolledBy, IsPolledIn, ended_of, pace_of, wait_of}
use Rattle.turn_client_proto_handshake_laws.specs.Stages.{HasEnded, answer_at_end}
use Rattle.turn_client_proto_handshake_laws.proofs.Only.{either}
use Rattle.turn_client_proto_handshake_laws.proofs.Polls.{idles, is_ticked, pause, refused_or}
use Rattle.turn_client_proto_handshake_laws.specs.Driving.{IsEventTaken}
use Rattle.turn_client_proto_handshake_laws.specs.Sent.{Beginning}

module _ (b : Beginning) (events : List TurnEvent) (p : Protocol) (w : HasEnded b events p) where
  -- It transmits nothing.
  pub ended_still : (now : ℕ) (sent : Option Sent) (q : Protocol) → IsTransmitted p now sent q → (sent ≡ None) × (q ≡ p)
  ended_still now sent q (Again one is r) = absurd (Prim.cc (sym (w.none_requested r.number) ∙ r.least.present))
  ended_still now sent q (Fresh none is) =
      either (IsStill p sent q) (is_resting (pace_of p) p.last_send now)
      (subst (λ (f : Phase). MatchBool (is_resting (pace_of p) p.last_send now) (IsStill p sent q) (IsStarted f p now sent q)) w.phase
      (subst (λ (l : List Queued). MatchBool (is_resting (pace_of p) p.last_send now) (IsAnswerSent (find is_answer l) p sent q) (IsNextSent l p now sent q)) w.queue is))

  -- No message is for it.
  pub ended_deaf : (bytes : List ℕ) (now : ℕ) (handled : Bool) (q : Protocol) → IsProcessed p bytes now handled q → (handled ≡ false) × (q ≡ p)
  ended_deaf bytes now handled q is =
      either ((handled ≡ false) × (q ≡ p)) (is_unawaited p bytes)
      (subst (λ (f : Phase). MatchBool (is_unawaited p bytes) (IsIgnored p handled q) (IsProcessedIn f p bytes now handled q)) w.phase is)

  -- Its events are taken in order.
  pub ended_reports : (event : Option TurnEvent) (q : Protocol) → IsEventTaken p event q → (left : List TurnEvent) × (events ≡ option_to_list event ++ left) × HasEnded b left q
  ended_reports event q is = (
    q.events,
    sym w.events_are ∙ is.first,
    subst (λ (x : Protocol). HasEnded b q.events x) (sym is.others) (record {
      settings = record {
        server = w.settings.server;
        remote = w.settings.remote;
        transport = w.settings.transport;
        here = w.settings.here;
        waits = w.settings.waits;
        allocates = w.settings.allocates;
        families = w.settings.families;
        options = w.settings.options;
        pace = w.settings.pace;
        indications = w.settings.indications;
        usual = w.settings.usual;
      };
      none_requested = w.none_requested;
      phase = w.phase;
      allocations = w.allocations;
      queue = w.queue;
      events_are = refl;
    }),
  )

  module _ (now : ℕ) (ret : TurnPollRet) (q : Protocol) where
    -- No event is queued: it is closed.
    closed : p.events ≡ [] → IsPolledBy p.events p now ret q → (ret ≡ answer.Closed) × (q ≡ p)
    closed silent is =
        let k = is_ticked p now ret q silent (ap (list_any is_answer) w.queue) is in
        let idle = idles p now ret q w.none_requested k.ticked k.agent k.is_ticked in
        let here = subst (λ (f : Phase). IsPolledIn f (ended_of k.ticked) (wait_of (pause p now ret q) k.ticked) (record p { agent = k.agent }) now ret q) w.phase k.outcome in
        (here.0, here.1 ∙ ap (λ (y : agents.Agent). record p { agent = y }) idle.unchanged)

    answers : (some : List TurnEvent) → p.events ≡ some → IsPolledBy p.events p now ret q → (ret ≡ answer_at_end some now) × (q ≡ p)
    answers [] none is = closed none is
    answers (e ∷ others) one is = subst (λ (l : List TurnEvent). IsPolledBy l p now ret q) one is

    pub ended_answers : IsPolled p now ret q → (ret ≡ answer_at_end events now) × (q ≡ p)
    ended_answers polled = elim (refused_or p now ret q polled) [
      | inl by ↦ answers events w.events_are by
      | inr refused ↦ (let k = refused.1.has_to_report in
          absurd (subst (λ (f : Phase). HasToReportIn f (ended_of k.ticked) (record p { agent = k.agent }) now) w.phase k.decodes))
    ]
