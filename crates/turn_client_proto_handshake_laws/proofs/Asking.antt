-- A client that awaits the response to its first request.
use Rattle.std.proofs.Common.{◌≡◌, ℕ, ◌+◌, ◌<◌, ◌≤◌, ◌++◌, map as map_list, Bool, true, false, List, [], ◌∷◌, Option, Some, None, refl, sym, ap, ◌∙◌, subst, ◌⊎◌, inl, inr}
use Rattle.std.specs.Prelude.{◌==◌, ◌||◌, find}
use Rattle.std.specs.Bool.{MatchBool}
use Rattle.std.specs.FinMap as map
use Rattle.std.specs.List.{list_any}
use Rattle.std.proofs.lemmas.Bool.{eq-eqb}
use Rattle.stun_types_base.specs.declared.family.AddressFamily.{AddressFamily}
use Rattle.turn_client_proto_api.specs.declared.answer.TurnPollRet.{TurnPollRet}
use Rattle.turn_client_proto_api.specs.declared.answer.TurnPollRet.TheVariants as answer
use Rattle.turn_client_proto_api.specs.declared.event.TurnEvent.{TurnEvent}
use Rattle.turn_client_proto_api.specs.declared.event.TurnEvent.TheVariants.{AllocationCreateFailed}
use Rattle.turn_client_proto_core.specs.Ending.{HasFailed, ended}
use Rattle.turn_client_proto_timers.specs.Polling.{IsPolled, pace_of}
use Rattle.turn_client_proto_messages.specs.Waiting.{Queued, is_answer}
use Rattle.turn_client_proto_core.specs.declared.protocol.Phase.{Phase}
use Rattle.turn_client_proto_core.specs.declared.protocol.Protocol.{Protocol}
use Rattle.turn_client_proto_timers.specs.Drawing.{IsAnswerSent, IsStarted, IsTransmitted, IsFreshSent, IsNextSent, IsStill, after_sending, is_resting}
use Rattle.turn_client_proto_api.specs.Sent.{Sent}
use Rattle.turn_client_proto_api.specs.StunProtoAgent.Sending.{stored_under}
use Rattle.turn_client_proto_handshake_laws.specs.Requested.{IsDue, IsOnlyRequested, IsPatient, IsQuiet, end_of, sent_of, transaction_of}
use Rattle.turn_client_proto_handshake_laws.specs.Stages.{HasEnded, IsAsking, failures, first_requested}
use Rattle.turn_client_proto_handshake_laws.proofs.Only.{IsSentAgain, either, none_left, sent_again, sent_fresh}
use Rattle.turn_client_proto_handshake_laws.proofs.Polls.{awaits, closes, patient}
use Rattle.turn_client_proto_handshake_laws.specs.Sent.{Beginning, first_number}

module _ (b : Beginning) (many last : ℕ) (p : Protocol) (w : IsAsking b many last p) where
  -- If a transmission is due, it transmits the first request again.
  again_after : (now : ℕ) → IsOnlyRequested b (first_requested b) (many + 1) (stored_under p.agent (first_number b) (transaction_of b (first_requested b) (many + 1)))
      → IsAsking b (many + 1) now (after_sending now (record p { agent = stored_under p.agent (first_number b) (transaction_of b (first_requested b) (many + 1)) }))
  again_after now only = record {
    settings = record {
      server = w.settings.server;
      remote = w.settings.remote;
      transport = w.settings.transport;
      here = w.settings.here;
      waits = w.settings.waits;
      allocates = w.settings.allocates;
      families = w.settings.families;
      options = w.settings.options;
      pace = w.settings.pace;
      indications = w.settings.indications;
      usual = w.settings.usual;
    };
    requested = only;
    phase = w.phase;
    auth = w.auth;
    allocations = w.allocations;
    queue = w.queue;
    last_send = refl;
    events = w.events;
    closing = w.closing;
    resends = w.resends;
  }

  pub asking_again : (now : ℕ) (sent : Option Sent) (q : Protocol) → IsDue b (first_requested b) many now → IsTransmitted p now sent q
      → (sent ≡ Some (sent_of b (first_requested b))) × IsAsking b (many + 1) now q
  asking_again now sent q due is =
      let s : IsSentAgain b (first_requested b) many p w.settings w.requested now sent q = sent_again b (first_requested b) many p w.settings w.requested now sent q due is in
      (s.sent_is, subst (λ (x : Protocol). IsAsking b (many + 1) now x) (sym s.after) (again_after now s.is_requested))

  -- Otherwise it transmits nothing.
  nothing_fresh : (now : ℕ) (sent : Option Sent) (q : Protocol) → IsFreshSent p now sent q → IsStill p sent q
  nothing_fresh now sent q is =
      either (IsStill p sent q) (is_resting (pace_of p) p.last_send now)
      (subst (λ (f : Phase). MatchBool (is_resting (pace_of p) p.last_send now) (IsStill p sent q) (IsStarted f p now sent q)) w.phase
      (subst (λ (l : List Queued). MatchBool (is_resting (pace_of p) p.last_send now) (IsAnswerSent (find is_answer l) p sent q) (IsNextSent l p now sent q)) w.queue is))

  pub asking_still : (now : ℕ) (sent : Option Sent) (q : Protocol) → IsQuiet b (first_requested b) many now → IsTransmitted p now sent q → (sent ≡ None) × (q ≡ p)
  asking_still now sent q quiet is = nothing_fresh now sent q (sent_fresh b (first_requested b) many p w.settings w.requested now sent q quiet is)

  -- ---- it is polled

  unanswered : list_any is_answer p.queue ≡ false
  unanswered = ap (list_any is_answer) w.queue

  pub asking_waits : (now : ℕ) (ret : TurnPollRet) (q : Protocol) → now < end_of b (first_requested b) → IsPolled p now ret q → IsPatient b (first_requested b) many None now p ret q
  asking_waits now ret q before is =
      patient p now ret q b (first_requested b) many w.settings w.requested (first_number b ∷ []) (inl w.phase) w.events unanswered w.queue
      (awaits p now ret q b (first_requested b) many w.settings w.requested (first_number b ∷ []) (inl w.phase) w.events unanswered before is)

  -- A client that has ended because no response came.
  ended_so : HasEnded b (failures b) (ended (record p { agent = record p.agent { outstanding = map.remove p.agent.outstanding (first_number b) } }))
  unfolding ended
  ended_so = record {
    settings = record {
      server = w.settings.server;
      remote = w.settings.remote;
      transport = w.settings.transport;
      here = w.settings.here;
      waits = w.settings.waits;
      allocates = w.settings.allocates;
      families = w.settings.families;
      options = w.settings.options;
      pace = w.settings.pace;
      indications = w.settings.indications;
      usual = w.settings.usual;
    };
    none_requested = none_left b (first_requested b) many p w.settings w.requested;
    phase = refl;
    allocations = w.allocations;
    queue = w.queue;
    events_are = ap (λ (l : List TurnEvent). l ++ map_list AllocationCreateFailed p.families) w.events
        ∙ ap (λ (l : List AddressFamily). map_list AllocationCreateFailed l) w.settings.families;
  }

  pub asking_ends : (now : ℕ) (ret : TurnPollRet) (q : Protocol) → end_of b (first_requested b) ≤ now → IsPolled p now ret q
      → ((ret ≡ answer.Closed) × HasEnded b (failures b) q) ⊎ ((ret ≡ answer.NoMemory) × HasFailed p q)
  asking_ends now ret q reached is =
      let among : ((first_number b == first_number b) || false) ≡ true = ap (λ (x : Bool). x || false) (eq-eqb (first_number b) (first_number b) refl) in
      elim (closes p now ret q b (first_requested b) many w.settings w.requested (first_number b ∷ []) (inl w.phase) w.events unanswered among reached is) [
        | inl c ↦ inl (c.closed, subst (λ (x : Protocol). HasEnded b (failures b) x) (sym c.after) ended_so)
        | inr failed ↦ inr failed
      ]
