-- A client that answered a challenge: what it transmits and what its calls return, by the contracts of
-- `poll_transmit` and `poll` alone.
use Rattle.std.proofs.Common.{◌≡◌, ℕ, ◌+◌, ◌<◌, ◌≤◌, ◌++◌, map as map_list, Bool, true, false, List, [], ◌∷◌, Option, Some, None, refl, sym, ap, ◌∙◌, subst, ◌⊎◌, inl, inr}
use Rattle.std.specs.Prelude.{◌==◌, ◌||◌, find}
use Rattle.std.specs.Bool.{MatchBool}
use Rattle.std.specs.FinMap as map
use Rattle.std.specs.List.{list_any}
use Rattle.std.proofs.lemmas.Bool.{eq-eqb, le-ltb, lt-ltb}
use Rattle.turn_client_proto_api.specs.Options.{cadence}
use Rattle.stun_types_base.specs.declared.family.AddressFamily.{AddressFamily}
use Rattle.stun_types_base.specs.Times.{time_after}
use Rattle.turn_client_proto_api.specs.StunProtoAgent.Sending.{stored_under}
use Rattle.turn_client_proto_api.specs.declared.answer.TurnPollRet.{TurnPollRet}
use Rattle.turn_client_proto_api.specs.declared.answer.TurnPollRet.TheVariants as answer
use Rattle.turn_client_proto_api.specs.declared.event.TurnEvent.{TurnEvent}
use Rattle.turn_client_proto_api.specs.declared.event.TurnEvent.TheVariants.{AllocationCreateFailed}
use Rattle.turn_client_proto_core.specs.Ending.{HasFailed, ended}
use Rattle.turn_client_proto_messages.specs.Waiting.{Queued, is_answer}
use Rattle.turn_client_proto_core.specs.declared.protocol.Phase.{Phase}
use Rattle.turn_client_proto_core.specs.declared.protocol.Protocol.{Protocol}
use Rattle.turn_client_proto_timers.specs.Drawing.{IsAnswerSent, IsStarted, IsTransmitted, IsNextSent, IsQueuedSent, IsStill, after_sending, is_resting}
use Rattle.turn_client_proto_api.specs.Sent.{Sent}
use Rattle.turn_client_proto_timers.specs.Polling.{IsPolled, pace_of}
use Rattle.turn_client_proto_handshake_laws.specs.Requested.{IsDue, IsOnlyRequested, IsPatient, IsQuiet, end_of, transaction_of}
use Rattle.turn_client_proto_handshake_laws.specs.Choosing.{Choice, signed_requested, signed_sent}
use Rattle.turn_client_proto_handshake_laws.specs.Stages.{HasChosen, HasEnded, HasSigned, IsSigning, failures, signed_queued}
use Rattle.turn_client_proto_handshake_laws.proofs.First.{sends_one}
use Rattle.turn_client_proto_handshake_laws.proofs.Only.{due_or_quiet, IsSentAgain, either, none_left, sent_again, sent_fresh, where_false, where_true}
use Rattle.turn_client_proto_handshake_laws.proofs.Polls.{patient, patient_for, IsAwaiting, awaits, closes}
use Rattle.turn_client_proto_handshake_laws.specs.Sent.{Beginning, first_number}

module _ (b : Beginning) (c : Choice) (many last : ℕ) (queue : List Queued) (p : Protocol) (w : IsSigning b c many last queue p) where
  -- ---- it is transmitted

  again_after : (now : ℕ) → IsOnlyRequested b (signed_requested b c) (many + 1) (stored_under p.agent c.number (transaction_of b (signed_requested b c) (many + 1)))
      → IsSigning b c (many + 1) now queue (after_sending now (record p { agent = stored_under p.agent c.number (transaction_of b (signed_requested b c) (many + 1)) }))
  again_after now only = record {
    settings = record {
      server = w.settings.server;
      remote = w.settings.remote;
      transport = w.settings.transport;
      here = w.settings.here;
      waits = w.settings.waits;
      allocates = w.settings.allocates;
      families = w.settings.families;
      options = w.settings.options;
      pace = w.settings.pace;
      indications = w.settings.indications;
      usual = w.settings.usual;
    };
    choice = w.choice;
    requested = only;
    phase = w.phase;
    auth = w.auth;
    allocations = w.allocations;
    queue_is = w.queue_is;
    last_send = refl;
    events = w.events;
    closing = w.closing;
    resends = w.resends;
  }

  -- If a transmission of the signed request is due, it is transmitted at once.
  pub signing_again : (now : ℕ) (sent : Option Sent) (q : Protocol) → IsDue b (signed_requested b c) many now → IsTransmitted p now sent q
      → (sent ≡ Some (signed_sent b c)) × IsSigning b c (many + 1) now queue q
  signing_again now sent q due is =
      let s : IsSentAgain b (signed_requested b c) many p w.settings w.requested now sent q = sent_again b (signed_requested b c) many p w.settings w.requested now sent q due is in
      (s.sent_is, subst (λ (x : Protocol). IsSigning b c (many + 1) now queue x) (sym s.after) (again_after now s.is_requested))

  fresh : (now : ℕ) (sent : Option Sent) (q : Protocol) → IsQuiet b (signed_requested b c) many now → IsTransmitted p now sent q
      → MatchBool (is_resting (pace_of p) p.last_send now) (IsAnswerSent (find is_answer queue) p sent q) (IsNextSent queue p now sent q)
  fresh now sent q quiet is =
      subst (λ (l : List Queued). MatchBool (is_resting (pace_of p) p.last_send now) (IsAnswerSent (find is_answer l) p sent q) (IsNextSent l p now sent q)) w.queue_is
      (sent_fresh b (signed_requested b c) many p w.settings w.requested now sent q quiet is)

  -- ---- it is polled

  among : ((first_number b == c.number) || ((c.number == c.number) || false)) ≡ true
  among = ap (λ (x : Bool). (first_number b == c.number) || (x || false)) (eq-eqb c.number c.number refl) ∙ any (first_number b == c.number)
    where
      any : (x : Bool) → (x || (true || false)) ≡ true
      any true = refl
      any false = refl

  module _ (unanswered : list_any is_answer queue ≡ false) where
    pub none_answers : list_any is_answer p.queue ≡ false
    none_answers = ap (list_any is_answer) w.queue_is ∙ unanswered

    pub signing_waits : (now : ℕ) (ret : TurnPollRet) (q : Protocol) → now < end_of b (signed_requested b c) → IsPolled p now ret q
        → IsAwaiting p now ret q b (signed_requested b c) many w.settings w.requested (first_number b ∷ c.number ∷ []) (inr w.phase) w.events none_answers
    signing_waits now ret q before is =
        awaits p now ret q b (signed_requested b c) many w.settings w.requested (first_number b ∷ c.number ∷ []) (inr w.phase) w.events none_answers before is

-- ---- the signed request waits to be transmitted

module _ (b : Beginning) (c : Choice) (many last : ℕ) (p : Protocol) (w : HasChosen b c many last p) where
  -- For the client's pace after the last message nothing is transmitted.
  pub chosen_rests : (now : ℕ) (sent : Option Sent) (q : Protocol) → IsQuiet b (signed_requested b c) many now → now < time_after last cadence → IsTransmitted p now sent q
      → (sent ≡ None) × (q ≡ p)
  chosen_rests now sent q quiet early is =
      let resting : is_resting (pace_of p) p.last_send now ≡ true = ap (λ (l : Option ℕ). is_resting (pace_of p) l now) w.last_send ∙ (ap (λ (n : ℕ). is_resting n (Some last) now) (w.settings.pace ∙ w.settings.usual.pace) ∙ lt-ltb now (time_after last cadence) early) in
      where_true (IsStill p sent q) (IsNextSent (signed_queued b c ∷ []) p now sent q) (is_resting (pace_of p) p.last_send now) resting
      (fresh b c many last (signed_queued b c ∷ []) p w now sent q quiet is)

  signed_after : (now : ℕ) → HasSigned b c many now (after_sending now (record p { queue = [] }))
  signed_after now = record {
    settings = record {
      server = w.settings.server;
      remote = w.settings.remote;
      transport = w.settings.transport;
      here = w.settings.here;
      waits = w.settings.waits;
      allocates = w.settings.allocates;
      families = w.settings.families;
      options = w.settings.options;
      pace = w.settings.pace;
      indications = w.settings.indications;
      usual = w.settings.usual;
    };
    choice = w.choice;
    requested = w.requested;
    phase = w.phase;
    auth = w.auth;
    allocations = w.allocations;
    queue_is = refl;
    last_send = refl;
    events = w.events;
    closing = w.closing;
    resends = w.resends;
  }

  -- Then that request is transmitted.
  pub chosen_signs : (now : ℕ) (sent : Option Sent) (q : Protocol) → IsQuiet b (signed_requested b c) many now → time_after last cadence ≤ now → IsTransmitted p now sent q
      → (sent ≡ Some (signed_sent b c)) × HasSigned b c many now q
  chosen_signs now sent q quiet late is =
      let awake : is_resting (pace_of p) p.last_send now ≡ false = ap (λ (l : Option ℕ). is_resting (pace_of p) l now) w.last_send ∙ (ap (λ (n : ℕ). is_resting n (Some last) now) (w.settings.pace ∙ w.settings.usual.pace) ∙ le-ltb now (time_after last cadence) late) in
      let next = where_false (IsStill p sent q) (IsNextSent (signed_queued b c ∷ []) p now sent q) (is_resting (pace_of p) p.last_send now) awake
      (fresh b c many last (signed_queued b c ∷ []) p w now sent q quiet is) in
      let one = sends_one sent (λ (x : Sent). IsQueuedSent p now (signed_queued b c) [] x q) next in (
        one.1 ∙ ap Some (one.2.is_sent ∙ Prim.cc (w.settings.transport, w.settings.server)),
        subst (λ (x : Protocol). HasSigned b c many now x) (sym one.2.after) (signed_after now),
      )

  pub chosen_waits : (now : ℕ) (ret : TurnPollRet) (q : Protocol) → now < end_of b (signed_requested b c) → IsPolled p now ret q
      → IsPatient b (signed_requested b c) many (Some (time_after last cadence)) now p ret q
  chosen_waits now ret q before is =
      let none : list_any is_answer p.queue ≡ false = none_answers b c many last (signed_queued b c ∷ []) p w refl in
      patient_for p now ret q b (signed_requested b c) many w.settings w.requested (first_number b ∷ c.number ∷ []) (inr w.phase) w.events none
      (signed_queued b c) last w.queue_is w.last_send (signing_waits b c many last (signed_queued b c ∷ []) p w refl now ret q before is)

-- From then on it is transmitted, whatever the waits are.
pub chosen_late : (b : Beginning) (c : Choice) (many last : ℕ) (p : Protocol) → HasChosen b c many last p → (now : ℕ) (sent : Option Sent) (q : Protocol) → time_after last cadence ≤ now → IsTransmitted p now sent q
    → (sent ≡ Some (signed_sent b c)) × (used : ℕ) × (queue : List Queued) × IsSigning b c used now queue q
chosen_late b c many last p w now sent q late is = elim (due_or_quiet b (signed_requested b c) many now) [
  | inl due ↦ (let again = signing_again b c many last (signed_queued b c ∷ []) p w now sent q due is in (again.0, many + 1, signed_queued b c ∷ [], again.1))
  | inr quiet ↦ (let signs = chosen_signs b c many last p w now sent q quiet late is in (signs.0, many, [], signs.1))
]

-- ---- it was transmitted

module _ (b : Beginning) (c : Choice) (many last : ℕ) (p : Protocol) (w : HasSigned b c many last p) where
  -- Nothing more is transmitted until it is due again.
  pub signed_still : (now : ℕ) (sent : Option Sent) (q : Protocol) → IsQuiet b (signed_requested b c) many now → IsTransmitted p now sent q → (sent ≡ None) × (q ≡ p)
  signed_still now sent q quiet is =
      either (IsStill p sent q) (is_resting (pace_of p) p.last_send now)
      (subst (λ (f : Phase). MatchBool (is_resting (pace_of p) p.last_send now) (IsStill p sent q) (IsStarted f p now sent q)) w.phase
      (fresh b c many last [] p w now sent q quiet is))

  pub signed_waits : (now : ℕ) (ret : TurnPollRet) (q : Protocol) → now < end_of b (signed_requested b c) → IsPolled p now ret q → IsPatient b (signed_requested b c) many None now p ret q
  signed_waits now ret q before is =
      let none : list_any is_answer p.queue ≡ false = none_answers b c many last [] p w refl in
      patient p now ret q b (signed_requested b c) many w.settings w.requested (first_number b ∷ c.number ∷ []) (inr w.phase) w.events none
      w.queue_is (signing_waits b c many last [] p w refl now ret q before is)

  ended_so : HasEnded b (failures b) (ended (record p { agent = record p.agent { outstanding = map.remove p.agent.outstanding c.number } }))
  unfolding ended
  ended_so = record {
    settings = record {
      server = w.settings.server;
      remote = w.settings.remote;
      transport = w.settings.transport;
      here = w.settings.here;
      waits = w.settings.waits;
      allocates = w.settings.allocates;
      families = w.settings.families;
      options = w.settings.options;
      pace = w.settings.pace;
      indications = w.settings.indications;
      usual = w.settings.usual;
    };
    none_requested = none_left b (signed_requested b c) many p w.settings w.requested;
    phase = refl;
    allocations = w.allocations;
    queue = w.queue_is;
    events_are = ap (λ (l : List TurnEvent). l ++ map_list AllocationCreateFailed p.families) w.events
        ∙ ap (λ (l : List AddressFamily). map_list AllocationCreateFailed l) w.settings.families;
  }

  pub signed_ends : (now : ℕ) (ret : TurnPollRet) (q : Protocol) → end_of b (signed_requested b c) ≤ now → IsPolled p now ret q
      → ((ret ≡ answer.Closed) × HasEnded b (failures b) q) ⊎ ((ret ≡ answer.NoMemory) × HasFailed p q)
  signed_ends now ret q reached is =
      elim (closes p now ret q b (signed_requested b c) many w.settings w.requested (first_number b ∷ c.number ∷ []) (inr w.phase) w.events
      (none_answers b c many last [] p w refl) (among b c many last [] p w) reached is) [
        | inl c ↦ inl (c.closed, subst (λ (x : Protocol). HasEnded b (failures b) x) (sym c.after) ended_so)
        | inr failed ↦ inr failed
      ]
