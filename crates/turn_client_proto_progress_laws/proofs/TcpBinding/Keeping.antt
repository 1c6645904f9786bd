-- A client that holds an allocation over TCP: what it transmits, and what its agent returns, by the contracts
-- of `poll_transmit` and `poll` alone.
use Rattle.std.proofs.Common.{◌≡◌, ℕ, ◌<◌, ◌≤◌, ◌++◌, true, false, List, [], ◌∷◌, Option, Some, None, refl, sym, ap, ◌∙◌, subst}
use Rattle.std.specs.Prelude.{find, option_to_list}
use Rattle.std.specs.Bool.{MatchBool}
use Rattle.std.specs.FinMap as map
use Rattle.std.proofs.lemmas.Bool.{le-ltb, lt-ltb}
use Rattle.turn_client_proto_messages.specs.Api.Options.{cadence}
use Rattle.turn_client_proto_messages.specs.StunTypesBase.declared.transport.TransportType.{TransportType}
use Rattle.turn_client_proto_messages.specs.StunProtoTransaction.Agents.{Transaction, is_due}
use Rattle.turn_client_proto_messages.specs.StunTypesBase.Times.{time_after}
use Rattle.turn_client_proto_messages.specs.StunProtoAgent.Sending.{is_due_of}
use Rattle.turn_client_proto_messages.specs.StunProtoAgent.State as agents
use Rattle.turn_client_proto_messages.specs.Allocation.declared.allocation.Allocation.{Allocation}
use Rattle.turn_client_proto_messages.specs.Api.declared.event.TurnEvent.{TurnEvent}
use Rattle.turn_client_proto_messages.specs.Waiting.{Queued, is_answer}
use Rattle.turn_client_proto_handshake_laws.specs.Core.declared.protocol.Phase.{Phase}
use Rattle.turn_client_proto_handshake_laws.specs.Core.declared.protocol.Protocol.{Protocol}
use Rattle.turn_client_proto_step_laws.specs.Timers.Drawing.{Again, Fresh, IsAnswerSent, IsStarted, IsTransmitted, IsFreshSent, IsNextSent, IsQueuedSent, IsRenewed, IsStill, after_sending, is_resting}
use Rattle.turn_client_proto_messages.specs.Api.Sent.{Sent}
use Rattle.turn_client_proto_step_laws.specs.Timers.Polling.{pace_of}
use Rattle.turn_client_proto_step_laws.specs.Timers.Wanting.{wanted}
use Rattle.turn_client_proto_step_laws.specs.Timers.declared.wanting.Want.{Want}
use Rattle.turn_client_proto_handshake_laws.specs.Requested.{Requested, transaction_of}
use Rattle.turn_client_proto_progress_laws.proofs.TcpBinding.Tools.{sends_one}
use Rattle.turn_client_proto_progress_laws.proofs.TcpBinding.Tools.{clash, either, where_false, where_true}
use Rattle.turn_client_proto_handshake_laws.specs.Driving.{IsEventTaken}
use Rattle.turn_client_proto_progress_laws.specs.Holders.{Holder}
use Rattle.turn_client_proto_progress_laws.specs.TcpBinding.{IsTcpBinding}

module _ (h : Holder) (awaited : Option Requested) (older : List Requested) (a : Allocation) (queue : List Queued) (last : ℕ) (events : List TurnEvent) (p : Protocol) (w : IsTcpBinding h awaited older a queue last events p) where
  -- ---- draws

  -- Over TCP nothing is transmitted again.
  not_due : (now number : ℕ) (t : Transaction) → map.get p.agent.outstanding number ≡ Some t → is_due_of p.agent now t ≡ false
  not_due now number t there =
      let one = w.outstanding.only number t there in
      ap (λ (x : Transaction). is_due (agents.is_tcp p.agent.transport) now x) one.transaction_is
      ∙ ap (λ (x : TransportType). is_due (agents.is_tcp x) now (transaction_of h.started one.requested 1)) (w.settings.transport ∙ w.signs.over)

  transmitted_fresh : (now : ℕ) (sent : Option Sent) (q : Protocol) → IsTransmitted p now sent q → IsFreshSent p now sent q
  transmitted_fresh now sent q (Again one is r) = clash (is_due_of p.agent now r.transaction) r.least.passes (not_due now r.number r.transaction r.least.present)
  transmitted_fresh now sent q (Fresh none is) = is

  fresh : (now : ℕ) (sent : Option Sent) (q : Protocol) → IsTransmitted p now sent q
      → MatchBool (is_resting (pace_of p) p.last_send now) (IsAnswerSent (find is_answer queue) p sent q) (IsNextSent queue p now sent q)
  fresh now sent q is =
      subst (λ (l : List Queued). MatchBool (is_resting (pace_of p) p.last_send now) (IsAnswerSent (find is_answer l) p sent q) (IsNextSent l p now sent q)) w.queue_is
      (transmitted_fresh now sent q is)

  -- For 50 ms after the last message nothing is transmitted except replies.
  pub tcp_binding_rests : (now : ℕ) (sent : Option Sent) (q : Protocol) → find is_answer queue ≡ None → now < time_after last cadence → IsTransmitted p now sent q
      → (sent ≡ None) × (q ≡ p)
  tcp_binding_rests now sent q none early is =
      let resting : is_resting (pace_of p) p.last_send now ≡ true = ap (λ (l : Option ℕ). is_resting (pace_of p) l now) w.last_send ∙ (ap (λ (n : ℕ). is_resting n (Some last) now) (w.settings.pace ∙ w.settings.usual.pace) ∙ lt-ltb now (time_after last cadence) early) in
      let answers = where_true (IsAnswerSent (find is_answer queue) p sent q) (IsNextSent queue p now sent q) (is_resting (pace_of p) p.last_send now) resting (fresh now sent q is) in
      subst (λ (o : Option Queued). IsAnswerSent o p sent q) none answers

  awake : (now : ℕ) (sent : Option Sent) (q : Protocol) → time_after last cadence ≤ now → IsTransmitted p now sent q → IsNextSent queue p now sent q
  awake now sent q late is =
      let free : is_resting (pace_of p) p.last_send now ≡ false = ap (λ (l : Option ℕ). is_resting (pace_of p) l now) w.last_send ∙ (ap (λ (n : ℕ). is_resting n (Some last) now) (w.settings.pace ∙ w.settings.usual.pace) ∙ le-ltb now (time_after last cadence) late) in
      where_false (IsAnswerSent (find is_answer queue) p sent q) (IsNextSent queue p now sent q) (is_resting (pace_of p) p.last_send now) free (fresh now sent q is)

  after_transmitted : (now : ℕ) (rest : List Queued) → IsTcpBinding h awaited older a rest now events (after_sending now (record p { queue = rest }))
  after_transmitted now rest = record {
    settings = record {
      server = w.settings.server;
      remote = w.settings.remote;
      transport = w.settings.transport;
      here = w.settings.here;
      waits = w.settings.waits;
      allocates = w.settings.allocates;
      families = w.settings.families;
      options = w.settings.options;
      pace = w.settings.pace;
      indications = w.settings.indications;
      usual = w.settings.usual;
    };
    signs = w.signs;
    outstanding = w.outstanding;
    phase = w.phase;
    auth_is = w.auth_is;
    allocations = w.allocations;
    queue_is = refl;
    last_send = refl;
    events_are = w.events_are;
    closing = w.closing;
  }

  -- An event was taken.
  pub tcp_binding_reports : (event : Option TurnEvent) (q : Protocol) → IsEventTaken p event q → (events ≡ option_to_list event ++ q.events) × IsTcpBinding h awaited older a queue last q.events q
  tcp_binding_reports event q is = (
    sym w.events_are ∙ is.first,
    subst (λ (x : Protocol). IsTcpBinding h awaited older a queue last q.events x) (sym is.others) (record {
      settings = record {
        server = w.settings.server;
        remote = w.settings.remote;
        transport = w.settings.transport;
        here = w.settings.here;
        waits = w.settings.waits;
        allocates = w.settings.allocates;
        families = w.settings.families;
        options = w.settings.options;
        pace = w.settings.pace;
        indications = w.settings.indications;
        usual = w.settings.usual;
      };
      signs = w.signs;
      outstanding = w.outstanding;
      phase = w.phase;
      auth_is = w.auth_is;
      allocations = w.allocations;
      queue_is = w.queue_is;
      last_send = w.last_send;
      events_are = refl;
      closing = w.closing;
    }),
  )

-- Then the first queued message is transmitted.
pub tcp_binding_sends : (h : Holder) (awaited : Option Requested) (older : List Requested) (a : Allocation) (one : Queued) (rest : List Queued) (last : ℕ) (events : List TurnEvent) (p : Protocol) → IsTcpBinding h awaited older a (one ∷ rest) last events p
    → (now : ℕ) (sent : Option Sent) (q : Protocol) → time_after last cadence ≤ now → IsTransmitted p now sent q
    → (sent ≡ Some (record { bytes = one.bytes; transport = h.started.transport; from = one.from; to = h.started.server })) × IsTcpBinding h awaited older a rest now events q
tcp_binding_sends h awaited older a one rest last events p w now sent q late is =
    let next = awake h awaited older a (one ∷ rest) last events p w now sent q late is in
    let x = sends_one sent (λ (y : Sent). IsQueuedSent p now one rest y q) next in (
      x.1 ∙ ap Some (x.2.is_sent ∙ Prim.cc (w.settings.transport, w.settings.server)),
      subst (λ (y : Protocol). IsTcpBinding h awaited older a rest now events y) (sym x.2.after) (after_transmitted h awaited older a (one ∷ rest) last events p w now rest),
    )

-- If no message is queued, and nothing is to be renewed, nothing is transmitted.
pub tcp_binding_still : (h : Holder) (awaited : Option Requested) (older : List Requested) (a : Allocation) (last : ℕ) (events : List TurnEvent) (p : Protocol) → IsTcpBinding h awaited older a [] last events p
    → (now : ℕ) (sent : Option Sent) (q : Protocol) → wanted now (a ∷ []) ≡ None → IsTransmitted p now sent q → (sent ≡ None) × (q ≡ p)
tcp_binding_still h awaited older a last events p w now sent q none is =
    let both : MatchBool (is_resting (pace_of p) p.last_send now) (IsStill p sent q) (IsStarted p.phase p now sent q) = fresh h awaited older a [] last events p w now sent q is in
    let standing : MatchBool (is_resting (pace_of p) p.last_send now) (IsStill p sent q) (IsRenewed (wanted now p.allocations) p now sent q) =
    subst (λ (f : Phase). MatchBool (is_resting (pace_of p) p.last_send now) (IsStill p sent q) (IsStarted f p now sent q)) w.phase both in
    let one : MatchBool (is_resting (pace_of p) p.last_send now) (IsStill p sent q) (IsRenewed (wanted now (a ∷ [])) p now sent q) =
    subst (λ (l : List Allocation). MatchBool (is_resting (pace_of p) p.last_send now) (IsStill p sent q) (IsRenewed (wanted now l) p now sent q)) w.allocations standing in
    either (IsStill p sent q) (is_resting (pace_of p) p.last_send now)
    (subst (λ (o : Option Want). MatchBool (is_resting (pace_of p) p.last_send now) (IsStill p sent q) (IsRenewed o p now sent q)) none one)
