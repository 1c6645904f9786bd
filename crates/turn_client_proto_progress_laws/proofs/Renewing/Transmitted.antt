-- What a client that keeps an allocation transmits, by the contract of `poll_transmit` alone.
use Rattle.std.proofs.Common.{◌≡◌, ℕ, ◌<◌, ◌≤◌, ◌^◌, arith, Bool, true, false, List, [], ◌∷◌, Option, Some, None, refl, sym, ap, ◌∙◌, subst, inl, inr}
use Rattle.std.specs.Prelude.{find}
use Rattle.std.specs.Bool.{MatchBool}
use Rattle.std.specs.FinMap as map
use Rattle.std.proofs.lemmas.Bool.{le-ltb, lt-ltb}
use Rattle.std.specs.declared.net.socket_addr.SocketAddr.{SocketAddr}
use Rattle.turn_client_proto_messages.specs.StunProtoClient.Client.{Client}
use Rattle.turn_client_proto_messages.specs.StunTypesBase.Times.{time_after}
use Rattle.turn_client_proto_messages.specs.StunProtoAgent.Sending.{started}
use Rattle.turn_client_proto_messages.specs.StunTypesWire.Grammar.{number_at}
use Rattle.turn_client_proto_messages.specs.Waiting.{Queued, is_answer}
use Rattle.turn_client_proto_handshake_laws.specs.Core.declared.protocol.Phase.{Phase}
use Rattle.turn_client_proto_handshake_laws.specs.Core.declared.protocol.Protocol.{Protocol}
use Rattle.turn_client_proto_step_laws.specs.Timers.Wanting.{refreshed_first, wanted}
use Rattle.turn_client_proto_step_laws.specs.Timers.declared.wanting.Want.{Want}
use Rattle.turn_client_proto_messages.specs.Allocation.declared.allocation.Allocation.{Allocation}
use Rattle.turn_client_proto_messages.specs.Api.declared.event.TurnEvent.{TurnEvent}
use Rattle.turn_client_proto_handshake_laws.specs.Requested.{IsOnlyRequested, transaction_of}
use Rattle.turn_client_proto_handshake_laws.specs.Choosing.{Choice}
use Rattle.turn_client_proto_step_laws.specs.Timers.Drawing.{Again, Fresh, IsAnswerSent, IsStarted, IsTransmitted, IsFreshSent, IsNextSent, IsQueuedSent, IsRefreshSent, IsRenewed, IsStill, after_sending, first_refreshed, is_resting, sent_at_once}
use Rattle.turn_client_proto_messages.specs.Api.Sent.{Sent}
use Rattle.turn_client_proto_step_laws.specs.Timers.Polling.{pace_of}
use Rattle.turn_client_proto_messages.specs.Api.Options.{allocation_lifetime, cadence}
use Rattle.turn_client_proto_messages.specs.Api.declared.options.AllocateOptions.{AllocateOptions}
use Rattle.turn_client_proto_messages.specs.Requests.{request_text}
use Rattle.turn_client_proto_messages.specs.declared.request.TurnRequest.TheVariants.{Refresh}
use Rattle.turn_client_proto_handshake_laws.specs.Sent.{Beginning}
use Rattle.turn_client_proto_handshake_laws.specs.Stages.{Holds}
use Rattle.turn_client_proto_progress_laws.specs.Keeping.{IsKeeping, IsRefreshing, IsTerm, Term, due_of, end_of, first_term, held_for}
use Rattle.turn_client_proto_progress_laws.specs.Refreshed.{refresh_requested, refresh_request, refresh_sent, signed_by}
use Rattle.turn_client_proto_progress_laws.proofs.Renewing.Lasting.{lone, refreshed_it, wanted_it, wanted_none}
use Rattle.turn_client_proto_progress_laws.proofs.Renewing.Tools.{either, put_or, put_there, sends_one, where_false, where_true}

-- ---- so it begins

pub holding_keeps : (b : Beginning) (c : Choice) (address : SocketAddr) (lifetime now last : ℕ) (queue : List Queued) (events : List TurnEvent) (p : Protocol) → Holds b c address lifetime now last queue events p
    → IsKeeping b c address (first_term lifetime now) last queue events p
holding_keeps b c address lifetime now last queue events p w = record {
  settings = w.settings;
  none_requested = w.none_requested;
  phase = w.phase;
  auth = w.auth;
  allocations = w.allocations;
  queue_is = w.queue_is;
  last_send = w.last_send;
  events_are = w.events_are;
  closing = w.closing;
  resends = w.resends;
}

module _ (b : Beginning) (c : Choice) (address : SocketAddr) (t : Term) (last : ℕ) (queue : List Queued) (events : List TurnEvent) (p : Protocol) (w : IsKeeping b c address t last queue events p) (now : ℕ) (sent : Option Sent) (q : Protocol) where
  -- Nothing is to be transmitted again.
  fresh : IsTransmitted p now sent q → IsFreshSent p now sent q
  fresh (Again one is r) = absurd (Prim.cc (sym (w.none_requested r.number) ∙ r.least.present))
  fresh (Fresh none is) = is

  -- The outcome, by the queue.
  waiting : IsTransmitted p now sent q → MatchBool (is_resting (pace_of p) p.last_send now) (IsAnswerSent (find is_answer queue) p sent q) (IsNextSent queue p now sent q)
  waiting transmitted =
      subst (λ (l : List Queued). MatchBool (is_resting (pace_of p) p.last_send now) (IsAnswerSent (find is_answer l) p sent q) (IsNextSent l p now sent q)) w.queue_is (fresh transmitted)

  resting : now < time_after last cadence → is_resting (pace_of p) p.last_send now ≡ true
  resting soon = ap (λ (l : Option ℕ). is_resting (pace_of p) l now) w.last_send ∙ (ap (λ (n : ℕ). is_resting n (Some last) now) (w.settings.pace ∙ w.settings.usual.pace) ∙ lt-ltb now (time_after last cadence) soon)

  awake : time_after last cadence ≤ now → is_resting (pace_of p) p.last_send now ≡ false
  awake late = ap (λ (l : Option ℕ). is_resting (pace_of p) l now) w.last_send ∙ (ap (λ (n : ℕ). is_resting n (Some last) now) (w.settings.pace ∙ w.settings.usual.pace) ∙ le-ltb now (time_after last cadence) late)

  pub rests : find is_answer queue ≡ None → now < time_after last cadence → IsTransmitted p now sent q → (sent ≡ None) × (q ≡ p)
  rests unanswered soon transmitted =
      subst (λ (o : Option Queued). IsAnswerSent o p sent q) unanswered
      (where_true (IsAnswerSent (find is_answer queue) p sent q) (IsNextSent queue p now sent q) (is_resting (pace_of p) p.last_send now) (resting soon) (waiting transmitted))

  pub continues : time_after last cadence ≤ now → IsTransmitted p now sent q → IsNextSent queue p now sent q
  continues late transmitted = where_false (IsAnswerSent (find is_answer queue) p sent q) (IsNextSent queue p now sent q) (is_resting (pace_of p) p.last_send now) (awake late) (waiting transmitted)

  begins : IsStarted p.phase p now sent q → IsRenewed (wanted now (lone b address t ∷ [])) p now sent q
  begins is =
      subst (λ (l : List Allocation). IsRenewed (wanted now l) p now sent q) w.allocations
      (subst (λ (f : Phase). IsStarted f p now sent q) w.phase is)

-- ---- what waits is sent

module _ (b : Beginning) (c : Choice) (address : SocketAddr) (t : Term) (last : ℕ) (one : Queued) (queue : List Queued) (events : List TurnEvent) (p : Protocol) (w : IsKeeping b c address t last (one ∷ queue) events p) (now : ℕ) where
  left_after : IsKeeping b c address t now queue events (after_sending now (record p { queue = queue }))
  left_after = record {
    settings = record {
      server = w.settings.server;
      remote = w.settings.remote;
      transport = w.settings.transport;
      here = w.settings.here;
      waits = w.settings.waits;
      allocates = w.settings.allocates;
      families = w.settings.families;
      options = w.settings.options;
      pace = w.settings.pace;
      indications = w.settings.indications;
      usual = w.settings.usual;
    };
    none_requested = w.none_requested;
    phase = w.phase;
    auth = w.auth;
    allocations = w.allocations;
    queue_is = refl;
    last_send = refl;
    events_are = w.events_are;
    closing = w.closing;
    resends = w.resends;
  }

  pub releases : (sent : Option Sent) (q : Protocol) → time_after last cadence ≤ now → IsTransmitted p now sent q
      → (sent ≡ Some (record { bytes = one.bytes; transport = b.transport; from = one.from; to = b.server })) × IsKeeping b c address t now queue events q
  releases sent q late transmitted =
      let next = continues b c address t last (one ∷ queue) events p w now sent q late transmitted in
      let x = sends_one sent (λ (y : Sent). IsQueuedSent p now one queue y q) next in (
        x.1 ∙ ap Some (x.2.is_sent ∙ Prim.cc (w.settings.transport, w.settings.server)),
        subst (λ (y : Protocol). IsKeeping b c address t now queue events y) (sym x.2.after) left_after,
      )

-- ---- nothing waits

module _ (b : Beginning) (c : Choice) (address : SocketAddr) (t : Term) (last : ℕ) (events : List TurnEvent) (p : Protocol) (w : IsKeeping b c address t last [] events p) (is : IsTerm t) where
  pub still : (now : ℕ) (sent : Option Sent) (q : Protocol) → now < due_of t → IsTransmitted p now sent q → (sent ≡ None) × (q ≡ p)
  still now sent q soon transmitted =
      let choice = waiting b c address t last [] events p w now sent q transmitted in
      let none = subst (λ (o : Option Want). IsRenewed o p now sent q) (wanted_none b address t is now soon) in
      either (IsStill p sent q) (is_resting (pace_of p) p.last_send now)
      (or_none (is_resting (pace_of p) p.last_send now) (λ started. none (begins b c address t last [] events p w now sent q started)) choice)
    where
      or_none : (x : Bool) → (IsStarted p.phase p now sent q → IsStill p sent q) → MatchBool x (IsStill p sent q) (IsStarted p.phase p now sent q) → MatchBool x (IsStill p sent q) (IsStill p sent q)
      or_none true then_still s = s
      or_none false then_still s = then_still s

  -- ---- the REFRESH

  module _ (number : ℕ) (visible : number_at (refresh_request b c number) ≡ number) (now : ℕ) (due : due_of t ≤ now) (reached : now ≤ end_of t) where
    lifetime_is : p.options.lifetime ≡ allocation_lifetime
    lifetime_is = ap (λ (o : AllocateOptions). o.lifetime) w.settings.options ∙ w.settings.usual.lifetime

    text_is : request_text p.auth (Refresh p.options.lifetime) number ≡ refresh_request b c number
    text_is =
        ap (λ (a : Client). request_text a (Refresh p.options.lifetime) number) w.auth
        ∙ ap (λ (n : ℕ). request_text (signed_by b c) (Refresh n) number) lifetime_is

    started_so : (text : List ℕ) → text ≡ refresh_request b c number → started p.agent text p.server now ≡ transaction_of b (refresh_requested b c number now) 1
    started_so text same =
        ap (λ (l : List ℕ). started p.agent l p.server now) same
        ∙ Prim.cc (w.settings.server, w.settings.waits)

    only_one : (text : List ℕ) → text ≡ refresh_request b c number → (key : ℕ) → key ≡ number
        → IsOnlyRequested b (refresh_requested b c number now) 1 (record p.agent { outstanding = map.insert p.agent.outstanding key (started p.agent text p.server now) })
    only_one text same key key_is = record {
      there = ap (map.get (map.insert p.agent.outstanding key (started p.agent text p.server now))) (sym key_is)
          ∙ (put_there p.agent.outstanding key (started p.agent text p.server now) ∙ ap Some (started_so text same));
      only = λ other y there. elim (put_or p.agent.outstanding key (started p.agent text p.server now) other y there) [
        | inl found ↦ found ∙ key_is
        | inr old ↦ absurd (Prim.cc (sym (w.none_requested other) ∙ old))
      ];
    }

    asks : IsRefreshing b c address t number now 1 now events (after_sending now (first_refreshed number now p))
    unfolding first_refreshed sent_at_once
    asks =
        let text = request_text p.auth (Refresh p.options.lifetime) number in
        record {
          settings = record {
            server = w.settings.server;
            remote = w.settings.remote;
            transport = w.settings.transport;
            here = w.settings.here;
            waits = w.settings.waits;
            allocates = w.settings.allocates;
            families = w.settings.families;
            options = w.settings.options;
            pace = w.settings.pace;
            indications = w.settings.indications;
            usual = w.settings.usual;
          };
          requested = only_one text text_is (number_at text) (ap number_at text_is ∙ visible);
          phase = w.phase;
          auth = w.auth;
          allocations = ap (refreshed_first now (record { number = number; lifetime = p.options.lifetime })) w.allocations
              ∙ (refreshed_it b address t is now due reached (record { number = number; lifetime = p.options.lifetime })
              ∙ ap (λ (n : ℕ). held_for b address t (record { number = number; lifetime = n } ∷ []) ∷ []) lifetime_is);
          queue_is = w.queue_is;
          last_send = refl;
          events_are = w.events_are;
          closing = w.closing;
          resends = w.resends;
        }

    pub refreshes_by : (one : Sent) (q : Protocol) → (r : IsRefreshSent p now one q) → r.number ≡ number → (one ≡ refresh_sent b c number now) × IsRefreshing b c address t number now 1 now events q
    refreshes_by one q r same = (
      r.made.is_sent ∙ (ap (λ (n : ℕ). record { bytes = request_text p.auth (Refresh p.options.lifetime) n; transport = p.agent.transport; from = p.agent.here; to = p.server }) same
          ∙ Prim.cc (text_is, w.settings.transport, w.settings.here, w.settings.server)),
      subst (λ (x : Protocol). IsRefreshing b c address t number now 1 now events x) (sym (r.after ∙ ap (λ (n : ℕ). after_sending now (first_refreshed n now p)) same)) asks,
    )

  pub refreshes : ((number : ℕ) → number < 2 ^ 96 → number_at (refresh_request b c number) ≡ number) → (now : ℕ) (sent : Option Sent) (q : Protocol) → time_after last cadence ≤ now → due_of t ≤ now → now ≤ end_of t → IsTransmitted p now sent q
      → (number : ℕ) × (number < 2 ^ 96) × (sent ≡ Some (refresh_sent b c number now)) × IsRefreshing b c address t number now 1 now events q
  refreshes shows now sent q late due reached transmitted =
      let next = continues b c address t last [] events p w now sent q late transmitted in
      let wants = subst (λ (o : Option Want). IsRenewed o p now sent q) (wanted_it b address t is now due reached) (begins b c address t last [] events p w now sent q next) in
      let x = sends_one sent (λ (y : Sent). IsRefreshSent p now y q) wants in
      let number_is = x.2.made.is_next.is in
      let fits : x.2.number < 2 ^ 96 = omega (arith, number_is) in
      let so = refreshes_by x.2.number (shows x.2.number fits) now due reached x.0 q x.2 refl in
      (x.2.number, fits, x.1 ∙ ap Some so.0, so.1)
