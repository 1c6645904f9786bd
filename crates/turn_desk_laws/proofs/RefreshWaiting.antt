-- What a client that awaits the response to its REFRESH transmits and returns, also after earlier ones were
-- challenged, by the contracts of `poll_transmit` and `poll`.
use Rattle.std.proofs.Common.{◌≡◌, ℕ, ◌+◌, ◌<◌, ◌≤◌, arith, Bool, true, false, List, [], ◌∷◌, ◌++◌, Option, Some, None, refl, sym, ap, ◌∙◌, subst, inl, inr, append-nil, map as map_list}
use Rattle.std.specs.Prelude.{min, find, MatchOption, option_to_list}
use Rattle.std.specs.Bool.{MatchBool}
use Rattle.std.specs.List.{list_any}
use Rattle.std.proofs.lemmas.Bool.{le-ltb, lt-ltb}
use Rattle.std.specs.declared.net.socket_addr.SocketAddr.{SocketAddr}
use Rattle.turn_client_proto_messages.specs.StunTypesBase.Times.{time_after}
use Rattle.turn_client_proto_messages.specs.StunProtoAgent.Sending.{stored_under}
use Rattle.turn_client_proto_messages.specs.StunProtoAgent.State as agents
use Rattle.turn_client_proto_step_laws.specs.Connection.Expiring as joined
use Rattle.turn_client_proto_step_laws.specs.Connection.Waiting.{unasked}
use Rattle.turn_client_proto_messages.specs.StunProtoAgent.declared.agent.StunAgentPollRet.{StunAgentPollRet}
use Rattle.turn_client_proto_messages.specs.StunProtoAgent.declared.agent.StunAgentPollRet.TheVariants.{WaitUntil}
use Rattle.turn_client_proto_messages.specs.Waiting.{Queued, is_answer}
use Rattle.turn_client_proto_handshake_laws.specs.Core.declared.protocol.Phase.{Phase}
use Rattle.turn_client_proto_handshake_laws.specs.Core.declared.protocol.Protocol.{Protocol}
use Rattle.turn_client_proto_step_laws.specs.Timers.Reporting as reporting
use Rattle.turn_client_proto_step_laws.specs.Timers.Wanting.{wanted}
use Rattle.turn_client_proto_step_laws.specs.Timers.declared.wanting.Want.{Want}
use Rattle.turn_client_proto_messages.specs.Allocation.Listed.{relayed_listed}
use Rattle.turn_client_proto_messages.specs.Allocation.Polling.{stored, polled}
use Rattle.turn_client_proto_messages.specs.Allocation.declared.allocation.Allocation.{Allocation}
use Rattle.turn_client_proto_messages.specs.Allocation.declared.connection.Waiting.{Waiting}
use Rattle.turn_client_proto_messages.specs.Api.declared.answer.TurnPollRet.{TurnPollRet}
use Rattle.turn_client_proto_messages.specs.Api.declared.answer.TurnPollRet.TheVariants as answer
use Rattle.turn_client_proto_messages.specs.Api.declared.event.TurnEvent.{TurnEvent}
use Rattle.turn_client_proto_handshake_laws.specs.Requested as asks
use Rattle.turn_client_proto_handshake_laws.specs.Requested.{Requested, IsDue, IsOnlyRequested, IsQuiet, transaction_of}
use Rattle.turn_client_proto_handshake_laws.specs.Choosing.{Choice}
use Rattle.turn_client_proto_handshake_laws.specs.Driving.{IsEventTaken}
use Rattle.turn_client_proto_step_laws.specs.Timers.Drawing.{IsAnswerSent, IsQueuedSent, IsStarted, IsTransmitted, IsNextSent, IsRenewed, IsStill, after_sending, is_resting}
use Rattle.turn_client_proto_step_laws.specs.Recv.SocketChunks.{raw_waiting}
use Rattle.turn_client_proto_messages.specs.Api.Sent.{Sent}
use Rattle.turn_client_proto_messages.specs.Api.Options.{cadence}
use Rattle.turn_client_proto_step_laws.specs.Timers.Polling.{Answers, HasToReportIn, IsClosing, IsPolled, IsPolledBy, IsPolledIn, IsRefused, IsAgentPolled, AreAllocationsPolled, after_asking, after_time, answer_of, ended_of, left, longest_pause, pace_of, socket_for, wait_of, wait_to_send}
use Rattle.turn_client_proto_handshake_laws.specs.Sent.{Beginning}
use Rattle.turn_client_proto_progress_laws.specs.Keeping.{IsRefreshing, IsTerm, Term, end_of}
use Rattle.turn_client_proto_progress_laws.specs.Refreshed.{refresh_requested, refresh_sent}
use Rattle.turn_client_proto_progress_laws.proofs.Renewing.Lasting.{expiry, far}
use Rattle.turn_client_proto_progress_laws.proofs.Renewing.Only.{IsSentAgain, IsStillRequested, sent_again, sent_fresh, still_requested}
use Rattle.turn_client_proto_progress_laws.proofs.Renewing.Tools.{either, refused_or, sends_one, where_false, where_true}
use Rattle.turn_desk_laws.specs.RefreshStages.{IsRefreshingOn}
use Rattle.turn_desk_laws.proofs.RefreshHeld.{left_is, none_decoded, pending, untouched, wanted_none}

-- A client that transmitted its first REFRESH.
pub refreshing_begins : (b : Beginning) (c : Choice) (address : SocketAddr) (t : Term) (number made many last : ℕ) (events : List TurnEvent) (p : Protocol) → IsRefreshing b c address t number made many last events p → IsRefreshingOn b c address t [] number made many last [] events p
refreshing_begins b c address t number made many last events p w = record {
  settings = w.settings;
  requested = w.requested;
  phase = w.phase;
  auth = w.auth;
  allocations = w.allocations;
  queue_is = w.queue_is;
  last_send = w.last_send;
  events_are = w.events_are;
  closing = w.closing;
  resends = w.resends;
}

module _ (b : Beginning) (c : Choice) (address : SocketAddr) (t : Term) (earlier : List ℕ) (number made many last : ℕ) (queue : List Queued) (events : List TurnEvent) (p : Protocol) (w : IsRefreshingOn b c address t earlier number made many last queue events p) where
  abbrev a : Requested
  a = refresh_requested b c number made

  -- ---- what is reported and listed

  pub reports : (event : Option TurnEvent) (q : Protocol) → IsEventTaken p event q
      → (rest : List TurnEvent) × (events ≡ option_to_list event ++ rest) × IsRefreshingOn b c address t earlier number made many last queue rest q
  reports event q is = (
    q.events,
    sym w.events_are ∙ is.first,
    subst (λ (x : Protocol). IsRefreshingOn b c address t earlier number made many last queue q.events x) (sym is.others) (record {
      settings = record {
        server = w.settings.server;
        remote = w.settings.remote;
        transport = w.settings.transport;
        here = w.settings.here;
        waits = w.settings.waits;
        allocates = w.settings.allocates;
        families = w.settings.families;
        options = w.settings.options;
        pace = w.settings.pace;
        indications = w.settings.indications;
        usual = w.settings.usual;
      };
      requested = w.requested;
      phase = w.phase;
      auth = w.auth;
      allocations = w.allocations;
      queue_is = w.queue_is;
      last_send = w.last_send;
      events_are = refl;
      closing = w.closing;
      resends = w.resends;
    }),
  )

  pub shows : (relayed_listed p.allocations ≡ (b.config.transport, address) ∷ []) × (raw_waiting p ≡ None)
  shows = (ap relayed_listed w.allocations, rw w.allocations refl)

  -- ---- draws

  module _ (now : ℕ) where
    again_after : IsOnlyRequested b a (many + 1) (stored_under p.agent number (transaction_of b a (many + 1)))
        → IsRefreshingOn b c address t earlier number made (many + 1) now queue events (after_sending now (record p { agent = stored_under p.agent number (transaction_of b a (many + 1)) }))
    again_after only = record {
      settings = record {
        server = w.settings.server;
        remote = w.settings.remote;
        transport = w.settings.transport;
        here = w.settings.here;
        waits = w.settings.waits;
        allocates = w.settings.allocates;
        families = w.settings.families;
        options = w.settings.options;
        pace = w.settings.pace;
        indications = w.settings.indications;
        usual = w.settings.usual;
      };
      requested = only;
      phase = w.phase;
      auth = w.auth;
      allocations = w.allocations;
      queue_is = w.queue_is;
      last_send = refl;
      events_are = w.events_are;
      closing = w.closing;
      resends = w.resends;
    }

    pub again : (sent : Option Sent) (q : Protocol) → IsDue b a many now → IsTransmitted p now sent q → (sent ≡ Some (refresh_sent b c number made)) × IsRefreshingOn b c address t earlier number made (many + 1) now queue events q
    again sent q due is =
        let s : IsSentAgain b a many p w.settings w.requested now sent q = sent_again b a many p w.settings w.requested now sent q due is in
        (s.sent_is, subst (λ (x : Protocol). IsRefreshingOn b c address t earlier number made (many + 1) now queue events x) (sym s.after) (again_after s.is_requested))

    -- The outcome, by the queue.
    waiting : (sent : Option Sent) (q : Protocol) → IsQuiet b a many now → IsTransmitted p now sent q → MatchBool (is_resting (pace_of p) p.last_send now) (IsAnswerSent (find is_answer queue) p sent q) (IsNextSent queue p now sent q)
    waiting sent q quiet is = subst (λ (l : List Queued). MatchBool (is_resting (pace_of p) p.last_send now) (IsAnswerSent (find is_answer l) p sent q) (IsNextSent l p now sent q)) w.queue_is
        (sent_fresh b a many p w.settings w.requested now sent q quiet is)

    pub rests : (sent : Option Sent) (q : Protocol) → IsQuiet b a many now → find is_answer queue ≡ None → now < time_after last cadence → IsTransmitted p now sent q → (sent ≡ None) × (q ≡ p)
    rests sent q quiet unanswered soon transmitted =
        let resting : is_resting (pace_of p) p.last_send now ≡ true = ap (λ (l : Option ℕ). is_resting (pace_of p) l now) w.last_send ∙ (ap (λ (n : ℕ). is_resting n (Some last) now) (w.settings.pace ∙ w.settings.usual.pace) ∙ lt-ltb now (time_after last cadence) soon) in
        subst (λ (o : Option Queued). IsAnswerSent o p sent q) unanswered
        (where_true (IsAnswerSent (find is_answer queue) p sent q) (IsNextSent queue p now sent q) (is_resting (pace_of p) p.last_send now) resting (waiting sent q quiet transmitted))

    pub continues : (sent : Option Sent) (q : Protocol) → IsQuiet b a many now → time_after last cadence ≤ now → IsTransmitted p now sent q → IsNextSent queue p now sent q
    continues sent q quiet late transmitted =
        let awake : is_resting (pace_of p) p.last_send now ≡ false = ap (λ (l : Option ℕ). is_resting (pace_of p) l now) w.last_send ∙ (ap (λ (n : ℕ). is_resting n (Some last) now) (w.settings.pace ∙ w.settings.usual.pace) ∙ le-ltb now (time_after last cadence) late) in
        where_false (IsAnswerSent (find is_answer queue) p sent q) (IsNextSent queue p now sent q) (is_resting (pace_of p) p.last_send now) awake (waiting sent q quiet transmitted)

    left_after : (rest : List Queued) → IsRefreshingOn b c address t earlier number made many now rest events (after_sending now (record p { queue = rest }))
    left_after rest = record {
      settings = record {
        server = w.settings.server;
        remote = w.settings.remote;
        transport = w.settings.transport;
        here = w.settings.here;
        waits = w.settings.waits;
        allocates = w.settings.allocates;
        families = w.settings.families;
        options = w.settings.options;
        pace = w.settings.pace;
        indications = w.settings.indications;
        usual = w.settings.usual;
      };
      requested = w.requested;
      phase = w.phase;
      auth = w.auth;
      allocations = w.allocations;
      queue_is = refl;
      last_send = refl;
      events_are = w.events_are;
      closing = w.closing;
      resends = w.resends;
    }

    pub sends_it : (one : Queued) (rest : List Queued) (sent : Option Sent) (q : Protocol) → IsNextSent (one ∷ rest) p now sent q
        → (sent ≡ Some (record { bytes = one.bytes; transport = b.transport; from = one.from; to = b.server })) × IsRefreshingOn b c address t earlier number made many now rest events q
    sends_it one rest sent q next =
        let x = sends_one sent (λ (y : Sent). IsQueuedSent p now one rest y q) next in (
          x.1 ∙ ap Some (x.2.is_sent ∙ Prim.cc (w.settings.transport, w.settings.server)),
          subst (λ (y : Protocol). IsRefreshingOn b c address t earlier number made many now rest events y) (sym x.2.after) (left_after rest),
        )

    pub stills : (sent : Option Sent) (q : Protocol) → queue ≡ [] → IsQuiet b a many now → IsTransmitted p now sent q → (sent ≡ None) × (q ≡ p)
    stills sent q none quiet is =
        let fresh = subst (λ (l : List Queued). MatchBool (is_resting (pace_of p) p.last_send now) (IsAnswerSent (find is_answer l) p sent q) (IsNextSent l p now sent q)) none (waiting sent q quiet is) in
        either (IsStill p sent q) (is_resting (pace_of p) p.last_send now) (or_none (is_resting (pace_of p) p.last_send now) then_still fresh)
      where
        then_still : IsStarted p.phase p now sent q → IsStill p sent q
        then_still started =
            subst (λ (o : Option Want). IsRenewed o p now sent q) (wanted_none b address t earlier number now)
            (subst (λ (l : List Allocation). IsRenewed (wanted now l) p now sent q) w.allocations (subst (λ (f : Phase). IsStarted f p now sent q) w.phase started))

        or_none : (x : Bool) → (IsStarted p.phase p now sent q → IsStill p sent q) → MatchBool x (IsStill p sent q) (IsStarted p.phase p now sent q) → MatchBool x (IsStill p sent q) (IsStill p sent q)
        or_none true next s = s
        or_none false next s = next s

    -- ---- polls

    module _ (unanswered : list_any is_answer queue ≡ false) (is : IsTerm t) (open_still : now < asks.end_of b a) (lasts : now < end_of t) (ret : TurnPollRet) (q : Protocol) where
      before : now < expiry b address t
      before = let f = far b address t is in omega (arith, f, lasts)

      abbrev pause : ℕ
      pause = wait_to_send (pace_of p) p.last_send p.queue now (time_after now longest_pause)

      left_here : left None now p ≡ pending b address t earlier number now ∷ []
      left_here = ap (λ (l : List Allocation). map_list (polled None) (stored None now l)) w.allocations ∙ left_is b address t earlier number now before

      stays_so : after_time None now p ≡ p
      unfolding after_time
      stays_so =
          ap (λ (l : List Allocation). record p {
            allocations = map_list (reporting.polled None now) l;
            events = p.events ++ reporting.all_failures None now l;
            closing = p.closing ++ joined.all_gone None now l;
          }) left_here
          ∙ (ap (λ (l : List Allocation). record p {
            allocations = l;
            events = p.events ++ reporting.all_failures None now (pending b address t earlier number now ∷ []);
            closing = p.closing ++ [];
          }) (untouched b address t earlier number now before ∙ sym w.allocations)
          ∙ (ap (λ (l : List TurnEvent). record p { events = p.events ++ l; closing = p.closing ++ [] }) (none_decoded b address t earlier number now before)
          ∙ (ap (λ (l : List TurnEvent). record p { events = l; closing = p.closing ++ [] }) (append-nil p.events)
          ∙ ap (λ (l : List SocketAddr). record p { closing = l }) (append-nil p.closing))))

      none_closes : p.closing ++ joined.all_gone None now (left None now p) ≡ []
      none_closes =
          ap (λ (l : List SocketAddr). l ++ joined.all_gone None now (left None now p)) w.closing
          ∙ ap (λ (l : List Allocation). joined.all_gone None now l) left_here

      walked : (until : ℕ) → AreAllocationsPolled None (min pause until) p now ret q → q ≡ p
      walked until st =
          let out = subst (λ (l : List SocketAddr). IsClosing l (answer_of (left None now p) None now st.first) (after_time None now p) ret q) none_closes st.outcome in
          out.1 ∙ stays_so

      abbrev Out : StunAgentPollRet → agents.Agent → Type 0
      Out ticked agent = IsPolledIn p.phase (ended_of ticked) (wait_of pause ticked) (record p { agent = agent }) now ret q

      standing : (ticked : StunAgentPollRet) (agent : agents.Agent) → IsStillRequested b a many p w.settings w.requested now ticked agent → Out ticked agent → q ≡ p
      standing ticked agent k out =
          let one = subst (λ (x : StunAgentPollRet). Out x agent) k.ticked_is out in
          let two = subst (λ (g : agents.Agent). Out (WaitUntil k.until) g) k.unchanged one in
          let st = subst (λ (f : Phase). IsPolledIn f None (min pause k.until) p now ret q) w.phase two in
          let none : unasked p.allocations ≡ None = ap unasked w.allocations in
          walked k.until (subst (λ (o : Option Waiting). MatchOption o (AreAllocationsPolled None (min pause k.until) p now ret q) (λ x. Answers (socket_for p x) (after_asking p) ret q)) none st)

      none_refused : {A : Type 0} → IsRefused p now q → A
      none_refused r =
          let k = r.has_to_report in
          let s = still_requested b a many p w.settings w.requested now k.ticked k.agent open_still k.is_ticked in
          let one = subst (λ (x : StunAgentPollRet). HasToReportIn p.phase (ended_of x) (record p { agent = k.agent }) now) s.ticked_is k.decodes in
          let two = subst (λ (g : agents.Agent). HasToReportIn p.phase None (record p { agent = g }) now) s.unchanged one in
          let decodes = subst (λ (f : Phase). HasToReportIn f None p now) w.phase two in
          absurd (decodes.1 (ap (λ (l : List Allocation). reporting.all_failures None now l) left_here ∙ none_decoded b address t earlier number now before))

      by_events : (l : List TurnEvent) → IsPolledBy l p now ret q → q ≡ p
      by_events [] by =
          let k = where_false (Answers (answer.WaitUntil now) p ret q) (IsAgentPolled p now ret q) (list_any is_answer p.queue) (ap (list_any is_answer) w.queue_is ∙ unanswered) by in
          standing k.ticked k.agent (still_requested b a many p w.settings w.requested now k.ticked k.agent open_still k.is_ticked) k.outcome
      by_events (e ∷ rest) by = by.1

      pub waits : IsPolled p now ret q → q ≡ p
      waits polled = elim (refused_or p now ret q polled) [
        | inl by ↦ by_events p.events by
        | inr refused ↦ none_refused refused.1
      ]
