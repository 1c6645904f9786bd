-- What a client that awaits the response to its REFRESH transmits and returns, by the contracts of
-- `poll_transmit` and `poll`.
use Rattle.std.proofs.Common.{◌≡◌, ℕ, ◌+◌, ◌<◌, ◌≤◌, arith, Bool, true, false, List, [], ◌∷◌, ◌++◌, Option, Some, None, refl, sym, ap, ◌∙◌, subst, inl, inr, append-nil, map as map_list}
use Rattle.std.specs.Prelude.{max, min, nat_le, ◌&&◌, ◌||◌, if◌then◌else◌, is_some, find, MatchOption}
use Rattle.std.specs.Bool.{MatchBool}
use Rattle.std.specs.List.{cons_option, list_any}
use Rattle.std.specs.Option.{option_and_then, option_map, option_or}
use Rattle.std.proofs.lemmas.Bool.{lt-ltb}
use Rattle.std.specs.declared.net.ip_addr.IpAddr.{IpAddr}
use Rattle.std.specs.declared.net.socket_addr.SocketAddr.{SocketAddr}
use Rattle.turn_client_proto_messages.specs.StunProtoTransaction.Least.{IsLeastOf}
use Rattle.turn_client_proto_messages.specs.StunTypesBase.Times.{time_after}
use Rattle.turn_client_proto_messages.specs.StunProtoAgent.Sending.{stored_under}
use Rattle.turn_client_proto_messages.specs.StunProtoAgent.State as agents
use Rattle.turn_client_proto_messages.specs.Allocation.Channels.{wants_renewal as channel_wants}
use Rattle.turn_client_proto_step_laws.specs.Peers.Channel.Expiring as channels
use Rattle.turn_client_proto_step_laws.specs.Peers.Channel.Wanting as channel_wanting
use Rattle.turn_client_proto_step_laws.specs.Connection.Expiring as joined
use Rattle.turn_client_proto_step_laws.specs.Connection.Reported.{given_up}
use Rattle.turn_client_proto_step_laws.specs.Connection.Waiting.{unasked}
use Rattle.turn_client_proto_messages.specs.StunProtoAgent.declared.agent.StunAgentPollRet.{StunAgentPollRet}
use Rattle.turn_client_proto_messages.specs.StunProtoAgent.declared.agent.StunAgentPollRet.TheVariants.{WaitUntil}
use Rattle.turn_client_proto_messages.specs.Waiting.{Queued, is_answer}
use Rattle.turn_client_proto_handshake_laws.specs.Core.declared.protocol.Phase.{Phase}
use Rattle.turn_client_proto_handshake_laws.specs.Core.declared.protocol.Protocol.{Protocol}
use Rattle.turn_client_proto_step_laws.specs.Peers.Permission.Reporting as permissions
use Rattle.turn_client_proto_step_laws.specs.Peers.Permission.Wanting as permission_wanting
use Rattle.turn_client_proto_step_laws.specs.Timers.Reporting as reporting
use Rattle.turn_client_proto_step_laws.specs.Timers.Wanting.{channel_wanted, permission_wanted, want, wanted}
use Rattle.turn_client_proto_step_laws.specs.Timers.declared.wanting.Want.{Want}
use Rattle.turn_client_proto_step_laws.specs.Timers.declared.wanting.Want.TheVariants.{Channel, Permission, Refresh}
use Rattle.turn_client_proto_messages.specs.Allocation.Permissions.{wants_renewal}
use Rattle.turn_client_proto_messages.specs.Allocation.Polling.{stored, next_of as next_of_allocation, nexts, polled, stays}
use Rattle.turn_client_proto_messages.specs.Allocation.Refreshing.{wants_refresh}
use Rattle.turn_client_proto_messages.specs.Allocation.declared.allocation.Allocation.{Allocation}
use Rattle.turn_client_proto_messages.specs.Allocation.declared.channel.Channel.{Channel as OneChannel}
use Rattle.turn_client_proto_messages.specs.Allocation.declared.connection.Waiting.{Waiting}
use Rattle.turn_client_proto_messages.specs.Allocation.declared.permission.Permission.{Permission as OnePermission}
use Rattle.turn_client_proto_messages.specs.Allocation.declared.refresh.PendingRefresh.{PendingRefresh}
use Rattle.turn_client_proto_messages.specs.Api.declared.answer.TurnPollRet.{TurnPollRet}
use Rattle.turn_client_proto_messages.specs.Api.declared.answer.TurnPollRet.TheVariants as answer
use Rattle.turn_client_proto_messages.specs.Api.declared.event.TurnEvent.{TurnEvent}
use Rattle.turn_client_proto_handshake_laws.specs.Requested as asks
use Rattle.turn_client_proto_handshake_laws.specs.Requested.{Requested, IsDue, IsOnlyRequested, IsQuiet, count_of, slot_of, transaction_of}
use Rattle.turn_client_proto_handshake_laws.specs.Choosing.{Choice}
use Rattle.turn_client_proto_step_laws.specs.Timers.Drawing.{IsAnswerSent, IsStarted, IsTransmitted, IsNextSent, IsRenewed, IsStill, after_sending, is_resting}
use Rattle.turn_client_proto_messages.specs.Api.Sent.{Sent}
use Rattle.turn_client_proto_handshake_laws.specs.Driving.{client_end}
use Rattle.turn_client_proto_step_laws.specs.Timers.Polling.{Answers, HasToReportIn, IsClosing, IsPolled, IsPolledBy, IsPolledIn, IsRefused, IsAgentPolled, AreAllocationsPolled, after_asking, after_time, answer_of, ended_of, left, longest_pause, pace_of, ready_after, socket_for, wait_of, wait_to_send}
use Rattle.turn_client_proto_messages.specs.Api.Options.{allocation_lifetime}
use Rattle.turn_client_proto_handshake_laws.specs.Sent.{Beginning}
use Rattle.turn_client_proto_progress_laws.specs.Keeping.{AwaitsResponse, IsRefreshing, IsTerm, Term, end_of, held_for}
use Rattle.turn_client_proto_progress_laws.specs.Refreshed.{refresh_requested, refresh_sent}
use Rattle.turn_client_proto_progress_laws.proofs.Renewing.Lasting.{expiry, far}
use Rattle.turn_client_proto_progress_laws.proofs.Renewing.Only.{IsSentAgain, IsStillRequested, sent_again, sent_fresh, still_requested}
use Rattle.turn_client_proto_progress_laws.proofs.Renewing.Polled.{least_of_none, of_one}
use Rattle.turn_client_proto_progress_laws.proofs.Renewing.Tools.{either, refused_or, where_false}

-- ---- the allocation

module _ (b : Beginning) (address : SocketAddr) (t : Term) (number now : ℕ) where
  abbrev own : PendingRefresh
  own = record { number = number; lifetime = allocation_lifetime }

  abbrev pending : Allocation
  pending = held_for b address t (own ∷ [])

  unwanted : wants_refresh now pending ≡ false
  unfolding wants_refresh
  unwanted = no_and (nat_le now (expiry b address t))
    where
      no_and : (x : Bool) → (x && false) ≡ false
      no_and true = refl
      no_and false = refl

  no_permission : permission_wanting.renewal_wanted now pending ≡ None
  unfolding permission_wanting.renewal_wanted
  no_permission = none_of (permission_wanting.occurs now pending)
    where
      none_of : (x : Bool) → (if x then option_map (λ (p : OnePermission). p.ip) (find (wants_renewal now) []) else None) ≡ None
      none_of true = refl
      none_of false = refl

  no_channel : channel_wanting.renewal_wanted now pending ≡ None
  unfolding channel_wanting.renewal_wanted
  no_channel = none_of (permission_wanting.occurs now pending)
    where
      none_of : (x : Bool) → (if x then option_map {U = ℕ × SocketAddr} (λ (c : OneChannel). (c.number, c.peer)) (find (channel_wants now) []) else None) ≡ None
      none_of true = refl
      none_of false = refl

  want_none : want now pending ≡ None
  unfolding want
  want_none =
      ap (λ (x : Bool). if x then Some Refresh else option_or (channel_wanted now pending) (permission_wanted now pending)) unwanted
      ∙ (ap (λ (o : Option (ℕ × SocketAddr)). option_or (option_map (λ (c : ℕ × SocketAddr). Channel c.0 c.1) o) (permission_wanted now pending)) no_channel
      ∙ ap (λ (o : Option IpAddr). option_map Permission o) no_permission)

  wanted_none : wanted now (pending ∷ []) ≡ None
  wanted_none = ap (λ (o : Option Want). option_and_then (want now) (if is_some o then Some pending else None)) want_none

  module _ (before : now < expiry b address t) where
    stays_on : stays None now pending ≡ true
    unfolding stays
    stays_on = ap (λ (x : Bool). x || (false && (true && true))) (lt-ltb now (expiry b address t) before)

    next_is : (ready : ℕ) → next_of_allocation None ready now pending ≡ Some (expiry b address t)
    unfolding next_of_allocation
    next_is ready = ap (λ (x : Bool). if x then Some (expiry b address t) else None) (lt-ltb now (expiry b address t) before)

    stored_is : stored None now (pending ∷ []) ≡ pending ∷ []
    stored_is = ap (λ (x : Bool). if x then pending ∷ [] else []) stays_on

    nexts_are : (ready : ℕ) → nexts None ready now (stored None now (pending ∷ [])) ≡ expiry b address t ∷ []
    nexts_are ready = ap (λ (l : List Allocation). nexts None ready now l) stored_is ∙ ap (λ (o : Option ℕ). cons_option o []) (next_is ready)

    polled_is : polled None pending ≡ pending
    unfolding polled
    polled_is = refl

    left_is : map_list (polled None) (stored None now (pending ∷ [])) ≡ pending ∷ []
    left_is = ap (λ (l : List Allocation). map_list (polled None) l) stored_is ∙ ap (λ (x : Allocation). x ∷ []) polled_is

    untouched : map_list (reporting.polled None now) (pending ∷ []) ≡ pending ∷ []
    unfolding joined.polled channels.polled channels.expired permissions.polled given_up
    untouched = refl

    none_decoded : reporting.all_failures None now (pending ∷ []) ≡ []
    unfolding reporting.failures reporting.relay_failures reporting.connection_failures
    none_decoded = refl

-- ---- draws

module _ (b : Beginning) (c : Choice) (address : SocketAddr) (t : Term) (number made many last : ℕ) (events : List TurnEvent) (p : Protocol) (w : IsRefreshing b c address t number made many last events p) (now : ℕ) where
  abbrev a : Requested
  a = refresh_requested b c number made

  again_after : IsOnlyRequested b a (many + 1) (stored_under p.agent number (transaction_of b a (many + 1)))
      → IsRefreshing b c address t number made (many + 1) now events (after_sending now (record p { agent = stored_under p.agent number (transaction_of b a (many + 1)) }))
  again_after only = record {
    settings = record {
      server = w.settings.server;
      remote = w.settings.remote;
      transport = w.settings.transport;
      here = w.settings.here;
      waits = w.settings.waits;
      allocates = w.settings.allocates;
      families = w.settings.families;
      options = w.settings.options;
      pace = w.settings.pace;
      indications = w.settings.indications;
      usual = w.settings.usual;
    };
    requested = only;
    phase = w.phase;
    auth = w.auth;
    allocations = w.allocations;
    queue_is = w.queue_is;
    last_send = refl;
    events_are = w.events_are;
    closing = w.closing;
    resends = w.resends;
  }

  pub refreshing_again : (sent : Option Sent) (q : Protocol) → IsDue b a many now → IsTransmitted p now sent q → (sent ≡ Some (refresh_sent b c number made)) × IsRefreshing b c address t number made (many + 1) now events q
  refreshing_again sent q due is =
      let s : IsSentAgain b a many p w.settings w.requested now sent q = sent_again b a many p w.settings w.requested now sent q due is in
      (s.sent_is, subst (λ (x : Protocol). IsRefreshing b c address t number made (many + 1) now events x) (sym s.after) (again_after s.is_requested))

  pub refreshing_still : (sent : Option Sent) (q : Protocol) → IsQuiet b a many now → IsTransmitted p now sent q → (sent ≡ None) × (q ≡ p)
  refreshing_still sent q quiet is =
      let fresh = subst (λ (l : List Queued). MatchBool (is_resting (pace_of p) p.last_send now) (IsAnswerSent (find is_answer l) p sent q) (IsNextSent l p now sent q)) w.queue_is
      (sent_fresh b a many p w.settings w.requested now sent q quiet is) in
      either (IsStill p sent q) (is_resting (pace_of p) p.last_send now) (or_none (is_resting (pace_of p) p.last_send now) then_still fresh)
    where
      then_still : IsStarted p.phase p now sent q → IsStill p sent q
      then_still started =
          subst (λ (o : Option Want). IsRenewed o p now sent q) (wanted_none b address t number now)
          (subst (λ (l : List Allocation). IsRenewed (wanted now l) p now sent q) w.allocations (subst (λ (f : Phase). IsStarted f p now sent q) w.phase started))

      or_none : (x : Bool) → (IsStarted p.phase p now sent q → IsStill p sent q) → MatchBool x (IsStill p sent q) (IsStarted p.phase p now sent q) → MatchBool x (IsStill p sent q) (IsStill p sent q)
      or_none true next s = s
      or_none false next s = next s

  -- ---- polls

  module _ (is : IsTerm t) (in_range : now ≤ client_end) (open_still : now < asks.end_of b a) (lasts : now < end_of t) (ret : TurnPollRet) (q : Protocol) where
    before : now < expiry b address t
    before = let f = far b address t is in omega (arith, f, lasts)

    abbrev pause : ℕ
    pause = wait_to_send (pace_of p) p.last_send p.queue now (time_after now longest_pause)

    pause_is : pause ≡ time_after now longest_pause
    pause_is = ap (λ (l : List Queued). wait_to_send (pace_of p) p.last_send l now (time_after now longest_pause)) w.queue_is

    left_here : left None now p ≡ pending b address t number now ∷ []
    left_here = ap (λ (l : List Allocation). map_list (polled None) (stored None now l)) w.allocations ∙ left_is b address t number now before

    stays_so : after_time None now p ≡ p
    unfolding after_time
    stays_so =
        ap (λ (l : List Allocation). record p {
          allocations = map_list (reporting.polled None now) l;
          events = p.events ++ reporting.all_failures None now l;
          closing = p.closing ++ joined.all_gone None now l;
        }) left_here
        ∙ (ap (λ (l : List Allocation). record p {
          allocations = l;
          events = p.events ++ reporting.all_failures None now (pending b address t number now ∷ []);
          closing = p.closing ++ [];
        }) (untouched b address t number now before ∙ sym w.allocations)
        ∙ (ap (λ (l : List TurnEvent). record p { events = p.events ++ l; closing = p.closing ++ [] }) (none_decoded b address t number now before)
        ∙ (ap (λ (l : List TurnEvent). record p { events = l; closing = p.closing ++ [] }) (append-nil p.events)
        ∙ ap (λ (l : List SocketAddr). record p { closing = l }) (append-nil p.closing))))

    none_closes : p.closing ++ joined.all_gone None now (left None now p) ≡ []
    none_closes =
        ap (λ (l : List SocketAddr). l ++ joined.all_gone None now (left None now p)) w.closing
        ∙ ap (λ (l : List Allocation). joined.all_gone None now l) left_here

    abbrev Waits : Type 0
    Waits = AwaitsResponse b a many events now p ret q

    walked : (until : ℕ) → (many < count_of b → until ≤ max now (slot_of b a many)) → until ≤ asks.end_of b a → (IsQuiet b a many now → now < until) → now ≤ until → AreAllocationsPolled None (min pause until) p now ret q → Waits
    walked until by_slot by_end later from_now st =
        let list : nexts None (ready_after (pace_of p) p.last_send now) now (stored None now p.allocations) ≡ expiry b address t ∷ [] =
        ap (λ (l : List Allocation). nexts None (ready_after (pace_of p) p.last_send now) now (stored None now l)) w.allocations
        ∙ nexts_are b address t number now before (ready_after (pace_of p) p.last_send now) in
        let least = subst (λ (l : List ℕ). IsLeastOf (min pause until) l st.next) list st.least in
        let sooner_is = least_of_none st.next st.sooner (subst (λ (l : List ℕ). IsLeastOf st.next l st.sooner)
        (ap (λ (l : List Allocation). permissions.all_nexts None (ready_after (pace_of p) p.last_send now) now l) left_here) st.least_of_permissions) in
        let earliest_is = least_of_none st.sooner st.earliest (subst (λ (l : List ℕ). IsLeastOf st.sooner l st.earliest)
        (ap (λ (l : List Allocation). channels.all_nexts None (ready_after (pace_of p) p.last_send now) now l) left_here) st.least_of_channels) in
        let first_is = least_of_none st.earliest st.first (subst (λ (l : List ℕ). IsLeastOf st.earliest l st.first)
        (ap (λ (l : List Allocation). joined.all_nexts l) left_here) st.least_of_connections) in
        let same : st.first ≡ st.next = first_is ∙ (earliest_is ∙ sooner_is) in
        let out = subst (λ (l : List SocketAddr). IsClosing l (answer_of (left None now p) None now st.first) (after_time None now p) ret q) none_closes st.outcome in
        let within : st.next ≤ min pause until = least.within in
        let long = pause_is in
        let ends = before in
        record {
          time = max st.next now;
          answer_is = out.0 ∙ (ap (λ (l : List Allocation). answer_of l None now st.first) left_here ∙ ap (λ (n : ℕ). answer.WaitUntil (max n now)) same);
          by_slot = λ some. (let slot = by_slot some in omega (arith, within, slot));
          by_end = omega (arith, within, by_end, from_now);
          later = λ none quiet. (let more = later quiet in elim least.reached [
            | inl most ↦ omega (arith, most, more, long, in_range)
            | inr found ↦ (let x = of_one (expiry b address t) st.next found in omega (arith, x, ends))
          ]);
          unchanged = out.1 ∙ stays_so;
        }

    abbrev Out : StunAgentPollRet → agents.Agent → Type 0
    Out ticked agent = IsPolledIn p.phase (ended_of ticked) (wait_of pause ticked) (record p { agent = agent }) now ret q

    standing : (ticked : StunAgentPollRet) (agent : agents.Agent) → IsStillRequested b a many p w.settings w.requested now ticked agent → Out ticked agent → Waits
    standing ticked agent k out =
        let one = subst (λ (x : StunAgentPollRet). Out x agent) k.ticked_is out in
        let two = subst (λ (g : agents.Agent). Out (WaitUntil k.until) g) k.unchanged one in
        let st = subst (λ (f : Phase). IsPolledIn f None (min pause k.until) p now ret q) w.phase two in
        let none : unasked p.allocations ≡ None = ap unasked w.allocations in
        walked k.until k.by_slot k.by_end (λ quiet. k.later in_range quiet) k.from_now
        (subst (λ (o : Option Waiting). MatchOption o (AreAllocationsPolled None (min pause k.until) p now ret q) (λ x. Answers (socket_for p x) (after_asking p) ret q)) none st)

    none_refused : {A : Type 0} → IsRefused p now q → A
    none_refused r =
        let k = r.has_to_report in
        let s = still_requested b a many p w.settings w.requested now k.ticked k.agent open_still k.is_ticked in
        let one = subst (λ (x : StunAgentPollRet). HasToReportIn p.phase (ended_of x) (record p { agent = k.agent }) now) s.ticked_is k.decodes in
        let two = subst (λ (g : agents.Agent). HasToReportIn p.phase None (record p { agent = g }) now) s.unchanged one in
        let decodes = subst (λ (f : Phase). HasToReportIn f None p now) w.phase two in
        absurd (decodes.1 (ap (λ (l : List Allocation). reporting.all_failures None now l) left_here ∙ none_decoded b address t number now before))

    by_events : (l : List TurnEvent) → l ≡ events → IsPolledBy l p now ret q → Waits
    by_events [] none by =
        let k = where_false (Answers (answer.WaitUntil now) p ret q) (IsAgentPolled p now ret q) (list_any is_answer p.queue) (ap (list_any is_answer) w.queue_is) by in
        standing k.ticked k.agent (still_requested b a many p w.settings w.requested now k.ticked k.agent open_still k.is_ticked) k.outcome
    by_events (e ∷ rest) some by = record {
      time = now;
      answer_is = by.0;
      by_slot = λ _. omega arith;
      by_end = omega (arith, open_still);
      later = λ none. absurd (Prim.cc (some ∙ none));
      unchanged = by.1;
    }

    pub refreshing_waits : IsPolled p now ret q → Waits
    refreshing_waits polled = elim (refused_or p now ret q polled) [
      | inl by ↦ by_events p.events w.events_are by
      | inr refused ↦ none_refused refused.1
    ]
