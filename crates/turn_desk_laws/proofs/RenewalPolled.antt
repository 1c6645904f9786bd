-- What a client that keeps an allocation returns when it is polled at any time before the end, by the contract of
-- `poll` alone.
use Rattle.std.proofs.Common.{◌≡◌, ℕ, zero, ◌<◌, ◌≤◌, arith, false, List, [], ◌∷◌, ◌++◌, Option, Some, None, refl, sym, ap, ◌∙◌, subst, inl, inr, append-nil, map as map_list}
use Rattle.std.specs.Prelude.{max, min, MatchOption}
use Rattle.std.specs.List.{list_any}
use Rattle.std.specs.declared.net.socket_addr.SocketAddr.{SocketAddr}
use Rattle.turn_client_proto_messages.specs.StunProtoTransaction.Least.{IsLeastOf}
use Rattle.turn_client_proto_messages.specs.StunTypesBase.Times.{time_after}
use Rattle.turn_client_proto_messages.specs.StunProtoAgent.State as agents
use Rattle.turn_client_proto_messages.specs.StunProtoAgent.declared.agent.StunAgentPollRet.{StunAgentPollRet}
use Rattle.turn_client_proto_messages.specs.StunProtoAgent.declared.agent.StunAgentPollRet.TheVariants.{TransactionCancelled, TransactionTimedOut, WaitUntil}
use Rattle.turn_client_proto_messages.specs.Waiting.{Queued, is_answer}
use Rattle.turn_client_proto_handshake_laws.specs.Core.declared.protocol.Phase.{Phase}
use Rattle.turn_client_proto_handshake_laws.specs.Core.declared.protocol.Protocol.{Protocol}
use Rattle.turn_client_proto_step_laws.specs.Peers.Channel.Expiring as channels
use Rattle.turn_client_proto_step_laws.specs.Connection.Expiring as joined
use Rattle.turn_client_proto_step_laws.specs.Connection.Waiting.{unasked}
use Rattle.turn_client_proto_step_laws.specs.Peers.Permission.Reporting as permissions
use Rattle.turn_client_proto_step_laws.specs.Timers.Reporting as reporting
use Rattle.turn_client_proto_messages.specs.Allocation.Polling.{stored, nexts, polled}
use Rattle.turn_client_proto_messages.specs.Allocation.declared.allocation.Allocation.{Allocation}
use Rattle.turn_client_proto_messages.specs.Allocation.declared.connection.Waiting.{Waiting}
use Rattle.turn_client_proto_messages.specs.Api.declared.answer.TurnPollRet.{TurnPollRet}
use Rattle.turn_client_proto_messages.specs.Api.declared.answer.TurnPollRet.TheVariants as answer
use Rattle.turn_client_proto_messages.specs.Api.declared.event.TurnEvent.{TurnEvent}
use Rattle.turn_client_proto_handshake_laws.specs.Choosing.{Choice}
use Rattle.turn_client_proto_handshake_laws.specs.Driving.{client_end}
use Rattle.turn_client_proto_messages.specs.Api.Options.{cadence}
use Rattle.turn_client_proto_step_laws.specs.Timers.Polling.{Answers, HasToReportIn, IsClosing, IsPolled, IsPolledBy, IsPolledIn, IsPolledStanding, IsRefused, IsAgentPolled, AreAllocationsPolled, after_asking, after_time, answer_of, ended_of, left, longest_pause, pace_of, ready_after, socket_for, wait_of, wait_to_send}
use Rattle.turn_client_proto_handshake_laws.specs.Sent.{Beginning}
use Rattle.turn_client_proto_progress_laws.specs.Keeping.{IsKeeping, IsTerm, Term, due_of, end_of, next_of}
use Rattle.turn_client_proto_progress_laws.proofs.Renewing.Lasting.{expiry, far, left_is, lone, nexts_are, no_channels, no_connections, no_permissions, none_gone, none_decoded, untouched}
use Rattle.turn_client_proto_progress_laws.proofs.Renewing.Polled.{least_of_none}
use Rattle.turn_client_proto_progress_laws.proofs.Renewing.Tools.{refused_or, where_false}
use Rattle.turn_desk_laws.specs.RefreshStages.{WaitsOn}

module _ (b : Beginning) (c : Choice) (address : SocketAddr) (t : Term) (last : ℕ) (queue : List Queued) (events : List TurnEvent) (p : Protocol) (w : IsKeeping b c address t last queue events p)
    (unanswered : list_any is_answer queue ≡ false) (is : IsTerm t) (now : ℕ) (in_range : now ≤ client_end) (lasts : now < end_of t) (ret : TurnPollRet) (q : Protocol) where
  before : now < expiry b address t
  before = let f = far b address t is in omega (arith, f, lasts)

  abbrev pause : ℕ
  pause = wait_to_send (pace_of p) p.last_send p.queue now (time_after now longest_pause)

  -- The earliest time for which the client, its agent and the allocation wait.
  abbrev bound : ℕ
  bound = max (due_of t) (max (time_after last cadence) now)

  pub record Bounds : Type 0 where
    pub by_next : (next : ℕ) → next ≤ pause → next ≤ bound → max next now ≤ max now (next_of t last queue)

  -- ---- nothing goes

  left_here : left None now p ≡ lone b address t ∷ []
  left_here = ap (λ (l : List Allocation). map_list (polled None) (stored None now l)) w.allocations ∙ left_is b address t is now before

  stays_so : after_time None now p ≡ p
  unfolding after_time
  stays_so =
      ap (λ (l : List Allocation). record p {
        allocations = map_list (reporting.polled None now) l;
        events = p.events ++ reporting.all_failures None now l;
        closing = p.closing ++ joined.all_gone None now l;
      }) left_here
      ∙ (ap (λ (l : List Allocation). record p {
        allocations = l;
        events = p.events ++ reporting.all_failures None now (lone b address t ∷ []);
        closing = p.closing ++ joined.all_gone None now (lone b address t ∷ []);
      }) (untouched b address t is now before ∙ sym w.allocations)
      ∙ (ap (λ (l : List TurnEvent). record p {
        events = p.events ++ l;
        closing = p.closing ++ joined.all_gone None now (lone b address t ∷ []);
      }) (none_decoded b address t is now before)
      ∙ (ap (λ (l : List SocketAddr). record p { events = p.events ++ []; closing = p.closing ++ l }) (none_gone b address t is now before)
      ∙ (ap (λ (l : List TurnEvent). record p { events = l; closing = p.closing ++ [] }) (append-nil p.events)
      ∙ ap (λ (l : List SocketAddr). record p { closing = l }) (append-nil p.closing)))))

  none_closes : p.closing ++ joined.all_gone None now (left None now p) ≡ []
  none_closes =
      ap (λ (l : List SocketAddr). l ++ joined.all_gone None now (left None now p)) w.closing
      ∙ (ap (λ (l : List Allocation). joined.all_gone None now l) left_here ∙ none_gone b address t is now before)

  -- ---- the walk

  walked : Bounds → (until : ℕ) → now < until → AreAllocationsPolled None (min pause until) p now ret q → WaitsOn t last queue now p ret q
  walked bounds until after st =
      let ready : ready_after (pace_of p) p.last_send now ≡ max (time_after last cadence) now = ap (λ (l : Option ℕ). ready_after (pace_of p) l now) w.last_send
      ∙ ap (λ (n : ℕ). ready_after n (Some last) now) (w.settings.pace ∙ w.settings.usual.pace) in
      let list : nexts None (ready_after (pace_of p) p.last_send now) now (stored None now p.allocations) ≡ bound ∷ [] =
      ap (λ (l : List Allocation). nexts None (ready_after (pace_of p) p.last_send now) now (stored None now l)) w.allocations
      ∙ (nexts_are b address t is now before (ready_after (pace_of p) p.last_send now) ∙ ap (λ (r : ℕ). max (due_of t) r ∷ []) ready) in
      let least = subst (λ (l : List ℕ). IsLeastOf (min pause until) l st.next) list st.least in
      let sooner_is = least_of_none st.next st.sooner (subst (λ (l : List ℕ). IsLeastOf st.next l st.sooner)
      (ap (λ (l : List Allocation). permissions.all_nexts None (ready_after (pace_of p) p.last_send now) now l) left_here ∙ no_permissions b address t is now before (ready_after (pace_of p) p.last_send now)) st.least_of_permissions) in
      let earliest_is = least_of_none st.sooner st.earliest (subst (λ (l : List ℕ). IsLeastOf st.sooner l st.earliest)
      (ap (λ (l : List Allocation). channels.all_nexts None (ready_after (pace_of p) p.last_send now) now l) left_here ∙ no_channels b address t is now before (ready_after (pace_of p) p.last_send now)) st.least_of_channels) in
      let first_is = least_of_none st.earliest st.first (subst (λ (l : List ℕ). IsLeastOf st.earliest l st.first)
      (ap (λ (l : List Allocation). joined.all_nexts l) left_here ∙ no_connections b address t is now before) st.least_of_connections) in
      let same : st.first ≡ st.next = first_is ∙ (earliest_is ∙ sooner_is) in
      let out = subst (λ (l : List SocketAddr). IsClosing l (answer_of (left None now p) None now st.first) (after_time None now p) ret q) none_closes st.outcome in
      let within : st.next ≤ min pause until = least.within in
      let below : st.next ≤ bound = least.below zero 0 (omega arith) in
      record {
        time = max st.next now;
        answer_is = out.0 ∙ (ap (λ (l : List Allocation). answer_of l None now st.first) left_here ∙ ap (λ (n : ℕ). answer.WaitUntil (max n now)) same);
        by_next = bounds.by_next st.next (omega (arith, within)) below;
        unchanged = out.1 ∙ stays_so;
      }

  standing : Bounds → (until : ℕ) → now < until → IsPolledStanding None (min pause until) p now ret q → WaitsOn t last queue now p ret q
  standing bounds until after st =
      let none : unasked p.allocations ≡ None = ap unasked w.allocations in
      walked bounds until after (subst (λ (o : Option Waiting). MatchOption o (AreAllocationsPolled None (min pause until) p now ret q) (λ x. Answers (socket_for p x) (after_asking p) ret q)) none st)

  abbrev Out : StunAgentPollRet → agents.Agent → Type 0
  Out ticked agent = IsPolledIn p.phase (ended_of ticked) (wait_of pause ticked) (record p { agent = agent }) now ret q

  -- No transaction ends.
  waits_on : {A : Type 0} (ticked : StunAgentPollRet) (agent : agents.Agent) → agents.IsPolled p.agent now ticked agent → ((until : ℕ) → ticked ≡ WaitUntil until → now < until → agent ≡ p.agent → A) → A
  waits_on (TransactionTimedOut number) agent gone next = absurd (Prim.cc (sym (w.none_requested number) ∙ gone.least.present))
  waits_on (TransactionCancelled number) agent gone next = absurd (Prim.cc (sym (w.none_requested number) ∙ gone.least.present))
  waits_on (WaitUntil until) agent waits next =
      let after : now < until = elim waits.1.reached [ inl e ↦ omega (arith, e, in_range) | inr some ↦ absurd (Prim.cc (sym (w.none_requested some.0) ∙ some.2)) ] in
      next until refl after waits.2

  ticks : Bounds → IsAgentPolled p now ret q → WaitsOn t last queue now p ret q
  ticks bounds k =
      waits_on k.ticked k.agent k.is_ticked (λ until ticked after same.
      let one = subst (λ (x : StunAgentPollRet). Out x k.agent) ticked k.outcome in
      let two = subst (λ (g : agents.Agent). Out (WaitUntil until) g) same one in
      standing bounds until after (subst (λ (f : Phase). IsPolledIn f None (min pause until) p now ret q) w.phase two))

  -- Memory does not run out.
  none_refused : {A : Type 0} → IsRefused p now q → A
  none_refused r =
      let k = r.has_to_report in
      waits_on k.ticked k.agent k.is_ticked (λ until ticked after same.
      let one = subst (λ (x : StunAgentPollRet). HasToReportIn p.phase (ended_of x) (record p { agent = k.agent }) now) ticked k.decodes in
      let two = subst (λ (g : agents.Agent). HasToReportIn p.phase None (record p { agent = g }) now) same one in
      let decodes = subst (λ (f : Phase). HasToReportIn f None p now) w.phase two in
      absurd (decodes.1 (ap (λ (l : List Allocation). reporting.all_failures None now l) left_here ∙ none_decoded b address t is now before)))

  by_events : Bounds → (l : List TurnEvent) → l ≡ events → IsPolledBy l p now ret q → WaitsOn t last queue now p ret q
  by_events bounds [] none by =
      ticks bounds (where_false (Answers (answer.WaitUntil now) p ret q) (IsAgentPolled p now ret q) (list_any is_answer p.queue) (ap (list_any is_answer) w.queue_is ∙ unanswered) by)
  by_events bounds (e ∷ rest) some by = record {
    time = now;
    answer_is = by.0;
    by_next = omega arith;
    unchanged = by.1;
  }

  pub polled_so : Bounds → IsPolled p now ret q → WaitsOn t last queue now p ret q
  polled_so bounds polled = elim (refused_or p now ret q polled) [
    | inl by ↦ by_events bounds p.events w.events_are by
    | inr refused ↦ none_refused refused.1
  ]

bounds : (b : Beginning) (c : Choice) (address : SocketAddr) (t : Term) (last : ℕ) (queue : List Queued) (events : List TurnEvent) (p : Protocol) (w : IsKeeping b c address t last queue events p)
    (unanswered : list_any is_answer queue ≡ false) (is : IsTerm t) (now : ℕ) (in_range : now ≤ client_end) (lasts : now < end_of t) (ret : TurnPollRet) (q : Protocol)
    → Bounds b c address t last queue events p w unanswered is now in_range lasts ret q
bounds b c address t last [] events p w unanswered is now in_range lasts ret q =
    let pause_is : wait_to_send (pace_of p) p.last_send p.queue now (time_after now longest_pause) ≡ time_after now longest_pause =
    ap (λ (l : List Queued). wait_to_send (pace_of p) p.last_send l now (time_after now longest_pause)) w.queue_is in
    record {
      by_next = λ next one two. omega (arith, two);
    }
bounds b c address t last (one ∷ rest) events p w unanswered is now in_range lasts ret q =
    let pause_is : wait_to_send (pace_of p) p.last_send p.queue now (time_after now longest_pause) ≡ min (time_after now longest_pause) (time_after last cadence) =
    ap (λ (l : List Queued). wait_to_send (pace_of p) p.last_send l now (time_after now longest_pause)) w.queue_is
    ∙ (ap (λ (l : Option ℕ). wait_to_send (pace_of p) l (one ∷ rest) now (time_after now longest_pause)) w.last_send
    ∙ ap (λ (n : ℕ). wait_to_send n (Some last) (one ∷ rest) now (time_after now longest_pause)) (w.settings.pace ∙ w.settings.usual.pace)) in
    record {
      by_next = λ next first two. omega (arith, first, pause_is);
    }

pub keeping_waits : (b : Beginning) (c : Choice) (address : SocketAddr) (t : Term) (last : ℕ) (queue : List Queued) (events : List TurnEvent) (p : Protocol) (w : IsKeeping b c address t last queue events p)
    (unanswered : list_any is_answer queue ≡ false) (is : IsTerm t) (now : ℕ) (in_range : now ≤ client_end) (lasts : now < end_of t) (ret : TurnPollRet) (q : Protocol)
    → IsPolled p now ret q → WaitsOn t last queue now p ret q
keeping_waits b c address t last queue events p w unanswered is now in_range lasts ret q polled =
    polled_so b c address t last queue events p w unanswered is now in_range lasts ret q
    (bounds b c address t last queue events p w unanswered is now in_range lasts ret q) polled
