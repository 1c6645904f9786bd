-- Nothing is sent before the time until which a client waits.
use Rattle.std.proofs.Common.{◌≡◌, ℕ, suc, ◌<◌, ◌≤◌, arith, Bool, true, false, List, [], ◌∷◌, ◌++◌, Option, Some, None, cond, zero, refl, sym, ap, ◌∙◌, subst, map}
use Rattle.std.specs.Prelude.{find, is_some, nat_le, nat_lt, not, ◌&&◌, ◌||◌, max, min, MatchOption, if◌then◌else◌}
use Rattle.std.specs.Option.{option_and_then, option_map, option_or}
use Rattle.std.specs.Bool.{MatchBool}
use Rattle.std.specs.List.{All, cons_option, filter_map, list_any}
use Rattle.std.proofs.lemmas.Bool.{and_right, lt-leb, ltb-false}
use Rattle.std.specs.FinMap as finite
use Rattle.std.specs.declared.net.socket_addr.SocketAddr.{SocketAddr}
use Rattle.turn_client_proto_allocation.specs.StunProtoTransaction.Agents.{Transaction, is_ended}
use Rattle.stun_proto_agent.specs.declared.agent.StunAgentPollRet.{StunAgentPollRet}
use Rattle.stun_proto_agent.specs.declared.agent.StunAgentPollRet.TheVariants.{TransactionCancelled, TransactionTimedOut, WaitUntil}
use Rattle.stun_types_base.specs.Times.{time_after}
use Rattle.stun_proto_agent.specs.Sending.{NoneDue, is_due_of}
use Rattle.stun_proto_agent.specs.State as agents
use Rattle.turn_client_proto_allocation.specs.Awaited.{is_among}
use Rattle.turn_client_proto_allocation.specs.Permissions.{are_none, has_expired, next_of_permission, permission_renewal, polled_permission, polled_permissions, standing, wants_renewal}
use Rattle.turn_client_proto_allocation.specs.declared.permission.Permission.{Permission}
use Rattle.turn_client_proto_allocation.specs.declared.channel.Channel.{Channel}
use Rattle.turn_client_proto_allocation.specs.Channels as channel
use Rattle.turn_client_proto_peers.specs.Channel.Expiring as channels
use Rattle.turn_client_proto_peers.specs.Channel.Wanting as bindings
use Rattle.turn_client_proto_connection.specs.Expiring as joined
use Rattle.turn_client_proto_connection.specs.Reported as connections
use Rattle.turn_client_proto_connection.specs.Waiting.{unasked}
use Rattle.turn_client_proto_allocation.specs.declared.connection.Waiting.{Waiting}
use Rattle.turn_client_proto_peers.specs.Permission.Reporting as permissions
use Rattle.turn_client_proto_peers.specs.Permission.Wanting.{renewal_wanted, occurs}
use Rattle.turn_client_proto_timers.proofs.Polls.{not_closing}
use Rattle.turn_client_proto_timers.specs.Reporting as reporting
use Rattle.turn_client_proto_timers.specs.Wanting.{channel_wanted, permission_wanted, want, wanted, wants}
use Rattle.turn_client_proto_timers.specs.declared.wanting.Want.{Want}
use Rattle.turn_client_proto_timers.specs.declared.wanting.Want.TheVariants.{Refresh, Channel as Binding, Permission as Renewal}
use Rattle.turn_client_proto_allocation.specs.Polling.{has_ended, stored, next_of, polled}
use Rattle.turn_client_proto_allocation.specs.Refreshing.{is_settled, renewal, wants_refresh}
use Rattle.turn_client_proto_allocation.specs.declared.allocation.Allocation.{Allocation}
use Rattle.turn_client_proto_allocation.specs.declared.refresh.PendingRefresh.{PendingRefresh}
use Rattle.turn_client_proto_api.specs.declared.answer.TurnPollRet.TheVariants as answer
use Rattle.turn_client_proto_api.specs.declared.event.TurnEvent.{TurnEvent}
use Rattle.turn_client_proto_timers.specs.Drawing.{Again, Fresh, IsAnswerSent, IsStarted, IsTransmitted, IsNextSent, IsRenewed, IsStill, is_resting}
use Rattle.turn_client_proto_api.specs.Sent.{Sent}
use Rattle.turn_client_proto_core.specs.Ending.{ended}
use Rattle.turn_client_proto_timers.specs.Polling.{Answers, after_asking, after_time, answer_of, IsPolled, IsPolledBy, IsPolledIn, IsPolledSent, IsAgentPolled, AreAllocationsPolled, ended_of, left, longest_pause, pace_of, ready_after, socket_for, wait_of, wait_to_send}
use Rattle.turn_client_proto_messages.specs.Waiting.{Queued, is_answer}
use Rattle.turn_client_proto_core.specs.declared.protocol.Phase.{Phase}
use Rattle.turn_client_proto_core.specs.declared.protocol.Phase.TheVariants.{Initial, InitialSent, Authenticating, Authenticated, Ended}
use Rattle.turn_client_proto_core.specs.declared.protocol.Protocol.{Protocol}

-- Nothing is due before the time until which an agent waits: a clause of the agent's theorems.
abbrev pub AgentsWait : Type 0
AgentsWait = (agent : agents.Agent) (now until time number : ℕ) (t : Transaction) → agents.NoneEnded agent now → agents.IsNext agent now until → now ≤ time → time < until
    → finite.get agent.outstanding number ≡ Some t → (is_due_of agent time t ≡ false) × (is_ended time t ≡ false)

-- ---- tests

-- What holds if a test succeeds, and follows if the test fails, holds.
by_test : {A B : Type 0} (b : Bool) → MatchBool b A B → (b ≡ false → B → A) → A
by_test true is follows = is
by_test false is follows = follows refl is

-- The case of a failed test.
where_false : (A B : Type 0) (b : Bool) → b ≡ false → MatchBool b A B → B
where_false A B true not_so is = absurd (Prim.cc not_so)
where_false A B false not_so is = is

-- ---- what is sent, where nothing is due again

none_queued : (pace : ℕ) (last : Option ℕ) (queue : List Queued) (now until time wait : ℕ) → now ≤ time → time < until → until ≤ wait_to_send pace last queue now wait → is_resting pace last time ≡ false → queue ≡ []
none_queued pace last [] now until time wait from before within free = refl
none_queued pace None (q ∷ rest) now until time wait from before within free = absurd (omega (arith, from, before, within))
none_queued pace (Some last) (q ∷ rest) now until time wait from before within free =
    let ready = ltb-false time (time_after last pace) free in
    absurd (omega (arith, before, within, ready))

-- No reply is found in a queue without one.
none_found : (queue : List Queued) → list_any is_answer queue ≡ false → find is_answer queue ≡ None
none_found [] none = refl
none_found (q ∷ rest) none =
    elim (is_answer q) as (λ (b : Bool). (b || list_any is_answer rest) ≡ false → cond b (Some q) (find is_answer rest) ≡ None) [
      | true ↦ λ there. absurd (Prim.cc there)
      | false ↦ λ there. none_found rest there
    ] none

module _ (p after : Protocol) (time : ℕ) (sent : Option Sent) where
  pub by_draw : list_any is_answer p.queue ≡ false → NoneDue p.agent time → (is_resting (pace_of p) p.last_send time ≡ false → IsNextSent p.queue p time sent after → IsStill p sent after)
      → IsTransmitted p time sent after → IsStill p sent after
  by_draw no_answer none follows (Again again answer is) = absurd (Prim.cc (sym (none is.number is.transaction is.least.present) ∙ is.least.passes))
  by_draw no_answer none follows (Fresh due is) =
      by_test (is_resting (pace_of p) p.last_send time) (subst (λ (o : Option Queued). MatchBool (is_resting (pace_of p) p.last_send time) (IsAnswerSent o p sent after) (IsNextSent p.queue p time sent after)) (none_found p.queue no_answer) is) follows

  pub started_by : (phase : Phase) → p.phase ≡ phase → p.queue ≡ [] → IsNextSent p.queue p time sent after → IsStarted phase p time sent after
  started_by phase is empty next =
      let started : IsStarted p.phase p time sent after = subst (λ (q : List Queued). IsNextSent q p time sent after) empty next in
      subst (λ (f : Phase). IsStarted f p time sent after) is started

-- ---- allocations

-- ---- permissions

module _ (earliest ready now time : ℕ) (begins : ready ≤ time) (before : time < earliest) (later : now < earliest) where
  not_renewed : (p : Permission) → earliest ≤ next_of_permission None ready now p → wants_renewal time p ≡ false
  unfolding next_of_permission
  not_renewed p within =
      elim p.renewals as (λ (rs : List ℕ).
      earliest ≤ (if has_expired now p then now else (if is_among None rs then ready else (if are_none rs then max (permission_renewal p) ready else p.expiry)))
      → (nat_le time p.expiry && (are_none rs && nat_le (permission_renewal p) time)) ≡ false) [
        | [] ↦ elim (has_expired now p) as (λ (b : Bool). earliest ≤ (if b then now else max (permission_renewal p) ready) → (nat_le time p.expiry && nat_le (permission_renewal p) time) ≡ false) [
          | true ↦ λ short. absurd (omega (arith, short, later))
          | false ↦ λ long.
              let less : time < permission_renewal p = omega (arith, long, begins, before) in
              and_right (nat_le time p.expiry) (nat_le (permission_renewal p) time) (lt-leb (permission_renewal p) time less)
        ]
        | r ∷ rs ↦ λ long. and_right (nat_le time p.expiry) false refl
      ] within

  after_head : (n : ℕ) (rest : List ℕ) → All (λ m. earliest ≤ m) (n ∷ rest) → All (λ m. earliest ≤ m) rest
  after_head n rest all = λ k d less. all (suc k) d (omega (arith, less))

  -- None of the permissions that are left is to be renewed.
  none_renewed : (all : List Permission) → All (λ n. earliest ≤ n) (map (next_of_permission None ready now) all) → find (wants_renewal time) (polled_permissions None now all) ≡ None
  unfolding polled_permission
  none_renewed [] every = refl
  none_renewed (p ∷ rest) every =
      let later_ones = none_renewed rest (after_head (next_of_permission None ready now p) (map (next_of_permission None ready now) rest) every) in
      let not_it : wants_renewal time p ≡ false = not_renewed p (every 0 0 (omega arith)) in
      elim (not (has_expired now p)) as (λ (b : Bool). find (wants_renewal time) (map (polled_permission None) (cond b (p ∷ standing now rest) (standing now rest))) ≡ None) [
        | true ↦ ap (λ (b : Bool). cond b (Some p) (find (wants_renewal time) (polled_permissions None now rest))) not_it ∙ later_ones
        | false ↦ later_ones
      ]

  -- ---- channels

  -- A channel with nothing to do before `earliest` doesn't expire, and isn't to be renewed.
  not_bound_again : (c : Channel) → earliest ≤ channel.next_of_channel None ready now c → (channel.has_expired now c ≡ false) × (channel.wants_renewal time c ≡ false)
  unfolding channel.next_of_channel
  not_bound_again c within =
      elim c.renewals as (λ (rs : List ℕ).
      earliest ≤ (if channel.has_expired now c then now else (if is_among None rs then ready else (if are_none rs then max (channel.channel_renewal c) ready else c.expiry)))
      → (channel.has_expired now c ≡ false) × ((nat_le time c.expiry && (are_none rs && nat_le (channel.channel_renewal c) time)) ≡ false)) [
        | [] ↦ elim (channel.has_expired now c) as (λ (b : Bool). earliest ≤ (if b then now else max (channel.channel_renewal c) ready) → (b ≡ false) × ((nat_le time c.expiry && nat_le (channel.channel_renewal c) time) ≡ false)) [
          | true ↦ λ short. absurd (omega (arith, short, later))
          | false ↦ λ long.
              let less : time < channel.channel_renewal c = omega (arith, long, begins, before) in
              (refl, and_right (nat_le time c.expiry) (nat_le (channel.channel_renewal c) time) (lt-leb (channel.channel_renewal c) time less))
        ]
        | r ∷ rs ↦ elim (channel.has_expired now c) as (λ (b : Bool). earliest ≤ (if b then now else c.expiry) → (b ≡ false) × ((nat_le time c.expiry && false) ≡ false)) [
          | true ↦ λ short. absurd (omega (arith, short, later))
          | false ↦ λ long. (refl, and_right (nat_le time c.expiry) false refl)
        ]
      ] within

  -- None of the channels expires.
  none_expires : (all : List Channel) → All (λ n. earliest ≤ n) (map (channel.next_of_channel None ready now) all) → channels.last_index (channel.has_expired now) all ≡ None
  none_expires [] every = refl
  none_expires (c ∷ rest) every =
      let none = none_expires rest (after_head (channel.next_of_channel None ready now c) (map (channel.next_of_channel None ready now) rest) every) in
      let not_it = (not_bound_again c (every 0 0 (omega arith))).0 in
      rw (none, not_it) refl

  -- None of the channels is to be renewed.
  none_bound_again : (all : List Channel) → All (λ n. earliest ≤ n) (map (channel.next_of_channel None ready now) all) → find (channel.wants_renewal time) (map (channel.polled_channel None) all) ≡ None
  unfolding channel.polled_channel
  none_bound_again [] every = refl
  none_bound_again (c ∷ rest) every =
      let later_ones = none_bound_again rest (after_head (channel.next_of_channel None ready now c) (map (channel.next_of_channel None ready now) rest) every) in
      ap (λ (b : Bool). cond b (Some c) (find (channel.wants_renewal time) (map (channel.polled_channel None) rest))) (not_bound_again c (every 0 0 (omega arith))).1 ∙ later_ones

  none_bound_left : (all : List Channel) → All (λ n. earliest ≤ n) (map (channel.next_of_channel None ready now) all)
      → find (channel.wants_renewal time) (map (channel.polled_channel None) (channels.without all (channels.last_index (channel.has_expired now) all))) ≡ None
  none_bound_left all every =
      ap (λ (o : Option ℕ). find (channel.wants_renewal time) (map (channel.polled_channel None) (channels.without all o))) (none_expires all every)
      ∙ none_bound_again all every

module _ (next ready now time : ℕ) (begins : ready ≤ time) (before : time < next) where
  not_due : (a : Allocation) (rest : List ℕ) → All (λ n. next ≤ n) (cons_option (next_of None ready now a) rest) → wants_refresh time (polled None a) ≡ false
  unfolding next_of wants_refresh polled
  not_due a rest all =
      elim a.pending_refreshes as (λ (rs : List PendingRefresh).
      All (λ n. next ≤ n) (cons_option (if is_settled rs then Some (max (renewal a) ready) else (if has_ended None rs then Some ready else (if nat_lt now a.expiry then Some a.expiry else None))) rest)
      → (not a.is_expired && (nat_le time a.expiry && (is_settled rs && nat_le (renewal a) time))) ≡ false) [
        | [] ↦ λ every.
            let first = every 0 0 (omega arith) in
            let less : time < renewal a = omega (arith, first, begins, before) in
            and_right (not a.is_expired) (nat_le time a.expiry && nat_le (renewal a) time)
            (and_right (nat_le time a.expiry) (nat_le (renewal a) time) (lt-leb (renewal a) time less))
        | r ∷ rs ↦ λ every. and_right (not a.is_expired) (nat_le time a.expiry && false) (and_right (nat_le time a.expiry) false refl)
      ] all

  after_first : (o : Option ℕ) (rest : List ℕ) → All (λ n. next ≤ n) (cons_option o rest) → All (λ n. next ≤ n) rest
  after_first None rest all = all
  after_first (Some n) rest all = λ k d less. all (suc k) d (omega (arith, less))

  -- If an allocation isn't to be renewed, and neither are its channels and permissions, nothing is to be sent
  -- for it.
  nothing_wanted : (a : Allocation) → wants_refresh time a ≡ false
      → find (channel.wants_renewal time) (map (channel.polled_channel None) (channels.without a.channels (channels.last_index (channel.has_expired now) a.channels))) ≡ None
      → find (wants_renewal time) (polled_permissions None now a.permissions) ≡ None → want time (reporting.polled None now a) ≡ None
  unfolding want renewal_wanted bindings.renewal_wanted wants_refresh permissions.polled channels.polled channels.expired connections.given_up joined.polled renewal
  nothing_wanted a not_it no_channel no_permission =
      ap (λ (b : Bool). if b then Some Refresh else option_or (channel_wanted time (reporting.polled None now a)) (permission_wanted time (reporting.polled None now a))) not_it
      ∙ ap (λ (o : Option Channel). option_or (option_map (λ (c : ℕ × SocketAddr). Binding c.0 c.1) (if occurs time a then option_map (λ (c : Channel). (c.number, c.peer)) o else None)) (permission_wanted time (reporting.polled None now a))) no_channel
      ∙ ap (λ (o : Option Permission). option_or (option_map (λ (c : ℕ × SocketAddr). Binding c.0 c.1) (if occurs time a then None else None)) (option_map Renewal (if occurs time a then option_map (λ (p : Permission). p.ip) o else None))) no_permission
      ∙ neither (occurs time a)
    where
      neither : (b : Bool) → option_or (option_map (λ (c : ℕ × SocketAddr). Binding c.0 c.1) (if b then None else None)) (option_map Renewal (if b then None else None)) ≡ None
      neither true = refl
      neither false = refl

  head_of_both : (earliest : ℕ) (one other : List ℕ) → All (λ n. earliest ≤ n) (one ++ other) → All (λ n. earliest ≤ n) one × All (λ n. earliest ≤ n) other
  head_of_both earliest [] other all = ((λ k d less. absurd (omega (arith, less))), all)
  head_of_both earliest (n ∷ one) other all =
      let rest = head_of_both earliest one other (λ k d less. all (suc k) d (omega (arith, less))) in
      (first n one (all 0 n (omega arith)) rest.0, rest.1)
    where
      first : (n : ℕ) (one : List ℕ) → earliest ≤ n → All (λ m. earliest ≤ m) one → All (λ m. earliest ≤ m) (n ∷ one)
      first n one here there zero d less = here
      first n one here there (suc k) d less = there k d (omega (arith, less))

  module _ (sooner earliest : ℕ) (before_permissions : time < sooner) (later_permissions : now < sooner) (before_channels : time < earliest) (later_channels : now < earliest) where
    pub none_due : (all : List Allocation) → All (λ n. next ≤ n) (filter_map (next_of None ready now) all)
        → All (λ n. sooner ≤ n) (permissions.all_nexts None ready now (map (polled None) all))
        → All (λ n. earliest ≤ n) (channels.all_nexts None ready now (map (polled None) all))
        → find (wants time) (map (reporting.polled None now) (map (polled None) all)) ≡ None
    unfolding polled
    none_due [] every every_permission every_channel = refl
    none_due (a ∷ rest) every every_permission every_channel =
        let left = map (polled None) rest in
        let of_permissions = head_of_both sooner (permissions.nexts None ready now a) (permissions.all_nexts None ready now left) every_permission in
        let of_channels = head_of_both earliest (channels.nexts None ready now a) (channels.all_nexts None ready now left) every_channel in
        let none = nothing_wanted a (not_due a (filter_map (next_of None ready now) rest) every)
        (none_bound_left earliest ready now time begins before_channels later_channels a.channels of_channels.0)
        (none_renewed sooner ready now time begins before_permissions later_permissions a.permissions of_permissions.0) in
        ap (λ (o : Option Want). cond (is_some o) (Some (reporting.polled None now a)) (find (wants time) (map (reporting.polled None now) left))) none
        ∙ none_due rest (after_first (next_of None ready now a) (filter_map (next_of None ready now) rest) every) of_permissions.1 of_channels.1

pub ready_by : (pace : ℕ) (last : Option ℕ) (now time : ℕ) → now ≤ time → is_resting pace last time ≡ false → ready_after pace last now ≤ time
ready_by pace None now time from free = from
ready_by pace (Some last) now time from free = let ready = ltb-false time (time_after last pace) free in omega (arith, from, ready)

-- ---- the result

module _ (quiet : AgentsWait) (old new after : Protocol) (now until time : ℕ) (sent : Option Sent) (later : now < until) (from : now ≤ time) (before : time < until) (transmitted : IsTransmitted new time sent after) where
  not_now : {A : Type 0} → answer.WaitUntil until ≡ answer.WaitUntil now → A
  not_now is = let same : until ≡ now = Prim.cc is in absurd (omega (arith, same, later))

  -- If the client equals one that sends nothing, it sends nothing.
  same_client : (p : Protocol) → new ≡ p → (IsTransmitted p time sent after → IsStill p sent after) → IsStill new sent after
  same_client p is follows =
      let still = follows (subst (λ (x : Protocol). IsTransmitted x time sent after) is transmitted) in
      subst (λ (x : Protocol). IsStill x sent after) (sym is) still

  -- If a transaction has ended, the client doesn't wait.
  over_sent : (numbers : List ℕ) (number wait : ℕ) (p : Protocol) → IsPolledSent numbers (Some number) wait p now (answer.WaitUntil until) new → IsStill new sent after
  over_sent numbers number wait p is =
      elim (is_among (Some number) numbers) as (λ b. MatchBool b (Answers answer.Closed (ended p) (answer.WaitUntil until) new) (Answers (answer.WaitUntil now) p (answer.WaitUntil until) new) → IsStill new sent after) [
        | true ↦ λ closed. absurd (Prim.cc closed.0)
        | false ↦ λ waits. not_now waits.0
      ] is

  -- If the result is a wait, no socket is requested.
  of_walk : {A Walk : Type 0} (found : Option Waiting) (p : Protocol) → MatchOption found Walk (λ w. Answers (socket_for p w) (after_asking p) (answer.WaitUntil until) new) → (Walk → A) → A
  of_walk None p is follows = follows is
  of_walk (Some w) p is follows = absurd (Prim.cc is.0)

  over_standing : (all : List Allocation) (number next : ℕ) → answer.WaitUntil until ≡ answer_of all (Some number) now next → IsStill new sent after
  over_standing [] number next is = absurd (Prim.cc is)
  over_standing (a ∷ rest) number next is = not_now is

  over_now : (phase : Phase) (number wait : ℕ) (p : Protocol) → IsPolledIn phase (Some number) wait p now (answer.WaitUntil until) new → IsStill new sent after
  over_now Initial number wait p is = not_now is.0
  over_now (InitialSent numbers) number wait p is = over_sent numbers number wait p is
  over_now (Authenticating numbers) number wait p is = over_sent numbers number wait p is
  over_now Authenticated number wait p is = of_walk (unasked p.allocations) p is (λ (walked : AreAllocationsPolled (Some number) wait p now (answer.WaitUntil until) new). over_standing (left (Some number) now p) number walked.first
      (not_closing (p.closing ++ joined.all_gone (Some number) now (left (Some number) now p)) (answer_of (left (Some number) now p) (Some number) now walked.first) until (after_time (Some number) now p) new walked.outcome).0)
  over_now Ended number wait p is = absurd (Prim.cc is.0)

  no_longer : (all : List Allocation) (next : ℕ) → answer.WaitUntil until ≡ answer_of all None now next → until ≤ next
  no_longer [] next is = absurd (Prim.cc is)
  no_longer (a ∷ rest) next is = let same : until ≡ max next now = Prim.cc is in omega (arith, same, later)

  -- The case in which no transaction has ended and the agent waits.
  module _ (agent : agents.Agent) (wait : ℕ) (none : agents.NoneEnded old.agent now) (next : agents.IsNext old.agent now wait) (agent_is : agent ≡ old.agent) (no_answer : list_any is_answer old.queue ≡ false) where
    abbrev pause : ℕ
    pause = wait_to_send (pace_of old) old.last_send old.queue now (time_after now longest_pause)

    abbrev ticked : Protocol
    ticked = record old { agent = agent }

    agent_quiet : until ≤ min pause wait → NoneDue agent time
    agent_quiet within =
        let earlier : time < wait = omega (arith, before, within) in
        let due : NoneDue old.agent time = λ number t there. (quiet old.agent now wait time number t none next from earlier there).0 in
        subst (λ (a : agents.Agent). NoneDue a time) (sym agent_is) due

    empty_queue : until ≤ min pause wait → is_resting (pace_of old) old.last_send time ≡ false → old.queue ≡ []
    empty_queue within free =
        let short : until ≤ pause = omega (arith, within) in
        none_queued (pace_of old) old.last_send old.queue now until time (time_after now longest_pause) from before short free

    nothing_started : (phase : Phase) → old.phase ≡ phase → (IsStarted phase ticked time sent after → IsStill ticked sent after) → until ≤ min pause wait → new ≡ ticked → IsStill new sent after
    nothing_started phase is still within same = same_client ticked same (by_draw ticked after time sent no_answer (agent_quiet within)
        (λ free going. still (started_by ticked after time sent phase is (empty_queue within free) going)))

    standing_still : old.phase ≡ Authenticated → AreAllocationsPolled None (min pause wait) ticked now (answer.WaitUntil until) new → IsStill new sent after
    unfolding after_time
    standing_still is polling =
        let all : List Allocation = stored None now old.allocations in
        let p : Protocol = after_time None now ticked in
        let outcome = not_closing (ticked.closing ++ joined.all_gone None now (left None now ticked)) (answer_of (left None now ticked) None now polling.first) until p new polling.outcome in
        let most = no_longer (left None now ticked) polling.first outcome.0 in
        let least_of_connections = polling.least_of_connections.within in
        let least = polling.least.within in
        let least_of_permissions = polling.least_of_permissions.within in
        let least_of_channels = polling.least_of_channels.within in
        let within : until ≤ min pause wait = omega (arith, most, least, least_of_permissions, least_of_channels, least_of_connections) in
        let before_channels : time < polling.earliest = omega (arith, before, most, least_of_connections) in
        let before_permissions : time < polling.sooner = omega (arith, before_channels, least_of_channels) in
        let before_next : time < polling.next = omega (arith, before_permissions, least_of_permissions) in
        let later_channels : now < polling.earliest = omega (arith, later, most, least_of_connections) in
        let later_permissions : now < polling.sooner = omega (arith, later_channels, least_of_channels) in
        same_client p outcome.1 (by_draw p after time sent no_answer (agent_quiet within) (λ free going.
        let none = none_due polling.next (ready_after (pace_of old) old.last_send now) now time (ready_by (pace_of old) old.last_send now time from free) before_next polling.sooner polling.earliest
        before_permissions later_permissions before_channels later_channels all polling.least.below polling.least_of_permissions.below polling.least_of_channels.below in
        let started : IsRenewed (wanted time p.allocations) p time sent after = started_by p after time sent Authenticated is (empty_queue within free) going in
        subst (λ (o : Option Want). IsRenewed o p time sent after) (ap (option_and_then (want time)) none) started))

    waiting : (phase : Phase) → old.phase ≡ phase → IsPolledIn phase None (min pause wait) ticked now (answer.WaitUntil until) new → IsStill new sent after
    waiting Initial is polling = not_now polling.0
    waiting (InitialSent numbers) is polling =
        let same : until ≡ min pause wait = Prim.cc polling.0 in
        nothing_started (InitialSent numbers) is (λ still. still) (omega (arith, same)) polling.1
    waiting (Authenticating numbers) is polling =
        let same : until ≡ min pause wait = Prim.cc polling.0 in
        nothing_started (Authenticating numbers) is (λ still. still) (omega (arith, same)) polling.1
    waiting Authenticated is polling = of_walk (unasked ticked.allocations) ticked polling (standing_still is)
    waiting Ended is polling = absurd (Prim.cc polling.0)

  by_agent : list_any is_answer old.queue ≡ false → (ticked : StunAgentPollRet) (agent : agents.Agent) → agents.IsPolled old.agent now ticked agent
      → IsPolledIn old.phase (ended_of ticked) (wait_of (wait_to_send (pace_of old) old.last_send old.queue now (time_after now longest_pause)) ticked) (record old { agent = agent }) now (answer.WaitUntil until) new
      → IsStill new sent after
  by_agent no_answer (TransactionTimedOut number) agent is polling = over_now old.phase number (wait_to_send (pace_of old) old.last_send old.queue now (time_after now longest_pause)) (record old { agent = agent }) polling
  by_agent no_answer (TransactionCancelled number) agent is polling = over_now old.phase number (wait_to_send (pace_of old) old.last_send old.queue now (time_after now longest_pause)) (record old { agent = agent }) polling
  by_agent no_answer (WaitUntil wait) agent is polling = waiting agent wait is.0 is.1 is.2 no_answer old.phase refl polling

  by_events : (events : List TurnEvent) → IsPolledBy events old now (answer.WaitUntil until) new → IsStill new sent after
  by_events [] is = by_answers (list_any is_answer old.queue) refl is
    where
      by_answers : (waits : Bool) → list_any is_answer old.queue ≡ waits → MatchBool waits (Answers (answer.WaitUntil now) old (answer.WaitUntil until) new) (IsAgentPolled old now (answer.WaitUntil until) new) → IsStill new sent after
      by_answers true waits polled = not_now polled.0
      by_answers false none polled = by_agent none polled.ticked polled.agent polled.is_ticked polled.outcome
  by_events (e ∷ events) is = not_now is.0

-- A client for which `poll` returned a wait has nothing to send before the wait is over.
pub nothing_sent : AgentsWait → (old new after : Protocol) (now until time : ℕ) (sent : Option Sent) → IsPolled old now (answer.WaitUntil until) new
    → now < until → now ≤ time → time < until → IsTransmitted new time sent after → IsStill new sent after
nothing_sent quiet old new after now until time sent polling later from before transmitted = by_events quiet old new after now until time sent later from before transmitted old.events polling
