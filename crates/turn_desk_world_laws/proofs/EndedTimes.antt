-- A poll leaves no connection whose time is over.
use Rattle.std.proofs.Common.{◌≡◌, ◌≢◌, ◌≤◌, ◌<◌, ◌||◌, ◌&&◌, if◌then◌else◌, ℕ, Bool, true, false, List, [], ◌∷◌, map, not, Option, Some, None, refl, sym, ap, ◌∙◌, subst}
use Rattle.std.specs.Prelude.{MatchOption, nat_lt}
use Rattle.std.specs.List.{list_any}
use Rattle.std.proofs.lemmas.Bool.{le-ltb, lt-ltb}
use Rattle.std.specs.declared.net.socket_addr.SocketAddr.{SocketAddr}
use Rattle.turn_client_proto_messages.specs.TurnRuns.Members.{IsIn}
use Rattle.turn_client_proto_api.specs.declared.answer.TurnPollRet.{TurnPollRet}
use Rattle.turn_client_proto_api.specs.declared.answer.TurnPollRet.TheVariants as poll
use Rattle.turn_client_proto_api.specs.declared.event.TurnEvent.{TurnEvent}
use Rattle.turn_client_proto_core.specs.declared.protocol.Phase.{Phase}
use Rattle.turn_client_proto_core.specs.declared.protocol.Phase.TheVariants.{Authenticated}
use Rattle.turn_client_proto_messages.specs.Waiting.{is_answer}
use Rattle.turn_client_proto_step_laws.specs.Timers.Allocation.Polling.{has_ended, polled, stays, stored}
use Rattle.turn_client_proto_step_laws.specs.Timers.Allocation.Refreshing.{is_settled}
use Rattle.turn_client_proto_step_laws.specs.Connection.Expiring as joined
use Rattle.turn_client_proto_step_laws.specs.Connection.Waiting.{unasked}
use Rattle.turn_client_proto_step_laws.specs.Held.{Allocation, Binding, Connection, Waiting}
use Rattle.turn_client_proto_step_laws.specs.Peers.Channel.Expiring as channels
use Rattle.turn_client_proto_step_laws.specs.Peers.Permission.Reporting as permissions
use Rattle.turn_client_proto_step_laws.specs.Recv.ClientState.{ClientState, Protocol}
use Rattle.turn_client_proto_step_laws.specs.Timers.Polling.{AreAllocationsPolled, IsAgentPolled, IsClosing, IsPolledBy, IsPolledIn, after_asking, after_time, left, socket_for}
use Rattle.turn_client_proto_step_laws.specs.Timers.Reporting as reporting
use Rattle.turn_client_proto_step_laws.proofs.Lists.{in_filter, in_map, inside}
use Rattle.turn_client_proto_step_laws.proofs.Polling.{by_test}
use Rattle.turn_desk_event.specs.declared.answer.Answer.{Answer}
use Rattle.turn_desk_event.specs.declared.answer.Answer.TheVariants as answer
use Rattle.turn_desk_event.specs.declared.event.ClientCall.TheVariants as call
use Rattle.turn_desk_event.specs.declared.event.Event.TheVariants as event
use Rattle.turn_desk_world.specs.Calls.{IsCallReported, IsCalled, IsPolledAs}
use Rattle.turn_desk_world.specs.Model.{World}
use Rattle.turn_desk_world.specs.Runs.{IsAtClient, IsInRange, IsStep, is_in_range}
use Rattle.turn_desk_world_laws.specs.Ended.{AreNoneAt, AreOverAt, HasNoneAt, HasWorked, IsOver, Unbound, WithAllocation}

-- ---- what is left of an allocation

same_refreshed : (over : Option ℕ) (a : Allocation) → (polled over a).connections ≡ a.connections
unfolding polled
same_refreshed over a =
    elim (has_ended over a.pending_refreshes) as (λ b. (if b then record a { pending_refreshes = [] } else a).connections ≡ a.connections) [ true ↦ refl | false ↦ refl ]

not_gone_left : (over : Option ℕ) (now : ℕ) (a : Allocation) → (reporting.polled over now a).connections ≡ joined.not_gone over now a.connections
unfolding joined.polled channels.polled channels.expired permissions.polled
not_gone_left over now a = refl

stays_no_more : (over : Option ℕ) (now : ℕ) (a : Allocation) → a.expiry ≤ now → a.is_expired ≡ false → stays over now a ≡ true → ⊥
unfolding stays
stays_no_more over now a late unmarked is =
    let none : (nat_lt now a.expiry || (a.is_expired && (not (is_settled a.pending_refreshes) && not (has_ended over a.pending_refreshes)))) ≡ false = rw (le-ltb now a.expiry late, unmarked) refl in
    let never : ⊥ = Prim.cc (sym is ∙ none) in never

or_so : (b : Bool) → (b || true) ≡ true
or_so true = refl
or_so false = refl

has_gone : (over : Option ℕ) (now : ℕ) (c : Connection) (b : Binding) → c.awaited ≡ Some b → b.expiry < now → joined.has_gone over now c ≡ true
has_gone over now c b waits late =
    ap (joined.is_unanswered over now) waits
    ∙ ap (λ (x : Bool). joined.is_ended over b.number || x) (lt-ltb b.expiry now late)
    ∙ or_so (joined.is_ended over b.number)

module _ (here : SocketAddr) (now : ℕ) (all : List Allocation) (are : (a : Allocation) → IsIn a all → (c : Connection) → IsIn c a.connections → c.here ≡ here → IsOver now a c) where
  gone_by : (over : Option ℕ) (a : Allocation) (c : Connection) → IsOver now a c → stays over now a ≡ true → not (joined.has_gone over now c) ≡ true → ⊥
  gone_by over a c (WithAllocation late unmarked) is kept = stays_no_more over now a late unmarked is
  gone_by over a c (Unbound b waits late) is kept = let never : ⊥ = Prim.cc (sym kept ∙ ap not (has_gone over now c b waits late)) in never

  none_left : (over : Option ℕ) → AreNoneAt here (map (reporting.polled over now) (map (polled over) (stored over now all)))
  none_left over a listed c there at =
      let one = in_map (reporting.polled over now) a (map (polled over) (stored over now all)) listed in
      let two = in_map (polled over) one.source (stored over now all) one.listed in
      let was = in_filter (stays over now) two.source all two.listed in
      let in_one : IsIn c (joined.not_gone over now one.source.connections) =
      subst (λ (l : List Connection). IsIn c l) (not_gone_left over now one.source) (subst (λ (b : Allocation). IsIn c b.connections) one.is there) in
      let kept = in_filter (λ (d : Connection). not (joined.has_gone over now d)) c one.source.connections in_one in
      let in_two : IsIn c two.source.connections =
      subst (λ (l : List Connection). IsIn c l) (same_refreshed over two.source) (subst (λ (b : Allocation). IsIn c b.connections) two.is kept.0) in
      gone_by over two.source c (are two.source was.0 c in_two at) was.1 kept.1

-- ---- a poll

-- The result is neither a wait until `now` nor a socket to open.
abbrev Works : (now : ℕ) → TurnPollRet → Type 0
Works now (poll.WaitUntil time) = time ≢ now
Works now (poll.AllocateTcpSocket id socket peer) = ⊥
Works now (poll.TcpClose local remote) = Unit {0}
Works now poll.Closed = Unit {0}
Works now poll.NoMemory = ⊥

no_pause : {A : Type 0} (now : ℕ) (ret : TurnPollRet) → Works now ret → ret ≡ poll.WaitUntil now → A
no_pause now ret works is = absurd (subst (Works now) is works refl)

module _ (here : SocketAddr) (now : ℕ) (old : Protocol) (phase : old.phase ≡ Authenticated) (are : (a : Allocation) → IsIn a old.allocations → (c : Connection) → IsIn c a.connections → c.here ≡ here → IsOver now a c)
    (ret : TurnPollRet) (works : Works now ret) (new : Protocol) where
  left_there : (over : Option ℕ) (p : Protocol) → p.allocations ≡ old.allocations → new.allocations ≡ map (reporting.polled over now) (left over now p) → AreNoneAt here new.allocations
  left_there over p same is =
      subst (AreNoneAt here) (sym (is ∙ ap (λ (l : List Allocation). map (reporting.polled over now) (map (polled over) (stored over now l))) same)) (none_left here now old.allocations are over)

  closing_left : (all : List SocketAddr) (wanted : TurnPollRet) (over : Option ℕ) (p : Protocol) → p.allocations ≡ old.allocations → IsClosing all wanted (after_time over now p) ret new → AreNoneAt here new.allocations
  unfolding after_time
  closing_left [] wanted over p same is = left_there over p same (ap (λ (q : Protocol). q.allocations) is.1)
  closing_left (socket ∷ rest) wanted over p same is = left_there over p same (ap (λ (q : Protocol). q.allocations) is.1)

  standing_left : (found : Option Waiting) (over : Option ℕ) (wait : ℕ) (p : Protocol) → p.allocations ≡ old.allocations
      → MatchOption found (AreAllocationsPolled over wait p now ret new) (λ w. (ret ≡ socket_for p w) × (new ≡ after_asking p)) → AreNoneAt here new.allocations
  standing_left None over wait p same is = closing_left _ _ over p same is.outcome
  standing_left (Some w) over wait p same is = absurd (subst (Works now) is.0 works)

  phase_left : (f : Phase) (over : Option ℕ) (wait : ℕ) (p : Protocol) → f ≡ Authenticated → p.allocations ≡ old.allocations → IsPolledIn f over wait p now ret new → AreNoneAt here new.allocations
  phase_left f over wait p is_so same is =
      standing_left (unasked p.allocations) over wait p same (subst (λ (g : Phase). IsPolledIn g over wait p now ret new) is_so is)

  agent_left : IsAgentPolled old now ret new → AreNoneAt here new.allocations
  agent_left is = phase_left old.phase _ _ (record old { agent = is.agent }) phase refl is.outcome

  polled_left : (events : List TurnEvent) → IsPolledBy events old now ret new → AreNoneAt here new.allocations
  polled_left (e ∷ events) is = no_pause now ret works is.0
  polled_left [] is =
      by_test (list_any is_answer old.queue)
      (λ (_ : list_any is_answer old.queue ≡ true) (o : (ret ≡ poll.WaitUntil now) × (new ≡ old)). no_pause now ret works o.0)
      (λ (_ : list_any is_answer old.queue ≡ false) (o : IsAgentPolled old now ret new). agent_left o) is

module _ (here : SocketAddr) (now : ℕ) (w : World) (are : AreOverAt here now w) (early : is_in_range now ≡ true) where
  by_answer : (ret : Answer) → HasWorked now ret → (new : Protocol) → IsPolledAs ret are.client.core now new → AreNoneAt here new.allocations
  by_answer (answer.Wait time) works new is = polled_left here now are.client.core are.phase are.over (poll.WaitUntil time) works new are.client.core.events is
  by_answer (answer.Close local remote) works new is = polled_left here now are.client.core are.phase are.over (poll.TcpClose local remote) tt new are.client.core.events is
  by_answer answer.Closed works new is = polled_left here now are.client.core are.phase are.over poll.Closed tt new are.client.core.events is
  by_answer (answer.Reply r) works new is = absurd works
  by_answer answer.Nothing works new is = absurd works
  by_answer (answer.Transmit r) works new is = absurd works
  by_answer answer.Handled works new is = absurd works
  by_answer answer.Ignored works new is = absurd works
  by_answer (answer.Peer r) works new is = absurd works
  by_answer (answer.Icmp a b c d e) works new is = absurd works
  by_answer (answer.Socket a b c) works new is = absurd works
  by_answer (answer.Event r) works new is = absurd works
  by_answer answer.Done works new is = absurd works
  by_answer (answer.Refused r) works new is = absurd works
  by_answer (answer.Have r) works new is = absurd works
  by_answer (answer.Relayed r) works new is = absurd works
  by_answer (answer.Permissions r) works new is = absurd works
  by_answer (answer.Channels r) works new is = absurd works
  by_answer (answer.Connections r) works new is = absurd works
  by_answer answer.OutOfRange works new is = absurd works

  at_client : (ret : Answer) → HasWorked now ret → (o : Option ClientState) → IsAtClient now (λ p q. IsCallReported call.Poll ret p now q) (Some are.client) ret o → (k : ClientState) → o ≡ Some k → AreNoneAt here k.core.allocations
  unfolding IsAtClient IsInRange IsCallReported IsCalled
  at_client ret works None is k at = absurd is
  at_client ret works (Some q) is k at =
      subst (λ (x : ClientState). AreNoneAt here x.core.allocations) (inside at)
      (by_test (is_in_range now) (λ _ does. by_answer ret works q.core does.0) (λ out _. absurd (let never : ⊥ = Prim.cc (sym early ∙ out) in never)) is)

  pub times_end : (v : World) (ret : Answer) → HasWorked now ret → IsStep (event.Call call.Poll now) w ret v → HasNoneAt here v
  times_end v ret works is k at =
      at_client ret works v.client (subst (λ (o : Option ClientState). IsAtClient now (λ p q. IsCallReported call.Poll ret p now q) o ret v.client) are.client_is is.0) k at
