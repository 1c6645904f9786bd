-- What becomes of what a request asked for, once the request was given up, by the contract of `poll` alone.
use Rattle.std.proofs.Common.{◌≡◌, ◌≢◌, ℕ, ◌<◌, ◌≤◌, Bool, true, false, List, [], ◌∷◌, ◌++◌, map as map_list, Option, Some, None, refl, sym, ap, ◌∙◌, subst, ◌⊎◌, inl, inr}
use Rattle.std.specs.Prelude.{◌==◌, ◌&&◌, ◌||◌, filter, nat_le, nat_lt, not, MatchOption, if◌then◌else◌}
use Rattle.std.specs.Bool.{MatchBool}
use Rattle.std.specs.FinMap as map
use Rattle.std.specs.List.{flat_map, list_any}
use Rattle.std.specs.Ordering.{is_eq, nat_cmp}
use Rattle.std.specs.declared.net.ip_addr.IpAddr.{IpAddr}
use Rattle.std.specs.declared.net.socket_addr.SocketAddr.{SocketAddr}
use Rattle.std.proofs.lemmas.Bool.{cases_Bool, eq-eqb, le-leb, lt-ltb}
use Rattle.turn_client_proto_messages.specs.StunTypesBase.Times.{time_after}
use Rattle.turn_client_proto_messages.specs.StunTypesBase.declared.transport.TransportType.{TransportType}
use Rattle.turn_client_proto_messages.specs.StunProtoAgent.State as agents
use Rattle.turn_client_proto_messages.specs.StunProtoAgent.declared.agent.StunAgentPollRet.{StunAgentPollRet}
use Rattle.turn_client_proto_messages.specs.StunProtoAgent.declared.agent.StunAgentPollRet.TheVariants.{TransactionCancelled, TransactionTimedOut, WaitUntil}
use Rattle.turn_client_proto_messages.specs.Api.declared.answer.TurnPollRet.{TurnPollRet}
use Rattle.turn_client_proto_messages.specs.Api.declared.answer.TurnPollRet.TheVariants as answer
use Rattle.turn_client_proto_messages.specs.Api.declared.event.TurnEvent.{TurnEvent}
use Rattle.turn_client_proto_messages.specs.Api.declared.event.TurnEvent.TheVariants.{AllocationCreateFailed, ChannelCreateFailed, PermissionCreateFailed, TcpConnectFailed}
use Rattle.turn_client_proto_messages.proofs.StunProtoTransaction.Leasts.{same_number}
use Rattle.turn_client_proto_core.specs.Ending.{ended}
use Rattle.turn_client_proto_core.specs.declared.protocol.Phase.{Phase}
use Rattle.turn_client_proto_core.specs.declared.protocol.Phase.TheVariants.{Authenticated, Authenticating, Ended, InitialSent}
use Rattle.turn_client_proto_core.specs.declared.protocol.Protocol.{Protocol}
use Rattle.turn_client_proto_handshake_laws.proofs.Only.{stays_there, where_true}
use Rattle.turn_client_proto_handshake_laws.proofs.Polls.{refused_or}
use Rattle.turn_client_proto_messages.specs.Allocation.Awaited.{has_number, is_among, is_refresh}
use Rattle.turn_client_proto_messages.specs.Allocation.Channels as channels
use Rattle.turn_client_proto_messages.specs.Allocation.Permissions as permissions
use Rattle.turn_client_proto_messages.specs.Allocation.Polling.{has_ended, polled, stays, stored}
use Rattle.turn_client_proto_messages.specs.Allocation.Refreshing.{is_settled, renewal, wants_refresh}
use Rattle.turn_client_proto_messages.specs.Allocation.Same.{is_same_ip}
use Rattle.turn_client_proto_messages.specs.TurnRuns.Members.{IsIn}
use Rattle.turn_client_proto_messages.specs.Waiting.{Queued, is_answer}
use Rattle.turn_client_proto_step_laws.proofs.Lists.{any_passes}
use Rattle.turn_client_proto_step_laws.proofs.Visible.{same_ip}
use Rattle.turn_client_proto_step_laws.specs.Held.{Allocation, Binding, Connecting, Connection, PendingChannel, PendingPermission, PendingRefresh}
use Rattle.turn_client_proto_messages.specs.Allocation.declared.connection.Waiting.{Waiting}
use Rattle.turn_client_proto_step_laws.specs.Connection.Attempts as attempts
use Rattle.turn_client_proto_step_laws.specs.Connection.Expiring as joined
use Rattle.turn_client_proto_step_laws.specs.Connection.Reported as connections
use Rattle.turn_client_proto_step_laws.specs.Connection.Waiting.{unasked}
use Rattle.turn_client_proto_step_laws.specs.Peers.Channel.Expiring as bindings
use Rattle.turn_client_proto_step_laws.specs.Peers.Permission.Reporting as grants
use Rattle.turn_client_proto_step_laws.specs.Timers.Polling.{Answers, AreAllocationsPolled, IsAgentPolled, IsClosing, IsPolled, IsPolledBy, IsPolledIn, IsPolledSent, after_asking, after_time, answer_of, ended_of, left, longest_pause, pace_of, socket_for, wait_of, wait_to_send, waits_until}
use Rattle.turn_client_proto_step_laws.specs.Timers.Reporting as reporting
use Rattle.turn_client_proto_progress_laws.specs.ScheduleEnds.{EndsAt, HasClosed, IsAttended, IsRefreshedAnew}
use Rattle.turn_client_proto_progress_laws.specs.Schedules.{Request, transaction_of}
use Rattle.turn_client_proto_progress_laws.proofs.SchedulePolls.{polled_parts}

-- ---- members of lists

pub into_left : {X : Type 0} (x : X) (xs ys : List X) → IsIn x xs → IsIn x (xs ++ ys)
into_left x [] ys is = absurd is
into_left x (y ∷ xs) ys (inl here) = inl here
into_left x (y ∷ xs) ys (inr later) = inr (into_left x xs ys later)

pub into_right : {X : Type 0} (x : X) (xs ys : List X) → IsIn x ys → IsIn x (xs ++ ys)
into_right x [] ys is = is
into_right x (y ∷ xs) ys is = inr (into_right x xs ys is)

pub into_map : {X Y : Type 0} (f : X → Y) (x : X) (xs : List X) → IsIn x xs → IsIn (f x) (map_list f xs)
into_map f x [] is = absurd is
into_map f x (y ∷ xs) (inl here) = inl (ap f here)
into_map f x (y ∷ xs) (inr later) = inr (into_map f x xs later)

pub into_filter : {X : Type 0} (p : X → Bool) (x : X) (xs : List X) → IsIn x xs → p x ≡ true → IsIn x (filter p xs)
into_filter p x [] is passes = absurd is
into_filter {X = X} p x (y ∷ xs) is passes = elim (cases_Bool (p y)) [
  | inl stays_stored ↦ (let here : filter p (y ∷ xs) ≡ y ∷ filter p xs = rw stays_stored refl in
      subst (λ (l : List X). IsIn x l) (sym here) (elim is [
        | inl same ↦ inl same
        | inr later ↦ inr (into_filter p x xs later passes)
      ]))
  | inr dropped ↦ (let here : filter p (y ∷ xs) ≡ filter p xs = rw dropped refl in
      subst (λ (l : List X). IsIn x l) (sym here) (elim is [
        | inl same ↦ absurd (Prim.cc (sym (ap p same ∙ passes) ∙ dropped))
        | inr later ↦ into_filter p x xs later passes
      ]))
]

pub into_flat : {X Y : Type 0} (f : X → List Y) (x : X) (y : Y) (xs : List X) → IsIn x xs → IsIn y (f x) → IsIn y (flat_map f xs)
into_flat f x y [] is in_it = absurd is
into_flat {X = X} f x y (z ∷ xs) (inl here) in_it = into_left y (f z) (flat_map f xs) (subst (λ (w : X). IsIn y (f w)) (sym here) in_it)
into_flat f x y (z ∷ xs) (inr later) in_it = into_right y (f z) (flat_map f xs) (into_flat f x y xs later in_it)

-- An address of the list is still in it after those that are like an earlier one were left out.
each_listed : (ip : IpAddr) (xs : List IpAddr) → IsIn ip xs → IsIn ip (permissions.each_once xs)
each_listed ip [] is = absurd is
each_listed ip (x ∷ xs) (inl here) = inl here
each_listed ip (x ∷ xs) (inr later) = elim (cases_Bool (is_same_ip x ip)) [
  | inl same ↦ inl (same_ip x ip same)
  | inr differs ↦ inr (into_filter (λ (y : IpAddr). not (is_same_ip x y)) ip (permissions.each_once xs) (each_listed ip xs later) (ap not differs))
]

-- ---- the poll that gives it up

pub record IsGivenBy (r : Request) (now : ℕ) (p : Protocol) (ret : TurnPollRet) (q : Protocol) : Type 0 where
  pub agent : agents.Agent
  pub wait : ℕ
  pub silent : p.events ≡ []
  pub out : IsPolledIn p.phase (Some r.number) wait (record p { agent = agent }) now ret q

module _ (r : Request) (many now : ℕ) (p : Protocol) (ret : TurnPollRet) (q : Protocol) (e : EndsAt r many now p ret q) where
  -- The request isn't outstanding any more.
  never_there : {A : Type 0} → map.get q.agent.outstanding r.number ≡ Some (transaction_of r many) → A
  never_there is = absurd (Prim.cc (sym e.gone ∙ is))

  never_same : {A : Type 0} → q ≡ p → A
  never_same same = never_there (ap (λ (x : Protocol). map.get x.agent.outstanding r.number) same ∙ e.there)

  abbrev pause : ℕ
  pause = wait_to_send (pace_of p) p.last_send p.queue now (time_after now longest_pause)

  ends_so : p.events ≡ [] → (number : ℕ) (agent : agents.Agent) (over : Bool) → agents.IsEnd p.agent now number over agent → (wait : ℕ) → IsPolledIn p.phase (Some number) wait (record p { agent = agent }) now ret q → IsGivenBy r now p ret q
  ends_so none number agent over ended wait out = elim (cases_Bool (is_eq (nat_cmp r.number number))) [
    | inl same ↦ record {
      agent = agent;
      wait = wait;
      silent = none;
      out = subst (λ (n : ℕ). IsPolledIn p.phase (Some n) wait (record p { agent = agent }) now ret q) (sym (same_number r.number number same)) out;
    }
    | inr apart ↦ never_there (ap (λ (x : agents.Agent). map.get x.outstanding r.number) ((polled_parts (Some number) wait now (record p { agent = agent }) ret q p.phase out).agent ∙ ended.gone)
        ∙ (stays_there p.agent.outstanding number r.number apart ∙ e.there))
  ]

  ticked_so : p.events ≡ [] → (ticked : StunAgentPollRet) (agent : agents.Agent) → agents.IsPolled p.agent now ticked agent → IsPolledIn p.phase (ended_of ticked) (wait_of pause ticked) (record p { agent = agent }) now ret q → IsGivenBy r now p ret q
  ticked_so none (TransactionTimedOut number) agent is out = ends_so none number agent false is pause out
  ticked_so none (TransactionCancelled number) agent is out = ends_so none number agent true is pause out
  ticked_so none (WaitUntil until) agent is out =
      never_there (ap (λ (x : agents.Agent). map.get x.outstanding r.number) ((polled_parts None (wait_of pause (WaitUntil until)) now (record p { agent = agent }) ret q p.phase out).agent ∙ is.2) ∙ e.there)

  events_so : (events : List TurnEvent) → p.events ≡ events → IsPolledBy events p now ret q → IsGivenBy r now p ret q
  events_so (event ∷ events) some is = never_same is.1
  events_so [] none is = by (list_any is_answer p.queue) is
    where
      by : (b : Bool) → MatchBool b (Answers (answer.WaitUntil now) p ret q) (IsAgentPolled p now ret q) → IsGivenBy r now p ret q
      by true polled = never_same polled.1
      by false polled = ticked_so none polled.ticked polled.agent polled.is_ticked polled.outcome

  pub given_by : IsGivenBy r now p ret q
  given_by = elim (refused_or p now ret q e.polled) [
    | inl by ↦ events_so p.events refl by
    | inr refused ↦ absurd (e.memory refused.0)
  ]

  -- ---- an ALLOCATE

  module _ (numbers : List ℕ) (in_it : IsIn r.number numbers) where
    among : has_number r.number numbers ≡ true
    among = any_passes (λ (n : ℕ). n == r.number) numbers r.number in_it (eq-eqb r.number r.number refl)

    closed_so : (g : IsGivenBy r now p ret q) → IsPolledSent numbers (Some r.number) g.wait (record p { agent = g.agent }) now ret q → HasClosed p ret q
    unfolding ended
    closed_so g is =
        let c = where_true (Answers answer.Closed (ended (record p { agent = g.agent })) ret q) (Answers (waits_until (Some r.number) now g.wait) (record p { agent = g.agent }) ret q) (has_number r.number numbers) among is in
        record {
          closed = c.0;
          phase = ap (λ (x : Protocol). x.phase) c.1;
          events = ap (λ (x : Protocol). x.events) c.1 ∙ ap (λ (l : List TurnEvent). l ++ map_list AllocationCreateFailed p.families) g.silent;
        }

    pub allocate_ends : (p.phase ≡ InitialSent numbers) ⊎ (p.phase ≡ Authenticating numbers) → HasClosed p ret q
    allocate_ends (inl phase) = let g = given_by in closed_so g (subst (λ (f : Phase). IsPolledIn f (Some r.number) g.wait (record p { agent = g.agent }) now ret q) phase g.out)
    allocate_ends (inr phase) = let g = given_by in closed_so g (subst (λ (f : Phase). IsPolledIn f (Some r.number) g.wait (record p { agent = g.agent }) now ret q) phase g.out)

  -- ---- other requests

  module _ (at : IsAttended p) where
    abbrev over : Option ℕ
    over = Some r.number

    -- The events and the allocations after the poll.
    record IsAfter : Type 0 where
      agent : agents.Agent
      events : q.events ≡ reporting.all_failures over now (left over now (record p { agent = agent }))
      allocations : q.allocations ≡ map_list (reporting.polled over now) (left over now (record p { agent = agent }))

    closing_so : (g : IsGivenBy r now p ret q) (closing : List SocketAddr) (wanted : TurnPollRet) → IsClosing closing wanted (after_time over now (record p { agent = g.agent })) ret q → IsAfter
    unfolding after_time
    closing_so g [] wanted is = record {
      agent = g.agent;
      events = ap (λ (x : Protocol). x.events) is.1 ∙ ap (λ (l : List TurnEvent). l ++ reporting.all_failures over now (left over now (record p { agent = g.agent }))) g.silent;
      allocations = ap (λ (x : Protocol). x.allocations) is.1;
    }
    closing_so g (here ∷ rest) wanted is = record {
      agent = g.agent;
      events = ap (λ (x : Protocol). x.events) is.1 ∙ ap (λ (l : List TurnEvent). l ++ reporting.all_failures over now (left over now (record p { agent = g.agent }))) g.silent;
      allocations = ap (λ (x : Protocol). x.allocations) is.1;
    }

    after_so : IsAfter
    after_so =
        let g = given_by in
        let x : Protocol = record p { agent = g.agent } in
        let standing = subst (λ (f : Phase). IsPolledIn f over g.wait x now ret q) at.phase g.out in
        let walked = subst (λ (o : Option Waiting). MatchOption o (AreAllocationsPolled over g.wait x now ret q) (λ (w : Waiting). Answers (socket_for x w) (after_asking x) ret q)) at.no_request_made standing in
        closing_so g (x.closing ++ joined.all_gone over now (left over now x)) (answer_of (left over now x) over now walked.first) walked.outcome

    module _ (a : Allocation) (held : IsIn a p.allocations) (lasts : now < a.expiry) where
      stays_so : stays over now a ≡ true
      unfolding stays
      stays_so = ap (λ (b : Bool). b || (a.is_expired && (not (is_settled a.pending_refreshes) && not (has_ended over a.pending_refreshes)))) (lt-ltb now a.expiry lasts)

      left_so : IsIn (polled over a) (map_list (polled over) (stored over now p.allocations))
      left_so = into_map (polled over) a (stored over now p.allocations) (into_filter (stays over now) a p.allocations held stays_so)

      reported_so : (event : TurnEvent) → IsIn event (reporting.failures over now (polled over a)) → IsIn event q.events
      reported_so event is =
          let k = after_so in
          subst (λ (l : List TurnEvent). IsIn event l) (sym k.events) (into_flat (reporting.failures over now) (polled over a) event (left over now (record p { agent = k.agent })) left_so is)

      -- What the allocation awaits besides REFRESHes is the same.
      abbrev Same : Allocation → Type 0
      Same b = (b.transport ≡ a.transport) × (b.pending_permissions ≡ a.pending_permissions) × (b.pending_channels ≡ a.pending_channels) × (b.connecting ≡ a.connecting) × (b.connections ≡ a.connections)

      same_so : Same (polled over a)
      unfolding polled
      same_so = by (has_ended over a.pending_refreshes)
        where
          by : (b : Bool) → Same (if b then record a { pending_refreshes = [] } else a)
          by true = (refl, refl, refl, refl, refl)
          by false = (refl, refl, refl, refl, refl)

      relay_so : (event : TurnEvent) → IsIn event (reporting.relay_failures over now (polled over a)) → IsIn event q.events
      unfolding reporting.failures
      relay_so event is = reported_so event (into_left event (reporting.relay_failures over now (polled over a)) (reporting.connection_failures over now (polled over a)) is)

      connection_so : (event : TurnEvent) → IsIn event (reporting.connection_failures over now (polled over a)) → IsIn event q.events
      unfolding reporting.failures
      connection_so event is = reported_so event (into_right event (reporting.relay_failures over now (polled over a)) (reporting.connection_failures over now (polled over a)) is)

      abbrev b : Allocation
      b = polled over a

      abbrev permission_events : List TurnEvent
      permission_events = map_list (PermissionCreateFailed b.transport) (grants.addresses_over over b.pending_permissions)

      abbrev channel_events : List TurnEvent
      channel_events = map_list (ChannelCreateFailed b.transport) (bindings.peers_over over b.pending_channels)

      abbrev expired_events : List TurnEvent
      expired_events = map_list (PermissionCreateFailed b.transport) (grants.addresses_expired now b.permissions) ++ map_list (ChannelCreateFailed b.transport) (bindings.peers_expiring now b)

      in_permissions : (event : TurnEvent) → IsIn event permission_events → IsIn event q.events
      unfolding reporting.relay_failures
      in_permissions event is = relay_so event (into_left event permission_events (channel_events ++ expired_events) is)

      in_channels : (event : TurnEvent) → IsIn event channel_events → IsIn event q.events
      unfolding reporting.relay_failures
      in_channels event is = relay_so event (into_right event permission_events (channel_events ++ expired_events) (into_left event channel_events expired_events is))

      pub permission_ends : (x : PendingPermission) (ip : IpAddr) → IsIn x a.pending_permissions → IsIn r.number x.numbers → IsIn ip (permissions.names_of x) → IsIn (PermissionCreateFailed a.transport ip) q.events
      permission_ends x ip pending in_it named =
          let s = same_so in
          let is_pending : IsIn x b.pending_permissions = subst (λ (l : List PendingPermission). IsIn x l) (sym s.1) pending in
          let one = into_flat permissions.addresses_of x ip (filter (permissions.is_over over) b.pending_permissions) (into_filter (permissions.is_over over) x b.pending_permissions is_pending (among x.numbers in_it)) (each_listed ip (permissions.names_of x) named) in
          subst (λ (t : TransportType). IsIn (PermissionCreateFailed t ip) q.events) s.0
          (in_permissions (PermissionCreateFailed b.transport ip) (into_map (PermissionCreateFailed b.transport) ip (grants.addresses_over over b.pending_permissions) one))

      pub channel_ends : (x : PendingChannel) → IsIn x a.pending_channels → IsIn r.number x.numbers → IsIn (ChannelCreateFailed a.transport x.peer) q.events
      channel_ends x pending in_it =
          let s = same_so in
          let is_pending : IsIn x b.pending_channels = subst (λ (l : List PendingChannel). IsIn x l) (sym s.2) pending in
          let one = into_map (λ (y : PendingChannel). y.peer) x (filter (channels.is_over over) b.pending_channels) (into_filter (channels.is_over over) x b.pending_channels is_pending (among x.numbers in_it)) in
          subst (λ (t : TransportType). IsIn (ChannelCreateFailed t x.peer) q.events) s.0
          (in_channels (ChannelCreateFailed b.transport x.peer) (into_map (ChannelCreateFailed b.transport) x.peer (bindings.peers_over over b.pending_channels) one))

      -- ---- connections

      abbrev connect_events : List TurnEvent
      connect_events = map_list TcpConnectFailed (connections.peers_over over b.connecting)

      abbrev bound_events : List TurnEvent
      bound_events = map_list TcpConnectFailed (joined.peers_gone over now b.connections)

      abbrev lost_events : List TurnEvent
      lost_events = map_list TcpConnectFailed (attempts.peers_lost over b.waiting)

      in_connects : (event : TurnEvent) → IsIn event connect_events → IsIn event q.events
      unfolding reporting.connection_failures
      in_connects event is = connection_so event (into_left event connect_events (bound_events ++ lost_events) is)

      in_bound : (event : TurnEvent) → IsIn event bound_events → IsIn event q.events
      unfolding reporting.connection_failures
      in_bound event is = connection_so event (into_right event connect_events (bound_events ++ lost_events) (into_left event bound_events lost_events is))

      pub connect_ends : (x : Connecting) → IsIn x a.connecting → x.number ≡ r.number → IsIn (TcpConnectFailed x.peer) q.events
      connect_ends x pending same =
          let s = same_so in
          let is_pending : IsIn x b.connecting = subst (λ (l : List Connecting). IsIn x l) (sym s.3) pending in
          let one = into_map (λ (y : Connecting). y.peer) x (filter (connections.is_over over) b.connecting) (into_filter (connections.is_over over) x b.connecting is_pending (eq-eqb x.number r.number same)) in
          in_connects (TcpConnectFailed x.peer) (into_map TcpConnectFailed x.peer (connections.peers_over over b.connecting) one)

      has_gone_so : (x : Connection) (w : Binding) → x.awaited ≡ Some w → w.number ≡ r.number → joined.has_gone over now x ≡ true
      has_gone_so x w at_it same = ap (joined.is_unanswered over now) at_it ∙ ap (λ (y : Bool). y || nat_lt w.expiry now) (eq-eqb w.number r.number same)

      pub binding_ends : (x : Connection) (w : Binding) → IsIn x a.connections → x.awaited ≡ Some w → w.number ≡ r.number → IsIn (TcpConnectFailed x.peer) q.events
      binding_ends x w pending at_it same =
          let s = same_so in
          let is_pending : IsIn x b.connections = subst (λ (l : List Connection). IsIn x l) (sym s.4) pending in
          let one = into_map (λ (y : Connection). y.peer) x (filter (joined.has_gone over now) b.connections) (into_filter (joined.has_gone over now) x b.connections is_pending (has_gone_so x w at_it same)) in
          in_bound (TcpConnectFailed x.peer) (into_map TcpConnectFailed x.peer (joined.peers_gone over now b.connections) one)

      -- ---- REFRESH

      -- The allocation without its REFRESH.
      abbrev cleared : Allocation
      cleared = record a { pending_refreshes = [] }

      cleared_so : (x : PendingRefresh) → IsIn x a.pending_refreshes → x.number ≡ r.number → b ≡ cleared
      unfolding polled
      cleared_so x pending same =
          ap (λ (y : Bool). if y then record a { pending_refreshes = [] } else a) (any_passes (is_refresh r.number) a.pending_refreshes x pending (eq-eqb x.number r.number same))

      anew : IsRefreshedAnew a (reporting.polled over now cleared)
      unfolding joined.polled connections.given_up bindings.polled bindings.expired grants.polled wants_refresh renewal
      anew = record {
        address = refl;
        expiry = refl;
        settled = refl;
        again = λ time live late early.
            ap (λ (y : Bool). not y && (nat_le time a.expiry && nat_le (renewal a) time)) live
            ∙ (ap (λ (y : Bool). y && nat_le (renewal a) time) (le-leb time a.expiry early) ∙ le-leb (renewal a) time late);
      }

      pub refresh_ends : (x : PendingRefresh) → IsIn x a.pending_refreshes → x.number ≡ r.number → (z : Allocation) × IsIn z q.allocations × IsRefreshedAnew a z
      refresh_ends x pending same =
          let k = after_so in
          let in_it = into_map (reporting.polled over now) b (left over now (record p { agent = k.agent })) left_so in (
            reporting.polled over now cleared,
            subst (λ (l : List Allocation). IsIn (reporting.polled over now cleared) l) (sym k.allocations)
                (subst (λ (y : Allocation). IsIn (reporting.polled over now y) (map_list (reporting.polled over now) (left over now (record p { agent = k.agent })))) (cleared_so x pending same) in_it),
            anew,
          )
