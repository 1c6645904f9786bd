-- A poll is a step of a run.
use Rattle.std.proofs.Common.{◌≡◌, ℕ, Bool, true, false, List, [], ◌∷◌, ◌++◌, map, Option, Some, None, MatchOption, refl, sym, ap, ◌∙◌, subst, arith, inl}
use Rattle.std.specs.Bool.{MatchBool}
use Rattle.std.specs.List.{list_any}
use Rattle.turn_client_proto_timers.specs.StunProtoAgent.declared.agent.StunAgentPollRet.{StunAgentPollRet}
use Rattle.turn_client_proto_timers.specs.StunProtoAgent.State as agents
use Rattle.turn_client_proto_timers.proofs.StunProtoAgent.Numbers.{polled_new}
use Rattle.std.specs.declared.net.ip_addr.IpAddr.{IpAddr}
use Rattle.std.specs.declared.net.socket_addr.SocketAddr.{SocketAddr}
use Rattle.turn_client_proto_timers.specs.StunTypesBase.declared.transport.TransportType.{TransportType}
use Rattle.turn_client_proto_timers.specs.Allocation.Awaited.{is_among}
use Rattle.turn_client_proto_timers.specs.Peers.Channel.Expiring as channels
use Rattle.turn_client_proto_timers.specs.Peers.Permission.Reporting as permissions
use Rattle.turn_client_proto_timers.specs.Reporting as reporting
use Rattle.turn_client_proto_timers.proofs.Peers.Distinct.{alike_uses_less, each_stay_distinct, polled_uses_less}
use Rattle.turn_client_proto_timers.specs.Api.declared.event.TurnEvent.TheVariants.{ChannelCreateFailed, PermissionCreateFailed, TcpConnectFailed}
use Rattle.turn_client_proto_timers.specs.Api.declared.answer.TurnPollRet.{TurnPollRet}
use Rattle.turn_client_proto_timers.specs.Api.declared.answer.TurnPollRet.TheVariants as answer
use Rattle.turn_client_proto_timers.specs.Api.declared.event.TurnEvent.{TurnEvent}
use Rattle.turn_client_proto_timers.specs.Core.Ending.{ended}
use Rattle.turn_client_proto_timers.specs.Messages.Waiting.{is_answer}
use Rattle.turn_client_proto_timers.specs.Connection.Attempts as attempts
use Rattle.turn_client_proto_timers.specs.Connection.Expiring as parted
use Rattle.turn_client_proto_timers.specs.Connection.Reported as connections
use Rattle.turn_client_proto_timers.specs.Connection.Waiting.{requested_in, has_unasked, unasked}
use Rattle.turn_client_proto_timers.specs.Polling.{IsClosing, IsPolled, IsPolledBy, IsPolledIn, IsPolledSent, IsAgentPolled, AreAllocationsPolled, after_asking, after_time, left, socket_for, waits_until}
use Rattle.turn_client_proto_timers.specs.Core.declared.protocol.Phase.{Phase}
use Rattle.turn_client_proto_timers.specs.Core.declared.protocol.Phase.TheVariants.{Initial, InitialSent, Authenticating, Authenticated, Ended}
use Rattle.turn_client_proto_timers.specs.Core.declared.protocol.Protocol.{Protocol}
use Rattle.turn_client_proto_step_laws.specs.Held.{Allocation, Waiting}
use Rattle.turn_client_proto_step_laws.specs.RunClient.{Client, Parts, parts_of}
use Rattle.turn_client_proto_step_laws.specs.RunSteps.{IsRunStep}
use Rattle.turn_client_proto_step_laws.specs.Sound.{IsOrderly, IsSound}
use Rattle.turn_client_proto_step_laws.proofs.Adding.{Adds, AreLess, adds_both, agent_less, allocations_less}
use Rattle.turn_client_proto_step_laws.proofs.Binding as binding
use Rattle.turn_client_proto_step_laws.proofs.Chaining.{both_permitting}
use Rattle.turn_client_proto_step_laws.proofs.Ending.{ends, failed_step, still, still_can}
use Rattle.turn_client_proto_step_laws.proofs.Joining.{allocations_joining, first_joining, joining_orderly, none_connects, none_learnt}
use Rattle.turn_client_proto_step_laws.proofs.Joined.{requested_joining}
use Rattle.turn_client_proto_step_laws.proofs.Lessening.{IsAlike, all_polled, each_less, polled_distinct, same_distinct, same_first_distinct}
use Rattle.turn_client_proto_step_laws.proofs.Orderly.{agent_orderly, allocations_orderly, until_map}
use Rattle.turn_client_proto_step_laws.proofs.Parting.{parted_alike, parted_less}
use Rattle.turn_client_proto_step_laws.proofs.Permissions.{polled_permitting}
use Rattle.turn_client_proto_step_laws.proofs.Fitting.{none_fit, permitting_orderly}
use Rattle.turn_client_proto_step_laws.proofs.Permitting.{IsPermitting, allocations_permitting, each_permitting, none_asks, none_gained}
use Rattle.turn_client_proto_timers.specs.Peers.Channel.Numbers.{AreDistinct}
use Rattle.turn_client_proto_step_laws.proofs.Plain.{counts_none, none_decoded, nothing_transmitted, notices, quiet, run_step}

-- ---- by a test

pub by_test : {P Q R : Type 0} (b : Bool) → (b ≡ true → P → R) → (b ≡ false → Q → R) → MatchBool b P Q → R
by_test true f g h = f refl h
by_test false f g h = g refl h

-- ---- what is reported of permissions and channels that go

pub none_created : (transport : TransportType) (all : List IpAddr) → notices (map (PermissionCreateFailed transport) all) ≡ []
none_created transport [] = refl
none_created transport (ip ∷ all) = none_created transport all

none_bound : (transport : TransportType) (all : List SocketAddr) → notices (map (ChannelCreateFailed transport) all) ≡ []
none_bound transport [] = refl
none_bound transport (peer ∷ all) = none_bound transport all

-- Neither of the two lists of events reports anything as created.
neither_reported : (events more : List TurnEvent) → notices events ≡ [] → notices more ≡ [] → notices (events ++ more) ≡ []
neither_reported events more one other = none_decoded events more other ∙ one

none_connected : (all : List SocketAddr) → notices (map TcpConnectFailed all) ≡ []
none_connected [] = refl
none_connected (peer ∷ all) = none_connected all

of_relays : (over : Option ℕ) (now : ℕ) (a : Allocation) → notices (reporting.relay_failures over now a) ≡ []
unfolding reporting.relay_failures
of_relays over now a =
    let ips = permissions.addresses_over over a.pending_permissions in
    let peers = channels.peers_over over a.pending_channels in
    let expired = permissions.addresses_expired now a.permissions in
    let expiring = channels.peers_expiring now a in
    neither_reported (map (PermissionCreateFailed a.transport) ips) _ (none_created a.transport ips)
    (neither_reported (map (ChannelCreateFailed a.transport) peers) _ (none_bound a.transport peers)
    (neither_reported (map (PermissionCreateFailed a.transport) expired) _ (none_created a.transport expired) (none_bound a.transport expiring)))

of_connections : (over : Option ℕ) (now : ℕ) (a : Allocation) → notices (reporting.connection_failures over now a) ≡ []
unfolding reporting.connection_failures
of_connections over now a =
    let peers = connections.peers_over over a.connecting in
    let gone = parted.peers_gone over now a.connections in
    let lost = attempts.peers_lost over a.waiting in
    neither_reported (map TcpConnectFailed peers) _ (none_connected peers)
    (neither_reported (map TcpConnectFailed gone) (map TcpConnectFailed lost) (none_connected gone) (none_connected lost))

of_one : (over : Option ℕ) (now : ℕ) (a : Allocation) → notices (reporting.failures over now a) ≡ []
unfolding reporting.failures
of_one over now a =
    neither_reported (reporting.relay_failures over now a) (reporting.connection_failures over now a) (of_relays over now a) (of_connections over now a)

ends_report_nothing : (over : Option ℕ) (now : ℕ) (all : List Allocation) → notices (reporting.all_failures over now all) ≡ []
ends_report_nothing over now [] = refl
ends_report_nothing over now (a ∷ rest) = neither_reported (reporting.failures over now a) (reporting.all_failures over now rest) (of_one over now a) (ends_report_nothing over now rest)

-- ---- what becomes of an allocation

-- Polls its permissions first, then its channels; its connections come after them.
abbrev relays_polled : Option ℕ → ℕ → Allocation → Allocation
relays_polled over now a = channels.polled over now (permissions.polled over now a)

both_polled : (over : Option ℕ) (now : ℕ) (a : Allocation) → IsPermitting none_gained none_asks a (relays_polled over now a)
both_polled over now a =
    both_permitting none_gained none_asks a (permissions.polled over now a) (relays_polled over now a) (polled_permitting over now a) (binding.polled_permitting over now (permissions.polled over now a))

-- Both changes of each allocation.
one_after_another : (over : Option ℕ) (now : ℕ) (all : List Allocation) → map (parted.polled over now) (map (relays_polled over now) all) ≡ map (reporting.polled over now) all
one_after_another over now [] = refl
one_after_another over now (a ∷ rest) = ap (λ (l : List Allocation). reporting.polled over now a ∷ l) (one_after_another over now rest)

-- ---- the agent was polled

polled_permissions_alike : (over : Option ℕ) (now : ℕ) (a : Allocation) → IsAlike a (permissions.polled over now a)
unfolding permissions.polled
polled_permissions_alike over now a = (refl, refl)

-- Numbers of channels stay distinct.
both_distinct : (over : Option ℕ) (now : ℕ) (all : List Allocation) → AreDistinct all → AreDistinct (map (relays_polled over now) all)
both_distinct over now all distinct = each_stay_distinct all (relays_polled over now) (λ a number.
    let one = alike_uses_less a (permissions.polled over now a) (polled_permissions_alike over now a).0 (polled_permissions_alike over now a).1 number in
    let other = polled_uses_less over now (permissions.polled over now a) number in
    omega (arith, one, other)) distinct

module _ (c : Client) (sound : IsSound c) (now : ℕ) (ticked : StunAgentPollRet) (agent : agents.Agent) (is : agents.IsPolled c.core.agent now ticked agent) where
  abbrev mid : Protocol
  mid = record c.core { agent = agent }

  mid_adds : Adds [] (parts_of c.core) (parts_of mid)
  mid_adds = agent_less [] (parts_of c.core) agent (polled_new c.core.agent agent now ticked is)

  mid_orderly : IsOrderly (parts_of mid)
  mid_orderly = agent_orderly (parts_of c.core) agent (polled_new c.core.agent agent now ticked is) sound.orderly

  ticks : (new : Protocol) → new ≡ mid → IsRunStep c [] None [] new
  ticks new same =
      subst (λ (p : Protocol). IsRunStep c [] None [] p) (sym same)
      (run_step [] [] None [] c c.transmitted mid
      (quiet None [] c c.transmitted mid (counts_none c mid refl) (λ realm h. inl h) mid_adds (nothing_transmitted [] c) refl)
      mid_orderly (until_map c.core.phase (still_can c mid refl refl refl refl) sound.can_ask))

  sent_ticks : (numbers : List ℕ) (over : Option ℕ) (wait : ℕ) (ret : TurnPollRet) (new : Protocol) → IsPolledSent numbers over wait mid now ret new → IsRunStep c [] None [] new
  sent_ticks numbers over wait ret new h =
      by_test (is_among over numbers)
      (λ (_ : is_among over numbers ≡ true) (o : (ret ≡ answer.Closed) × (new ≡ ended mid)). subst (λ (p : Protocol). IsRunStep c [] None [] p) (sym o.1) (ends c [] mid mid_adds mid_orderly refl refl))
      (λ (_ : is_among over numbers ≡ false) (o : (ret ≡ waits_until over now wait) × (new ≡ mid)). ticks new o.1) h

  occurs : (over : Option ℕ) (closing : List SocketAddr) (new : Protocol) → new ≡ record (after_time over now mid) { closing = closing } → IsRunStep c [] None [] new
  unfolding after_time
  occurs over closing new same =
      let renewed : List Allocation = left over now mid in
      let relays : List Allocation = map (relays_polled over now) renewed in
      let last : List Allocation = map (reporting.polled over now) renewed in
      let core : Protocol = record (after_time over now mid) { closing = closing } in
      let less = all_polled over now c.core.allocations in
      let stored : AreDistinct renewed = polled_distinct over now c.core.allocations sound.orderly.distinct in
      let between : Parts = record (parts_of mid) { allocations = renewed } in
      let are = each_permitting none_gained none_asks (relays_polled over now) (both_polled over now) renewed in
      let following : Parts = record (parts_of mid) { allocations = relays } in
      let fewer : AreLess [] relays last =
      subst (λ (l : List Allocation). AreLess [] relays l) (one_after_another over now renewed) (each_less [] (parted.polled over now) (parted_less over now) relays) in
      let adds = adds_both [] (parts_of c.core) (parts_of mid) (parts_of core) mid_adds
      (adds_both [] (parts_of mid) between (parts_of core) (allocations_less [] [] (parts_of mid) renewed less (λ r h. absurd h))
      (adds_both [] between following (parts_of core) (allocations_permitting [] none_asks between relays are (λ held n h. absurd h))
      (allocations_less [] [] following last fewer (λ r h. absurd h)))) in
      subst (λ (p : Protocol). IsRunStep c [] None [] p) (sym same)
      (run_step [] [] None [] c c.transmitted core
      (quiet None [] c c.transmitted core (counts_none c core refl) (λ realm h. inl h) adds (nothing_transmitted [] c) (none_decoded c.core.events (reporting.all_failures over now renewed) (ends_report_nothing over now renewed)))
      (allocations_orderly [] following last fewer (λ r h. absurd h)
      (subst AreDistinct (one_after_another over now renewed) (same_distinct (parted.polled over now) (parted_alike over now) relays (both_distinct over now renewed stored)))
      (permitting_orderly none_gained none_asks between relays are (none_fit agent)
      (allocations_orderly [] (parts_of mid) renewed less (λ r h. absurd h) stored mid_orderly)
      (both_distinct over now renewed stored)))
      (until_map c.core.phase (still_can c core refl refl refl refl) sound.can_ask))

  -- The first of the sockets to be closed is reported, if there is one.
  closes : (all : List SocketAddr) (wanted : TurnPollRet) (over : Option ℕ) (ret : TurnPollRet) (new : Protocol) → IsClosing all wanted (after_time over now mid) ret new → IsRunStep c [] None [] new
  closes [] wanted over ret new h = occurs over (after_time over now mid).closing new h.1
  closes (here ∷ rest) wanted over ret new h = occurs over rest new h.1

  -- A socket is requested.
  asks_socket : (new : Protocol) → new ≡ after_asking mid → IsRunStep c [] None [] new
  unfolding after_asking
  asks_socket new same =
      let core : Protocol = after_asking mid in
      let are = first_joining none_connects none_learnt has_unasked requested_in c.core.allocations (λ a found. requested_joining a) in
      subst (λ (p : Protocol). IsRunStep c [] None [] p) (sym same)
      (run_step [] [] None [] c c.transmitted core
      (quiet None [] c c.transmitted core (counts_none c core refl) (λ realm h. inl h)
      (adds_both [] (parts_of c.core) (parts_of mid) (parts_of core) mid_adds (allocations_joining [] none_connects (parts_of mid) core.allocations are (λ k h. absurd h)))
      (nothing_transmitted [] c) refl)
      (joining_orderly none_connects none_learnt (parts_of mid) core.allocations are (λ k h. absurd h) (λ k h. absurd h)
      (same_first_distinct has_unasked requested_in (λ a. (refl, refl)) c.core.allocations sound.orderly.distinct) mid_orderly)
      (until_map c.core.phase (still_can c core refl refl refl refl) sound.can_ask))

  standing_in : (found : Option Waiting) (over : Option ℕ) (wait : ℕ) (ret : TurnPollRet) (new : Protocol)
      → MatchOption found (AreAllocationsPolled over wait mid now ret new) (λ w. (ret ≡ socket_for mid w) × (new ≡ after_asking mid)) → IsRunStep c [] None [] new
  standing_in None over wait ret new h = closes _ _ over ret new h.outcome
  standing_in (Some w) over wait ret new h = asks_socket new h.1

  ticked_in : (phase : Phase) (over : Option ℕ) (wait : ℕ) (ret : TurnPollRet) (new : Protocol) → IsPolledIn phase over wait mid now ret new → IsRunStep c [] None [] new
  ticked_in Initial over wait ret new h = ticks new h.1
  ticked_in (InitialSent numbers) over wait ret new h = sent_ticks numbers over wait ret new h
  ticked_in (Authenticating numbers) over wait ret new h = sent_ticks numbers over wait ret new h
  ticked_in Authenticated over wait ret new h = standing_in (unasked c.core.allocations) over wait ret new h
  ticked_in Ended over wait ret new h = ticks new h.1

polled_by : (c : Client) (events : List TurnEvent) (now : ℕ) (ret : TurnPollRet) (new : Protocol) → IsSound c → IsPolledBy events c.core now ret new → IsRunStep c [] None [] new
polled_by c (e ∷ events) now ret new sound h = still c [] new sound h.1
polled_by c [] now ret new sound h =
    by_test (list_any is_answer c.core.queue)
    (λ (_ : list_any is_answer c.core.queue ≡ true) (o : (ret ≡ answer.WaitUntil now) × (new ≡ c.core)). still c [] new sound o.1)
    (λ (_ : list_any is_answer c.core.queue ≡ false) (o : IsAgentPolled c.core now ret new). ticked_in c sound now o.ticked o.agent o.is_ticked c.core.phase _ _ ret new o.outcome) h

pub poll_step : (c : Client) (now : ℕ) (ret : TurnPollRet) (new : Protocol) → IsSound c → IsPolled c.core now ret new → IsRunStep c [] None [] new
poll_step c now (answer.WaitUntil time) new sound h = polled_by c c.core.events now _ new sound h
poll_step c now (answer.AllocateTcpSocket id socket peer) new sound h = polled_by c c.core.events now _ new sound h
poll_step c now (answer.TcpClose local remote) new sound h = polled_by c c.core.events now _ new sound h
poll_step c now answer.Closed new sound h = polled_by c c.core.events now _ new sound h
poll_step c now answer.NoMemory new sound h = failed_step c new h.failed []
