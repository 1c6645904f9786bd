-- An established client stays so in `poll_transmit`, `poll` and other calls.
use Rattle.std.proofs.Common.{◌≡◌, ◌≢◌, ℕ, Bool, true, false, List, [], ◌∷◌, ◌++◌, map, Option, Some, None, refl, sym, ap, ◌∙◌, subst, inl, inr}
use Rattle.std.specs.Prelude.{MatchBool, MatchOption, MatchResult, IfNone, IfSome, Result, Ok, Err, find, filter}
use Rattle.std.specs.List.{list_any}
use Rattle.std.specs.Net.Socket.{socket_ip}
use Rattle.std.specs.declared.net.ip_addr.IpAddr.{IpAddr}
use Rattle.std.specs.declared.net.socket_addr.SocketAddr.{SocketAddr}
use Rattle.std.proofs.lemmas.Bool.{cases_Bool}
use Rattle.turn_client_proto_messages.specs.StunTypesBase.Family.{family_of_ip, family_of_socket}
use Rattle.turn_client_proto_messages.specs.StunTypesBase.declared.transport.TransportType.{TransportType}
use Rattle.turn_client_proto_messages.specs.StunProtoAgent.State as agents
use Rattle.turn_client_proto_messages.specs.Allocation.Changes.{change_first}
use Rattle.turn_client_proto_messages.specs.Allocation.Polling.{stored, stays}
use Rattle.turn_client_proto_messages.specs.Allocation.Polling as allocation
use Rattle.turn_client_proto_messages.specs.Allocation.Refreshing.{refreshing}
use Rattle.turn_client_proto_messages.specs.Allocation.declared.allocation.Allocation.{Allocation}
use Rattle.turn_client_proto_messages.specs.Allocation.declared.connection.Waiting.{Waiting}
use Rattle.turn_client_proto_messages.specs.Api.declared.answer.TurnPollRet.{TurnPollRet}
use Rattle.turn_client_proto_messages.specs.Api.declared.answer.TurnPollRet.TheVariants as answer
use Rattle.turn_client_proto_messages.specs.Api.declared.error.BindChannelError.{BindChannelError}
use Rattle.turn_client_proto_messages.specs.Api.declared.error.BindChannelError.TheVariants as not_bound
use Rattle.turn_client_proto_messages.specs.Api.declared.error.CreatePermissionError.{CreatePermissionError}
use Rattle.turn_client_proto_messages.specs.Api.declared.error.CreatePermissionError.TheVariants as not_permitted
use Rattle.turn_client_proto_messages.specs.Api.declared.error.CreatePermissionsError.{CreatePermissionsError}
use Rattle.turn_client_proto_messages.specs.Api.declared.error.CreatePermissionsError.TheVariants as none_permitted
use Rattle.turn_client_proto_messages.specs.Api.declared.event.TurnEvent.{TurnEvent}
use Rattle.turn_client_proto_step_laws.specs.Peers.Channel.Binding as channel_asking
use Rattle.turn_client_proto_step_laws.specs.Peers.Channel.Expiring as channels
use Rattle.turn_client_proto_step_laws.specs.Peers.Channel.Wanting as channel_wanting
use Rattle.turn_client_proto_step_laws.specs.Connection.Expiring as joined
use Rattle.turn_client_proto_step_laws.specs.Connection.Reported.{given_up}
use Rattle.turn_client_proto_step_laws.specs.Connection.Waiting.{requested_in, has_unasked, unasked}
use Rattle.turn_client_proto_messages.specs.StunProtoAgent.declared.agent.StunAgentPollRet.{StunAgentPollRet}
use Rattle.turn_client_proto_messages.specs.StunProtoAgent.declared.agent.StunAgentPollRet.TheVariants.{TransactionCancelled, TransactionTimedOut, WaitUntil}
use Rattle.turn_client_proto_handshake_laws.specs.Core.Asking.{requested}
use Rattle.turn_client_proto_handshake_laws.specs.Core.Binding.{IsBindAnswered, IsBindTried, IsChannelRequested, after_binding, allocation_to, asking_channel, bind_refusal, bind_refused_in, permission_beside}
use Rattle.turn_client_proto_handshake_laws.specs.Core.Numbering.{after_number}
use Rattle.turn_client_proto_handshake_laws.specs.Core.Permitting.{AreAnsweredAmong, AreInvalid, ArePermissionsAnswered, IsAnsweredAmong, IsPermissionAnswered, IsPermissionRequested, after_asking as after_permission, allocation_for, as_several, may_name, permissions_refusal, refused_in}
use Rattle.turn_client_proto_messages.specs.Waiting.{Queued, is_answer}
use Rattle.turn_client_proto_handshake_laws.specs.Core.declared.protocol.Phase.{Phase}
use Rattle.turn_client_proto_handshake_laws.specs.Core.declared.protocol.Phase.TheVariants.{Initial, InitialSent, Authenticating, Authenticated, Ended}
use Rattle.turn_client_proto_handshake_laws.specs.Core.declared.protocol.Protocol.{Protocol}
use Rattle.turn_client_proto_step_laws.specs.Timers.Drawing.{Again, Fresh, IsAnswerSent, IsStarted, IsChannelRenewalSent, IsTransmitted, IsNextSent, IsQueuedSent, IsRefreshSent, IsRenewalSent, IsRenewed, after_sending, first_bound, first_permitted, first_refreshed, is_resting, sent_at_once}
use Rattle.turn_client_proto_messages.specs.Api.Sent.{Sent}
use Rattle.turn_client_proto_step_laws.specs.Peers.Permission.Asking.{is_of, is_past, knows, marked}
use Rattle.turn_client_proto_step_laws.specs.Peers.Permission.Asking as permission_asking
use Rattle.turn_client_proto_step_laws.specs.Peers.Permission.Reporting as permission_reporting
use Rattle.turn_client_proto_step_laws.specs.Peers.Permission.Wanting as permission_wanting
use Rattle.turn_client_proto_step_laws.specs.Timers.Polling.{Answers, IsClosing, IsPolled, IsPolledBy, IsPolledIn, AreAllocationsPolled, after_asking as after_socket, after_time, answer_of, ended_of, left, pace_of, socket_for}
use Rattle.turn_client_proto_step_laws.specs.Timers.Reporting as reporting
use Rattle.turn_client_proto_step_laws.specs.Timers.Wanting.{wanted as to_renew, wants}
use Rattle.turn_client_proto_step_laws.specs.Timers.declared.wanting.Want.{Want}
use Rattle.turn_client_proto_step_laws.specs.Timers.declared.wanting.Want.TheVariants as want
use Rattle.turn_client_proto_progress_laws.proofs.Asking.Tools.{refused_or}
use Rattle.turn_client_proto_handshake_laws.specs.Driving.{IsEventTaken}
use Rattle.turn_client_proto_handshake_laws.specs.Sent.{Beginning}
use Rattle.turn_client_proto_progress_laws.specs.Speaking.{HasAtMost, HasBeenServed, IsOwn, Speaks}
use Rattle.turn_client_proto_progress_laws.proofs.Asking.Between.{sent_so, tested}
use Rattle.turn_client_proto_progress_laws.proofs.Asking.Moving.{asked_of, speaks_on}

-- ---- there is one allocation at most

-- After a change the allocation is the one that it was.
pub record Stays (a after : Allocation) : Type 0 where
  pub transport : after.transport ≡ a.transport
  pub address : after.address ≡ a.address

abbrev pub AllStay : (Allocation → Allocation) → Type 0
AllStay f = (a : Allocation) → Stays a (f a)

module _ (b : Beginning) (address : SocketAddr) where
  own_still : (a after : Allocation) → Stays a after → IsOwn b address a → IsOwn b address after
  own_still a after stays own = record { transport = stays.transport ∙ own.transport; address_is = stays.address ∙ own.address_is }

  pub most_changed : (test : Allocation → Bool) (f : Allocation → Allocation) → AllStay f → (l : List Allocation) → HasAtMost b address l → HasAtMost b address (change_first test f l)
  most_changed test f stay [] is = tt
  most_changed test f stay (a ∷ []) is = elim (cases_Bool (test a)) [
    | inl passes ↦ rw passes (own_still a (f a) (stay a) is)
    | inr fails ↦ rw fails is
  ]
  most_changed test f stay (a ∷ c ∷ rest) is = absurd is

  pub most_mapped : (f : Allocation → Allocation) → AllStay f → (l : List Allocation) → HasAtMost b address l → HasAtMost b address (map f l)
  most_mapped f stay [] is = tt
  most_mapped f stay (a ∷ []) is = own_still a (f a) (stay a) is
  most_mapped f stay (a ∷ c ∷ rest) is = absurd is

  pub most_left : (test : Allocation → Bool) (l : List Allocation) → HasAtMost b address l → HasAtMost b address (filter test l)
  most_left test [] is = tt
  most_left test (a ∷ []) is = elim (cases_Bool (test a)) [
    | inl passes ↦ rw passes is
    | inr fails ↦ rw fails tt
  ]
  most_left test (a ∷ c ∷ rest) is = absurd is

-- ---- what becomes of an allocation

pub as_it_is : (a : Allocation) → Stays a a
as_it_is a = record { transport = refl; address = refl }

refreshes_stay : (over : Option ℕ) → AllStay (allocation.polled over)
unfolding allocation.polled
refreshes_stay over a = elim (cases_Bool (allocation.has_ended over a.pending_refreshes)) [
  | inl is ↦ rw is (record { transport = refl; address = refl })
  | inr none ↦ rw none (as_it_is a)
]

polled_stay : (over : Option ℕ) (now : ℕ) → AllStay (reporting.polled over now)
unfolding joined.polled given_up channels.polled channels.expired permission_reporting.polled
polled_stay over now a = record { transport = refl; address = refl }

beside_stay : (ip : IpAddr) (number : ℕ) → AllStay (permission_beside ip number)
unfolding permission_beside
beside_stay ip number a = elim (cases_Bool (knows ip a)) [
  | inl is ↦ rw is (as_it_is a)
  | inr new ↦ rw new (record { transport = refl; address = refl })
]

-- ---- the client

module _ (b : Beginning) (realm : List ℕ) (address : SocketAddr) (p : Protocol) (is : Speaks b realm address p) where
  abbrev Speaking : Protocol → Type 0
  Speaking q = Speaks b realm address q

  pub unchanged : (q : Protocol) → q ≡ p → Speaking q
  unchanged q same = subst (λ (x : Protocol). Speaking x) (sym same) is

  -- The client with an agent of the same transport and addresses, and with these allocations.
  pub record IsLike (agent : agents.Agent) : Type 0 where
    pub remote : agent.remote ≡ p.agent.remote
    pub transport : agent.transport ≡ p.agent.transport
    pub here : agent.here ≡ p.agent.here
    pub waits : agent.waits ≡ p.agent.waits

  pub own_agent : IsLike p.agent
  own_agent = record { remote = refl; transport = refl; here = refl; waits = refl }

  pub speaks_with : (q : Protocol) → IsLike q.agent → q.server ≡ p.server → q.allocates ≡ p.allocates → asked_of q ≡ asked_of p → q.auth ≡ p.auth → q.phase ≡ p.phase → HasAtMost b address q.allocations → Speaking q
  speaks_with q like server allocates asked auth phase one =
      speaks_on b realm address p q (record { server = server; remote = like.remote; transport = like.transport; here = like.here; waits = like.waits; allocates = allocates; asked = asked; auth = auth; phase = phase }) one is

  -- ---- what is transmitted

  made_so : (q : Protocol) (at : ℕ) (test : Allocation → Bool) (f : Allocation → Allocation) → AllStay f → IsLike q.agent → q.server ≡ p.server → q.allocates ≡ p.allocates → asked_of q ≡ asked_of p → q.auth ≡ p.auth → q.phase ≡ p.phase
      → q.allocations ≡ change_first test f p.allocations → Speaking q
  made_so q at test f stay like server allocates asked auth phase changed =
      speaks_with q like server allocates asked auth phase (subst (λ (l : List Allocation). HasAtMost b address l) (sym changed) (most_changed b address test f stay p.allocations is.one))

  refreshed_so : (at : ℕ) (sent : Sent) (q : Protocol) → IsRefreshSent p at sent q → Speaking q
  unfolding first_refreshed sent_at_once
  refreshed_so at sent q r = subst (λ (x : Protocol). Speaking x) (sym r.after)
      (made_so (after_sending at (first_refreshed r.number at p)) at (wants at) (refreshing (record { number = r.number; lifetime = p.options.lifetime })) (λ a. record { transport = refl; address = refl })
      (record { remote = refl; transport = refl; here = refl; waits = refl }) refl refl refl refl refl refl)

  renewed_so : (at : ℕ) (ip : IpAddr) (sent : Sent) (q : Protocol) → IsRenewalSent p ip at sent q → Speaking q
  unfolding first_permitted sent_at_once
  renewed_so at ip sent q r = subst (λ (x : Protocol). Speaking x) (sym r.after)
      (made_so (after_sending at (first_permitted ip r.number at p)) at (wants at) (permission_wanting.renewing at r.number) (λ a. record { transport = refl; address = refl })
      (record { remote = refl; transport = refl; here = refl; waits = refl }) refl refl refl refl refl refl)

  rebound_so : (at channel : ℕ) (peer : SocketAddr) (sent : Sent) (q : Protocol) → IsChannelRenewalSent p channel peer at sent q → Speaking q
  unfolding first_bound sent_at_once
  rebound_so at channel peer sent q r = subst (λ (x : Protocol). Speaking x) (sym r.after)
      (made_so (after_sending at (first_bound channel peer r.number at p)) at (wants at) (channel_wanting.renewing at r.number) (λ a. record { transport = refl; address = refl })
      (record { remote = refl; transport = refl; here = refl; waits = refl }) refl refl refl refl refl refl)

  renewal_so : (what : Option Want) (at : ℕ) (sent : Option Sent) (q : Protocol) → IsRenewed what p at sent q → Speaking q
  renewal_so None at sent q r = unchanged q r.1
  renewal_so (Some want.Refresh) at sent q r = (let s = sent_so sent (λ x. IsRefreshSent p at x q) r in refreshed_so at s.0 q s.1)
  renewal_so (Some (want.Channel channel peer)) at sent q r = (let s = sent_so sent (λ x. IsChannelRenewalSent p channel peer at x q) r in rebound_so at channel peer s.0 q s.1)
  renewal_so (Some (want.Permission ip)) at sent q r = (let s = sent_so sent (λ x. IsRenewalSent p ip at x q) r in renewed_so at ip s.0 q s.1)

  queued_so : (queue : List Queued) (last : Option ℕ) → Speaking (record p { queue = queue; last_send = last })
  queued_so queue last = speaks_with (record p { queue = queue; last_send = last }) own_agent refl refl refl refl refl is.one

  answer_so : (found : Option Queued) (sent : Option Sent) (q : Protocol) → IsAnswerSent found p sent q → Speaking q
  answer_so None sent q r = unchanged q r.1
  answer_so (Some x) sent q r = subst (λ (y : Protocol). Speaking y) (sym r.1) (queued_so _ p.last_send)

  started_so : (f : Phase) → HasBeenServed f → (at : ℕ) (sent : Option Sent) (q : Protocol) → IsStarted f p at sent q → Speaking q
  started_so Initial served at sent q r = absurd served
  started_so (InitialSent numbers) served at sent q r = absurd served
  started_so (Authenticating numbers) served at sent q r = absurd served
  started_so Authenticated served at sent q r = renewal_so (to_renew at p.allocations) at sent q r
  started_so Ended served at sent q r = unchanged q r.1

  next_so : (queue : List Queued) (at : ℕ) (sent : Option Sent) (q : Protocol) → IsNextSent queue p at sent q → Speaking q
  next_so (x ∷ rest) at sent q r = (let s = sent_so sent (λ y. IsQueuedSent p at x rest y q) r in subst (λ (y : Protocol). Speaking y) (sym s.1.after) (queued_so rest (Some at)))
  next_so [] at sent q r = started_so p.phase is.served at sent q r

  pub transmitted_speaks : (at : ℕ) (sent : Option Sent) (q : Protocol) → IsTransmitted p at sent q → Speaking q
  transmitted_speaks at sent q (Again one said r) = subst (λ (y : Protocol). Speaking y) (sym r.after)
      (speaks_with _ (record { remote = refl; transport = refl; here = refl; waits = refl }) refl refl refl refl refl is.one)
  transmitted_speaks at sent q (Fresh none r) = tested (is_resting (pace_of p) p.last_send at) (λ _ x. answer_so (find is_answer p.queue) sent q x) (λ _ x. next_so p.queue at sent q x) r

  -- ---- an event is taken

  pub reported_speaks : (event : Option TurnEvent) (q : Protocol) → IsEventTaken p event q → Speaking q
  reported_speaks event q r = subst (λ (y : Protocol). Speaking y) (sym r.others) (speaks_with _ own_agent refl refl refl refl refl is.one)

  -- ---- it is polled

  ticked_like : (at : ℕ) (ticked : StunAgentPollRet) (agent : agents.Agent) → agents.IsPolled p.agent at ticked agent → IsLike agent
  ticked_like at (TransactionTimedOut number) agent r = record {
    remote = ap (λ (x : agents.Agent). x.remote) r.gone;
    transport = ap (λ (x : agents.Agent). x.transport) r.gone;
    here = ap (λ (x : agents.Agent). x.here) r.gone;
    waits = ap (λ (x : agents.Agent). x.waits) r.gone;
  }
  ticked_like at (TransactionCancelled number) agent r = record {
    remote = ap (λ (x : agents.Agent). x.remote) r.gone;
    transport = ap (λ (x : agents.Agent). x.transport) r.gone;
    here = ap (λ (x : agents.Agent). x.here) r.gone;
    waits = ap (λ (x : agents.Agent). x.waits) r.gone;
  }
  ticked_like at (WaitUntil until) agent r = record {
    remote = ap (λ (x : agents.Agent). x.remote) r.2;
    transport = ap (λ (x : agents.Agent). x.transport) r.2;
    here = ap (λ (x : agents.Agent). x.here) r.2;
    waits = ap (λ (x : agents.Agent). x.waits) r.2;
  }

  module _ (at : ℕ) (over : Option ℕ) (agent : agents.Agent) (like : IsLike agent) where
    abbrev k : Protocol
    k = record p { agent = agent }

    most_polled : HasAtMost b address (map (reporting.polled over at) (left over at k))
    most_polled = most_mapped b address (reporting.polled over at) (polled_stay over at) (left over at k)
        (most_mapped b address (allocation.polled over) (refreshes_stay over) (stored over at p.allocations) (most_left b address (stays over at) p.allocations is.one))

    closing_so : (closing : List SocketAddr) (wish ret : TurnPollRet) (q : Protocol) → IsClosing closing wish (after_time over at k) ret q → Speaking q
    unfolding after_time
    closing_so [] wish ret q r = subst (λ (y : Protocol). Speaking y) (sym r.1) (speaks_with _ like refl refl refl refl refl most_polled)
    closing_so (here ∷ rest) wish ret q r = subst (λ (y : Protocol). Speaking y) (sym r.1) (speaks_with _ like refl refl refl refl refl most_polled)

    socket_so : (w : Waiting) (ret : TurnPollRet) (q : Protocol) → Answers (socket_for k w) (after_socket k) ret q → Speaking q
    unfolding after_socket
    socket_so w ret q r = subst (λ (y : Protocol). Speaking y) (sym r.1)
        (speaks_with _ like refl refl refl refl refl (most_changed b address has_unasked requested_in (λ a. record { transport = refl; address = refl }) p.allocations is.one))

    standing_so : (found : Option Waiting) (wait : ℕ) (ret : TurnPollRet) (q : Protocol)
        → MatchOption found (AreAllocationsPolled over wait k at ret q) (λ w. Answers (socket_for k w) (after_socket k) ret q) → Speaking q
    standing_so None wait ret q r = closing_so (p.closing ++ joined.all_gone over at (left over at k)) (answer_of (left over at k) over at r.first) ret q r.outcome
    standing_so (Some w) wait ret q r = socket_so w ret q r

    in_phase : (f : Phase) → HasBeenServed f → (wait : ℕ) (ret : TurnPollRet) (q : Protocol) → IsPolledIn f over wait k at ret q → Speaking q
    in_phase Initial served wait ret q r = absurd served
    in_phase (InitialSent numbers) served wait ret q r = absurd served
    in_phase (Authenticating numbers) served wait ret q r = absurd served
    in_phase Authenticated served wait ret q r = standing_so (unasked p.allocations) wait ret q r
    in_phase Ended served wait ret q r = subst (λ (y : Protocol). Speaking y) (sym r.1) (speaks_with _ like refl refl refl refl refl is.one)

  by_events : (events : List TurnEvent) (at : ℕ) (ret : TurnPollRet) (q : Protocol) → IsPolledBy events p at ret q → Speaking q
  by_events (e ∷ events) at ret q r = unchanged q r.1
  by_events [] at ret q r = tested (list_any is_answer p.queue) (λ _ x. unchanged q x.1)
      (λ _ x. in_phase at (ended_of x.ticked) x.agent (ticked_like at x.ticked x.agent x.is_ticked) p.phase is.served _ ret q x.outcome) r

  pub polled_speaks : (at : ℕ) (ret : TurnPollRet) (q : Protocol) → ret ≢ answer.NoMemory → IsPolled p at ret q → Speaking q
  polled_speaks at ret q ample r = elim (refused_or p at ret q r) [
    | inl by ↦ by_events p.events at ret q by
    | inr refused ↦ absurd (ample refused.0)
  ]

  -- ---- something is requested

  -- The words that the generator gave make no difference.
  marked_so : (test : Allocation → Bool) → Speaking (record p { allocations = change_first test marked p.allocations })
  marked_so test = speaks_with (record p { allocations = change_first test marked p.allocations }) own_agent refl refl refl refl refl (most_changed b address test marked (λ a. record { transport = refl; address = refl }) p.allocations is.one)

  refused_so : (transport : TransportType) (ip : IpAddr) (at : ℕ) (found : Option Allocation) → Speaking (refused_in found transport ip at p)
  refused_so transport ip at None = is
  refused_so transport ip at (Some a) = elim (cases_Bool (is_past at a)) [
    | inl past ↦ rw past (marked_so (is_of transport (family_of_ip ip)))
    | inr not ↦ rw not is
  ]

  module _ (transport : TransportType) (ip : IpAddr) (others : List IpAddr) (at : ℕ) where
    permissions_made : (q : Protocol) → IsPermissionRequested p transport ip others at q → Speaking q
    unfolding after_permission requested
    permissions_made q r = subst (λ (y : Protocol). Speaking y) (sym r.after)
        (made_so (after_permission transport ip others r.number at p) at (is_of transport (family_of_ip ip)) (permission_asking.asking (record { ip = ip; others = others; numbers = r.number ∷ [] })) (λ a. record { transport = refl; address = refl })
        (record { remote = refl; transport = refl; here = refl; waits = refl }) refl refl refl refl refl refl)

    permissions_by : (ret : Result (Unit {0}) CreatePermissionError) (q : Protocol) (refusal : Option CreatePermissionError) → ret ≢ Err not_permitted.NoMemory
        → IfSome refusal (λ error. (ret ≡ Err error) × (q ≡ refused_in (allocation_for transport ip p) transport ip at p))
        → IfNone refusal (MatchResult ret (λ _. IsPermissionRequested p transport ip others at q) (λ error. (error ≡ not_permitted.NoMemory) × (q ≡ after_number p))) → Speaking q
    permissions_by ret q (Some error) ample refused made = subst (λ (y : Protocol). Speaking y) (sym refused.1) (refused_so transport ip at (allocation_for transport ip p))
    permissions_by (Ok done) q None ample refused made = permissions_made q made
    permissions_by (Err error) q None ample refused made = absurd (ample (ap Err made.0))

    among_speaks : (ret : Result (Unit {0}) CreatePermissionError) (q : Protocol) → ret ≢ Err not_permitted.NoMemory → IsAnsweredAmong p transport ip others at ret q → Speaking q
    among_speaks ret q ample r = permissions_by ret q (permissions_refusal p transport ip others at) ample r.refused r.requested

    several_speaks : (may : Bool) (ret : Result (Unit {0}) CreatePermissionsError) (q : Protocol) → ret ≢ Err (none_permitted.Refused not_permitted.NoMemory)
        → MatchBool may (AreAnsweredAmong p transport ip others at ret q) (AreInvalid p ret q) → Speaking q
    several_speaks true ret q ample r = among_speaks r.among q (λ e. ample (r.is ∙ ap as_several e)) r.answered
    several_speaks false ret q ample r = unchanged q r.1

  pub permission_speaks : (transport : TransportType) (ip : IpAddr) (at : ℕ) (ret : Result (Unit {0}) CreatePermissionError) (q : Protocol) → ret ≢ Err not_permitted.NoMemory → IsPermissionAnswered p transport ip at ret q → Speaking q
  permission_speaks transport ip at ret q ample r = among_speaks transport ip [] at ret q ample r

  pub permissions_speak : (transport : TransportType) (ips : List IpAddr) (at : ℕ) (ret : Result (Unit {0}) CreatePermissionsError) (q : Protocol) → ret ≢ Err (none_permitted.Refused not_permitted.NoMemory) → ArePermissionsAnswered p transport ips at ret q → Speaking q
  permissions_speak transport [] at ret q ample r = unchanged q r.1
  permissions_speak transport (ip ∷ others) at ret q ample r = several_speaks transport ip others at (may_name ip others) ret q ample r

  bind_refused_so : (transport : TransportType) (peer : SocketAddr) (at : ℕ) (found : Option Allocation) → Speaking (bind_refused_in found transport peer at p)
  bind_refused_so transport peer at None = is
  bind_refused_so transport peer at (Some a) = elim (cases_Bool (is_past at a)) [
    | inl past ↦ rw past (marked_so (is_of transport (family_of_socket peer)))
    | inr not ↦ rw not is
  ]

  asking_stay : (channel number : ℕ) (peer : SocketAddr) → AllStay (asking_channel channel peer number)
  asking_stay channel number peer a = (let more = beside_stay (socket_ip peer) number (channel_asking.asking (record { channel = channel; peer = peer; numbers = number ∷ [] }) a) in
      record { transport = more.transport; address = more.address })

  channel_made : (transport : TransportType) (peer : SocketAddr) (channel at : ℕ) (q : Protocol) → IsChannelRequested p transport peer channel at q → Speaking q
  unfolding after_binding requested
  channel_made transport peer channel at q r = subst (λ (y : Protocol). Speaking y) (sym r.after)
      (made_so (after_binding transport peer channel r.number at p) at (is_of transport (family_of_socket peer)) (asking_channel channel peer r.number) (asking_stay channel r.number peer)
      (record { remote = refl; transport = refl; here = refl; waits = refl }) refl refl refl refl refl refl)

  channel_by : (transport : TransportType) (peer : SocketAddr) (at : ℕ) (ret : Result (Unit {0}) BindChannelError) (q : Protocol) (free : Option ℕ) → ret ≢ Err not_bound.NoMemory
      → MatchOption free ((ret ≡ Err not_bound.NoChannel) × (q ≡ p))
      (λ channel. MatchResult ret (λ _. IsChannelRequested p transport peer channel at q) (λ error. (error ≡ not_bound.NoMemory) × (q ≡ after_number p))) → Speaking q
  channel_by transport peer at ret q None ample r = unchanged q r.1
  channel_by transport peer at (Ok done) q (Some channel) ample r = channel_made transport peer channel at q r
  channel_by transport peer at (Err error) q (Some channel) ample r = absurd (ample (ap Err r.0))

  bind_by : (transport : TransportType) (peer : SocketAddr) (at : ℕ) (ret : Result (Unit {0}) BindChannelError) (q : Protocol) (refusal : Option BindChannelError) → ret ≢ Err not_bound.NoMemory
      → IfSome refusal (λ error. (ret ≡ Err error) × (q ≡ bind_refused_in (allocation_to transport peer p) transport peer at p))
      → IfNone refusal (IsBindTried p transport peer at ret q) → Speaking q
  bind_by transport peer at ret q (Some error) ample refused tried = subst (λ (y : Protocol). Speaking y) (sym refused.1) (bind_refused_so transport peer at (allocation_to transport peer p))
  bind_by transport peer at ret q None ample refused tried = channel_by transport peer at ret q tried.free ample tried.outcome

  pub bind_speaks : (transport : TransportType) (peer : SocketAddr) (at : ℕ) (ret : Result (Unit {0}) BindChannelError) (q : Protocol) → ret ≢ Err not_bound.NoMemory → IsBindAnswered p transport peer at ret q → Speaking q
  bind_speaks transport peer at ret q ample r = bind_by transport peer at ret q (bind_refusal p transport peer at) ample r.refused r.tried
