-- A client with a pending request: what `poll_transmit`, `poll` and other calls do to it.
use Rattle.std.proofs.Common.{◌≡◌, ◌≢◌, ℕ, ◌≤◌, arith, Bool, true, false, List, [], ◌∷◌, ◌++◌, map, Option, Some, None, refl, sym, ap, ◌∙◌, subst, inl, inr}
use Rattle.std.specs.Prelude.{MatchOption, MatchResult, IfNone, IfSome, Result, Ok, Err, find, nat_lt}
use Rattle.std.specs.Bool.{MatchBool}
use Rattle.std.specs.List.{list_any}
use Rattle.std.specs.Net.Socket.{socket_ip}
use Rattle.std.specs.declared.net.ip_addr.IpAddr.{IpAddr}
use Rattle.std.specs.declared.net.socket_addr.SocketAddr.{SocketAddr}
use Rattle.std.proofs.lemmas.Bool.{cases_Bool, lt-leb, lt-ltb}
use Rattle.turn_client_proto_messages.specs.StunTypesBase.Family.{family_of_ip, family_of_socket}
use Rattle.turn_client_proto_messages.specs.StunTypesBase.declared.transport.TransportType.{TransportType}
use Rattle.turn_client_proto_messages.specs.StunProtoAgent.State as agents
use Rattle.turn_client_proto_messages.specs.Allocation.Changes.{change_first}
use Rattle.turn_client_proto_messages.specs.Allocation.Polling.{stored, stays}
use Rattle.turn_client_proto_messages.specs.Allocation.Polling as allocation
use Rattle.turn_client_proto_messages.specs.Allocation.Refreshing.{refreshing}
use Rattle.turn_client_proto_messages.specs.Allocation.declared.allocation.Allocation.{Allocation}
use Rattle.turn_client_proto_messages.specs.Allocation.declared.connection.Waiting.{Waiting}
use Rattle.turn_client_proto_messages.specs.Api.declared.answer.TurnPollRet.{TurnPollRet}
use Rattle.turn_client_proto_messages.specs.Api.declared.answer.TurnPollRet.TheVariants as answer
use Rattle.turn_client_proto_messages.specs.Api.declared.error.BindChannelError.{BindChannelError}
use Rattle.turn_client_proto_messages.specs.Api.declared.error.BindChannelError.TheVariants as not_bound
use Rattle.turn_client_proto_messages.specs.Api.declared.error.CreatePermissionError.{CreatePermissionError}
use Rattle.turn_client_proto_messages.specs.Api.declared.error.CreatePermissionError.TheVariants as not_permitted
use Rattle.turn_client_proto_messages.specs.Api.declared.event.TurnEvent.{TurnEvent}
use Rattle.turn_client_proto_step_laws.specs.Peers.Channel.Wanting as channel_wanting
use Rattle.turn_client_proto_step_laws.specs.Connection.Expiring as joined
use Rattle.turn_client_proto_step_laws.specs.Connection.Waiting.{requested_in, has_unasked, unasked}
use Rattle.turn_client_proto_messages.specs.StunProtoAgent.declared.agent.StunAgentPollRet.{StunAgentPollRet}
use Rattle.turn_client_proto_handshake_laws.specs.Core.Asking.{requested}
use Rattle.turn_client_proto_handshake_laws.specs.Core.Binding.{IsBindAnswered, IsBindTried, IsChannelRequested, after_binding, allocation_to, asking_channel, bind_refusal, bind_refused_in}
use Rattle.turn_client_proto_handshake_laws.specs.Core.Numbering.{IsNextNumber, after_number}
use Rattle.turn_client_proto_handshake_laws.specs.Core.Permitting.{IsPermissionAnswered, IsPermissionRequested, after_asking as after_permission, allocation_for, permission_refusal, refused_in}
use Rattle.turn_client_proto_messages.specs.ReportedRequests.{IsLawfulRequest}
use Rattle.turn_client_proto_messages.specs.declared.request.TurnRequest.{TurnRequest}
use Rattle.turn_client_proto_messages.specs.declared.request.TurnRequest.TheVariants.{ChannelBind, CreatePermission, Refresh as RefreshRequest}
use Rattle.turn_client_proto_messages.specs.Waiting.{Queued, is_answer}
use Rattle.turn_client_proto_handshake_laws.specs.Core.declared.protocol.Phase.{Phase}
use Rattle.turn_client_proto_handshake_laws.specs.Core.declared.protocol.Protocol.{Protocol}
use Rattle.turn_client_proto_step_laws.specs.Timers.Drawing.{Again, Fresh, IsAnswerSent, IsStarted, IsChannelRenewalSent, IsTransmitted, IsNextSent, IsQueuedSent, IsRefreshSent, IsRenewalSent, IsRenewed, IsRepeated, Sends, after_sending, first_bound, first_permitted, first_refreshed, is_resting, sent_at_once}
use Rattle.turn_client_proto_messages.specs.Api.Sent.{Sent}
use Rattle.turn_client_proto_step_laws.specs.Peers.Permission.Asking.{is_of, is_past, marked}
use Rattle.turn_client_proto_step_laws.specs.Peers.Permission.Asking as permission_asking
use Rattle.turn_client_proto_step_laws.specs.Peers.Permission.Wanting as permission_wanting
use Rattle.turn_client_proto_step_laws.specs.Timers.Polling.{Answers, IsClosing, IsPolled, IsPolledBy, IsPolledIn, AreAllocationsPolled, after_asking as after_socket, after_time, answer_of, ended_of, left, pace_of, socket_for}
use Rattle.turn_client_proto_step_laws.specs.Timers.Reporting as reporting
use Rattle.turn_client_proto_step_laws.specs.Timers.Wanting.{wanted as to_renew, wants}
use Rattle.turn_client_proto_step_laws.specs.Timers.declared.wanting.Want.{Want}
use Rattle.turn_client_proto_step_laws.specs.Timers.declared.wanting.Want.TheVariants as want
use Rattle.turn_client_proto_progress_laws.proofs.Asking.Tools.{refused_or}
use Rattle.turn_client_proto_handshake_laws.specs.Driving.{IsEventTaken}
use Rattle.turn_client_proto_handshake_laws.specs.Sent.{Beginning}
use Rattle.turn_client_proto_progress_laws.specs.Asking.{HasMadeRequest, Wanted}
use Rattle.turn_client_proto_progress_laws.proofs.Asking.Stored.{Keeps, all_polled, channel_requested, channel_renewed, itself, permission_requested, permission_renewed, refresh_sent, socket_requested}
use Rattle.turn_client_proto_progress_laws.proofs.Asking.Lists.{found_one, one_stored}
use Rattle.turn_client_proto_progress_laws.proofs.Asking.Moving.{IsTickedOn, apart_from, beside_made, beside_sent, others_made, others_sent, requested_still, ticked_on}

-- What is transmitted, if something is.
pub sent_so : (answer : Option Sent) (Is : Sent → Type 0) → Sends answer Is → (sent : Sent) × Is sent
sent_so None Is is = absurd is
sent_so (Some sent) Is is = (sent, is)

-- A case distinction by a test.
pub tested : {P Q R : Type 0} (x : Bool) → (x ≡ true → P → R) → (x ≡ false → Q → R) → MatchBool x P Q → R
tested true f g is = f refl is
tested false f g is = g refl is

module _ (b : Beginning) (realm : List ℕ) (address : SocketAddr) (wanted : Wanted) (request : List ℕ) (until beyond : ℕ) (Counts : ℕ → Type 0) (p : Protocol) (h : HasMadeRequest b realm address wanted request until beyond Counts p) where
  abbrev Asks : Protocol → Type 0
  Asks q = HasMadeRequest b realm address wanted request until beyond Counts q

  -- Nothing of the client changes.
  unchanged : (q : Protocol) → q ≡ p → Asks q
  unchanged q same = subst (λ (x : Protocol). Asks x) (sym same) h

  abbrev stored_itself : Keeps h.numbers h.number wanted h.allocation h.allocation
  stored_itself = itself h.numbers h.number wanted h.allocation

  -- The first allocation that passes is changed.
  changed_one : (test : Allocation → Bool) (f : Allocation → Allocation) → Keeps h.numbers h.number wanted h.allocation (f h.allocation)
      → (a : Allocation) × (change_first test f p.allocations ≡ a ∷ []) × Keeps h.numbers h.number wanted h.allocation a
  changed_one test f keeps =
      let at : change_first test f p.allocations ≡ change_first test f (h.allocation ∷ []) = ap (λ (l : List Allocation). change_first test f l) h.only in
      elim (cases_Bool (test h.allocation)) [
        | inl passes ↦ (f h.allocation, at ∙ rw passes refl, keeps)
        | inr fails ↦ (h.allocation, at ∙ rw fails refl, stored_itself)
      ]

  -- ---- what is transmitted

  -- A request that is made and transmitted at once.
  module _ (other : TurnRequest) (number at : ℕ) (lawful : IsLawfulRequest other) (next : IsNextNumber p number) (test : Allocation → Bool) (f : Allocation → Allocation) (keeps : Keeps h.numbers h.number wanted h.allocation (f h.allocation)) where
    made_so : Asks (after_sending at (record (sent_at_once (after_number p) other number at) { allocations = change_first test f p.allocations }))
    unfolding sent_at_once
    made_so =
        let changed = changed_one test f keeps in
        requested_still b realm address wanted request until beyond Counts p h _ (record { server = refl; remote = refl; transport = refl; here = refl; waits = refl; allocates = refl; asked = refl; auth = refl; phase = refl }) refl
        changed.0 changed.1 changed.2 (others_made b realm address wanted request until beyond Counts p h other number at p.server lawful next) h.transaction (beside_made b realm address wanted request until beyond Counts p h other number at p.server lawful next) h.continues

  refreshed_so : (at : ℕ) (sent : Sent) (q : Protocol) → IsRefreshSent p at sent q → Asks q
  unfolding first_refreshed
  refreshed_so at sent q is = subst (λ (x : Protocol). Asks x) (sym is.after)
      (made_so (RefreshRequest p.options.lifetime) is.number at is.lawful is.made.is_next (wants at) (refreshing (record { number = is.number; lifetime = p.options.lifetime }))
      (refresh_sent h.numbers h.number is.number (apart_from b realm address wanted request until beyond Counts p h is.number is.made.is_next) wanted p.options.lifetime h.allocation))

  renewed_so : (at : ℕ) (ip : IpAddr) (sent : Sent) (q : Protocol) → IsRenewalSent p ip at sent q → Asks q
  unfolding first_permitted
  renewed_so at ip sent q is = subst (λ (x : Protocol). Asks x) (sym is.after)
      (made_so (CreatePermission (ip ∷ [])) is.number at is.lawful is.made.is_next (wants at) (permission_wanting.renewing at is.number)
      (permission_renewed h.numbers h.number is.number (apart_from b realm address wanted request until beyond Counts p h is.number is.made.is_next) wanted at h.allocation))

  rebound_so : (at channel : ℕ) (peer : SocketAddr) (sent : Sent) (q : Protocol) → IsChannelRenewalSent p channel peer at sent q → Asks q
  unfolding first_bound
  rebound_so at channel peer sent q is = subst (λ (x : Protocol). Asks x) (sym is.after)
      (made_so (ChannelBind channel peer) is.number at is.lawful is.made.is_next (wants at) (channel_wanting.renewing at is.number)
      (channel_renewed h.numbers h.number is.number (apart_from b realm address wanted request until beyond Counts p h is.number is.made.is_next) wanted at h.allocation))

  renewal_so : (what : Option Want) (at : ℕ) (sent : Option Sent) (q : Protocol) → IsRenewed what p at sent q → Asks q
  renewal_so None at sent q is = unchanged q is.1
  renewal_so (Some want.Refresh) at sent q is = (let s = sent_so sent (λ x. IsRefreshSent p at x q) is in refreshed_so at s.0 q s.1)
  renewal_so (Some (want.Channel channel peer)) at sent q is = (let s = sent_so sent (λ x. IsChannelRenewalSent p channel peer at x q) is in rebound_so at channel peer s.0 q s.1)
  renewal_so (Some (want.Permission ip)) at sent q is = (let s = sent_so sent (λ x. IsRenewalSent p ip at x q) is in renewed_so at ip s.0 q s.1)

  -- The client with another queue.
  queued_so : (queue : List Queued) (last : Option ℕ) → Asks (record p { queue = queue; last_send = last })
  queued_so queue last =
      requested_still b realm address wanted request until beyond Counts p h _ (record { server = refl; remote = refl; transport = refl; here = refl; waits = refl; allocates = refl; asked = refl; auth = refl; phase = refl }) refl
      h.allocation h.only stored_itself h.others h.transaction h.outstanding h.continues

  answer_so : (found : Option Queued) (sent : Option Sent) (q : Protocol) → IsAnswerSent found p sent q → Asks q
  answer_so None sent q is = unchanged q is.1
  answer_so (Some x) sent q is = subst (λ (y : Protocol). Asks y) (sym is.1) (queued_so _ p.last_send)

  next_so : (queue : List Queued) (at : ℕ) (sent : Option Sent) (q : Protocol) → IsNextSent queue p at sent q → Asks q
  next_so (x ∷ rest) at sent q is = (let s = sent_so sent (λ y. IsQueuedSent p at x rest y q) is in subst (λ (y : Protocol). Asks y) (sym s.1.after) (queued_so rest (Some at)))
  next_so [] at sent q is = renewal_so (to_renew at p.allocations) at sent q (subst (λ (f : Phase). IsStarted f p at sent q) h.phase is)

  again_so : (at : ℕ) (sent : Sent) (q : Protocol) → IsRepeated p at sent q → Asks q
  again_so at sent q is =
      let t = beside_sent b realm address wanted request until beyond Counts p h is.number is.transaction (agents.is_tcp p.agent.transport) is.least.present in
      subst (λ (y : Protocol). Asks y) (sym is.after)
      (requested_still b realm address wanted request until beyond Counts p h _ (record { server = refl; remote = refl; transport = refl; here = refl; waits = refl; allocates = refl; asked = refl; auth = refl; phase = refl }) refl
      h.allocation h.only stored_itself (others_sent b realm address wanted request until beyond Counts p h is.number is.transaction (agents.is_tcp p.agent.transport) is.least.present) t.0 t.1 t.2)

  pub generated_so : (at : ℕ) (sent : Option Sent) (q : Protocol) → IsTransmitted p at sent q → Asks q
  generated_so at sent q (Again one is r) = again_so at one q r
  generated_so at sent q (Fresh none is) = tested (is_resting (pace_of p) p.last_send at) (λ _ x. answer_so (find is_answer p.queue) sent q x) (λ _ x. next_so p.queue at sent q x) is

  -- ---- an event is taken

  pub reported_so : (event : Option TurnEvent) (q : Protocol) → IsEventTaken p event q → Asks q
  reported_so event q is = subst (λ (y : Protocol). Asks y) (sym is.others)
      (requested_still b realm address wanted request until beyond Counts p h _ (record { server = refl; remote = refl; transport = refl; here = refl; waits = refl; allocates = refl; asked = refl; auth = refl; phase = refl }) refl
      h.allocation h.only stored_itself h.others h.transaction h.outstanding h.continues)

  -- ---- it is polled, not later

  module _ (at : ℕ) (early : at ≤ until) (before : at ≤ beyond) where
    lasts : nat_lt at h.allocation.expiry ≡ true
    lasts = (let later = h.later in lt-ltb at h.allocation.expiry (omega (arith, later, before)))

    module _ (ticked : StunAgentPollRet) (agent : agents.Agent) (t : IsTickedOn b realm address wanted request until beyond Counts p h ticked agent) where
      abbrev over : Option ℕ
      over = ended_of ticked

      abbrev k : Protocol
      k = record p { agent = agent }

      abbrev after : Allocation
      after = reporting.polled over at (allocation.polled over h.allocation)

      stays_so : stays over at h.allocation ≡ true
      unfolding stays
      stays_so = rw lasts refl

      left_is : left over at k ≡ allocation.polled over h.allocation ∷ []
      left_is = ap (λ (l : List Allocation). map (allocation.polled over) (stored over at l)) h.only ∙ ap (λ (l : List Allocation). map (allocation.polled over) l) (one_stored (stays over at) h.allocation stays_so)

      polled_is : map (reporting.polled over at) (left over at k) ≡ after ∷ []
      polled_is = ap (λ (l : List Allocation). map (reporting.polled over at) l) left_is

      with_closing : (closing : List SocketAddr) → Asks (record k {
        allocations = map (reporting.polled over at) (left over at k);
        events = p.events ++ reporting.all_failures over at (left over at k);
        closing = closing;
      })
      with_closing closing =
          requested_still b realm address wanted request until beyond Counts p h _ (record { server = refl; remote = t.remote; transport = t.transport; here = t.here; waits = t.waits; allocates = refl; asked = refl; auth = refl; phase = refl }) refl
          after polled_is (all_polled h.numbers h.number over at t.continues wanted h.allocation) t.others h.transaction t.there h.continues

      closing_so : (closing : List SocketAddr) (wish ret : TurnPollRet) (q : Protocol) → IsClosing closing wish (after_time over at k) ret q → Asks q
      unfolding after_time
      closing_so [] wish ret q is = subst (λ (y : Protocol). Asks y) (sym is.1) (with_closing _)
      closing_so (here ∷ rest) wish ret q is = subst (λ (y : Protocol). Asks y) (sym is.1) (with_closing rest)

      socket_so : (w : Waiting) (ret : TurnPollRet) (q : Protocol) → Answers (socket_for k w) (after_socket k) ret q → Asks q
      unfolding after_socket
      socket_so w ret q is =
          let changed = changed_one has_unasked requested_in (socket_requested h.numbers h.number wanted h.allocation) in
          subst (λ (y : Protocol). Asks y) (sym is.1)
          (requested_still b realm address wanted request until beyond Counts p h _ (record { server = refl; remote = t.remote; transport = t.transport; here = t.here; waits = t.waits; allocates = refl; asked = refl; auth = refl; phase = refl }) refl
          changed.0 changed.1 changed.2 t.others h.transaction t.there h.continues)

      standing_so : (found : Option Waiting) (wait : ℕ) (ret : TurnPollRet) (q : Protocol)
          → MatchOption found (AreAllocationsPolled over wait k at ret q) (λ w. Answers (socket_for k w) (after_socket k) ret q) → Asks q
      standing_so None wait ret q is = closing_so (p.closing ++ joined.all_gone over at (left over at k)) (answer_of (left over at k) over at is.first) ret q is.outcome
      standing_so (Some w) wait ret q is = socket_so w ret q is

      in_phase : (wait : ℕ) (ret : TurnPollRet) (q : Protocol) → IsPolledIn p.phase over wait k at ret q → Asks q
      in_phase wait ret q is = standing_so (unasked p.allocations) wait ret q (subst (λ (f : Phase). IsPolledIn f over wait k at ret q) h.phase is)

    by_events : (events : List TurnEvent) (ret : TurnPollRet) (q : Protocol) → IsPolledBy events p at ret q → Asks q
    by_events (e ∷ events) ret q is = unchanged q is.1
    by_events [] ret q is = tested (list_any is_answer p.queue) (λ _ x. unchanged q x.1)
        (λ _ x. in_phase x.ticked x.agent (ticked_on b realm address wanted request until beyond Counts p h at x.ticked x.agent early x.is_ticked) _ ret q x.outcome) is

    pub polled_so : (ret : TurnPollRet) (q : Protocol) → ret ≢ answer.NoMemory → IsPolled p at ret q → Asks q
    polled_so ret q ample is = elim (refused_or p at ret q is) [
      | inl by ↦ by_events p.events ret q by
      | inr refused ↦ absurd (ample refused.0)
    ]

    -- ---- something else is requested, not later

    not_past : is_past at h.allocation ≡ false
    not_past = (let later = h.later in lt-leb h.allocation.expiry at (omega (arith, later, before)))

    -- An allocation that is found is the only one.
    found_is : (test : Allocation → Bool) (a : Allocation) → find test p.allocations ≡ Some a → a ≡ h.allocation
    found_is test a is = (found_one test h.allocation a (sym (ap (λ (l : List Allocation). find test l) h.only) ∙ is)).0

    -- So it isn't marked as expired.
    refused_so : (transport : TransportType) (ip : IpAddr) (found : Option Allocation) → find (is_of transport (family_of_ip ip)) p.allocations ≡ found → refused_in found transport ip at p ≡ p
    refused_so transport ip None which = refl
    refused_so transport ip (Some a) which =
        let past : is_past at a ≡ false = ap (λ (x : Allocation). is_past at x) (found_is (is_of transport (family_of_ip ip)) a which) ∙ not_past in
        rw past refl

    -- A request that is queued.
    module _ (other : TurnRequest) (number : ℕ) (lawful : IsLawfulRequest other) (next : IsNextNumber p number) (test : Allocation → Bool) (f : Allocation → Allocation) (keeps : Keeps h.numbers h.number wanted h.allocation (f h.allocation)) where
      waits_so : Asks (record (requested (after_number p) other number at) { allocations = change_first test f p.allocations })
      unfolding requested
      waits_so =
          let changed = changed_one test f keeps in
          requested_still b realm address wanted request until beyond Counts p h _ (record { server = refl; remote = refl; transport = refl; here = refl; waits = refl; allocates = refl; asked = refl; auth = refl; phase = refl }) refl
          changed.0 changed.1 changed.2 (others_made b realm address wanted request until beyond Counts p h other number at p.server lawful next) h.transaction (beside_made b realm address wanted request until beyond Counts p h other number at p.server lawful next) h.continues

    permission_made : (transport : TransportType) (ip : IpAddr) (q : Protocol) → IsPermissionRequested p transport ip [] at q → Asks q
    unfolding after_permission
    permission_made transport ip q is = subst (λ (y : Protocol). Asks y) (sym is.after)
        (waits_so (CreatePermission (ip ∷ [])) is.number is.lawful is.is_next (is_of transport (family_of_ip ip)) (permission_asking.asking (record { ip = ip; others = []; numbers = is.number ∷ [] }))
        (permission_requested h.numbers h.number is.number (apart_from b realm address wanted request until beyond Counts p h is.number is.is_next) wanted ip h.allocation))

    permission_by : (transport : TransportType) (ip : IpAddr) (ret : Result (Unit {0}) CreatePermissionError) (q : Protocol) (refusal : Option CreatePermissionError) → ret ≢ Err not_permitted.NoMemory
        → IfSome refusal (λ error. (ret ≡ Err error) × (q ≡ refused_in (allocation_for transport ip p) transport ip at p))
        → IfNone refusal (MatchResult ret (λ _. IsPermissionRequested p transport ip [] at q) (λ error. (error ≡ not_permitted.NoMemory) × (q ≡ after_number p))) → Asks q
    permission_by transport ip ret q (Some error) ample refused made = unchanged q (refused.1 ∙ refused_so transport ip (allocation_for transport ip p) refl)
    permission_by transport ip (Ok done) q None ample refused made = permission_made transport ip q made
    permission_by transport ip (Err error) q None ample refused made = absurd (ample (ap Err made.0))

    pub permission_so : (transport : TransportType) (ip : IpAddr) (ret : Result (Unit {0}) CreatePermissionError) (q : Protocol) → ret ≢ Err not_permitted.NoMemory → IsPermissionAnswered p transport ip at ret q → Asks q
    permission_so transport ip ret q ample is = permission_by transport ip ret q (permission_refusal p transport ip at) ample is.refused is.requested

    bind_refused_so : (transport : TransportType) (peer : SocketAddr) (found : Option Allocation) → find (is_of transport (family_of_socket peer)) p.allocations ≡ found → bind_refused_in found transport peer at p ≡ p
    bind_refused_so transport peer None which = refl
    bind_refused_so transport peer (Some a) which =
        let past : is_past at a ≡ false = ap (λ (x : Allocation). is_past at x) (found_is (is_of transport (family_of_socket peer)) a which) ∙ not_past in
        rw past refl

    channel_made : (transport : TransportType) (peer : SocketAddr) (channel : ℕ) (q : Protocol) → IsChannelRequested p transport peer channel at q → Asks q
    unfolding after_binding
    channel_made transport peer channel q is = subst (λ (y : Protocol). Asks y) (sym is.after)
        (waits_so (ChannelBind channel peer) is.number is.lawful is.is_next (is_of transport (family_of_socket peer)) (asking_channel channel peer is.number)
        (channel_requested h.numbers h.number is.number (apart_from b realm address wanted request until beyond Counts p h is.number is.is_next) wanted channel (socket_ip peer) peer h.allocation))

    channel_by : (transport : TransportType) (peer : SocketAddr) (ret : Result (Unit {0}) BindChannelError) (q : Protocol) (free : Option ℕ) → ret ≢ Err not_bound.NoMemory
        → MatchOption free ((ret ≡ Err not_bound.NoChannel) × (q ≡ p))
        (λ channel. MatchResult ret (λ _. IsChannelRequested p transport peer channel at q) (λ error. (error ≡ not_bound.NoMemory) × (q ≡ after_number p))) → Asks q
    channel_by transport peer ret q None ample is = unchanged q is.1
    channel_by transport peer (Ok done) q (Some channel) ample is = channel_made transport peer channel q is
    channel_by transport peer (Err error) q (Some channel) ample is = absurd (ample (ap Err is.0))

    bind_by : (transport : TransportType) (peer : SocketAddr) (ret : Result (Unit {0}) BindChannelError) (q : Protocol) (refusal : Option BindChannelError) → ret ≢ Err not_bound.NoMemory
        → IfSome refusal (λ error. (ret ≡ Err error) × (q ≡ bind_refused_in (allocation_to transport peer p) transport peer at p))
        → IfNone refusal (IsBindTried p transport peer at ret q) → Asks q
    bind_by transport peer ret q (Some error) ample refused tried = unchanged q (refused.1 ∙ bind_refused_so transport peer (allocation_to transport peer p) refl)
    bind_by transport peer ret q None ample refused tried = channel_by transport peer ret q tried.free ample tried.outcome

    pub bind_so : (transport : TransportType) (peer : SocketAddr) (ret : Result (Unit {0}) BindChannelError) (q : Protocol) → ret ≢ Err not_bound.NoMemory → IsBindAnswered p transport peer at ret q → Asks q
    bind_so transport peer ret q ample is = bind_by transport peer ret q (bind_refusal p transport peer at) ample is.refused is.tried
