-- What a client that has allocated does with a challenge is a step of a run: what was requested is requested
-- once more.
use Rattle.std.proofs.Common.{◌≡◌, ℕ, ◌<◌, ◌^◌, Bool, true, false, List, [], ◌∷◌, Option, Some, None, refl, sym, ap, ◌∙◌, subst}
use Rattle.std.specs.FinMap as finite
use Rattle.std.specs.List.{find}
use Rattle.std.specs.Option.{option_map}
use Rattle.std.specs.Prelude.{is_some}
use Rattle.std.specs.declared.net.ip_addr.IpAddr.{IpAddr}
use Rattle.std.specs.declared.net.socket_addr.SocketAddr.{SocketAddr}
use Rattle.turn_client_proto_timers.specs.StunTypesWire.Grammar.{number_at}
use Rattle.turn_client_proto_timers.specs.StunProtoTransaction.Agents.{Transaction}
use Rattle.turn_client_proto_timers.specs.StunProtoAgent.Handling.{after_message, is_awaited}
use Rattle.turn_client_proto_timers.specs.StunProtoAgent.Numbers.{NothingNew}
use Rattle.turn_client_proto_timers.specs.StunProtoAgent.Sending.{with_request}
use Rattle.turn_client_proto_timers.specs.StunProtoAgent.State.{Agent}
use Rattle.turn_client_proto_timers.proofs.StunProtoAgent.Numbers.{handled_new}
use Rattle.turn_client_proto_timers.specs.TurnRuns.Members.{IsIn}
use Rattle.turn_client_proto_timers.specs.TurnRuns.Messages as run
use Rattle.turn_client_proto_timers.specs.TurnRuns.StunWire.{decoded_by}
use Rattle.turn_client_proto_timers.specs.Allocation.Awaited.{is_refresh}
use Rattle.turn_client_proto_timers.specs.Allocation.PendingRequests.{addresses_for, all_reissued_under, pending_request, reissued_under, awaits_reply}
use Rattle.turn_client_proto_timers.specs.Peers.Channel.Numbers.{AreDistinct}
use Rattle.turn_client_proto_timers.specs.Allocation.declared.pending.PendingRequest.{PendingRequest}
use Rattle.turn_client_proto_timers.specs.Allocation.declared.pending.PendingRequest.TheVariants.{ChannelRenewal, Lifetime, NewChannel, NewConnection, NewPermission, Renewal}
use Rattle.turn_client_proto_timers.specs.Messages.Requests.{request_text}
use Rattle.turn_client_proto_timers.specs.Messages.declared.request.TurnRequest.{TurnRequest}
use Rattle.turn_client_proto_timers.specs.Messages.declared.request.TurnRequest.TheVariants.{ChannelBind, Connect, CreatePermission, Refresh}
use Rattle.turn_client_proto_timers.specs.Core.Asking.{requested}
use Rattle.turn_client_proto_timers.specs.Core.Ending.{ended}
use Rattle.turn_client_proto_timers.specs.Core.Numbering.{after_number}
use Rattle.turn_client_proto_timers.specs.Core.Responding.{challenged, is_tired}
use Rattle.turn_client_proto_timers.specs.Core.Standing.{IsRequestedAgain, IsRechallenged, IsSentAgain, asks_again, request_again}
use Rattle.turn_client_proto_timers.specs.Core.declared.protocol.Phase.TheVariants.{Authenticated}
use Rattle.turn_client_proto_timers.specs.Core.declared.protocol.Protocol.{Protocol}
use Rattle.turn_client_proto_timers.proofs.Peers.Distinct.{reissued_under_uses_less, first_stay_distinct}
use Rattle.turn_client_proto_timers.proofs.Messages.Peers.{peer_read}
use Rattle.turn_client_proto_step_laws.specs.Held.{Allocation, PendingRefresh}
use Rattle.turn_client_proto_step_laws.specs.RunClient.{Client, Parts, parts_of}
use Rattle.turn_client_proto_step_laws.specs.RunSteps.{IsRunStep}
use Rattle.turn_client_proto_step_laws.specs.Sound.{AreShort, IsWhole}
use Rattle.turn_client_proto_step_laws.proofs.Adding.{AreLess, adds_both, agent_less, allocations_less}
use Rattle.turn_client_proto_step_laws.proofs.Asking.{IsMade, IsUnderWay, requested_adds, requested_orderly, asks, made}
use Rattle.turn_client_proto_step_laws.proofs.Awaited.{IsRequestedOf, IsFoundBy, OfRequestedChannel, OfConnection, OfLifetime, OfNew, OfRenewal, OfRenewedChannel, found_by}
use Rattle.turn_client_proto_step_laws.proofs.AwaitedChannels.{channel_of, first_requested, first_renewed, permission_of, renewal_of}
use Rattle.turn_client_proto_step_laws.proofs.Binding.{reissued_under_permitting, renewed_too_permitting}
use Rattle.turn_client_proto_step_laws.proofs.Connecting.{IsConnectFound, asks_connect, connect_found, connect_number, found_whole, whole_to}
use Rattle.turn_client_proto_step_laws.proofs.Processing.{done, over}
use Rattle.turn_client_proto_step_laws.proofs.Joined.{again_joining, asks_to}
use Rattle.turn_client_proto_step_laws.proofs.Joining.{AreJoining, IsJoining, allocations_joining, first_joining, joining_orderly, none_learnt}
use Rattle.turn_client_proto_step_laws.proofs.Lessening.{first_less, one_awaited, same_first_distinct}
use Rattle.turn_client_proto_step_laws.proofs.Lists.{found_in, inside}
use Rattle.turn_client_proto_step_laws.proofs.Orderly.{agent_orderly, allocations_orderly}
use Rattle.turn_client_proto_step_laws.proofs.Named.{addresses_found}
use Rattle.turn_client_proto_step_laws.proofs.Permissions.{asking_again_permitting, first_permitting, renewing_again_permitting}
use Rattle.turn_client_proto_step_laws.proofs.Permits.{asks_by, channel_fit, made_number, permission_fit}
use Rattle.turn_client_proto_step_laws.proofs.Fitting.{AreFit, permitting_orderly}
use Rattle.turn_client_proto_step_laws.proofs.Permitting.{ArePermitting, IsPermitting, allocations_permitting, none_gained}
use Rattle.turn_client_proto_step_laws.proofs.Plain.{nothing_transmitted}
use Rattle.turn_client_proto_step_laws.proofs.Polling.{by_test}
use Rattle.turn_client_proto_step_laws.proofs.Refreshing.{allocated, refresh_made, refresh_of, refresh_short}

-- ---- a lifetime that was requested

lifetime_small : (refreshes : List PendingRefresh) (lifetime : ℕ) (found : Option PendingRefresh) → AreShort refreshes → ((r : PendingRefresh) → found ≡ Some r → IsIn r refreshes)
    → option_map (λ (r : PendingRefresh). r.lifetime) found ≡ Some lifetime → lifetime < 2 ^ 32
lifetime_small refreshes lifetime None short there h = absurd (Prim.cc h)
lifetime_small refreshes lifetime (Some r) short there h = subst (λ (n : ℕ). n < 2 ^ 32) (inside h) (short r (there r refl))

-- ---- a challenge

module _ (c : Client) (mid : Protocol) (bytes : List ℕ) (now : ℕ) (under_way : IsUnderWay c (bytes ∷ []) mid) (occurs : mid.phase ≡ Authenticated) where
  -- The client that requests something again.
  abbrev again : PendingRequest → ℕ → Protocol
  again what number = challenged bytes (asks_again what (number_at bytes) number now mid)

  -- A REFRESH once more.
  refreshes : (number lifetime : ℕ) → lifetime < 2 ^ 32 → IsMade mid (Refresh lifetime) number → IsRunStep c (bytes ∷ []) None [] (again (Lifetime lifetime) number)
  unfolding challenged asks_again requested
  refreshes number lifetime small is =
      let started : List run.Message = decoded_by (request_text mid.auth (Refresh lifetime) number) ∷ [] in
      let refresh : PendingRefresh = refresh_of number lifetime in
      let made_it : Parts = parts_of (requested (after_number mid) (Refresh lifetime) number now) in
      let left : List Allocation = all_reissued_under (Lifetime lifetime) (number_at bytes) number mid.allocations in
      let less : AreLess (refresh ∷ []) mid.allocations left = first_less (refresh ∷ []) (reissued_under (Lifetime lifetime) (number_at bytes) number) (one_awaited refresh) (awaits_reply (number_at bytes)) mid.allocations in
      let listed : Parts = record made_it { allocations = left } in
      let agent : Agent = after_message made_it.agent bytes mid.server in
      let none : NothingNew made_it.agent agent = handled_new made_it.agent bytes mid.server in
      let core : Protocol = again (Lifetime lifetime) number in
      let adds = adds_both started (parts_of mid) made_it (parts_of core) (requested_adds mid (Refresh lifetime) number now)
      (adds_both started made_it listed (parts_of core)
      (allocations_less started (refresh ∷ []) made_it left less (refresh_made mid number lifetime is))
      (agent_less started listed agent none)) in
      let orderly = agent_orderly listed agent none (allocations_orderly (refresh ∷ []) made_it left less (refresh_short number lifetime small)
      (same_first_distinct (awaits_reply (number_at bytes)) (reissued_under (Lifetime lifetime) (number_at bytes) number) (λ a. (refl, refl)) mid.allocations under_way.orderly.distinct)
      (requested_orderly mid (Refresh lifetime) number now is (allocated _ mid.phase occurs) under_way.orderly)) in
      asks c mid (Refresh lifetime) number under_way is None core adds orderly refl (λ realm h. h) under_way.can_ask.settings refl refl (nothing_transmitted started c)

  -- The addresses that the old request names.
  abbrev ips : List IpAddr
  ips = addresses_for (number_at bytes) mid.allocations

  -- The request for something once more.
  abbrev request_of : PendingRequest → TurnRequest
  request_of what = request_again what (number_at bytes) mid.allocations

  -- Another request once more, which is no REFRESH.
  anew : (what : PendingRequest) (number : ℕ) → IsMade mid (request_of what) number
      → AreFit none_gained (asks_by (request_of what) number) (with_request mid.agent (request_text mid.auth (request_of what) number) mid.server now)
      → ArePermitting none_gained (asks_by (request_of what) number) mid.allocations (all_reissued_under what (number_at bytes) number mid.allocations) → IsRunStep c (bytes ∷ []) None [] (again what number)
  unfolding challenged asks_again requested
  anew what number is fit are =
      let request : TurnRequest = request_of what in
      let started : List run.Message = decoded_by (request_text mid.auth request number) ∷ [] in
      let made_it : Parts = parts_of (requested (after_number mid) request number now) in
      let left : List Allocation = all_reissued_under what (number_at bytes) number mid.allocations in
      let listed : Parts = record made_it { allocations = left } in
      let agent : Agent = after_message made_it.agent bytes mid.server in
      let none : NothingNew made_it.agent agent = handled_new made_it.agent bytes mid.server in
      let core : Protocol = again what number in
      let distinct : AreDistinct left = first_stay_distinct mid.allocations (awaits_reply (number_at bytes)) (reissued_under what (number_at bytes) number) (λ a found. reissued_under_uses_less what (number_at bytes) number a) under_way.orderly.distinct in
      let adds = adds_both started (parts_of mid) made_it (parts_of core) (requested_adds mid request number now)
      (adds_both started made_it listed (parts_of core) (allocations_permitting started (asks_by request number) made_it left are (made_number mid request number now is)) (agent_less started listed agent none)) in
      let orderly = agent_orderly listed agent none (permitting_orderly none_gained (asks_by request number) made_it left are fit
      (requested_orderly mid request number now is (allocated _ mid.phase occurs) under_way.orderly) distinct) in
      asks c mid request number under_way is None core adds orderly refl (λ realm h. h) under_way.can_ask.settings refl refl (nothing_transmitted started c)

  -- A CONNECT once more.
  connects : (number : ℕ) (peer : SocketAddr) → IsWhole peer → IsMade mid (Connect peer) number
      → AreJoining (asks_to peer number) none_learnt mid.allocations (all_reissued_under (NewConnection peer) (number_at bytes) number mid.allocations) → IsRunStep c (bytes ∷ []) None [] (again (NewConnection peer) number)
  unfolding challenged asks_again requested
  connects number peer whole is are =
      let started : List run.Message = decoded_by (request_text mid.auth (Connect peer) number) ∷ [] in
      let made_it : Parts = parts_of (requested (after_number mid) (Connect peer) number now) in
      let left : List Allocation = all_reissued_under (NewConnection peer) (number_at bytes) number mid.allocations in
      let listed : Parts = record made_it { allocations = left } in
      let agent : Agent = after_message made_it.agent bytes mid.server in
      let none : NothingNew made_it.agent agent = handled_new made_it.agent bytes mid.server in
      let core : Protocol = again (NewConnection peer) number in
      let distinct : AreDistinct left = first_stay_distinct mid.allocations (awaits_reply (number_at bytes)) (reissued_under (NewConnection peer) (number_at bytes) number) (λ a found. reissued_under_uses_less (NewConnection peer) (number_at bytes) number a) under_way.orderly.distinct in
      let adds = adds_both started (parts_of mid) made_it (parts_of core) (requested_adds mid (Connect peer) number now)
      (adds_both started made_it listed (parts_of core) (allocations_joining started (asks_to peer number) made_it left are (connect_number mid peer number now is)) (agent_less started listed agent none)) in
      let orderly = agent_orderly listed agent none (joining_orderly (asks_to peer number) none_learnt made_it left are (asks_connect mid peer number now is) (whole_to peer number whole) distinct
      (requested_orderly mid (Connect peer) number now is (allocated _ mid.phase occurs) under_way.orderly)) in
      asks c mid (Connect peer) number under_way is None core adds orderly refl (λ realm h. h) under_way.can_ask.settings refl refl (nothing_transmitted started c)

  -- The first allocation that awaits the response uses the new request in place of the old one.
  connects_first : (number : ℕ) (peer : SocketAddr) → IsConnectFound (number_at bytes) peer mid.allocations
      → AreJoining (asks_to peer number) none_learnt mid.allocations (all_reissued_under (NewConnection peer) (number_at bytes) number mid.allocations)
  connects_first number peer is =
      first_joining (asks_to peer number) none_learnt (awaits_reply (number_at bytes)) (reissued_under (NewConnection peer) (number_at bytes) number) mid.allocations (λ a found.
      subst (λ (x : Allocation). IsJoining (asks_to peer number) none_learnt x (reissued_under (NewConnection peer) (number_at bytes) number x)) (inside (sym is.found ∙ found))
      (subst (λ (x : SocketAddr). IsJoining (asks_to x number) none_learnt is.allocation (reissued_under (NewConnection peer) (number_at bytes) number is.allocation)) is.is_peer
      (again_joining (number_at bytes) number is.allocation is.connection is.at)))

  -- What is requested by the first allocation that awaits a response.
  of_first : (what : PendingRequest) (first : IsFoundBy (number_at bytes) mid.allocations what) (a : Allocation) → find (awaits_reply (number_at bytes)) mid.allocations ≡ Some a → IsRequestedOf (number_at bytes) a what
  of_first what first a found = subst (λ (x : Allocation). IsRequestedOf (number_at bytes) x what) (inside (sym first.found ∙ found)) first.is

  sent_again : (what : PendingRequest) (handled : Bool) (new : Protocol) → (t : Transaction) → finite.get mid.agent.outstanding (number_at bytes) ≡ Some t → IsFoundBy (number_at bytes) mid.allocations what → IsSentAgain what mid bytes now handled new → IsRunStep c (bytes ∷ []) None [] new
  sent_again (Lifetime lifetime) handled new t there first h =
      subst (λ (p : Protocol). IsRunStep c (bytes ∷ []) None [] p) (sym h.outcome.1) (refreshes h.number lifetime small (made c mid (Refresh lifetime) h.number under_way small tt h.is_next))
    where
      by : IsRequestedOf (number_at bytes) first.allocation (Lifetime lifetime) → lifetime < 2 ^ 32
      by (OfLifetime l at same) =
          lifetime_small first.allocation.pending_refreshes lifetime (find (is_refresh (number_at bytes)) first.allocation.pending_refreshes)
          (under_way.orderly.lifetimes first.allocation (found_in (awaits_reply (number_at bytes)) mid.allocations first.allocation first.found))
          (found_in (is_refresh (number_at bytes)) first.allocation.pending_refreshes) (at ∙ ap Some (Prim.cc same))
      by (OfRequestedChannel b at same) = absurd (Prim.cc same)
      by (OfRenewedChannel b at same) = absurd (Prim.cc same)
      by (OfNew p at same) = absurd (Prim.cc same)
      by (OfRenewal p at same) = absurd (Prim.cc same)
      by (OfConnection k at same) = absurd (Prim.cc same)

      small : lifetime < 2 ^ 32
      small = by first.is
  sent_again (NewChannel transport channel peer) handled new t there first h =
      let number = h.number in
      let is = channel_of (parts_of mid) (number_at bytes) transport channel peer under_way.orderly first in
      let made_it = made c mid (ChannelBind channel peer) number under_way h.lawful (peer_read number peer is.whole.own is.whole.flow is.whole.scope) h.is_next in
      subst (λ (p : Protocol). IsRunStep c (bytes ∷ []) None [] p) (sym h.outcome.1)
      (anew (NewChannel transport channel peer) number made_it (channel_fit mid channel peer number now is.whole made_it)
      (first_permitting none_gained (asks_by (ChannelBind channel peer) number) (awaits_reply (number_at bytes)) (reissued_under (NewChannel transport channel peer) (number_at bytes) number) mid.allocations (λ a found.
      reissued_under_permitting channel peer number (number_at bytes) transport a (first_requested (number_at bytes) a transport channel peer (of_first (NewChannel transport channel peer) first a found))
      (permission_of (parts_of mid) (number_at bytes) transport channel peer under_way.orderly is t there a (found_in (awaits_reply (number_at bytes)) mid.allocations a found)))))
  sent_again (ChannelRenewal transport channel peer) handled new t there first h =
      let number = h.number in
      let is = renewal_of (parts_of mid) (number_at bytes) transport channel peer under_way.orderly first in
      let made_it = made c mid (ChannelBind channel peer) number under_way h.lawful (peer_read number peer is.whole.own is.whole.flow is.whole.scope) h.is_next in
      subst (λ (p : Protocol). IsRunStep c (bytes ∷ []) None [] p) (sym h.outcome.1)
      (anew (ChannelRenewal transport channel peer) number made_it (channel_fit mid channel peer number now is.whole made_it)
      (first_permitting none_gained (asks_by (ChannelBind channel peer) number) (awaits_reply (number_at bytes)) (reissued_under (ChannelRenewal transport channel peer) (number_at bytes) number) mid.allocations (λ a found.
      renewed_too_permitting channel peer number (number_at bytes) transport a (first_renewed (number_at bytes) a transport channel peer (of_first (ChannelRenewal transport channel peer) first a found))
      (permission_of (parts_of mid) (number_at bytes) transport channel peer under_way.orderly is t there a (found_in (awaits_reply (number_at bytes)) mid.allocations a found)))))
  sent_again (NewPermission transport ip) handled new t there first h =
      let made_it = made c mid (CreatePermission ips) h.number under_way h.lawful tt h.is_next in
      subst (λ (p : Protocol). IsRunStep c (bytes ∷ []) None [] p) (sym h.outcome.1)
      (anew (NewPermission transport ip) h.number made_it (permission_fit mid ips h.number now made_it)
      (first_permitting none_gained (asks_by (CreatePermission ips) h.number) (awaits_reply (number_at bytes)) (reissued_under (NewPermission transport ip) (number_at bytes) h.number) mid.allocations
      (λ a found. one a found (of_first (NewPermission transport ip) first a found))))
    where
      one : (a : Allocation) → find (awaits_reply (number_at bytes)) mid.allocations ≡ Some a → IsRequestedOf (number_at bytes) a (NewPermission transport ip)
          → IsPermitting none_gained (asks_by (CreatePermission ips) h.number) a (reissued_under (NewPermission transport ip) (number_at bytes) h.number a)
      one a found (OfLifetime l at same) = absurd (Prim.cc same)
      one a found (OfRequestedChannel b at same) = absurd (Prim.cc same)
      one a found (OfRenewedChannel b at same) = absurd (Prim.cc same)
      one a found (OfRenewal p at same) = absurd (Prim.cc same)
      one a found (OfConnection k at same) = absurd (Prim.cc same)
      one a found (OfNew p at same) =
          subst (λ (l : List IpAddr). IsPermitting none_gained (asks_by (CreatePermission l) h.number) a (reissued_under (NewPermission transport ip) (number_at bytes) h.number a))
          (sym (addresses_found (number_at bytes) mid.allocations a p found at))
          (asking_again_permitting transport ip (number_at bytes) h.number a p at)
  sent_again (Renewal transport ip) handled new t there first h =
      let made_it = made c mid (CreatePermission (ip ∷ [])) h.number under_way h.lawful tt h.is_next in
      subst (λ (p : Protocol). IsRunStep c (bytes ∷ []) None [] p) (sym h.outcome.1)
      (anew (Renewal transport ip) h.number made_it (permission_fit mid (ip ∷ []) h.number now made_it)
      (first_permitting none_gained (asks_by (CreatePermission (ip ∷ [])) h.number) (awaits_reply (number_at bytes)) (reissued_under (Renewal transport ip) (number_at bytes) h.number) mid.allocations
      (λ a found. renewing_again_permitting transport ip (number_at bytes) h.number a)))
  sent_again (NewConnection peer) handled new t there first h =
      let is = connect_found (number_at bytes) peer mid.allocations first in
      let whole = found_whole (parts_of mid) (number_at bytes) peer under_way.orderly is in
      let made_it = made c mid (Connect peer) h.number under_way h.lawful (peer_read h.number peer whole.own whole.flow whole.scope) h.is_next in
      subst (λ (p : Protocol). IsRunStep c (bytes ∷ []) None [] p) (sym h.outcome.1) (connects h.number peer whole made_it (connects_first h.number peer is))

  requested_again : (outstanding : Option Transaction) (what : Option PendingRequest) (handled : Bool) (new : Protocol) → finite.get mid.agent.outstanding (number_at bytes) ≡ outstanding → is_some outstanding ≡ true
      → pending_request (number_at bytes) mid.allocations ≡ what → IsRequestedAgain what mid bytes now handled new → IsRunStep c (bytes ∷ []) None [] new
  requested_again None what handled new there some is h = absurd (Prim.cc some)
  requested_again (Some t) None handled new there some is h = done c (bytes ∷ []) mid new under_way h.1
  requested_again (Some t) (Some what) handled new there some is h = sent_again what handled new t there (found_by (number_at bytes) mid.allocations what is) h

  pub rechallenged : (handled : Bool) (new : Protocol) → IsRechallenged mid bytes now handled new → IsRunStep c (bytes ∷ []) None [] new
  rechallenged handled new h =
      by_test (is_tired mid)
      (λ (_ : is_tired mid ≡ true) (o : (handled ≡ true) × (new ≡ ended mid)). over c (bytes ∷ []) mid new under_way o.1)
      (λ (_ : is_tired mid ≡ false) one. by_test (is_awaited mid.agent bytes)
      (λ (awaited : is_awaited mid.agent bytes ≡ true) two. requested_again (finite.get mid.agent.outstanding (number_at bytes)) (pending_request (number_at bytes) mid.allocations) handled new refl awaited refl two)
      (λ (_ : is_awaited mid.agent bytes ≡ false) (o : (handled ≡ false) × (new ≡ mid)). done c (bytes ∷ []) mid new under_way o.1)
      one) h
