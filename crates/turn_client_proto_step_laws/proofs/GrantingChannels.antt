-- The success response to a CHANNEL_BIND is a step of a run: the requested channel is gained, and with it the
-- permission that was requested.
use Rattle.std.proofs.Common.{◌≡◌, ℕ, Bool, true, List, [], ◌∷◌, ◌++◌, map, Option, Some, None, refl, sym, ap, ◌∙◌, subst, inl, inr}
use Rattle.std.proofs.lemmas.Bool.{cases_Bool}
use Rattle.std.proofs.lemmas.List.{append_assoc}
use Rattle.std.specs.FinMap as finite
use Rattle.std.specs.List.{find}
use Rattle.std.specs.Option.{option_and_then, option_map, option_or}
use Rattle.std.specs.Prelude.{is_some}
use Rattle.std.specs.declared.net.ip_addr.IpAddr.{IpAddr}
use Rattle.std.specs.declared.net.socket_addr.SocketAddr.{SocketAddr}
use Rattle.turn_client_proto_timers.specs.StunTypesWire.Attributes.{kind_at}
use Rattle.turn_client_proto_timers.specs.StunTypesWire.Grammar.{number_at, refusal}
use Rattle.turn_client_proto_timers.specs.StunTypesWire.declared.class.MessageClass.TheVariants.{Success}
use Rattle.turn_client_proto_timers.specs.StunTypesWire.Types.{class_of}
use Rattle.turn_client_proto_timers.specs.StunTypesBase.declared.transport.TransportType.{TransportType}
use Rattle.turn_client_proto_timers.specs.StunProtoTransaction.Agents.{Transaction}
use Rattle.turn_client_proto_recv.specs.StunProtoClient.Client as signers
use Rattle.turn_client_proto_timers.specs.StunProtoAgent.Handling.{ends_one}
use Rattle.turn_client_proto_timers.specs.TurnRuns.Members.{IsIn, NoneTwice}
use Rattle.turn_client_proto_timers.specs.TurnRuns.Messages as run
use Rattle.turn_client_proto_timers.specs.TurnRuns.Steps.{Reported, WasKnown, reported_for}
use Rattle.turn_client_proto_timers.specs.TurnRuns.StunWire.{decoded_by}
use Rattle.turn_client_proto_timers.specs.Allocation.Awaited.{asks_for_channel, asks_for_permission, is_connecting, renews_channel, renews_permission}
use Rattle.turn_client_proto_timers.specs.Allocation.Changes.{change_first}
use Rattle.turn_client_proto_timers.specs.Allocation.Refreshing.{lifetime_requested}
use Rattle.turn_client_proto_timers.specs.Api.declared.event.TurnEvent.{TurnEvent}
use Rattle.turn_client_proto_timers.specs.Api.declared.event.TurnEvent.TheVariants.{ChannelCreated, PermissionCreated}
use Rattle.turn_client_proto_timers.specs.Allocation.PendingRequests.{pending_request, requested_of, awaits_reply}
use Rattle.turn_client_proto_timers.specs.Allocation.Permissions.{addresses_of}
use Rattle.turn_client_proto_timers.specs.Peers.Channel.Granted as channels
use Rattle.turn_client_proto_timers.specs.Peers.Channel.Granted.{all_bound}
use Rattle.turn_client_proto_timers.specs.Peers.Permission.Permitted.{permission_requested}
use Rattle.turn_client_proto_timers.specs.Peers.Channel.Numbers.{AreDistinct}
use Rattle.turn_client_proto_timers.specs.Allocation.declared.pending.PendingRequest.{PendingRequest}
use Rattle.turn_client_proto_timers.specs.Allocation.declared.pending.PendingRequest.TheVariants.{ChannelRenewal, Lifetime, NewChannel, NewConnection, NewPermission, Renewal}
use Rattle.turn_client_proto_timers.specs.Peers.Permission.Granted.{permitted}
use Rattle.turn_client_proto_timers.specs.Core.Binding.{bound, permission_with, permitted_with, reported_with}
use Rattle.turn_client_proto_timers.specs.Core.Responding.{accepted, judged}
use Rattle.turn_client_proto_timers.proofs.Peers.Distinct.{bound_stay_distinct}
use Rattle.turn_client_proto_step_laws.specs.Adding.{IsSignedFor}
use Rattle.turn_client_proto_step_laws.specs.ClientWords.{client_words}
use Rattle.turn_client_proto_step_laws.specs.Held.{Allocation, Channel, Connecting, PendingChannel, PendingPermission, Permission}
use Rattle.turn_client_proto_step_laws.specs.RunClient.{Client, parts_of}
use Rattle.turn_client_proto_step_laws.specs.RunSteps.{IsRunStep}
use Rattle.turn_client_proto_step_laws.specs.Sound.{IsOrderly, IsWhole}
use Rattle.turn_client_proto_step_laws.proofs.Asking.{IsUnderWay}
use Rattle.turn_client_proto_step_laws.proofs.Awaited.{found_by}
use Rattle.turn_client_proto_step_laws.proofs.AwaitedChannels.{IsChannelOf, channel_of}
use Rattle.turn_client_proto_step_laws.proofs.Binding.{bound_permitting}
use Rattle.turn_client_proto_step_laws.proofs.Chaining.{chained}
use Rattle.turn_client_proto_step_laws.proofs.Granting.{AreGranted, gained_step, is_gained}
use Rattle.turn_client_proto_step_laws.proofs.Lessening.{same_first_distinct}
use Rattle.turn_client_proto_step_laws.proofs.Lists.{found_in, found_passes, inside}
use Rattle.turn_client_proto_step_laws.proofs.Named.{first_named}
use Rattle.turn_client_proto_step_laws.proofs.Permissions.{first_permitting, permitted_permitting}
use Rattle.turn_client_proto_step_laws.proofs.Permitting.{ArePermitting, all_themselves, none_asks}
use Rattle.turn_client_proto_step_laws.proofs.Plain.{joined, notices}
use Rattle.turn_client_proto_step_laws.proofs.Taken.{among}

-- ---- the request still requests the channel, where its permission was granted

-- The first element that passes is found after it was changed, if it still passes.
found_changed : {X : Type 0} (passes : X → Bool) (change : X → X) (all : List X) (x : X) → find passes all ≡ Some x → passes (change x) ≡ true → find passes (change_first passes change all) ≡ Some (change x)
found_changed passes change [] x h still = absurd (Prim.cc h)
found_changed {X = X} passes change (y ∷ all) x h still = elim (cases_Bool (passes y)) [
  | inl is ↦
      let here : find passes (y ∷ all) ≡ Some y = rw is refl in
      let same : y ≡ x = inside (sym here ∙ h) in
      let changed : change_first passes change (y ∷ all) ≡ change y ∷ all = rw is refl in
      let passing : passes (change y) ≡ true = ap (λ z. passes (change z)) same ∙ still in
      let found : find passes (change y ∷ all) ≡ Some (change y) = rw passing refl in
      ap (find passes) changed ∙ found ∙ ap (λ z. Some (change z)) same
  | inr not ↦
      let later : find passes (y ∷ all) ≡ find passes all = rw not refl in
      let following : change_first passes change (y ∷ all) ≡ y ∷ change_first passes change all = rw not refl in
      let passed : find passes (y ∷ change_first passes change all) ≡ find passes (change_first passes change all) = rw not refl in
      ap (find passes) following ∙ passed ∙ found_changed passes change all x (sym later ∙ h) still
]

module _ (transport : TransportType) (channel : ℕ) (peer : SocketAddr) (ip : IpAddr) (number now : ℕ) where
  -- What a request asks for besides a lifetime and a channel does not matter.
  same_of : (a : Allocation) → requested_of number a ≡ Some (NewChannel transport channel peer) → requested_of number (permitted ip number now a) ≡ Some (NewChannel transport channel peer)
  unfolding requested_of
  same_of a is =
      by (lifetime_requested number a.pending_refreshes) (find (asks_for_channel number) a.pending_channels) (find (renews_channel number) a.channels) (find (asks_for_permission number) a.pending_permissions)
      (find (renews_permission number) a.permissions) (find (is_connecting number) a.connecting) _ is
    where
      by : (l : Option ℕ) (b : Option PendingChannel) (s : Option Channel) (n : Option PendingPermission) (r : Option Permission) (k : Option Connecting) (others : Option PendingRequest)
          → option_or (option_map Lifetime l) (option_or (option_map (λ (c : PendingChannel). NewChannel a.transport c.channel c.peer) b)
          (option_or (option_map (λ (c : Channel). ChannelRenewal a.transport c.number c.peer) s)
          (option_or (option_map (λ (p : PendingPermission). NewPermission a.transport p.ip) n) (option_or (option_map (λ (p : Permission). Renewal a.transport p.ip) r) (option_map (λ (c : Connecting). NewConnection c.peer) k))))) ≡ Some (NewChannel transport channel peer)
          → option_or (option_map Lifetime l) (option_or (option_map (λ (c : PendingChannel). NewChannel a.transport c.channel c.peer) b) others) ≡ Some (NewChannel transport channel peer)
      by (Some l) b s n r k others h = absurd (Prim.cc h)
      by None (Some c) s n r k others h = h
      by None None (Some c) n r k others h = absurd (Prim.cc h)
      by None None None (Some p) r k others h = absurd (Prim.cc h)
      by None None None None (Some p) k others h = absurd (Prim.cc h)
      by None None None None None (Some c) others h = absurd (Prim.cc h)
      by None None None None None None others h = absurd (Prim.cc h)

  pub still_requested : (all : List Allocation) → pending_request number all ≡ Some (NewChannel transport channel peer)
      → pending_request number (change_first (awaits_reply number) (permitted ip number now) all) ≡ Some (NewChannel transport channel peer)
  still_requested all is = by (find (awaits_reply number) all) refl
    where
      by : (found : Option Allocation) → find (awaits_reply number) all ≡ found → pending_request number (change_first (awaits_reply number) (permitted ip number now) all) ≡ Some (NewChannel transport channel peer)
      by None none = absurd (Prim.cc (sym (ap (option_and_then (requested_of number)) none) ∙ is))
      by (Some a) at =
          let of_it = same_of a (sym (ap (option_and_then (requested_of number)) at) ∙ is) in
          ap (option_and_then (requested_of number)) (found_changed (awaits_reply number) (permitted ip number now) all a at (ap (λ (o : Option PendingRequest). is_some o) of_it)) ∙ of_it

-- ---- the permission beside the channel

-- A permission for this address is requested in an allocation that was found.
record IsBeside (number : ℕ) (a : Allocation) (ip : IpAddr) : Type 0 where
  permission : PendingPermission
  found : find (asks_for_permission number) a.pending_permissions ≡ Some permission
  is_ip : permission.ip ≡ ip

beside : (number : ℕ) (all : List Allocation) (a : Allocation) (ip : IpAddr) → find (awaits_reply number) all ≡ Some a → permission_with number all ≡ Some ip → IsBeside number a ip
beside number all a ip found is = by (find (asks_for_permission number) a.pending_permissions) refl (sym (ap (option_and_then (permission_requested number)) found) ∙ is)
  where
    by : (o : Option PendingPermission) → find (asks_for_permission number) a.pending_permissions ≡ o → option_map (λ (p : PendingPermission). p.ip) o ≡ Some ip → IsBeside number a ip
    by None at h = absurd (Prim.cc h)
    by (Some p) at h = record { permission = p; found = at; is_ip = inside h }

-- ---- the step

module _ (c : Client) (signer : signers.Client) (bytes : List ℕ) (now : ℕ) (message : refusal bytes ≡ None) (success : class_of (kind_at bytes) ≡ Success) (ends : ends_one c.core.agent bytes ≡ true)
    (own : IsSignedFor c bytes) (transport : TransportType) (channel : ℕ) (peer : SocketAddr) (requested : pending_request (number_at bytes) c.core.allocations ≡ Some (NewChannel transport channel peer))
    (t : Transaction) (there : finite.get c.core.agent.outstanding (number_at bytes) ≡ Some t) (orderly : IsOrderly (parts_of c.core)) (under_way : IsUnderWay c (bytes ∷ []) (accepted bytes (judged signer c.core))) where
  abbrev number : ℕ
  number = number_at bytes

  abbrev all : List Allocation
  all = c.core.allocations

  is : IsChannelOf (parts_of c.core) number transport channel peer
  is = channel_of (parts_of c.core) number transport channel peer orderly (found_by number all (NewChannel transport channel peer) requested)

  -- The notice of the channel.
  abbrev of_channel : Reported
  of_channel = record { notice = run.ChannelCreated transport peer; held = run.Channel channel peer; number = number }

  abbrev of_permission : IpAddr → Reported
  of_permission ip = record { notice = run.PermissionCreated transport ip; held = run.Permission transport ip; number = number }

  -- The permission comes first, if one was requested.
  abbrev gained : Option IpAddr → List Reported
  gained None = of_channel ∷ []
  gained (Some ip) = of_permission ip ∷ of_channel ∷ []

  each : (o : Option IpAddr) (P : Reported → Type 0) → P of_channel → ((ip : IpAddr) → o ≡ Some ip → P (of_permission ip)) → (x : Reported) → IsIn x (gained o) → P x
  each None P one other x (inl same) = subst P same one
  each None P one other x (inr none) = absurd none
  each (Some ip) P one other x (inl same) = subst P same (other ip refl)
  each (Some ip) P one other x (inr (inl same)) = subst P same one
  each (Some ip) P one other x (inr (inr none)) = absurd none

  has_channel : (o : Option IpAddr) → is_gained (gained o) (run.Channel channel peer)
  has_channel None = (of_channel, inl refl, refl)
  has_channel (Some ip) = (of_channel, inr (inl refl), refl)

  channel_requested : run.Asks (decoded_by t.bytes) (run.Holds (run.Channel channel peer))
  channel_requested = is.asks t there

  permission_reissued_under : (ip : IpAddr) → permission_with number all ≡ Some ip → run.Asks (decoded_by t.bytes) (run.Holds (run.Permission transport ip))
  permission_reissued_under ip at =
      let one = beside number all is.allocation ip is.found at in
      let listed = found_in (asks_for_permission number) is.allocation.pending_permissions one.permission one.found in
      let named : IsIn ip (addresses_of one.permission) = subst (λ (x : IpAddr). IsIn x (addresses_of one.permission)) one.is_ip (first_named one.permission) in
      let has = among number one.permission.numbers (found_passes (asks_for_permission number) is.allocation.pending_permissions one.permission one.found) in
      subst (λ (x : TransportType). run.Asks (decoded_by t.bytes) (run.Holds (run.Permission x ip))) is.is_transport
      (orderly.permissions is.allocation is.listed one.permission listed number has ip named t there)

  once : (o : Option IpAddr) → NoneTwice reported_for (gained o)
  once None = ((λ x h. absurd h), tt)
  once (Some ip) = (apart, ((λ x h. absurd h), tt))
    where
      apart : (x : Reported) → IsIn x (of_channel ∷ []) → reported_for x ≡ reported_for (of_permission ip) → ⊥
      apart x (inl same) alike =
          let notice : run.ChannelCreated transport peer ≡ run.PermissionCreated transport ip = ap (λ (y : Reported). y.notice) same ∙ ap (λ (p : run.Notice × ℕ). p.0) alike in
          absurd (Prim.cc notice)
      apart x (inr none) alike = absurd none

  are_granted : (o : Option IpAddr) → permission_with number all ≡ o → AreGranted c bytes t.bytes (gained o)
  are_granted o at = record {
    numbers = each o (λ (x : Reported). x.number ≡ number) refl (λ ip same. refl);
    asks = each o (λ (x : Reported). run.Asks (decoded_by t.bytes) (run.Holds x.held)) channel_requested (λ ip same. permission_reissued_under ip (at ∙ same));
    brings = each o (λ (x : Reported). run.Brings (decoded_by bytes) (run.Holds x.held)) success (λ ip same. success);
    known = each o (λ (x : Reported). WasKnown client_words c x.held) tt (λ ip same. tt);
    is_of = each o (λ (x : Reported). run.IsOf x.notice x.held) (channel, refl) (λ ip same. refl);
    once = once o;
  }

  -- The allocations once the permission was granted.
  abbrev between : Option IpAddr → List Allocation
  between o = permitted_with o number now all

  transport_of : (a : Allocation) → find (awaits_reply number) all ≡ Some a → transport ≡ a.transport
  transport_of a found = sym is.is_transport ∙ ap (λ (x : Allocation). x.transport) (inside (sym is.found ∙ found))

  permits_first : (o : Option IpAddr) → ArePermitting (is_gained (gained o)) none_asks all (between o)
  permits_first None = all_themselves (is_gained (gained None)) none_asks all
  permits_first (Some ip) = first_permitting (is_gained (gained (Some ip))) none_asks (awaits_reply number) (permitted ip number now) all
      (λ a found. permitted_permitting (is_gained (gained (Some ip))) none_asks (ip ∷ []) number now a (only a found))
    where
      only : (a : Allocation) → find (awaits_reply number) all ≡ Some a → (x : IpAddr) → IsIn x (ip ∷ []) → is_gained (gained (Some ip)) (run.Permission a.transport x)
      only a found x (inl same) = (of_permission ip, inl refl, ap (λ (y : TransportType). run.Permission y ip) (transport_of a found) ∙ ap (λ (y : IpAddr). run.Permission a.transport y) same)
      only a found x (inr none) = absurd none

  are : (o : Option IpAddr) → ArePermitting (is_gained (gained o)) none_asks all (all_bound channel peer number now (between o))
  are o = chained (is_gained (gained o)) none_asks all (between o) (all_bound channel peer number now (between o)) (permits_first o)
      (first_permitting (is_gained (gained o)) none_asks (awaits_reply number) (channels.bound channel peer number now) (between o)
      (λ a found. bound_permitting (is_gained (gained o)) none_asks channel peer number now a (has_channel o)))

  still_distinct : (o : Option IpAddr) → AreDistinct (between o)
  still_distinct None = orderly.distinct
  still_distinct (Some ip) = same_first_distinct (awaits_reply number) (permitted ip number now) (λ a. (refl, refl)) all orderly.distinct

  requested_between : (o : Option IpAddr) → pending_request number (between o) ≡ Some (NewChannel transport channel peer)
  requested_between None = requested
  requested_between (Some ip) = still_requested transport channel peer ip number now all requested

  distinct : (o : Option IpAddr) → AreDistinct (all_bound channel peer number now (between o))
  distinct o = bound_stay_distinct (between o) transport channel peer number now (requested_between o) (still_distinct o)

  abbrev events_with : Option IpAddr → List TurnEvent
  events_with o = c.core.events ++ reported_with (PermissionCreated transport) o ++ ChannelCreated transport peer ∷ []

  decodes : (o : Option IpAddr) → notices (events_with o) ≡ notices c.core.events ++ map (λ (x : Reported). x.notice) (gained o)
  decodes None = ap notices (append_assoc c.core.events [] (ChannelCreated transport peer ∷ [])) ∙ joined c.core.events (ChannelCreated transport peer ∷ [])
  decodes (Some ip) =
      ap notices (append_assoc c.core.events (PermissionCreated transport ip ∷ []) (ChannelCreated transport peer ∷ []))
      ∙ joined c.core.events (PermissionCreated transport ip ∷ ChannelCreated transport peer ∷ [])

  whole : (o : Option IpAddr) (n : ℕ) (to : SocketAddr) → is_gained (gained o) (run.Channel n to) → IsWhole to
  whole o n to g = each o (λ (x : Reported). x.held ≡ run.Channel n to → IsWhole to) (λ same. let alike : peer ≡ to = Prim.cc same in subst IsWhole alike is.whole) (λ ip at same. absurd (Prim.cc same)) g.0 g.1 g.2

  bound_with : (o : Option IpAddr) → permission_with number all ≡ o → IsRunStep c (bytes ∷ []) None [] (bound transport channel peer o number now (accepted bytes (judged signer c.core)))
  unfolding bound accepted
  bound_with o at =
      gained_step c signer bytes message ends own t there orderly under_way (gained o) (all_bound channel peer number now (between o)) (events_with o)
      (are_granted o at) (are o) (decodes o) (whole o) (distinct o)

  pub bound_step : IsRunStep c (bytes ∷ []) None [] (bound transport channel peer (permission_with number all) number now (accepted bytes (judged signer c.core)))
  bound_step = bound_with (permission_with number all) refl
