-- An allocation after each call that changes its channels: what is new was gained, and its requests are
-- known.
use Rattle.std.proofs.Common.{◌≡◌, ℕ, true, false, not, List, [], ◌∷◌, ◌++◌, Option, Some, if◌then◌else◌, map, refl, sym, subst}
use Rattle.std.specs.List.{filter, find, list_any}
use Rattle.std.specs.Option.{option_map}
use Rattle.std.specs.Prelude.{option_to_list}
use Rattle.std.specs.declared.net.ip_addr.IpAddr.{IpAddr}
use Rattle.std.specs.declared.net.socket_addr.SocketAddr.{SocketAddr}
use Rattle.turn_client_proto_timers.specs.StunTypesBase.declared.transport.TransportType.{TransportType}
use Rattle.turn_client_proto_timers.specs.TurnRuns.Members.{IsIn}
use Rattle.turn_client_proto_timers.specs.TurnRuns.Messages as run
use Rattle.turn_client_proto_timers.specs.TurnRuns.Names.{socket_ip}
use Rattle.turn_client_proto_timers.specs.Allocation.Awaited.{asks_for_channel, asks_for_permission, renews_channel, renews_permission}
use Rattle.turn_client_proto_timers.specs.Allocation.Permissions as permissions
use Rattle.turn_client_proto_timers.specs.Allocation.Permissions.{addresses_of}
use Rattle.turn_client_proto_timers.specs.Allocation.PendingRequests.{reissued_under, permission_too}
use Rattle.turn_client_proto_timers.specs.Peers.Channel.Binding.{asking}
use Rattle.turn_client_proto_timers.specs.Allocation.Channels.{requested_again, has_expired, is_over, expired_of, not_pending_request, not_forgotten, not_over, not_renewed_by, polled_channel, renewed_again, renewed_channel, renewed_first, wants_renewal}
use Rattle.turn_client_proto_timers.specs.Peers.Channel.Granted.{bound, channel_end, granted_to, expire_due, renewed, rejected}
use Rattle.turn_client_proto_timers.specs.Peers.Channel.Expiring.{expired, expiring, last_index, polled, without}
use Rattle.turn_client_proto_timers.specs.Peers.Channel.Wanting.{renewing}
use Rattle.turn_client_proto_timers.specs.Allocation.declared.pending.PendingRequest.TheVariants.{ChannelRenewal, NewChannel}
use Rattle.turn_client_proto_timers.specs.Core.Binding.{asking_channel, permission_beside}
use Rattle.turn_client_proto_timers.specs.Peers.Permission.Asking.{knows}
use Rattle.turn_client_proto_timers.specs.Messages.declared.request.TurnRequest.TheVariants.{ChannelBind}
use Rattle.turn_client_proto_step_laws.specs.Held.{Allocation, Channel, ExpiredChannel, PendingChannel, PendingPermission}
use Rattle.turn_client_proto_step_laws.proofs.Chaining.{both_permitting, expired_permitting}
use Rattle.turn_client_proto_step_laws.proofs.Channels.{all_polled, all_renewed, fewer, fewer_wanted, once_more as channel_once_more, one_awaiting as channel_awaiting, one_more as one_channel_more}
use Rattle.turn_client_proto_step_laws.proofs.Named.{alone}
use Rattle.turn_client_proto_step_laws.proofs.Permissions.{once_more, one_awaiting, one_more, pending_for}
use Rattle.turn_client_proto_step_laws.proofs.Permits.{asks_by, binds_channel, permits_peer}
use Rattle.turn_client_proto_step_laws.proofs.Permitting.{Asking, Gaining, IsNow, IsPermitting, bound_itself, itself, kin_itself, known_itself, none_asks, none_gained, wanted_itself, with_channel, with_channels, with_lists}

-- ---- as time passes

pub polled_permitting : (over : Option ℕ) (now : ℕ) (a : Allocation) → IsPermitting none_gained none_asks a (polled over now a)
unfolding polled expired
polled_permitting over now a =
    let index : Option ℕ = last_index (has_expired now) a.channels in
    let channels : List Channel = map (polled_channel over) (without a.channels index) in
    let wanted : List PendingChannel = not_over over a.pending_channels in
    let gone : List ExpiredChannel = not_forgotten now (a.expired_channels ++ option_to_list (option_map expired_of (expiring now a.channels))) in
    expired_permitting none_gained none_asks a (record a { channels = channels; pending_channels = wanted }) gone
    (with_channels none_gained none_asks a channels wanted (all_polled none_asks a.channels over index) (fewer_wanted none_asks a.pending_channels (λ c. not (is_over over c))))

-- ---- a response

pub rejected_permitting : (number : ℕ) (a : Allocation) → IsPermitting none_gained none_asks a (rejected number a)
unfolding rejected
rejected_permitting number a =
    with_channels none_gained none_asks a a.channels (not_pending_request number a.pending_channels)
    (bound_itself none_asks a.channels) (fewer_wanted none_asks a.pending_channels (λ c. not (asks_for_channel number c)))

pub expire_due_permitting : (number : ℕ) (a : Allocation) → IsPermitting none_gained none_asks a (expire_due number a)
unfolding expire_due
expire_due_permitting number a =
    expired_permitting none_gained none_asks a (record a { channels = not_renewed_by number a.channels }) (a.expired_channels ++ map expired_of (filter (renews_channel number) a.channels))
    (with_channels none_gained none_asks a (not_renewed_by number a.channels) a.pending_channels
    (fewer none_asks a.channels (λ c. not (renews_channel number c))) (wanted_itself none_asks a.pending_channels))

pub renewed_permitting : (number now : ℕ) (a : Allocation) → IsPermitting none_gained none_asks a (renewed number now a)
unfolding renewed
renewed_permitting number now a =
    with_channels none_gained none_asks a (map (renewed_channel number (channel_end now)) a.channels) a.pending_channels
    (all_renewed none_asks a.channels number (channel_end now)) (wanted_itself none_asks a.pending_channels)

pub bound_permitting : (New : Gaining) (Now : Asking) (channel : ℕ) (peer : SocketAddr) (number now : ℕ) (a : Allocation) → New (run.Channel channel peer) → IsPermitting New Now a (bound channel peer number now a)
bound_permitting New Now channel peer number now a new =
    with_channel New Now a (granted_to channel peer now) (not_pending_request number a.pending_channels) refl new (fewer_wanted Now a.pending_channels (λ c. not (asks_for_channel number c)))

-- ---- a CHANNEL_BIND

module _ (channel : ℕ) (peer : SocketAddr) (number : ℕ) where
  -- The request asks for its channel, and for a permission for its peer's address.
  abbrev Now : Asking
  Now = asks_by (ChannelBind channel peer) number

  is_now : IsNow Now number
  is_now = (run.Channel channel peer, binds_channel channel peer number)

  -- A channel with that number and peer.
  of_it : (n : ℕ) (to : SocketAddr) → n ≡ channel → to ≡ peer → Now (run.Channel n to) number
  of_it n to same alike =
      subst (λ (k : ℕ). Now (run.Channel k to) number) (sym same)
      (subst (λ (x : SocketAddr). Now (run.Channel channel x) number) (sym alike) (binds_channel channel peer number))

  beside_permitting : (a : Allocation) → IsPermitting none_gained Now a (permission_beside (socket_ip peer) number a)
  unfolding permission_beside
  beside_permitting a =
      elim (knows (socket_ip peer) a) as (λ b. IsPermitting none_gained Now a (if b then a else record a { pending_permissions = a.pending_permissions ++ pending_for (socket_ip peer) [] number ∷ [] })) [
        | true ↦ itself none_gained Now a
        | false ↦
            with_lists none_gained Now a a.permissions (a.pending_permissions ++ pending_for (socket_ip peer) [] number ∷ []) (kin_itself Now a.permissions)
            (one_more Now a.transport (pending_for (socket_ip peer) [] number) number a.pending_permissions refl
            (λ ip named. permits_peer channel peer ip number a.transport (alone (socket_ip peer) ip named)))
      ]

  -- A call makes the request.
  pub asking_permitting : (a : Allocation) → IsPermitting none_gained Now a (asking_channel channel peer number a)
  asking_permitting a =
      let pending : PendingChannel = record { channel = channel; peer = peer; numbers = number ∷ [] } in
      let requested : IsPermitting none_gained Now a (asking pending a) =
      with_channels none_gained Now a a.channels (a.pending_channels ++ pending ∷ []) (bound_itself Now a.channels)
      (one_channel_more Now a.pending_channels channel peer number (binds_channel channel peer number)) in
      both_permitting none_gained Now a (asking pending a) (asking_channel channel peer number a) requested (beside_permitting (asking pending a))

  -- The request renews the first channel that is to be renewed.
  pub renewing_permitting : (now : ℕ) (a : Allocation) → ((c : Channel) → find (wants_renewal now) a.channels ≡ Some c → (c.number ≡ channel) × (c.peer ≡ peer)) → IsPermitting none_gained Now a (renewing now number a)
  renewing_permitting now a is =
      with_channels none_gained Now a (renewed_first now number a.channels) a.pending_channels
      (channel_awaiting Now a.channels (wants_renewal now) number (λ c found. let same = is c found in of_it c.number c.peer same.0 same.1)) (wanted_itself Now a.pending_channels)

  -- The request replaces another one.
  module _ (before : ℕ) (transport : TransportType) where
    -- The addresses that the other one names are the peer's.
    abbrev AreOfPeer : Allocation → Type 0
    AreOfPeer a = (p : PendingPermission) → find (asks_for_permission before) a.pending_permissions ≡ Some p → (ip : IpAddr) → IsIn ip (addresses_of p) → socket_ip peer ≡ ip

    too_permitting : (a : Allocation) → AreOfPeer a → IsPermitting none_gained Now a (permission_too before number a)
    unfolding permission_too
    too_permitting a same =
        elim (list_any (asks_for_permission before) a.pending_permissions) as (λ b. IsPermitting none_gained Now a
        (if b then record a { pending_permissions = permissions.requested_again before number a.pending_permissions } else record a { permissions = permissions.renewed_again before number a.permissions })) [
          | true ↦
              with_lists none_gained Now a a.permissions (permissions.requested_again before number a.pending_permissions) (kin_itself Now a.permissions)
              (once_more Now a.transport before number a.pending_permissions (λ p found ip named. permits_peer channel peer ip number a.transport (same p found ip named)))
          | false ↦
              with_lists none_gained Now a (permissions.renewed_again before number a.permissions) a.pending_permissions
              (one_awaiting Now number is_now a.permissions (renews_permission before)) (known_itself Now a.transport a.pending_permissions)
        ]

    pub reissued_under_permitting : (a : Allocation) → ((c : PendingChannel) → find (asks_for_channel before) a.pending_channels ≡ Some c → (c.channel ≡ channel) × (c.peer ≡ peer))
        → AreOfPeer a
        → IsPermitting none_gained Now a (reissued_under (NewChannel transport channel peer) before number a)
    reissued_under_permitting a is same =
        let mid : Allocation = record a { pending_channels = requested_again before number a.pending_channels } in
        let first : IsPermitting none_gained Now a mid =
        with_channels none_gained Now a a.channels (requested_again before number a.pending_channels) (bound_itself Now a.channels)
        (channel_once_more Now a.pending_channels before number (λ c found. let own = is c found in of_it c.channel c.peer own.0 own.1)) in
        both_permitting none_gained Now a mid (permission_too before number mid) first (too_permitting mid same)

    pub renewed_too_permitting : (a : Allocation) → ((c : Channel) → find (renews_channel before) a.channels ≡ Some c → (c.number ≡ channel) × (c.peer ≡ peer))
        → AreOfPeer a
        → IsPermitting none_gained Now a (reissued_under (ChannelRenewal transport channel peer) before number a)
    renewed_too_permitting a is same =
        let mid : Allocation = record a { channels = renewed_again before number a.channels } in
        let first : IsPermitting none_gained Now a mid =
        with_channels none_gained Now a (renewed_again before number a.channels) a.pending_channels
        (channel_awaiting Now a.channels (renews_channel before) number (λ c found. let own = is c found in of_it c.number c.peer own.0 own.1)) (wanted_itself Now a.pending_channels) in
        both_permitting none_gained Now a mid (permission_too before number mid) first (too_permitting mid same)
