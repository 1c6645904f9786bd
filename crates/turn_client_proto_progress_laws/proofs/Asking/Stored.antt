-- What an allocation awaits, if something else in it changes.
use Rattle.std.proofs.Common.{◌≡◌, ℕ, Bool, true, false, ◌||◌, not, List, [], ◌∷◌, ◌++◌, Option, Some, None, refl, sym, ap, ◌∙◌, inl, inr}
use Rattle.std.specs.Prelude.{◌==◌}
use Rattle.std.proofs.lemmas.Bool.{cases_Bool}
use Rattle.std.specs.declared.net.ip_addr.IpAddr.{IpAddr}
use Rattle.std.specs.declared.net.socket_addr.SocketAddr.{SocketAddr}
use Rattle.turn_client_proto_messages.specs.Allocation.Awaited.{asks_for_channel, asks_for_permission, has_number, is_among, is_refresh, renews_channel}
use Rattle.turn_client_proto_messages.specs.Allocation.Permissions as permissions
use Rattle.turn_client_proto_messages.specs.Allocation.Polling as allocation
use Rattle.turn_client_proto_messages.specs.Allocation.Refreshing.{refreshing}
use Rattle.turn_client_proto_messages.specs.Allocation.declared.allocation.Allocation.{Allocation}
use Rattle.turn_client_proto_messages.specs.Allocation.declared.channel.Channel.{Channel}
use Rattle.turn_client_proto_step_laws.specs.Peers.Channel.Binding as channel_asking
use Rattle.turn_client_proto_messages.specs.Allocation.Channels as channel_lists
use Rattle.turn_client_proto_step_laws.specs.Peers.Channel.Expiring as channels
use Rattle.turn_client_proto_step_laws.specs.Peers.Channel.Expiring.{last_index, without}
use Rattle.turn_client_proto_step_laws.specs.Peers.Channel.Numbers.{is_numbered}
use Rattle.turn_client_proto_step_laws.specs.Peers.Channel.Wanting as channel_wanting
use Rattle.turn_client_proto_step_laws.specs.Connection.Expiring as joined
use Rattle.turn_client_proto_step_laws.specs.Connection.Reported.{given_up}
use Rattle.turn_client_proto_step_laws.specs.Connection.Waiting.{requested_in}
use Rattle.turn_client_proto_handshake_laws.specs.Core.Binding.{permission_beside}
use Rattle.turn_client_proto_step_laws.specs.Peers.Permission.Asking as permission_asking
use Rattle.turn_client_proto_step_laws.specs.Peers.Permission.Asking.{knows}
use Rattle.turn_client_proto_step_laws.specs.Peers.Permission.Reporting as permission_reporting
use Rattle.turn_client_proto_step_laws.specs.Peers.Permission.Wanting as permission_wanting
use Rattle.turn_client_proto_step_laws.specs.Timers.Reporting as reporting
use Rattle.turn_client_proto_progress_laws.specs.Asking.{APermission, AChannel, Awaits, NonePasses, Wanted}
use Rattle.turn_client_proto_progress_laws.proofs.Asking.Lists.{found_before, found_stored, none_changed, none_left, none_mapped, none_more, none_other, none_removed}

-- The allocation still awaits what it awaited, and is the one that it was.
pub record Keeps (numbers : List ℕ) (number : ℕ) (wanted : Wanted) (a after : Allocation) : Type 0 where
  pub transport : after.transport ≡ a.transport
  pub address : after.address ≡ a.address
  pub expiry : after.expiry ≡ a.expiry
  pub visible : after.is_expired ≡ a.is_expired
  pub awaits : Awaits numbers number wanted a → Awaits numbers number wanted after

pub itself : (numbers : List ℕ) (number : ℕ) (wanted : Wanted) (a : Allocation) → Keeps numbers number wanted a a
itself numbers number wanted a = record { transport = refl; address = refl; expiry = refl; visible = refl; awaits = λ is. is }

pub both : (numbers : List ℕ) (number : ℕ) (wanted : Wanted) (a between after : Allocation) → Keeps numbers number wanted a between → Keeps numbers number wanted between after → Keeps numbers number wanted a after
both numbers number wanted a between after one other = record {
  transport = other.transport ∙ one.transport;
  address = other.address ∙ one.address;
  expiry = other.expiry ∙ one.expiry;
  visible = other.visible ∙ one.visible;
  awaits = λ is. other.awaits (one.awaits is);
}

-- ---- another request is made

-- Another transaction ID does not match.
alone_not : (number other : ℕ) → (other == number) ≡ false → has_number number (other ∷ []) ≡ false
alone_not number other apart = ap (λ (x : Bool). x || false) apart

-- One more transaction ID does not match.
more_not : (number other : ℕ) → (other == number) ≡ false → (numbers : List ℕ) → has_number number numbers ≡ false → has_number number (numbers ++ other ∷ []) ≡ false
more_not number other apart [] none = alone_not number other apart
more_not number other apart (n ∷ numbers) none = elim (cases_Bool (n == number)) [
  | inl is ↦
      let here : has_number number (n ∷ numbers) ≡ true = rw is refl in
      absurd (Prim.cc (sym here ∙ none))
  | inr differs ↦
      let here : has_number number (n ∷ numbers) ≡ has_number number numbers = rw differs refl in
      let there : has_number number (n ∷ (numbers ++ other ∷ [])) ≡ has_number number (numbers ++ other ∷ []) = rw differs refl in
      there ∙ more_not number other apart numbers (sym here ∙ none)
]

module _ (numbers : List ℕ) (number other : ℕ) (apart : (other == number) ≡ false) where
  -- A permission for another address is requested.
  requested_beside : (wanted : Wanted) (ip : IpAddr) (a : Allocation) → Awaits numbers number wanted a → Awaits numbers number wanted (permission_asking.asking (record { ip = ip; others = []; numbers = other ∷ [] }) a)
  requested_beside (APermission own) ip a is = record {
    no_refresh = is.no_refresh;
    no_channel = is.no_channel;
    no_renewal = is.no_renewal;
    requested = found_before (asks_for_permission number) a.pending_permissions (record { ip = ip; others = []; numbers = other ∷ [] } ∷ []) _ is.requested;
  }
  requested_beside (AChannel channel peer) ip a is = record { no_refresh = is.no_refresh; requested = is.requested; free = is.free }

  pub permission_requested : (wanted : Wanted) (ip : IpAddr) (a : Allocation) → Keeps numbers number wanted a (permission_asking.asking (record { ip = ip; others = []; numbers = other ∷ [] }) a)
  permission_requested wanted ip a = record { transport = refl; address = refl; expiry = refl; visible = refl; awaits = requested_beside wanted ip a }

  -- A channel is requested.
  channel_beside : (wanted : Wanted) (channel : ℕ) (peer : SocketAddr) (a : Allocation) → Awaits numbers number wanted a
      → Awaits numbers number wanted (channel_asking.asking (record { channel = channel; peer = peer; numbers = other ∷ [] }) a)
  channel_beside (APermission own) channel peer a is = record {
    no_refresh = is.no_refresh;
    no_channel = none_more (asks_for_channel number) a.pending_channels (record { channel = channel; peer = peer; numbers = other ∷ [] } ∷ []) is.no_channel
        (none_other (asks_for_channel number) (record { channel = channel; peer = peer; numbers = other ∷ [] }) (alone_not number other apart));
    no_renewal = is.no_renewal;
    requested = is.requested;
  }
  channel_beside (AChannel own to) channel peer a is = record {
    no_refresh = is.no_refresh;
    requested = found_before (asks_for_channel number) a.pending_channels (record { channel = channel; peer = peer; numbers = other ∷ [] } ∷ []) _ is.requested;
    free = is.free;
  }

  channel_only : (wanted : Wanted) (channel : ℕ) (peer : SocketAddr) (a : Allocation)
      → Keeps numbers number wanted a (channel_asking.asking (record { channel = channel; peer = peer; numbers = other ∷ [] }) a)
  channel_only wanted channel peer a = record { transport = refl; address = refl; expiry = refl; visible = refl; awaits = channel_beside wanted channel peer a }

  beside : (wanted : Wanted) (ip : IpAddr) (a : Allocation) → Keeps numbers number wanted a (permission_beside ip other a)
  unfolding permission_beside
  beside wanted ip a = elim (cases_Bool (knows ip a)) [
    | inl is ↦ rw is (itself numbers number wanted a)
    | inr new ↦ rw new (permission_requested wanted ip a)
  ]

  pub channel_requested : (wanted : Wanted) (channel : ℕ) (ip : IpAddr) (peer : SocketAddr) (a : Allocation)
      → Keeps numbers number wanted a (permission_beside ip other (channel_asking.asking (record { channel = channel; peer = peer; numbers = other ∷ [] }) a))
  channel_requested wanted channel ip peer a =
      both numbers number wanted a _ _ (channel_only wanted channel peer a) (beside wanted ip (channel_asking.asking (record { channel = channel; peer = peer; numbers = other ∷ [] }) a))

  -- A REFRESH is transmitted.
  refresh_more : (lifetime : ℕ) (a : Allocation) → NonePasses (is_refresh number) a.pending_refreshes → NonePasses (is_refresh number) (a.pending_refreshes ++ record { number = other; lifetime = lifetime } ∷ [])
  refresh_more lifetime a none =
      none_more (is_refresh number) a.pending_refreshes (record { number = other; lifetime = lifetime } ∷ []) none (none_other (is_refresh number) (record { number = other; lifetime = lifetime }) apart)

  refresh_beside : (wanted : Wanted) (lifetime : ℕ) (a : Allocation) → Awaits numbers number wanted a → Awaits numbers number wanted (refreshing (record { number = other; lifetime = lifetime }) a)
  refresh_beside (APermission ip) lifetime a is = record { no_refresh = refresh_more lifetime a is.no_refresh; no_channel = is.no_channel; no_renewal = is.no_renewal; requested = is.requested }
  refresh_beside (AChannel channel peer) lifetime a is = record { no_refresh = refresh_more lifetime a is.no_refresh; requested = is.requested; free = is.free }

  pub refresh_sent : (wanted : Wanted) (lifetime : ℕ) (a : Allocation) → Keeps numbers number wanted a (refreshing (record { number = other; lifetime = lifetime }) a)
  refresh_sent wanted lifetime a = record { transport = refl; address = refl; expiry = refl; visible = refl; awaits = refresh_beside wanted lifetime a }

  -- A permission is to be renewed.
  permission_renews : (wanted : Wanted) (now : ℕ) (a : Allocation) → Awaits numbers number wanted a → Awaits numbers number wanted (permission_wanting.renewing now other a)
  permission_renews (APermission ip) now a is = record { no_refresh = is.no_refresh; no_channel = is.no_channel; no_renewal = is.no_renewal; requested = is.requested }
  permission_renews (AChannel channel peer) now a is = record { no_refresh = is.no_refresh; requested = is.requested; free = is.free }

  pub permission_renewed : (wanted : Wanted) (now : ℕ) (a : Allocation) → Keeps numbers number wanted a (permission_wanting.renewing now other a)
  permission_renewed wanted now a = record { transport = refl; address = refl; expiry = refl; visible = refl; awaits = permission_renews wanted now a }

  -- A channel is to be renewed.
  renews_not : (c : Channel) → renews_channel number c ≡ false → renews_channel number (channel_lists.awaiting other c) ≡ false
  renews_not c none = more_not number other apart c.renewals none

  channel_renews : (wanted : Wanted) (now : ℕ) (a : Allocation) → Awaits numbers number wanted a → Awaits numbers number wanted (channel_wanting.renewing now other a)
  channel_renews (APermission ip) now a is = record {
    no_refresh = is.no_refresh;
    no_channel = is.no_channel;
    no_renewal = none_changed (renews_channel number) (channel_lists.wants_renewal now) (channel_lists.awaiting other) renews_not a.channels is.no_renewal;
    requested = is.requested;
  }
  channel_renews (AChannel channel peer) now a is = record {
    no_refresh = is.no_refresh;
    requested = is.requested;
    free = none_changed (is_numbered channel) (channel_lists.wants_renewal now) (channel_lists.awaiting other) (λ c none. none) a.channels is.free;
  }

  pub channel_renewed : (wanted : Wanted) (now : ℕ) (a : Allocation) → Keeps numbers number wanted a (channel_wanting.renewing now other a)
  channel_renewed wanted now a = record { transport = refl; address = refl; expiry = refl; visible = refl; awaits = channel_renews wanted now a }

-- ---- a socket is requested

socket_beside : (numbers : List ℕ) (number : ℕ) (wanted : Wanted) (a : Allocation) → Awaits numbers number wanted a → Awaits numbers number wanted (requested_in a)
socket_beside numbers number (APermission ip) a is = record { no_refresh = is.no_refresh; no_channel = is.no_channel; no_renewal = is.no_renewal; requested = is.requested }
socket_beside numbers number (AChannel channel peer) a is = record { no_refresh = is.no_refresh; requested = is.requested; free = is.free }

pub socket_requested : (numbers : List ℕ) (number : ℕ) (wanted : Wanted) (a : Allocation) → Keeps numbers number wanted a (requested_in a)
socket_requested numbers number wanted a = record { transport = refl; address = refl; expiry = refl; visible = refl; awaits = socket_beside numbers number wanted a }

-- ---- time goes on, and the request has not ended

module _ (numbers : List ℕ) (number : ℕ) (over : Option ℕ) (now : ℕ) (continues : is_among over numbers ≡ false) where
  -- The poll changes the allocation's REFRESH requests.
  refreshes_left : (wanted : Wanted) (a : Allocation) → Awaits numbers number wanted a → Awaits numbers number wanted (record a { pending_refreshes = [] })
  refreshes_left (APermission ip) a is = record { no_refresh = λ x none. absurd none; no_channel = is.no_channel; no_renewal = is.no_renewal; requested = is.requested }
  refreshes_left (AChannel channel peer) a is = record { no_refresh = λ x none. absurd none; requested = is.requested; free = is.free }

  refreshes_polled : (wanted : Wanted) (a : Allocation) → Keeps numbers number wanted a (allocation.polled over a)
  unfolding allocation.polled
  refreshes_polled wanted a = elim (cases_Bool (allocation.has_ended over a.pending_refreshes)) [
    | inl is ↦ rw is (record { transport = refl; address = refl; expiry = refl; visible = refl; awaits = refreshes_left wanted a })
    | inr none ↦ rw none (itself numbers number wanted a)
  ]

  -- The poll changes its permissions.
  stays_requested : not (is_among over numbers) ≡ true
  stays_requested = ap not continues

  permissions_left : (wanted : Wanted) (a : Allocation) → Awaits numbers number wanted a → Awaits numbers number wanted (permission_reporting.polled over now a)
  unfolding permission_reporting.polled
  permissions_left (APermission ip) a is = record {
    no_refresh = is.no_refresh;
    no_channel = is.no_channel;
    no_renewal = is.no_renewal;
    requested = found_stored (asks_for_permission number) (λ p. not (permissions.is_over over p)) a.pending_permissions (record { ip = ip; others = []; numbers = numbers }) is.requested stays_requested;
  }
  permissions_left (AChannel channel peer) a is = record { no_refresh = is.no_refresh; requested = is.requested; free = is.free }

  permissions_polled : (wanted : Wanted) (a : Allocation) → Keeps numbers number wanted a (permission_reporting.polled over now a)
  unfolding permission_reporting.polled
  permissions_polled wanted a = record { transport = refl; address = refl; expiry = refl; visible = refl; awaits = permissions_left wanted a }

  -- The poll changes its channels.
  renewals_end : (c : Channel) → renews_channel number c ≡ false → renews_channel number (channel_lists.polled_channel over c) ≡ false
  unfolding channel_lists.polled_channel
  renewals_end c none = elim (cases_Bool (is_among over c.renewals)) [
    | inl is ↦ rw is refl
    | inr still ↦ rw still none
  ]

  numbers_stay : (channel : ℕ) (c : Channel) → is_numbered channel c ≡ false → is_numbered channel (channel_lists.polled_channel over c) ≡ false
  unfolding channel_lists.polled_channel
  numbers_stay channel c other = elim (cases_Bool (is_among over c.renewals)) [
    | inl is ↦ rw is other
    | inr still ↦ rw still other
  ]

  none_without : (q : Channel → Bool) (xs : List Channel) (index : Option ℕ) → NonePasses q xs → NonePasses q (without xs index)
  none_without q xs None none = none
  none_without q xs (Some index) none = none_removed q index xs none

  channels_left : (wanted : Wanted) (a : Allocation) → Awaits numbers number wanted a → Awaits numbers number wanted (channels.polled over now a)
  unfolding channels.polled channels.expired
  channels_left (APermission ip) a is = record {
    no_refresh = is.no_refresh;
    no_channel = none_left (asks_for_channel number) (λ c. not (channel_lists.is_over over c)) a.pending_channels is.no_channel;
    no_renewal = none_mapped (renews_channel number) (channel_lists.polled_channel over) renewals_end (without a.channels (last_index (channel_lists.has_expired now) a.channels))
        (none_without (renews_channel number) a.channels (last_index (channel_lists.has_expired now) a.channels) is.no_renewal);
    requested = is.requested;
  }
  channels_left (AChannel channel peer) a is = record {
    no_refresh = is.no_refresh;
    requested = found_stored (asks_for_channel number) (λ c. not (channel_lists.is_over over c)) a.pending_channels (record { channel = channel; peer = peer; numbers = numbers }) is.requested stays_requested;
    free = none_mapped (is_numbered channel) (channel_lists.polled_channel over) (numbers_stay channel) (without a.channels (last_index (channel_lists.has_expired now) a.channels))
        (none_without (is_numbered channel) a.channels (last_index (channel_lists.has_expired now) a.channels) is.free);
  }

  channels_polled : (wanted : Wanted) (a : Allocation) → Keeps numbers number wanted a (channels.polled over now a)
  unfolding channels.polled channels.expired
  channels_polled wanted a = record { transport = refl; address = refl; expiry = refl; visible = refl; awaits = channels_left wanted a }

  -- The poll changes its connections.
  connections_left : (wanted : Wanted) (a : Allocation) → Awaits numbers number wanted a → Awaits numbers number wanted (joined.polled over now a)
  unfolding joined.polled given_up
  connections_left (APermission ip) a is = record { no_refresh = is.no_refresh; no_channel = is.no_channel; no_renewal = is.no_renewal; requested = is.requested }
  connections_left (AChannel channel peer) a is = record { no_refresh = is.no_refresh; requested = is.requested; free = is.free }

  connections_polled : (wanted : Wanted) (a : Allocation) → Keeps numbers number wanted a (joined.polled over now a)
  unfolding joined.polled given_up
  connections_polled wanted a = record { transport = refl; address = refl; expiry = refl; visible = refl; awaits = connections_left wanted a }

  -- The poll changes all of it.
  pub all_polled : (wanted : Wanted) (a : Allocation) → Keeps numbers number wanted a (reporting.polled over now (allocation.polled over a))
  all_polled wanted a =
      let one = allocation.polled over a in
      let two = permission_reporting.polled over now one in
      let three = channels.polled over now two in
      both numbers number wanted a one (joined.polled over now three) (refreshes_polled wanted a)
      (both numbers number wanted one two (joined.polled over now three) (permissions_polled wanted one)
      (both numbers number wanted two three (joined.polled over now three) (channels_polled wanted two) (connections_polled wanted three)))
