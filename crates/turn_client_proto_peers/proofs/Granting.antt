-- The channel that a CHANNEL_BIND requests is still pending after its permission was granted.
use Rattle.std.proofs.Common.{◌≡◌, ℕ, ◌+◌, Bool, true, List, [], ◌∷◌, length, position, Option, Some, None, refl, ◌∙◌, ap, inl, inr}
use Rattle.std.proofs.lemmas.Bool.{cases_Bool}
use Rattle.std.specs.List.{position_or_len}
use Rattle.std.specs.Option.{option_and_then, option_map, option_or}
use Rattle.std.specs.Prelude.{find, is_some, nat_lt, if◌then◌else◌}
use Rattle.std.specs.declared.net.ip_addr.IpAddr.{IpAddr}
use Rattle.std.specs.declared.net.socket_addr.SocketAddr.{SocketAddr}
use Rattle.stun_types_base.specs.declared.transport.TransportType.{TransportType}
use Rattle.turn_client_proto_allocation.specs.Awaited.{asks_for_channel, asks_for_permission, is_connecting, renews_channel, renews_permission}
use Rattle.turn_client_proto_allocation.specs.Changes.{change_first}
use Rattle.turn_client_proto_allocation.specs.Refreshing.{lifetime_requested}
use Rattle.turn_client_proto_allocation.specs.declared.allocation.Allocation.{Allocation}
use Rattle.turn_client_proto_allocation.specs.declared.channel.Channel.{Channel}
use Rattle.turn_client_proto_allocation.specs.declared.channel.PendingChannel.{PendingChannel}
use Rattle.turn_client_proto_allocation.specs.declared.connection.Connecting.{Connecting}
use Rattle.turn_client_proto_allocation.specs.declared.permission.PendingPermission.{PendingPermission}
use Rattle.turn_client_proto_allocation.specs.declared.permission.Permission.{Permission}
use Rattle.turn_client_proto_allocation.proofs.Lent.{length-change_first}
use Rattle.turn_client_proto_peers.specs.Permission.Granted.{permitted}
use Rattle.turn_client_proto_allocation.specs.PendingRequests.{pending_request, requested_of, awaits_reply, connection_requested, new_requested, renewal_requested}
use Rattle.turn_client_proto_peers.specs.Permission.Permitted.{all_permitted}
use Rattle.turn_client_proto_allocation.specs.declared.pending.PendingRequest.{PendingRequest}
use Rattle.turn_client_proto_allocation.specs.declared.pending.PendingRequest.TheVariants.{ChannelRenewal, Lifetime, NewChannel, NewConnection, NewPermission, Renewal}

-- ---- the first that passes, which was changed and passes still

find_changed : {X : Type 0} (p : X → Bool) (f : X → X) (xs : List X) (x : X) → find p xs ≡ Some x → p (f x) ≡ true → find p (change_first p f xs) ≡ Some (f x)
find_changed p f [] x found passes = absurd (Prim.cc found)
find_changed {X = X} p f (y ∷ xs) x found passes =
    elim (cases_Bool (p y)) [
      | inl is ↦
          let same : y ≡ x = (let h = rw is at found in Prim.cc h) in
          let there : p (f y) ≡ true = ap (λ (z : X). p (f z)) same ∙ passes in
          rw is (rw there (ap (λ (z : X). Some (f z)) same))
      | inr not ↦ rw not (rw not (find_changed p f xs x (rw not at found) passes))
    ]

index_changed : {X : Type 0} (p : X → Bool) (f : X → X) (xs : List X) (x : X) → find p xs ≡ Some x → p (f x) ≡ true → position_or_len p (change_first p f xs) ≡ position_or_len p xs
index_changed p f [] x found passes = absurd (Prim.cc found)
index_changed {X = X} p f (y ∷ xs) x found passes =
    elim (cases_Bool (p y)) [
      | inl is ↦
          let same : y ≡ x = (let h = rw is at found in Prim.cc h) in
          let there : p (f y) ≡ true = ap (λ (z : X). p (f z)) same ∙ passes in
          rw is (rw there refl)
      | inr not ↦ rw not (rw not (ap (λ (n : ℕ). 1 + n) (index_changed p f xs x (rw not at found) passes)))
    ]

position_changed : {X : Type 0} (p : X → Bool) (f : X → X) (xs : List X) (x : X) → find p xs ≡ Some x → p (f x) ≡ true → position p (change_first p f xs) ≡ position p xs
position_changed p f xs x found passes =
    let index = index_changed p f xs x found passes in
    ap (λ (n : ℕ). if nat_lt n (length (change_first p f xs)) then Some n else None) index
    ∙ ap (λ (n : ℕ). if nat_lt (position_or_len p xs) n then Some (position_or_len p xs) else None) (length-change_first p f xs)

-- ---- a channel is requested, whatever permissions are

stored_by : (transport : TransportType) (lifetime : Option ℕ) (found : Option PendingChannel) (renewal : Option Channel) (requested : Option PendingPermission) (again : Option Permission) (connection : Option Connecting) (other : Option PendingRequest) (of : TransportType) (channel : ℕ) (peer : SocketAddr)
    → option_or (option_map Lifetime lifetime) (option_or (option_map (λ (c : PendingChannel). NewChannel transport c.channel c.peer) found)
    (option_or (option_map (λ (c : Channel). ChannelRenewal transport c.number c.peer) renewal)
    (option_or (option_map (λ (p : PendingPermission). NewPermission transport p.ip) requested)
    (option_or (option_map (λ (p : Permission). Renewal transport p.ip) again) (option_map (λ (c : Connecting). NewConnection c.peer) connection)))))
    ≡ Some (NewChannel of channel peer)
    → option_or (option_map Lifetime lifetime) (option_or (option_map (λ (c : PendingChannel). NewChannel transport c.channel c.peer) found)
    (option_or (option_map (λ (c : Channel). ChannelRenewal transport c.number c.peer) renewal) other))
    ≡ Some (NewChannel of channel peer)
stored_by transport (Some lifetime) found renewal requested again connection other of channel peer is = absurd (Prim.cc is)
stored_by transport None (Some c) renewal requested again connection other of channel peer is = is
stored_by transport None None (Some c) requested again connection other of channel peer is = absurd (Prim.cc is)
stored_by transport None None None (Some p) again connection other of channel peer is = absurd (Prim.cc is)
stored_by transport None None None None (Some p) connection other of channel peer is = absurd (Prim.cc is)
stored_by transport None None None None None (Some c) other of channel peer is = absurd (Prim.cc is)
stored_by transport None None None None None None other of channel peer is = absurd (Prim.cc is)

permitted_asks : (ip : IpAddr) (request now : ℕ) (a : Allocation) (transport : TransportType) (channel : ℕ) (peer : SocketAddr) → requested_of request a ≡ Some (NewChannel transport channel peer) → requested_of request (permitted ip request now a) ≡ Some (NewChannel transport channel peer)
unfolding requested_of
permitted_asks ip request now a transport channel peer is =
    stored_by a.transport (lifetime_requested request a.pending_refreshes) (find (asks_for_channel request) a.pending_channels) (find (renews_channel request) a.channels)
    (find (asks_for_permission request) a.pending_permissions) (find (renews_permission request) a.permissions) (find (is_connecting request) a.connecting)
    (option_or (new_requested request (permitted ip request now a)) (option_or (renewal_requested request (permitted ip request now a)) (connection_requested request (permitted ip request now a)))) transport channel peer is

-- ---- of a client

found_of : (request : ℕ) (found : Option Allocation) (transport : TransportType) (channel : ℕ) (peer : SocketAddr) → option_and_then (requested_of request) found ≡ Some (NewChannel transport channel peer)
    → (a : Allocation) × (found ≡ Some a) × (requested_of request a ≡ Some (NewChannel transport channel peer))
found_of request None transport channel peer is = absurd (Prim.cc is)
found_of request (Some a) transport channel peer is = (a, refl, is)

-- The request is still for the same channel.
pub permitted_requested : (all : List Allocation) (ip : IpAddr) (request now : ℕ) (transport : TransportType) (channel : ℕ) (peer : SocketAddr) → pending_request request all ≡ Some (NewChannel transport channel peer) → pending_request request (all_permitted ip request now all) ≡ Some (NewChannel transport channel peer)
permitted_requested all ip request now transport channel peer is =
    let first = found_of request (find (awaits_reply request) all) transport channel peer is in
    let still = permitted_asks ip request now first.0 transport channel peer first.2 in
    ap (option_and_then (requested_of request)) (find_changed (awaits_reply request) (permitted ip request now) all first.0 first.1 (ap (λ (o : Option PendingRequest). is_some o) still)) ∙ still

-- The response is still awaited by the allocation at the same index.
pub permitted_awaits : (all : List Allocation) (ip : IpAddr) (request now : ℕ) (transport : TransportType) (channel : ℕ) (peer : SocketAddr) → pending_request request all ≡ Some (NewChannel transport channel peer) → position (awaits_reply request) (all_permitted ip request now all) ≡ position (awaits_reply request) all
permitted_awaits all ip request now transport channel peer is =
    let first = found_of request (find (awaits_reply request) all) transport channel peer is in
    let still = permitted_asks ip request now first.0 transport channel peer first.2 in
    position_changed (awaits_reply request) (permitted ip request now) all first.0 first.1 (ap (λ (o : Option PendingRequest). is_some o) still)
