-- If a channel of an allocation expires, or a socket of it is to be closed, there is an event for the
-- allocation.
use Rattle.std.proofs.Common.{append_assoc, ◌≡◌, ℕ, List, [], ◌++◌, filter, map, Option, Some, sym, ap, ◌∙◌}
use Rattle.std.specs.Prelude.{◌≢◌, option_to_list}
use Rattle.std.specs.declared.net.socket_addr.SocketAddr.{SocketAddr}
use Rattle.turn_client_proto_allocation.specs.declared.allocation.Allocation.{Allocation}
use Rattle.turn_client_proto_allocation.specs.declared.channel.PendingChannel.{PendingChannel}
use Rattle.turn_client_proto_allocation.specs.declared.permission.PendingPermission.{PendingPermission}
use Rattle.turn_client_proto_allocation.specs.declared.permission.Permission.{Permission}
use Rattle.turn_client_proto_api.specs.declared.event.TurnEvent.{TurnEvent}
use Rattle.turn_client_proto_api.specs.declared.event.TurnEvent.TheVariants.{ChannelCreateFailed, PermissionCreateFailed, TcpConnectFailed}
use Rattle.turn_client_proto_allocation.specs.declared.connection.Connecting.{Connecting}
use Rattle.turn_client_proto_allocation.specs.declared.connection.Connection.{Connection}
use Rattle.turn_client_proto_allocation.specs.declared.connection.Waiting.{Waiting}
use Rattle.turn_client_proto_peers.specs.Channel.Expiring as channels
use Rattle.turn_client_proto_connection.specs.Attempts as attempts
use Rattle.turn_client_proto_connection.specs.Expiring as joined
use Rattle.turn_client_proto_connection.specs.Reported as connections
use Rattle.turn_client_proto_peers.specs.Permission.Reporting as permissions
use Rattle.turn_client_proto_timers.specs.Reporting.{all_failures, connection_failures, failures, relay_failures}
use Rattle.turn_client_proto_timers.proofs.Reports.{in_turn, none_left, none_mapped, none_right, none_decoded, reported_changed}

module _ (over : Option ℕ) (now : ℕ) (a : Allocation) where
  abbrev one : List TurnEvent
  one = map (PermissionCreateFailed a.transport) (permissions.addresses_over over a.pending_permissions)

  abbrev two : List TurnEvent
  two = map (ChannelCreateFailed a.transport) (channels.peers_over over a.pending_channels)

  abbrev three : List TurnEvent
  three = map (PermissionCreateFailed a.transport) (permissions.addresses_expired now a.permissions)

  abbrev four : List TurnEvent
  four = map (ChannelCreateFailed a.transport) (channels.peers_expiring now a)

  -- If there is no event for an allocation, none of its channels expires, whatever its permissions are.
  no_peer : relay_failures over now a ≡ [] → channels.peers_expiring now a ≡ []
  unfolding relay_failures
  no_peer none = none_mapped (ChannelCreateFailed a.transport) (channels.peers_expiring now a)
      (none_right three four (none_right two (three ++ four) (none_right one (two ++ (three ++ four)) none)))

  none_expires : relay_failures over now a ≡ [] → channels.peers_expiring now (permissions.polled over now a) ≡ []
  unfolding permissions.polled
  none_expires none = no_peer none

  -- If one of the four parts of an allocation's events isn't empty, neither is the whole.
  pub decoded_first : permissions.addresses_over over a.pending_permissions ≢ [] → relay_failures over now a ≢ []
  unfolding relay_failures
  decoded_first some = λ none. some (none_mapped (PermissionCreateFailed a.transport) (permissions.addresses_over over a.pending_permissions)
      (none_left one (two ++ (three ++ four)) none))

  pub reported_second : channels.peers_over over a.pending_channels ≢ [] → relay_failures over now a ≢ []
  unfolding relay_failures
  reported_second some = λ none. some (none_mapped (ChannelCreateFailed a.transport) (channels.peers_over over a.pending_channels)
      (none_left two (three ++ four) (none_right one (two ++ (three ++ four)) none)))

  pub reported_third : permissions.addresses_expired now a.permissions ≢ [] → relay_failures over now a ≢ []
  unfolding relay_failures
  reported_third some = λ none. some (none_mapped (PermissionCreateFailed a.transport) (permissions.addresses_expired now a.permissions)
      (none_left three four (none_right two (three ++ four) (none_right one (two ++ (three ++ four)) none))))

  pub reported_last : (peer : SocketAddr) → channels.peer_expiring now a.channels ≡ Some peer → relay_failures over now a ≢ []
  reported_last peer expires = λ none. let empty = sym (no_peer none) ∙ ap (λ (o : Option SocketAddr). option_to_list o) expires in absurd (Prim.cc empty)

  -- The four parts, queued one after another, are all events of the permissions and channels.
  pub reported_all : (events first second third all expires : List TurnEvent) (pending : List PendingPermission) (requested : List PendingChannel) (standing : List Permission)
      → pending ≡ a.pending_permissions → requested ≡ a.pending_channels → standing ≡ a.permissions → expires ≡ four
      → first ≡ events ++ map (PermissionCreateFailed a.transport) (permissions.addresses_over over pending)
      → second ≡ first ++ map (ChannelCreateFailed a.transport) (channels.peers_over over requested)
      → third ≡ second ++ map (PermissionCreateFailed a.transport) (permissions.addresses_expired now standing)
      → all ≡ third ++ expires
      → all ≡ events ++ relay_failures over now a
  unfolding relay_failures
  reported_all events first second third all expires pending requested standing is_pending is_requested is_standing is_four is_first is_second is_third is_all =
      let turns = in_turn events one two three four in
      rw (is_all, is_third, is_second, is_first, is_pending, is_requested, is_standing, is_four) turns

  -- If one of the three parts of the connections' events isn't empty, neither is the whole.
  abbrev five : List TurnEvent
  five = map TcpConnectFailed (connections.peers_over over a.connecting)

  abbrev six : List TurnEvent
  six = map TcpConnectFailed (joined.peers_gone over now a.connections)

  abbrev seven : List TurnEvent
  seven = map TcpConnectFailed (attempts.peers_lost over a.waiting)

  pub reported_over : connections.peers_over over a.connecting ≢ [] → connection_failures over now a ≢ []
  unfolding connection_failures
  reported_over some = λ none. some (none_mapped TcpConnectFailed (connections.peers_over over a.connecting) (none_left five (six ++ seven) none))

  none_gone : connection_failures over now a ≡ [] → joined.peers_gone over now a.connections ≡ []
  unfolding connection_failures
  none_gone none = none_mapped TcpConnectFailed (joined.peers_gone over now a.connections) (none_left six seven (none_right five (six ++ seven) none))

  pub reported_gone : joined.peers_gone over now a.connections ≢ [] → connection_failures over now a ≢ []
  unfolding connection_failures
  reported_gone some = λ none. some (none_gone none)

  pub reported_lost : attempts.peers_lost over a.waiting ≢ [] → connection_failures over now a ≢ []
  unfolding connection_failures
  reported_lost some = λ none. some (none_mapped TcpConnectFailed (attempts.peers_lost over a.waiting) (none_right six seven (none_right five (six ++ seven) none)))

  -- The three parts, queued one after another, are all events of the connections.
  pub reported_joined : (events first second all : List TurnEvent) (requested : List Connecting) (standing : List Connection) (started : List Waiting) → requested ≡ a.connecting → standing ≡ a.connections → started ≡ a.waiting
      → first ≡ events ++ map TcpConnectFailed (connections.peers_over over requested) → second ≡ first ++ map TcpConnectFailed (joined.peers_gone over now standing)
      → all ≡ second ++ map TcpConnectFailed (attempts.peers_lost over started)
      → all ≡ events ++ connection_failures over now a
  unfolding connection_failures
  reported_joined events first second all requested standing started is_requested is_standing is_started is_first is_second is_all =
      rw (is_all, is_second, is_first, is_requested, is_standing, is_started) (append_assoc (events ++ five) six seven ∙ append_assoc events five (six ++ seven))

  -- If one of the two parts of an allocation's events isn't empty, neither is the whole.
  pub reported_relays : relay_failures over now a ≢ [] → failures over now a ≢ []
  unfolding failures
  reported_relays some = λ none. some (none_left (relay_failures over now a) (connection_failures over now a) none)

  pub reported_connections : connection_failures over now a ≢ [] → failures over now a ≢ []
  unfolding failures
  reported_connections some = λ none. some (none_right (relay_failures over now a) (connection_failures over now a) none)

  -- If there is no event for an allocation, none of its channels expires, and no socket is to be closed.
  left_expires : failures over now a ≡ [] → channels.peers_expiring now (permissions.polled over now a) ≡ []
  unfolding failures
  left_expires none = none_expires (none_left (relay_failures over now a) (connection_failures over now a) none)

  left_sockets : failures over now a ≡ [] → joined.sockets_gone over now a.connections ≡ []
  unfolding failures
  left_sockets none = ap (map (λ (c : Connection). c.here)) (none_mapped (λ (c : Connection). c.peer) (filter (joined.has_gone over now) a.connections)
      (none_gone (none_right (relay_failures over now a) (connection_failures over now a) none)))

  -- The two parts, queued one after the other, are all events of the allocation.
  pub reported_both : (events first all : List TurnEvent) → first ≡ events ++ relay_failures over now a → all ≡ first ++ connection_failures over now a → all ≡ events ++ failures over now a
  unfolding failures
  reported_both events first all is_first is_all = rw (is_all, is_first) (append_assoc events (relay_failures over now a) (connection_failures over now a))

-- If a socket is to be closed, there is an event.
pub closing_reported : (over : Option ℕ) (now : ℕ) (all : List Allocation) → joined.all_gone over now all ≢ [] → all_failures over now all ≢ []
closing_reported over now all some = λ none. some (none_decoded (failures over now) (λ (a : Allocation). joined.sockets_gone over now a.connections) (left_sockets over now) all none)

-- If a channel expires after the permissions were polled, there is an event.
pub expiring_reported : (over : Option ℕ) (now : ℕ) (all left : List Allocation) → left ≡ map (permissions.polled over now) all → channels.all_expiring now left ≢ [] → all_failures over now all ≢ []
expiring_reported over now all left is some = λ none.
    some (ap (channels.all_expiring now) is
    ∙ reported_changed (channels.peers_expiring now) (permissions.polled over now) all
    ∙ none_decoded (failures over now) (λ (a : Allocation). channels.peers_expiring now (permissions.polled over now a)) (left_expires over now) all none)
