-- What becomes of an allocation's connections if some are removed.
use Rattle.std.proofs.Common.{ℕ, [], Option, refl, inl}
use Rattle.std.specs.Prelude.{not}
use Rattle.std.specs.declared.net.socket_addr.SocketAddr.{SocketAddr}
use Rattle.turn_client_proto_timers.specs.Connection.Attempts.{is_lost}
use Rattle.turn_client_proto_timers.specs.Connection.Expiring.{has_gone, polled}
use Rattle.turn_client_proto_timers.specs.Connection.Sockets.{closed, is_from, is_socket_for, release}
use Rattle.turn_client_proto_timers.specs.Connection.Reported.{given_up, is_over}
use Rattle.turn_client_proto_step_laws.specs.Held.{Allocation, Connecting, Connection}
use Rattle.turn_client_proto_step_laws.proofs.Adding.{IsLess}
use Rattle.turn_client_proto_step_laws.proofs.Lessening.{IsAlike}
use Rattle.turn_client_proto_step_laws.proofs.Lists.{in_filter, in_others}

-- Removed are those whose request ended, those that were not bound in time, and the first whose transaction
-- ID ended.
pub parted_less : (over : Option ℕ) (now : ℕ) (a : Allocation) → IsLess [] a (polled over now a)
unfolding polled given_up
parted_less over now a = record {
  transport = refl;
  address = refl;
  permissions = λ p h. h;
  channels = λ c h. h;
  new_permissions = λ p h. h;
  new_channels = λ c h. h;
  refreshes = λ r h. inl h;
  connecting = λ c h. (in_filter (λ (x : Connecting). not (is_over over x)) c a.connecting h).0;
  waiting = λ w h. in_others (is_lost over) w a.waiting h;
  connections = λ c h. (in_filter (λ (x : Connection). not (has_gone over now x)) c a.connections h).0;
}

pub parted_alike : (over : Option ℕ) (now : ℕ) (a : Allocation) → IsAlike a (polled over now a)
unfolding polled given_up
parted_alike over now a = (refl, refl)

-- Removed is the connection with an own address.
pub closed_less : (here : SocketAddr) (a : Allocation) → IsLess [] a (closed here a)
unfolding closed
closed_less here a = record {
  transport = refl;
  address = refl;
  permissions = λ p h. h;
  channels = λ c h. h;
  new_permissions = λ p h. h;
  new_channels = λ c h. h;
  refreshes = λ r h. inl h;
  connecting = λ c h. h;
  waiting = λ w h. h;
  connections = λ c h. (in_filter (λ (x : Connection). not (is_from here x)) c a.connections h).0;
}

pub closed_alike : (here : SocketAddr) (a : Allocation) → IsAlike a (closed here a)
unfolding closed
closed_alike here a = (refl, refl)

-- Removed is the first connection that waited for its socket.
pub release_less : (connection : ℕ) (peer : SocketAddr) (a : Allocation) → IsLess [] a (release connection peer a)
unfolding release
release_less connection peer a = record {
  transport = refl;
  address = refl;
  permissions = λ p h. h;
  channels = λ c h. h;
  new_permissions = λ p h. h;
  new_channels = λ c h. h;
  refreshes = λ r h. inl h;
  connecting = λ c h. h;
  waiting = λ w h. in_others (is_socket_for connection peer) w a.waiting h;
  connections = λ c h. h;
}

pub release_alike : (connection : ℕ) (peer : SocketAddr) (a : Allocation) → IsAlike a (release connection peer a)
unfolding release
release_alike connection peer a = (refl, refl)
