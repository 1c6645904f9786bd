-- What C gets of what a client holds.
use Rattle.std.specs.Prelude.{◌≡◌, ◌++◌, ℕ, Bool, false, List, [], length, map, take, drop, Option, Some, None}
use Rattle.std.specs.Net.Socket.{socket_ip}
use Rattle.std.specs.declared.net.ip_addr.IpAddr.{IpAddr}
use Rattle.std.specs.declared.net.socket_addr.SocketAddr.{SocketAddr}
use Rattle.stun_types_base.specs.declared.transport.TransportType.{TransportType}
use Rattle.turn_client_proto.specs.Clients.{stored_of}
use Rattle.turn_client_proto.specs.Getters.{has_permission, permissions_of}
use Rattle.turn_client_proto.specs.Recv.ClientState.{ClientState}
use Rattle.turn_client_c_types.specs.Addresses.{address_of, number_of, reported_address, transport_of}
use Rattle.turn_client_c_calls.specs.Held.{Held}
use Rattle.turn_client_c_types.specs.declared.address.TurnAddress.{TurnAddress}
use Rattle.turn_client_c_calls.specs.declared.getters.TurnChannel.{TurnChannel}
use Rattle.turn_client_c_calls.specs.declared.getters.TurnConnection.{TurnConnection}
use Rattle.turn_client_c_calls.specs.declared.getters.TurnRelayed.{TurnRelayed}

-- ---- what a client holds, as it is reported

abbrev pub reported_relayed : TransportType × SocketAddr → TurnRelayed
reported_relayed held = record { transport = number_of held.0; address = reported_address held.1 }

abbrev pub reported_channel : ℕ × SocketAddr → TurnChannel
reported_channel held = record { number = held.0; peer = reported_address held.1 }

abbrev pub reported_connection : SocketAddr × SocketAddr × ℕ × Bool → TurnConnection
reported_connection held = record {
  local = reported_address held.0;
  peer = reported_address held.1;
  id = held.2;
  is_bound = held.3;
}

-- A transport and an address, if both are valid.
abbrev pub both_named : Option TransportType → Option SocketAddr → Option (TransportType × SocketAddr)
both_named (Some by) (Some at) = Some (by, at)
both_named _ _ = None

abbrev pub named : ℕ → TurnAddress → Option (TransportType × SocketAddr)
named transport address = both_named (transport_of transport) (address_of address)

-- The IP addresses with a permission at a relayed address; none if transport or address is invalid.
abbrev pub permitted_at : Option (TransportType × SocketAddr) → ClientState → List IpAddr
permitted_at None stored = []
permitted_at (Some (by, at)) stored = permissions_of by at stored.core

abbrev pub permitted_of : ℕ → TurnAddress → ClientState → List IpAddr
permitted_of transport relayed = permitted_at (named transport relayed)

-- There is a permission for a peer's address; false if transport or address is invalid.
abbrev pub permits : Option (TransportType × SocketAddr) → ClientState → Bool
permits None stored = false
permits (Some (by, to)) stored = has_permission by (socket_ip to) stored.core

abbrev pub is_permitted : ℕ → TurnAddress → ClientState → Bool
is_permitted transport peer = permits (named transport peer)

-- ---- what is visible

-- A getter leaves the client's state as it is. Without a client it returns `nothing`.
abbrev pub Shows : {A : Type 0} → A → (ClientState → A) → (old new : Held) → A → Type 0
Shows nothing visible None new result = (result ≡ nothing) × (new ≡ None)
Shows nothing visible (Some old) new result = (result ≡ visible (stored_of old.client)) × (new ≡ Some old)

-- The buffer with as many elements of the list as fit at its start, and its old elements after them.
abbrev pub listed_over : {A B : Type 0} → (A → B) → List A → List B → List B
listed_over report items out = take (length out) (map report items) ++ drop (length items) out

-- A getter writes a list, and returns how many elements the list has.
abbrev pub Lists : {A B : Type 0} → (A → B) → (ClientState → List A) → (old new : Held) → ℕ → (out filled : List B)
    → Type 0
Lists report items None new count out filled = (count ≡ 0) × (new ≡ None) × (filled ≡ out)
Lists report items (Some old) new count out filled = (count ≡ length (items (stored_of old.client))) × (new ≡ Some old)
    × (filled ≡ listed_over report (items (stored_of old.client)) out)
