-- The results of calls, as C gets them.
use Rattle.std.specs.Prelude.{ℕ, Bool, false}
use Rattle.std.specs.declared.net.socket_addr.SocketAddr.{SocketAddr}
use Rattle.stun_types_base.specs.declared.family.AddressFamily.{AddressFamily}
use Rattle.stun_types_base.specs.declared.family.AddressFamily.TheVariants.{IPV4, IPV6}
use Rattle.stun_types_base.specs.declared.transport.TransportType.{TransportType}
use Rattle.stun_types_base.specs.declared.transport.TransportType.TheVariants.{Tcp}
use Rattle.turn_client_proto_api.specs.declared.answer.Socket5Tuple.{Socket5Tuple}
use Rattle.turn_client_proto_api.specs.declared.event.TurnEvent.{TurnEvent}
use Rattle.turn_client_proto_api.specs.declared.event.TurnEvent.TheVariants.{AllocationCreated, AllocationCreateFailed, PermissionCreated, PermissionCreateFailed, ChannelCreated, ChannelCreateFailed, TcpConnected, TcpConnectFailed}
use Rattle.turn_client_c_types.specs.Addresses.{ipv4, ipv6, no_address, number_of, reported_address, reported_ip}
use Rattle.turn_client_c_types.specs.declared.event.TurnClientEvent.{TurnClientEvent}
use Rattle.turn_client_c_types.specs.declared.reported.TurnPayload.{TurnPayload}
use Rattle.turn_client_c_types.specs.declared.reported.TurnTransmit.{TurnTransmit}
use Rattle.turn_client_c_types.specs.declared.reported.TurnWait.{TurnWait}

abbrev pub family_number : AddressFamily → ℕ
family_number IPV4 = ipv4
family_number IPV6 = ipv6

-- An event.
abbrev pub reported_event : TurnEvent → TurnClientEvent
reported_event (AllocationCreated by at) =
    record { kind = 1; transport = number_of by; address = reported_address at }
reported_event (AllocationCreateFailed family) =
    record { kind = 2; transport = 0; address = no_address (family_number family) }
reported_event (PermissionCreated by peer) =
    record { kind = 3; transport = number_of by; address = reported_ip peer }
reported_event (PermissionCreateFailed by peer) =
    record { kind = 4; transport = number_of by; address = reported_ip peer }
reported_event (ChannelCreated by peer) =
    record { kind = 5; transport = number_of by; address = reported_address peer }
reported_event (ChannelCreateFailed by peer) =
    record { kind = 6; transport = number_of by; address = reported_address peer }
reported_event (TcpConnected peer) = record { kind = 7; transport = number_of Tcp; address = reported_address peer }
reported_event (TcpConnectFailed peer) = record { kind = 8; transport = number_of Tcp; address = reported_address peer }

-- The number of bytes to send, the transport over which they are sent, and the addresses from and to which.
abbrev pub reported_way : ℕ → TransportType → SocketAddr → SocketAddr → TurnTransmit
reported_way size transport from to = record {
  size = size;
  transport = number_of transport;
  from = reported_address from;
  to = reported_address to;
}

-- Data of a peer: where it begins, its size, and whether it is to be read by `turn_client_read`.
abbrev pub reported_payload : (start size : ℕ) → Bool → TransportType → SocketAddr → TurnPayload
reported_payload start size is_joined transport peer = record {
  start = start;
  size = size;
  transport = number_of transport;
  peer = reported_address peer;
  is_joined = is_joined;
  icmp_type = 0;
  icmp_code = 0;
  icmp_data = 0;
}

-- An ICMP report on the way to a peer (RFC 8656, section 11.6).
abbrev pub reported_report : TransportType → SocketAddr → (kind code details : ℕ) → TurnPayload
reported_report transport peer kind code details = record {
  start = 0;
  size = 0;
  transport = number_of transport;
  peer = reported_address peer;
  is_joined = false;
  icmp_type = kind;
  icmp_code = code;
  icmp_data = details;
}

-- The time until which there is nothing to do.
abbrev pub reported_wait : ℕ → TurnWait
reported_wait time = record {
  until = time;
  id = 0;
  transport = 0;
  from = no_address 0;
  to = no_address 0;
  peer = no_address 0;
}

-- A connection to open or to close (RFC 6062, sections 4.3 and 4.6).
abbrev pub reported_open : ℕ → Socket5Tuple → SocketAddr → TurnWait
reported_open connection socket peer = record {
  until = 0;
  id = connection;
  transport = number_of socket.transport;
  from = reported_address socket.from;
  to = reported_address socket.to;
  peer = reported_address peer;
}

abbrev pub reported_close : SocketAddr → SocketAddr → TurnWait
reported_close from to = record {
  until = 0;
  id = 0;
  transport = 0;
  from = reported_address from;
  to = reported_address to;
  peer = no_address 0;
}
