-- A client over UDP or TCP.
use Rattle.turn_client_proto_recv.specs.ClientState.{ClientState, over_udp}
use Rattle.turn_client_proto_recv.specs.declared.notes.Notes.{Notes}
use Rattle.turn_client_proto.specs.declared.client.TurnClient.{TurnClient}
use Rattle.turn_client_proto.specs.declared.client.TurnClient.TheVariants.{Udp, Tcp}

-- The state of the client inside.
abbrev pub stored_of : TurnClient → ClientState
stored_of (Udp client) = over_udp client.0
stored_of (Tcp client) = client.0

-- What the client inside notes.
abbrev pub noted_of : TurnClient → Notes
noted_of (Udp client) = client.1
noted_of (Tcp client) = client.1
