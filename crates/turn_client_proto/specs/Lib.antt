-- The definitions that the contracts of a client cite, each file under its own name, and those of the crates
-- below.
pub mod Clients
pub mod Codes
pub mod Getters
pub mod Gone
pub mod Notes
pub mod Results
pub mod SocketsReported
pub use Rattle.turn_client_proto_recv.specs.Control
pub use Rattle.turn_client_proto_recv.specs.Datagrams
pub use Rattle.turn_client_proto_recv.specs.HandingIn
pub use Rattle.turn_client_proto_recv.specs.ClientState
pub use Rattle.turn_client_proto_recv.specs.Chunks
pub use Rattle.turn_client_proto_recv.specs.Pulls
pub use Rattle.turn_client_proto_recv.specs.Receipts
pub use Rattle.turn_client_proto_recv.specs.SocketChunks
pub use Rattle.turn_client_proto_recv.specs.Waiting
pub use Rattle.turn_client_proto_recv.specs.declared.handing.Taken
pub use Rattle.turn_client_proto_core.specs.Beginning
pub use Rattle.turn_client_proto_recv.specs.Closing
pub use Rattle.turn_client_proto_recv.specs.Connecting
pub use Rattle.turn_client_proto_connection.specs as Connection
pub use Rattle.turn_client_proto_core.specs.Binding
pub use Rattle.turn_client_proto_core.specs.Deleting
pub use Rattle.turn_client_proto_timers.specs.Drawing
pub use Rattle.turn_client_proto_recv.specs.Processing
pub use Rattle.turn_client_proto_payload.specs.OfPeers
pub use Rattle.turn_client_proto_payload.specs.Payloads
pub use Rattle.turn_client_proto_payload.specs.Sending
pub use Rattle.turn_client_proto_recv.specs.Sockets
pub use Rattle.turn_client_proto_core.specs.Ending
pub use Rattle.turn_client_proto_core.specs.Permitting
pub use Rattle.turn_client_proto_core.specs.Receiving
pub use Rattle.turn_client_proto_timers.specs.Polling
pub use Rattle.turn_client_proto_api.specs.Config
pub use Rattle.turn_client_proto_allocation.specs as Allocation
pub use Rattle.turn_client_proto_api.specs as Api
pub use Rattle.turn_client_proto_peers.specs.Channel
pub use Rattle.turn_client_proto_peers.specs.Permission
pub use Rattle.turn_client_proto_core.specs.TurnRuns.Headline
pub use Rattle.turn_client_proto_core.specs.TurnRuns.Indications
pub use Rattle.turn_client_proto_core.specs.TurnRuns.Members
pub use Rattle.turn_client_proto_core.specs.TurnRuns.Messages
pub use Rattle.turn_client_proto_core.specs.TurnRuns.Runs
pub use Rattle.turn_client_proto_core.specs.TurnRuns.Steps
pub use Rattle.turn_client_proto_core.specs.TurnRuns.Words
pub use Rattle.turn_client_proto_payload.specs.declared.payload.Payload
-- Re-exported for the crates above this one.
pub use Rattle.turn_client_proto_core.specs.StunProtoClient as StunProtoClient
pub use Rattle.turn_client_proto_core.specs.TurnRuns as TurnRuns
pub use Rattle.turn_client_proto_peers.specs as Peers
pub use Rattle.turn_client_proto_core.specs as Core
pub use Rattle.turn_client_proto_payload.specs as PayloadPart
pub use Rattle.turn_client_proto_recv.specs as Recv
pub use Rattle.turn_client_proto_timers.specs as Timers
