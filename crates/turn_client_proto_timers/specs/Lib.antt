pub mod Answering
pub mod Drawing
pub mod Polling
pub mod Quiet
pub mod Reporting
pub mod Wanting
-- Re-exports for the crates above this one.
pub use Rattle.stun_types_base.specs as StunTypesBase
pub use Rattle.stun_types_wire.specs as StunTypesWire
pub use Rattle.turn_client_proto_messages.specs.StunTypesWrite as StunTypesWrite
pub use Rattle.turn_client_proto_messages.specs.StunTypesIntegrity as StunTypesIntegrity
pub use Rattle.turn_client_proto_messages.specs.TurnTypesPeer as TurnTypesPeer
pub use Rattle.turn_client_proto_allocation.specs.StunProtoTransaction as StunProtoTransaction
pub use Rattle.stun_proto_agent.specs as StunProtoAgent
pub use Rattle.turn_client_proto_allocation.specs as Allocation
pub use Rattle.turn_client_proto_api.specs as Api
pub use Rattle.turn_client_proto_connection.specs as Connection
pub use Rattle.turn_client_proto_messages.specs.TurnRuns as TurnRuns
pub use Rattle.turn_client_proto_messages.specs as Messages
pub use Rattle.turn_client_proto_peers.specs as Peers
pub use Rattle.turn_client_proto_core.specs as Core
