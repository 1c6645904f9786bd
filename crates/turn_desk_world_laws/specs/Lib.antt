pub mod AddressRuns
pub mod Copies
pub mod Ended
pub mod Ends
pub mod Numbers
pub mod Safety
pub mod Sending
pub mod SocketCalls
pub mod Reported
-- Crates that build on this one reach these definitions through it.
pub use Rattle.turn_desk_world.specs.TurnClientProtoConnection as TurnClientProtoConnection
pub use Rattle.turn_desk_world.specs.TurnClientProtoPeers as TurnClientProtoPeers
pub use Rattle.turn_desk_world.specs.TurnClientProtoPayload as TurnClientProtoPayload
pub use Rattle.turn_desk_world.specs.TurnClientProto as TurnClientProto
pub use Rattle.turn_desk_world.specs as World
pub use Rattle.turn_client_proto_step_laws.specs as TurnClientProtoStepLaws
