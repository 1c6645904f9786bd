pub mod ForbiddenPeers
pub mod Granted
pub mod Replies
pub mod RequestedFor
pub mod Grants
pub mod Requests
pub mod Verdicts
pub mod AuthLending
pub mod DeskCalls
pub mod DeskIsolation
pub mod DeskSteps
pub mod State
pub mod Steps
-- Crates that depend on this one reach these definitions through it.
pub use Rattle.stun_types_base.specs as StunTypesBase
pub use Rattle.stun_types_wire.specs as StunTypesWire
pub use Rattle.stun_types_write.specs as StunTypesWrite
pub use Rattle.stun_types_attributes.specs.AuthAttributes as StunTypesAuthAttributes
pub use Rattle.stun_types_attributes.specs as StunTypesAttributes
pub use Rattle.stun_types_add.specs as StunTypesAdd
pub use Rattle.stun_types_message.specs as StunTypesMessage
pub use Rattle.turn_types_attributes.specs as TurnTypesAttributes
pub use Rattle.turn_types_peer.specs as TurnTypesPeer
pub use Rattle.stun_proto_verify.specs as StunProtoVerify
pub use Rattle.stun_proto_server.specs as StunProtoServer
