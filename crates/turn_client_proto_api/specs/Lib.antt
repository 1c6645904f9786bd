pub mod Causes
pub mod Config
pub mod Expired
pub mod ExpiredSlots
pub mod Families
pub mod FamilyOrders
pub mod Limits
pub mod Options
pub mod Payloads
pub mod Sends
pub mod SetWaitsView
pub mod SameWaits
pub mod SameConfigs
pub mod Sent
-- Re-exported for the crates above this one.
pub use Rattle.stun_types_wire.specs as StunTypesWire
pub use Rattle.turn_types_frame.specs as TurnTypesFrame
pub use Rattle.stun_proto_agent.specs.Transaction as StunProtoTransaction
pub use Rattle.stun_proto_agent.specs as StunProtoAgent
pub use Rattle.stun_proto_auth.specs as StunProtoAuth
