pub mod Awaited
pub mod Changes
pub mod Firsts
pub mod Lending
pub mod Listed
pub mod Permissions
pub mod Polling
pub mod Refreshing
pub mod Permits
pub mod Same
pub mod PendingRequests
pub mod Channels
-- The crates above this one use these definitions through this file.
pub use Rattle.stun_types_wire.specs as StunTypesWire
pub use Rattle.turn_types_frame.specs as TurnTypesFrame
pub use Rattle.stun_proto_transaction.specs as StunProtoTransaction
