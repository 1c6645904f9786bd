pub mod Promises
pub mod Scripts
pub mod Standing
pub mod Unforged
pub mod Renewals
pub mod Turns
pub mod Watched
pub mod Asking
pub mod RequestPromises
pub mod Alone
pub mod Linked
pub mod Links
pub mod Joining
pub mod Rebinding
pub mod Forged
pub mod Loops
pub mod LoopStages
pub mod Small
-- Crates that build on this one reach these definitions through it.
pub use Rattle.turn_client_proto_messages.specs as TurnClientProtoMessages
pub use Rattle.turn_client_proto_handshake_laws.specs as TurnClientProtoHandshakeLaws
pub use Rattle.turn_client_proto_progress_laws.specs as TurnClientProtoProgressLaws
