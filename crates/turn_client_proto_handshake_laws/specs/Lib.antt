pub mod Driving
pub mod Promises
pub mod Sent
pub mod Requested
pub mod Choosing
pub mod Coming
pub mod Stages
-- Crates above this one get these definitions through it.
pub use Rattle.turn_client_proto_core.specs as Core
