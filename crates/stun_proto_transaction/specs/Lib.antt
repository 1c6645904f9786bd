pub mod Schedule
pub mod Agents
pub mod StoredTimes
pub mod StoredRequests
pub mod Least
pub mod OutstandingCodes
pub mod Sorted
pub mod Sound
pub mod TransactionCodes
pub mod Watched
-- Re-exports for the crates above this one.
pub use Rattle.stun_types_message.specs.Wire as Wire
pub use Rattle.stun_types_message.specs.Base as Base
