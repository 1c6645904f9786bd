pub mod AgentChanges
pub mod AgentRest
pub mod Codes
pub mod Handling
pub mod Numbers
pub mod RequestLending
pub mod Requests
pub mod Sending
pub mod State
pub mod View
-- Re-exported for the crates that depend on this one.
pub use Rattle.stun_proto_transaction.specs as Transaction
