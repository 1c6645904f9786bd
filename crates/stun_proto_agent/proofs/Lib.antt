pub mod AgentMaps
pub mod Numbers
pub mod Quiet
pub mod Sent
-- Re-exported for the crates that depend on this one.
pub use Rattle.stun_proto_transaction.proofs as Transaction
