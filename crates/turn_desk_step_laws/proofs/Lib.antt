pub mod Answering
pub mod Asking
pub mod Granting
pub mod Replies
pub mod Served
pub mod Signing
pub mod Stepping
pub mod Strangers
pub mod Reported
pub mod Requesting
pub mod Succeeding
-- Crates that build on this one reach these proofs through it.
pub use Rattle.turn_client_proto_messages.proofs as TurnClientProtoMessages
pub use Rattle.turn_runs_laws.proofs as TurnRunsLaws
