pub mod Answering
pub mod Draws
pub mod Expires
pub mod Lasting
pub mod Polls
pub mod Unsent
pub mod Reports
pub mod Spans
pub mod Usual
-- Re-exports for the crates above this one.
pub use Rattle.stun_proto_agent.proofs as StunProtoAgent
pub use Rattle.turn_client_proto_messages.proofs as Messages
pub use Rattle.turn_client_proto_peers.proofs as Peers
