pub mod FamilyLemmas
-- Re-exported for the crates above this one.
pub use Rattle.turn_types_frame.proofs as TurnTypesFrame
pub use Rattle.stun_proto_agent.proofs.Transaction as StunProtoTransaction
pub use Rattle.stun_proto_agent.proofs as StunProtoAgent
pub use Rattle.stun_proto_auth.proofs as StunProtoAuth
