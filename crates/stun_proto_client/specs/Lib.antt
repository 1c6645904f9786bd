pub mod Challenges
pub mod Choice
pub mod Client
pub mod ClientErrors
pub mod ClientSigning
pub mod ClientSteps
pub mod ClientValidation
pub mod Digests
pub mod ShortTerm
-- Re-exported for the crates that depend on this one.
pub use Rattle.stun_proto_auth.specs.Integrity as StunTypesIntegrity
pub use Rattle.stun_proto_auth.specs.Message as StunTypesMessage
