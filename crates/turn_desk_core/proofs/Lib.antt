pub mod Adding
pub mod GrantedReplies
pub mod Room
pub mod Sizes
pub mod Granting
pub mod Lawful
pub mod Methods
pub mod Alike
pub mod Challenges
pub mod Definite
pub mod DeskAlone
pub mod DeskFixed
pub mod Grants
pub mod Keys
pub mod Nonces
pub mod Numbers
pub mod Ordinary
pub mod Responses
pub mod StepLaws
pub mod Unlimited
-- Crates that depend on this one reach these proofs through it.
pub use Rattle.stun_types_write.proofs as StunTypesWrite
pub use Rattle.stun_types_attributes.proofs as StunTypesAttributes
pub use Rattle.stun_types_message.proofs as StunTypesMessage
pub use Rattle.stun_proto_server.proofs as StunProtoServer
