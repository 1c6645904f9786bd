pub mod Decoded
-- Crates above this one reach these proofs through it.
pub use Rattle.stun_types_message.proofs as StunTypesMessage
