pub mod Bytes
pub mod Masks
pub mod Codes
pub mod TypeLists
pub mod TypeMarks
-- Re-exports for the crates above this one.
pub use Rattle.stun_types_wire.proofs as Wire
pub use Rattle.stun_types_auth_attributes.proofs as AuthAttributes
pub use Rattle.stun_types_wire.proofs.Base as Base
