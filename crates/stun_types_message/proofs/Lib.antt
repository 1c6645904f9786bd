pub mod Below
pub mod Composed
pub mod Splits
pub mod Covered
pub mod Signed
pub mod Fingerprints
pub mod Scanning
pub mod Shows
pub mod Refusals
pub mod Unknown
pub mod Validating
pub mod Last
pub mod Refusing
pub mod Listing
pub mod Marks
-- Crates above this one reach these proofs through it.
pub use Rattle.stun_types_add.proofs as Add
pub use Rattle.stun_types_attributes.proofs.AuthAttributes as AuthAttributes
pub use Rattle.stun_types_add.proofs.Write as Write
pub use Rattle.stun_types_attributes.proofs.Wire as Wire
pub use Rattle.stun_types_attributes.proofs.Base as Base
