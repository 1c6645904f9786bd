pub mod Below
pub mod AddressErrors
pub mod EvenPorts
pub mod Families
pub mod Numbers
-- Re-exports for the crates above this one.
pub use Rattle.stun_types_integrity.proofs.Write as Write
pub use Rattle.stun_types_attributes.proofs.Wire as Wire
