pub mod Below
pub mod Peers
-- Re-exports for the crates above this one.
pub use Rattle.turn_types_attributes.proofs.Wire as Wire
