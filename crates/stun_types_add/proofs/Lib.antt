pub mod Turned
pub mod Below
pub mod FingerprintChunks
pub mod Added
pub mod Adds
pub mod Started
pub mod Chunks
pub mod Taken
pub mod Numbers
-- Re-exports for the crates above this one.
pub use Rattle.stun_types_integrity.proofs as Integrity
pub use Rattle.stun_types_integrity.proofs.Write as Write
