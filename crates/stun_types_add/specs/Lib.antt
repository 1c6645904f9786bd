pub mod FingerprintValues
pub mod Calls
-- Crates above this one reach these definitions through it.
pub use Rattle.stun_types_integrity.specs as Integrity
pub use Rattle.stun_types_integrity.specs.Write as Write
