pub mod Headers
pub mod NameMaps
pub mod Whole
pub mod Scan
pub mod Left
pub mod Longest
pub mod Numbers
pub mod HeaderLaws
pub mod Ends
pub mod Fingerprints
pub mod Texts
pub mod Converse
pub mod Written
-- Re-exports for the crates above this one.
pub use Rattle.stun_types_base.proofs as Base
