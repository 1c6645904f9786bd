pub mod Algorithms
pub mod Lists
-- Re-exports for the crates above this one.
pub use Rattle.stun_types_write.proofs as Write
