pub mod Truncating
pub mod TruncatedHmacs
pub mod Keys
pub mod Differences
-- Re-exports for the crates above this one.
pub use Rattle.stun_types_write.proofs as Write
