pub mod Texts
pub mod PasswordAlgorithmNumbers
pub mod Entries
pub mod Userhashes
-- Re-exports for the crates above this one.
pub use Rattle.stun_types_write.specs as Write
