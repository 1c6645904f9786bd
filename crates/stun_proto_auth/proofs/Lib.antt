pub mod Below
pub mod Adding
pub mod NonceLemmas
pub mod Keeping
pub mod Entries
pub mod Listed
pub mod KnownLists
pub mod Lasts
pub mod Counting
pub mod Making
pub mod Reaching
-- Re-exports for the crates above this one.
pub use Rattle.stun_types_message.proofs as Message
pub use Rattle.stun_types_message.proofs.Base as Base
