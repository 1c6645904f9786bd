pub mod Summing
pub mod Bounds
pub mod Edits
pub mod Finds
pub mod Firsts
pub mod Leasts
pub mod Maps
pub mod Nexts
pub mod Slots
pub mod Sounds
pub mod Views
-- Re-exports for the crates above this one.
pub use Rattle.stun_types_message.proofs.Base as Base
