pub mod Attributes
pub mod Covered
pub mod Fingerprints
pub mod Generated
pub mod Grammar
pub mod Names
pub mod NamesView
pub mod NumberText
pub mod RawBytes
pub mod Registry
pub mod Shape
pub mod Strength
pub mod Text
pub mod TypeBytes
pub mod Types
pub mod Fingerprinted
pub mod Headers
pub mod MessageReading
-- Crates that depend on this one use these definitions through it.
pub use Rattle.stun_types_digest.specs as Digest
pub use Rattle.stun_types_base.specs as Base
