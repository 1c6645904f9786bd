pub mod Adding
pub mod Alls
pub mod Drafts
pub mod Lent
pub mod Outcomes
pub mod ValueReading
pub mod Scan
-- Re-exports for the crates above this one.
pub use Rattle.stun_types_wire.specs as Wire
pub use Rattle.stun_types_wire.specs.Base as Base
pub use Rattle.stun_types_wire.specs.Digest as Digest
