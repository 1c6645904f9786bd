pub mod UnsignedCalls
pub mod Same
pub mod Heads
pub mod MarkedTypes
pub mod Objections
pub mod Parsed
pub mod TypedReading
pub mod Shows
pub mod ShapeStages
pub mod MessageValidation
-- Re-exports for the crates above this one.
pub use Rattle.stun_types_attributes.specs.Wire as Wire
pub use Rattle.stun_types_attributes.specs.Base as Base
pub use Rattle.stun_types_add.specs as Add
pub use Rattle.stun_types_add.specs.Integrity as Integrity
pub use Rattle.stun_types_attributes.specs as Attributes
pub use Rattle.stun_types_attributes.specs.AuthAttributes as AuthAttributes
pub use Rattle.stun_types_add.specs.Write as Write
