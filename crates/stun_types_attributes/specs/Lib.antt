pub mod Addresses
pub mod Xor
pub mod ErrorCodes
pub mod ErrorCodeReading
pub mod TypeMarks
pub mod UnknownTypes
-- Crates that depend on this one use these definitions through it.
pub use Rattle.stun_types_auth_attributes.specs as AuthAttributes
pub use Rattle.stun_types_wire.specs as Wire
pub use Rattle.stun_types_wire.specs.Base as Base
