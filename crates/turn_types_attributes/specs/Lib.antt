pub mod AddressErrors
pub mod EvenPorts
pub mod FamilyValues
pub mod Transports
pub mod TurnRegistry
-- Crates above this one reach these definitions through it.
pub use Rattle.stun_types_attributes.specs.Wire as StunTypesWire
pub use Rattle.stun_types_attributes.specs as StunTypesAttributes
pub use Rattle.stun_types_integrity.specs as StunTypesIntegrity
pub use Rattle.stun_types_integrity.specs.Write as Write
pub use Rattle.stun_types_attributes.specs.Base as Base
