pub mod PeerValues
pub mod TurnShows
-- Re-exports for the crates above this one.
pub use Rattle.turn_types_attributes.specs as TurnAttributes
pub use Rattle.turn_types_attributes.specs.StunTypesWire as Wire
pub use Rattle.turn_types_attributes.specs.Base as Base
