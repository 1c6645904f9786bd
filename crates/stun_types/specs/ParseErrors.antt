-- The errors of parsing, by name.
pub use Rattle.stun_types_wire.specs.declared.error.StunParseError.{StunParseError}
pub use Rattle.stun_types_wire.specs.declared.error.StunParseError.TheVariants.{NotStun, Truncated, TooLarge, MissingAttribute, AttributeAfterIntegrity, FingerprintMismatch, WrongAttributeImplementation, InvalidAttributeData, NoMemory}
