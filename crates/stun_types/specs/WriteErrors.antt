-- The errors of making or adding an attribute, by name.
pub use Rattle.stun_types_wire.specs.declared.error.StunWriteError.{StunWriteError}
pub use Rattle.stun_types_wire.specs.declared.error.StunWriteError.TheVariants.{AttributeExists, FingerprintExists, MessageIntegrityExists, TooLarge, TooSmall, IntegrityFailed, OutOfRange, NoMemory}
