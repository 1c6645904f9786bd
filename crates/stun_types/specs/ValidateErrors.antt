-- The errors of validating a message under credentials, by name.
pub use Rattle.stun_types_wire.specs.declared.error.ValidateError.{ValidateError}
pub use Rattle.stun_types_wire.specs.declared.error.ValidateError.TheVariants.{Parse, IntegrityFailed}
