-- The message classes, by name.
pub use Rattle.stun_types_wire.specs.declared.class.MessageClass.{MessageClass}
pub use Rattle.stun_types_wire.specs.declared.class.MessageClass.TheVariants.{Request, Indication, Success, Error}
