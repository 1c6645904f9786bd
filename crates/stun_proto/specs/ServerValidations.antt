-- Re-exports the results of a server's validation.
pub use Rattle.stun_proto_server.specs.declared.validation.LongTermServerValidation.{LongTermServerValidation}
pub use Rattle.stun_proto_server.specs.declared.validation.LongTermServerValidation.TheVariants.{Validated}
