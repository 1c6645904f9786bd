-- Re-exports the errors of a server's validation.
pub use Rattle.stun_proto_verify.specs.declared.error.LongTermServerAuthError.{LongTermServerAuthError}
pub use Rattle.stun_proto_verify.specs.declared.error.LongTermServerAuthError.TheVariants.{Unauthorized, IntegrityFailed, BadRequest, StaleNonce, NoMemory}
