-- Re-exports the results of a client's validation.
pub use Rattle.stun_proto_client.specs.declared.validation.LongTermClientValidation.{LongTermClientValidation}
pub use Rattle.stun_proto_client.specs.declared.validation.LongTermClientValidation.TheVariants.{ResendRequest, Validated}
