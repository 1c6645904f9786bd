-- Re-exports the changes that a caller can make to an outstanding request, and what of a request is
-- cancelled.
pub use Rattle.stun_proto_transaction.specs.declared.transaction.Cancelled.{Cancelled}
pub use Rattle.stun_proto_transaction.specs.declared.transaction.Cancelled.TheVariants.{Nothing, Retransmissions, Whole}
pub use Rattle.stun_proto_transaction.specs.declared.transaction.Change.{Change}
pub use Rattle.stun_proto_transaction.specs.declared.transaction.Change.TheVariants.{Cancel, CancelRetransmissions, ConfigureTimeout}
