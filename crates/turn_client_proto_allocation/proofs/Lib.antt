pub mod Changes
pub mod Earliest
pub mod Firsts
pub mod Prefixes
pub mod Undoing
pub mod Walks
pub mod Heads
pub mod Lent
pub mod Reported
pub mod SetAgain
-- The crates above this one use these proofs through this file.
pub use Rattle.turn_types_frame.proofs as TurnTypesFrame
pub use Rattle.stun_proto_transaction.proofs as StunProtoTransaction
