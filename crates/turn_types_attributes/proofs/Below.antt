-- What a tactic of this crate uses of a crate below.
pub use Rattle.stun_types_integrity.proofs.Write.Values.{value_is_accepted}
