-- What a tactic of this crate uses of a crate below.
pub use Rattle.turn_types_attributes.proofs.Write.Values.{value_is_accepted}
