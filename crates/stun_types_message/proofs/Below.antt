-- What tactics of this crate use of crates below.
pub use Rattle.stun_types_attributes.proofs.Wire.Left.{map_numbered}
pub use Rattle.stun_types_add.proofs.Write.Types.{any_numbers}
pub use Rattle.stun_types_attributes.specs.Wire.Grammar.{visible}
