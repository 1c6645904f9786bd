-- What tactics of this crate use of crates below.
pub use Rattle.stun_types_message.specs.AuthAttributes.Entries.{number_decoded}
pub use Rattle.stun_types_message.specs.Write.Adding.{add_refusal}
