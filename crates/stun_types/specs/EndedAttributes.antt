-- Which of the integrity attributes and FINGERPRINT a writer has.
pub use Rattle.stun_types_write.specs.declared.ended.Ended.{Ended}
