-- The kinds of credentials, by name.
pub use Rattle.stun_types_integrity.specs.declared.credentials.MessageIntegrityCredentials.{MessageIntegrityCredentials}
pub use Rattle.stun_types_integrity.specs.declared.credentials.MessageIntegrityCredentials.TheVariants.{ShortTerm, LongTerm}
