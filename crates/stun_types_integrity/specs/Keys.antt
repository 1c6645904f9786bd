-- The key of short-term or long-term credentials (RFC 8489, sections 9.1.1 and 9.2.2).
use Rattle.stun_types_write.specs.Wire.declared.algorithm.IntegrityAlgorithm.{IntegrityAlgorithm}
use Rattle.stun_types_integrity.specs.declared.credentials.MessageIntegrityCredentials.{MessageIntegrityCredentials}
use Rattle.stun_types_integrity.specs.declared.credentials.MessageIntegrityCredentials.TheVariants.{ShortTerm, LongTerm}
use Rattle.stun_types_integrity.specs.Credentials.{Key, short_term_key, long_term_key}

abbrev pub key_of : MessageIntegrityCredentials → IntegrityAlgorithm → Key
key_of (ShortTerm secret) algorithm = short_term_key secret algorithm
key_of (LongTerm secret) algorithm = long_term_key secret algorithm
