-- The keys of credentials.
use Rattle.std.proofs.Common.{◌≡◌, refl}
use Rattle.stun_types_write.specs.Wire.declared.algorithm.IntegrityAlgorithm.{IntegrityAlgorithm}
use Rattle.stun_types_integrity.specs.declared.credentials.MessageIntegrityCredentials.{MessageIntegrityCredentials}
use Rattle.stun_types_integrity.specs.declared.credentials.MessageIntegrityCredentials.TheVariants.{ShortTerm, LongTerm}
use Rattle.stun_types_integrity.specs.Keys.{key_of}

-- The key that credentials make is made for the requested algorithm.
pub key_for : (credentials : MessageIntegrityCredentials) (algorithm : IntegrityAlgorithm) → (key_of credentials algorithm).algorithm ≡ algorithm
key_for (ShortTerm secret) algorithm = refl
key_for (LongTerm secret) algorithm = refl
