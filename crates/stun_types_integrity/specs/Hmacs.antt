-- The bytes and the algorithm of an HMAC.
use Rattle.std.specs.Prelude.{ℕ, List}
use Rattle.stun_types_write.specs.Wire.declared.algorithm.IntegrityAlgorithm.{IntegrityAlgorithm}
use Rattle.stun_types_write.specs.Wire.declared.algorithm.IntegrityAlgorithm.TheVariants.{Sha1 as BySha1, Sha256 as BySha256, Sha512 as BySha512}
use Rattle.stun_types_integrity.specs.declared.hmac.IntegrityHmac.{IntegrityHmac}
use Rattle.stun_types_integrity.specs.declared.hmac.IntegrityHmac.TheVariants.{Sha1, Sha256, Sha512}

abbrev pub hmac_bytes : IntegrityHmac → List ℕ
hmac_bytes (Sha1 bytes) = bytes
hmac_bytes (Sha256 bytes) = bytes
hmac_bytes (Sha512 bytes) = bytes

abbrev pub algorithm_of_hmac : IntegrityHmac → IntegrityAlgorithm
algorithm_of_hmac (Sha1 _) = BySha1
algorithm_of_hmac (Sha256 _) = BySha256
algorithm_of_hmac (Sha512 _) = BySha512
