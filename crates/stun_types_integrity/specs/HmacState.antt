-- The state of an HMAC before it has processed any text.
use Rattle.std.specs.Prelude.{ℕ, List, []}
use Rattle.sha1.specs.Sha1.{sha1, Holds}
use Rattle.sha2.specs.Sha256.{sha256}
use Rattle.sha2.specs.Sha512.{sha512}
use Rattle.sha2.specs.Hashers.{Holds256, Holds512}
use Rattle.stun_types_write.specs.Digest.HmacText.{HasText, IsUnkeyed}
use Rattle.stun_types_write.specs.Wire.declared.algorithm.IntegrityAlgorithm.{IntegrityAlgorithm}
use Rattle.stun_types_write.specs.Wire.declared.algorithm.IntegrityAlgorithm.TheVariants.{Sha1 as BySha1, Sha256 as BySha256, Sha512 as BySha512}
use Rattle.stun_types_integrity.specs.declared.hmac_state.HmacState.{HmacState}
use Rattle.stun_types_integrity.specs.declared.hmac_state.HmacState.TheVariants.{Sha1, Sha256, Sha512}

-- The algorithm of an HMAC.
abbrev pub hmac_algorithm : HmacState → IntegrityAlgorithm
hmac_algorithm (Sha1 _) = BySha1
hmac_algorithm (Sha256 _) = BySha256
hmac_algorithm (Sha512 _) = BySha512

-- The HMAC is unkeyed: its digests have processed nothing.
abbrev pub HasNoKey : HmacState → Type 0
HasNoKey (Sha1 hmac) = IsUnkeyed Holds hmac
HasNoKey (Sha256 hmac) = IsUnkeyed Holds256 hmac
HasNoKey (Sha512 hmac) = IsUnkeyed Holds512 hmac

-- The HMAC is keyed: its digests have processed the key with their pads, and no byte of a text.
abbrev pub HasKey : HmacState → List ℕ → Type 0
HasKey (Sha1 hmac) key = HasText Holds sha1 hmac key []
HasKey (Sha256 hmac) key = HasText Holds256 sha256 hmac key []
HasKey (Sha512 hmac) key = HasText Holds512 sha512 hmac key []
