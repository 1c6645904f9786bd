-- The stored keys of a user in a realm.
use Rattle.std.specs.Prelude.{◌≡◌}
use Rattle.stun_proto_auth.specs.Wire.declared.algorithm.IntegrityAlgorithm.TheVariants.{Sha1, Sha256, Sha512}
use Rattle.stun_proto_auth.specs.Integrity.Credentials.{LongTermSecret, long_term_key}
use Rattle.stun_proto_verify.specs.declared.keys.UserKeys.{UserKeys}

-- The keys are those derived from a user's name, password and realm, one for each algorithm.
pub record AreKeysOf (secret : LongTermSecret) (keys : UserKeys) : Type 0 where
  pub sha1 : keys.sha1 ≡ long_term_key secret Sha1
  pub sha256 : keys.sha256 ≡ long_term_key secret Sha256
  pub sha512 : keys.sha512 ≡ long_term_key secret Sha512
