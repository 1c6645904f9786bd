-- Which common algorithm is the strongest.
use Rattle.std.proofs.Common.{◌≡◌, ℕ, Bool, true, false, List, Option, refl}
use Rattle.stun_proto_auth.specs.Wire.declared.algorithm.IntegrityAlgorithm.{IntegrityAlgorithm}
use Rattle.stun_proto_auth.specs.Wire.declared.algorithm.IntegrityAlgorithm.TheVariants.{Sha1, Sha256, Sha512}
use Rattle.stun_proto_auth.specs.Wire.Strength.{is_stronger}
use Rattle.stun_proto_client.specs.Choice.{HasNoneCommon, IsStrongest, is_common}

-- No algorithm is stronger than `Sha512`.
over_sha512 : (other : IntegrityAlgorithm) → is_stronger other Sha512 ≡ false
over_sha512 Sha1 = refl
over_sha512 Sha256 = refl
over_sha512 Sha512 = refl

pub sha512_is_strongest : (own : List IntegrityAlgorithm) (hardened : Bool) (offered : Option (List ℕ)) → is_common own hardened offered Sha512 ≡ true → IsStrongest own hardened offered Sha512
sha512_is_strongest own hardened offered common = record { common = common; greatest = λ other _. over_sha512 other }

over_sha256 : (own : List IntegrityAlgorithm) (hardened : Bool) (offered : Option (List ℕ)) → is_common own hardened offered Sha512 ≡ false → (other : IntegrityAlgorithm) → is_common own hardened offered other ≡ true → is_stronger other Sha256 ≡ false
over_sha256 own hardened offered sha512 Sha1 common = refl
over_sha256 own hardened offered sha512 Sha256 common = refl
over_sha256 own hardened offered sha512 Sha512 common = absurd cc

pub sha256_is_strongest : (own : List IntegrityAlgorithm) (hardened : Bool) (offered : Option (List ℕ)) → is_common own hardened offered Sha512 ≡ false → is_common own hardened offered Sha256 ≡ true → IsStrongest own hardened offered Sha256
sha256_is_strongest own hardened offered sha512 common = record { common = common; greatest = over_sha256 own hardened offered sha512 }

over_sha1 : (own : List IntegrityAlgorithm) (hardened : Bool) (offered : Option (List ℕ)) → is_common own hardened offered Sha512 ≡ false → is_common own hardened offered Sha256 ≡ false → (other : IntegrityAlgorithm) → is_common own hardened offered other ≡ true → is_stronger other Sha1 ≡ false
over_sha1 own hardened offered sha512 sha256 Sha1 common = refl
over_sha1 own hardened offered sha512 sha256 Sha256 common = absurd cc
over_sha1 own hardened offered sha512 sha256 Sha512 common = absurd cc

pub sha1_is_strongest : (own : List IntegrityAlgorithm) (hardened : Bool) (offered : Option (List ℕ)) → is_common own hardened offered Sha512 ≡ false → is_common own hardened offered Sha256 ≡ false → is_common own hardened offered Sha1 ≡ true → IsStrongest own hardened offered Sha1
sha1_is_strongest own hardened offered sha512 sha256 common = record { common = common; greatest = over_sha1 own hardened offered sha512 sha256 }

pub none_is_common : (own : List IntegrityAlgorithm) (hardened : Bool) (offered : Option (List ℕ)) → is_common own hardened offered Sha512 ≡ false → is_common own hardened offered Sha256 ≡ false → is_common own hardened offered Sha1 ≡ false → HasNoneCommon own hardened offered
none_is_common own hardened offered sha512 sha256 sha1 Sha1 = sha1
none_is_common own hardened offered sha512 sha256 sha1 Sha256 = sha256
none_is_common own hardened offered sha512 sha256 sha1 Sha512 = sha512

-- The cases of the choice.
pub ruleset choices = (sha512_is_strongest, sha256_is_strongest, sha1_is_strongest, none_is_common)
