-- Password algorithms (RFC 8489, section 18.5), and SHA-512, an extension of this project.
use Rattle.std.specs.Prelude.{ℕ, ◌==◌, ◌||◌, Bool, List, codes, Option, Some, None, if◌then◌else◌}
use Rattle.stun_types_write.specs.Wire.declared.algorithm.IntegrityAlgorithm.{IntegrityAlgorithm}
use Rattle.stun_types_write.specs.Wire.declared.algorithm.IntegrityAlgorithm.TheVariants.{Sha1, Sha256, Sha512}
use Rattle.stun_types_write.specs.Wire.declared.error.StunParseError.{StunParseError}
use Rattle.stun_types_write.specs.Wire.declared.error.StunParseError.TheVariants.{InvalidAttributeData}
use Rattle.stun_types_write.specs.Wire.Registry.{md5_number, sha256_number, sha512_number}
use Rattle.stun_types_auth_attributes.specs.declared.algorithm.PasswordAlgorithmValue.{PasswordAlgorithmValue}
use Rattle.stun_types_auth_attributes.specs.declared.algorithm.PasswordAlgorithmValue.TheVariants.{MD5, SHA256, SHA512}

-- The number of an algorithm.
abbrev pub number_of : PasswordAlgorithmValue → ℕ
number_of MD5 = md5_number
number_of SHA256 = sha256_number
number_of SHA512 = sha512_number

-- The message integrity algorithm for which a password algorithm derives keys (RFC 8489, sections 18.5.1.1
-- and 18.5.1.2).
abbrev pub integrity_of : PasswordAlgorithmValue → IntegrityAlgorithm
integrity_of MD5 = Sha1
integrity_of SHA256 = Sha256
integrity_of SHA512 = Sha512

-- The name of an algorithm.
abbrev pub name_of_algorithm : PasswordAlgorithmValue → List ℕ
name_of_algorithm MD5 = codes "MD5"
name_of_algorithm SHA256 = codes "SHA256"
name_of_algorithm SHA512 = codes "SHA512"

-- Whether an algorithm has this number.
unfoldable pub is_known : ℕ → Bool
is_known number = number == number_of MD5 || (number == number_of SHA256 || number == number_of SHA512)

-- Why a number is not that of an algorithm.
unfoldable pub number_refusal : ℕ → Option StunParseError
number_refusal number = if is_known number then None else Some InvalidAttributeData
