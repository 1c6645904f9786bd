-- Lists of integrity algorithms.
use Rattle.std.specs.Prelude.{ℕ, Bool, nat_eq, true, false, if◌then◌else◌, List, [], ◌∷◌, ◌++◌, map}
use Rattle.std.specs.List.{list_any}
use Rattle.stun_types_message.specs.Wire.declared.algorithm.IntegrityAlgorithm.{IntegrityAlgorithm}
use Rattle.stun_types_message.specs.Wire.declared.algorithm.IntegrityAlgorithm.TheVariants.{Sha1, Sha256, Sha512}
use Rattle.stun_types_message.specs.Wire.Registry.{md5_number, sha256_number, sha512_number}
use Rattle.stun_types_message.specs.AuthAttributes.Entries.{entries}
use Rattle.stun_types_message.specs.Wire.Strength.{strength}

-- Whether two algorithms are the same. Different algorithms differ in strength.
abbrev pub is_same_algorithm : IntegrityAlgorithm → IntegrityAlgorithm → Bool
is_same_algorithm one other = nat_eq (strength one) (strength other)

-- The list with the algorithm appended, or the list itself if it has the algorithm already.
abbrev pub with_algorithm : List IntegrityAlgorithm → IntegrityAlgorithm → List IntegrityAlgorithm
with_algorithm algorithms algorithm =
    if list_any (is_same_algorithm algorithm) algorithms then algorithms else algorithms ++ algorithm ∷ []

-- Whether a server has to announce password algorithms to its clients: unless it supports only `Sha1` (RFC
-- 8489, section 9.2).
abbrev pub needs_password_algorithms : List IntegrityAlgorithm → Bool
needs_password_algorithms (Sha1 ∷ []) = false
needs_password_algorithms _ = true

-- The number of the password algorithm that derives the keys of an integrity algorithm (RFC 8489, sections
-- 18.5.1.1 and 18.5.1.2). The number for `Sha512` is specific to this project.
abbrev pub number_by : IntegrityAlgorithm → ℕ
number_by Sha1 = md5_number
number_by Sha256 = sha256_number
number_by Sha512 = sha512_number

-- The PASSWORD-ALGORITHMS value that lists the algorithms (RFC 8489, section 14.11).
abbrev pub list_of : List IntegrityAlgorithm → List ℕ
list_of algorithms = entries (map number_by algorithms)
