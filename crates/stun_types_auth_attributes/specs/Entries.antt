-- Values that encode one password algorithm or several (RFC 8489, sections 14.11 and 14.12).
use Rattle.std.specs.Prelude.{ℕ, ◌+◌, ◌*◌, ◌%◌, ◌==◌, ◌&&◌, min, nat_lt, List, [], ◌∷◌, ◌++◌, length, map, Option, Some, None, if◌then◌else◌}
use Rattle.std.specs.Option.{option_or}
use Rattle.std.specs.List.{list_all}
use Rattle.byteorder.specs.Endian.{big_bytes, big_number}
use Rattle.stun_types_write.specs.Wire.declared.error.StunParseError.{StunParseError}
use Rattle.stun_types_write.specs.Wire.declared.error.StunParseError.TheVariants.{InvalidAttributeData, Truncated}
use Rattle.stun_types_write.specs.Wire.declared.error.StunWriteError.{StunWriteError}
use Rattle.stun_types_write.specs.Wire.declared.error.StunWriteError.TheVariants.{TooLarge}
use Rattle.stun_types_write.specs.Wire.Attributes.{Attr}
use Rattle.stun_types_write.specs.Wire.RawBytes.{greatest_len}
use Rattle.stun_types_write.specs.ValueReading.{value_refusal}
use Rattle.stun_types_auth_attributes.specs.declared.algorithm.PasswordAlgorithmValue.{PasswordAlgorithmValue}
use Rattle.stun_types_auth_attributes.specs.PasswordAlgorithmNumbers.{number_of, is_known, number_refusal}
use Rattle.stun_types_write.specs.Wire.Registry.{password_algorithm_kind, password_algorithms_kind, most_algorithms}

-- An entry: the number of an algorithm, and 0 as the length of its parameters.
abbrev pub entry : ℕ → List ℕ
entry number = big_bytes 2 number ++ big_bytes 2 0

-- The value of a PASSWORD-ALGORITHM.
abbrev pub algorithm_value : PasswordAlgorithmValue → List ℕ
algorithm_value algorithm = entry (number_of algorithm)

-- The number decoded from the value of a PASSWORD-ALGORITHM. The length of the parameters is ignored.
unfoldable pub number_decoded : List ℕ → ℕ
number_decoded value = big_number 2 value

-- Why an attribute is not a valid PASSWORD-ALGORITHM.
unfoldable pub algorithm_read_refusal : Attr → Option StunParseError
algorithm_read_refusal a = option_or (value_refusal password_algorithm_kind 4 4 a)
    (number_refusal (number_decoded a.value))

-- The concatenation of the entries of these numbers.
unfoldable pub entries : List ℕ → List ℕ
entries [] = []
entries (number ∷ numbers) = entry number ++ entries numbers

-- The value of a PASSWORD-ALGORITHMS.
abbrev pub algorithms_value : List PasswordAlgorithmValue → List ℕ
algorithms_value algorithms = entries (map number_of algorithms)

-- The numbers decoded from entries, in their order. Fewer than four bytes at the end are ignored.
unfoldable pub numbers_decoded : List ℕ → List ℕ
numbers_decoded [] = []
numbers_decoded (a ∷ []) = []
numbers_decoded (a ∷ b ∷ []) = []
numbers_decoded (a ∷ b ∷ c ∷ []) = []
numbers_decoded (a ∷ b ∷ c ∷ d ∷ rest) = (a * 256 + b) ∷ numbers_decoded rest

-- Why a value is not a list of entries of known algorithms.
unfoldable pub entries_refusal : List ℕ → Option StunParseError
entries_refusal value = if length value % 4 == 0 && list_all is_known (numbers_decoded value) then None
    else Some InvalidAttributeData

-- Why an attribute is not a valid PASSWORD-ALGORITHMS.
unfoldable pub algorithms_read_refusal : Attr → Option StunParseError
algorithms_read_refusal a = option_or (value_refusal password_algorithms_kind 4 (4 * most_algorithms) a)
    (entries_refusal a.value)

-- Why a PASSWORD-ALGORITHMS isn't decoded after it was encoded: the value of an empty list is too short.
abbrev pub none_decoded_refusal : List PasswordAlgorithmValue → Option StunParseError
none_decoded_refusal [] = Some (Truncated 4 0)
none_decoded_refusal (algorithm ∷ algorithms) = None

-- Why a PASSWORD-ALGORITHMS can't have `count` algorithms. The error has the length of the value in bytes, or
-- the greatest `usize` if that is less.
abbrev pub count_refusal : ℕ → Option StunWriteError
count_refusal count = if nat_lt most_algorithms count then Some
    (TooLarge (4 * most_algorithms) (min (4 * count) greatest_len)) else None
