-- Lists of password algorithms that may have unknown ones (RFC 8489, sections 9.2.5 and 14.11).
use Rattle.std.specs.Prelude.{ℕ, ◌*◌, ◌==◌, ◌&&◌, Bool, List, length, sum_by, Option, Some, None, if◌then◌else◌}
use Rattle.std.specs.List.{list_any}
use Rattle.std.specs.Option.{option_or}
use Rattle.stun_types_message.specs.Wire.declared.algorithm.IntegrityAlgorithm.{IntegrityAlgorithm}
use Rattle.stun_types_message.specs.Wire.declared.error.StunParseError.{StunParseError}
use Rattle.stun_types_message.specs.Wire.declared.error.StunParseError.TheVariants.{InvalidAttributeData}
use Rattle.stun_types_message.specs.Wire.Attributes.{Attr, attr_size, attributes}
use Rattle.stun_types_message.specs.Wire.Registry.{most_algorithms, password_algorithms_kind}
use Rattle.stun_types_message.specs.Write.ValueReading.{value_refusal}
use Rattle.stun_proto_auth.specs.SupportedAlgorithms.{number_by}

-- An entry is laid out as an attribute is: the number of an algorithm, the length of its parameters, the
-- parameters, and their padding to a multiple of four bytes. So the complete entries with which a value begins are
-- its `attributes`: the kind is the number, and the value the parameters.

-- Whether a value consists of complete entries.
abbrev pub is_list : List ℕ → Bool
is_list value = length value == sum_by attr_size (attributes value)

-- Why an attribute is not a PASSWORD-ALGORITHMS that consists of complete entries, known or not.
unfoldable pub list_read_refusal : Attr → Option StunParseError
list_read_refusal a = option_or (value_refusal password_algorithms_kind 4 (4 * most_algorithms) a)
    (if is_list a.value then None else Some InvalidAttributeData)

-- Whether an entry is the password algorithm that derives the keys of an integrity algorithm. Such an entry has no
-- parameters; one that has some is unknown.
abbrev pub is_entry_of : IntegrityAlgorithm → Attr → Bool
is_entry_of algorithm entry = entry.kind == number_by algorithm && length entry.value == 0

-- Whether a value has an entry of the password algorithm that derives the keys of an integrity algorithm. Bytes
-- among the parameters of another algorithm are no entry.
abbrev pub lists : List ℕ → IntegrityAlgorithm → Bool
lists value algorithm = list_any (is_entry_of algorithm) (attributes value)
