-- The numbers of a trace.
use Rattle.std.specs.Prelude.{ℕ, ◌-◌, ◌^◌, List, length, replicate, ◌&&◌, nat_lt, nat_le, Bool, Option, Some, None, if◌then◌else◌}
use Rattle.std.specs.Option.{option_map}
use Rattle.std.specs.Str.{all_ascii_digits}
use Rattle.std.specs.Str.Parse.{digits_value}
use Rattle.turn_desk_trace.specs.declared.number.TheConstants.{SEED_LENGTH}

-- The word consists of one or more decimal digits.
abbrev pub is_numeral : List ℕ → Bool
is_numeral word = all_ascii_digits word && nat_lt 0 (length word)

-- The number that the word spells in decimal, if it consists of digits and the number is within the bounds.
unfoldable pub number_within : ℕ → ℕ → List ℕ → Option ℕ
number_within least most word =
    if is_numeral word && (nat_le least (digits_value 10 word) && nat_le (digits_value 10 word) most)
    then Some (digits_value 10 word) else None

-- The number that the word spells in decimal, if it consists of digits and the number fits into 64 bits.
abbrev pub number : List ℕ → Option ℕ
number word = number_within 0 (2 ^ 64 - 1) word

-- The seed that the word spells: all its bytes are the number of the word, 0 to 255.
abbrev pub seed_of : List ℕ → Option (List ℕ)
seed_of word = option_map (λ byte. replicate SEED_LENGTH byte) (number_within 0 255 word)
