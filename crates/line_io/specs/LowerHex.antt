-- Bytes in hex.
use Rattle.std.specs.Prelude.{ℕ, ◌==◌, ◌&&◌, Bool, if◌then◌else◌, List, [], length, slice_index, Option, Some, None, codes}
use Rattle.std.specs.Result.{result_ok}
use Rattle.std.specs.List.{list_any}
use Rattle.std.specs.Char.{is_ascii_uppercase}
use Rattle.hex.specs.Hex.{decode_of, encode_lower}

-- The bytes that a text encodes in lower case hex, if it does.
unfoldable pub hex_bytes : List ℕ → Option (List ℕ)
hex_bytes text = if list_any is_ascii_uppercase text then None else result_ok (decode_of text)

-- Whether a word is `-`.
abbrev pub is_dash : List ℕ → Bool
is_dash word = length word == 1 && slice_index word 0 == 45

-- The bytes that a word encodes: none for `-`, otherwise those that it encodes in lower case hex.
unfoldable pub word_bytes : List ℕ → Option (List ℕ)
word_bytes word = if is_dash word then Some [] else hex_bytes word

-- The hex encoding of bytes, or `-` if there are none.
abbrev pub hex_text : List ℕ → List ℕ
hex_text bytes = if length bytes == 0 then codes "-" else encode_lower bytes
