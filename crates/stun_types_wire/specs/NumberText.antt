-- A transaction ID as it is printed.
use Rattle.std.specs.Prelude.{ℕ, List, codes, false, [], ◌++◌, ◌/◌, ◌%◌, ◌^◌, ◌-◌}
use Rattle.std.specs.Fmt.{padded_integral, format_spec, digits}

-- n in hex digits, padded with zeros to this width.
abbrev pub hex_of_width : ℕ → ℕ → List ℕ
hex_of_width width n = padded_integral (format_spec 32 0 4 width (2 ^ 64 - 1)) false [] (digits 16 false n)

-- `0x`, then the upper 32 bits in 8 digits and the lower 64 bits in 16.
abbrev pub number_text : ℕ → List ℕ
number_text n = codes "0x" ++ (hex_of_width 8 (n / 2 ^ 64) ++ hex_of_width 16 (n % 2 ^ 64))
