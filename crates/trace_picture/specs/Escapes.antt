-- Texts in SVG.
use Rattle.std.specs.Prelude.{ℕ, ◌==◌, ◌&&◌, not, nat_le, Bool, List, chars, codes, encode_utf8, if◌then◌else◌}
use Rattle.std.specs.List.{flat_map}

-- A character that XML allows in a text (XML 1.0, section 2.2), except tab, line feed and carriage return.
abbrev pub is_allowed : ℕ → Bool
is_allowed c = nat_le 32 c && not (c == 65534) && not (c == 65535)

-- A character between two tags. The four characters of markup become references (section 4.6), and a
-- character that is not allowed becomes U+FFFD.
abbrev pub listed_char : ℕ → List ℕ
listed_char c =
    if c == 38 then codes "&amp;"
    else if c == 60 then codes "&lt;"
    else if c == 62 then codes "&gt;"
    else if c == 34 then codes "&quot;"
    else if is_allowed c then encode_utf8 c
    else encode_utf8 65533

-- A text between two tags.
abbrev pub escaped : List ℕ → List ℕ
escaped text = flat_map listed_char (chars text)
