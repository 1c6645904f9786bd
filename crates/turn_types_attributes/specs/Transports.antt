-- The value of a REQUESTED-TRANSPORT (RFC 8656, section 18.8).
use Rattle.std.specs.Prelude.{ℕ, List, [], ◌∷◌}

-- The protocol number and three zero bytes, which a reader ignores.
abbrev pub transport_value : ℕ → List ℕ
transport_value protocol = protocol ∷ 0 ∷ 0 ∷ 0 ∷ []
