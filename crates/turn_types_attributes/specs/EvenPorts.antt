-- The value of an EVEN-PORT (RFC 8656, section 18.7).
use Rattle.std.specs.Prelude.{ℕ, nat_le, Bool, List, [], ◌∷◌, slice_index, if◌then◌else◌}
use Rattle.turn_types_attributes.specs.TurnRegistry.{reserve_bit}

-- One byte, whose top bit R is set if the next port is requested to be reserved. The other bits are zero.
abbrev pub even_port_value : Bool → List ℕ
even_port_value reserves = (if reserves then reserve_bit else 0) ∷ []

-- Whether the bit R is set in the first byte. The other bits are ignored.
abbrev pub reserves_in : List ℕ → Bool
reserves_in value = nat_le reserve_bit (slice_index value 0)
