-- The two values of an EVEN-PORT.
use Rattle.std.proofs.Common.{◌≡◌, ℕ, Bool, true, false, None, refl, sym, ap, ◌∙◌, arith}
use Rattle.stun_types_integrity.specs.Write.Adding.{attr_of}
use Rattle.stun_types_integrity.specs.Write.ValueReading.{value_refusal}
use Rattle.stun_types_integrity.proofs.Write.Values.{value_is_accepted}
use Rattle.turn_types_attributes.specs.EvenPorts.{even_port_value, reserves_in}

-- Decoding the value gives the bit.
pub reserves_again : (reserves : Bool) → reserves_in (even_port_value reserves) ≡ reserves
reserves_again true = refl
reserves_again false = refl

-- Two EVEN-PORTs with the same value are equal.
pub same_even_port : (a b : Bool) → even_port_value a ≡ even_port_value b → a ≡ b
same_even_port a b h = sym (reserves_again a) ∙ (ap reserves_in h ∙ reserves_again b)

-- Reading does not reject a written EVEN-PORT.
pub even_port_is_accepted : (kind : ℕ) (reserves : Bool) → value_refusal kind 1 1 (attr_of kind (even_port_value reserves)) ≡ None
even_port_is_accepted kind reserves = value_is_accepted kind 1 1 (even_port_value reserves) (omega arith) (omega arith)

-- A written EVEN-PORT is accepted and is read back.
pub ruleset even_ports = (even_port_is_accepted, reserves_again, same_even_port)
