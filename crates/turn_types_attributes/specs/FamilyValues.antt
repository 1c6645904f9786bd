-- The value of an attribute that requests an address family (RFC 8656, sections 18.6 and 18.11).
use Rattle.std.specs.Prelude.{ℕ, ◌==◌, ◌||◌, List, [], ◌∷◌, slice_index, Option, Some, None, if◌then◌else◌}
use Rattle.std.specs.Option.{option_or}
use Rattle.stun_types_attributes.specs.Base.declared.family.AddressFamily.{AddressFamily}
use Rattle.stun_types_attributes.specs.Base.declared.family.AddressFamily.TheVariants.{IPV4, IPV6}
use Rattle.stun_types_attributes.specs.Wire.Attributes.{Attr}
use Rattle.stun_types_attributes.specs.Wire.declared.error.StunParseError.{StunParseError}
use Rattle.stun_types_attributes.specs.Wire.declared.error.StunParseError.TheVariants.{InvalidAttributeData}
use Rattle.stun_types_attributes.specs.Wire.Registry.{ipv4_family, ipv6_family}
use Rattle.stun_types_integrity.specs.Write.ValueReading.{value_refusal}

-- The number of a family.
abbrev pub family_number : AddressFamily → ℕ
family_number IPV4 = ipv4_family
family_number IPV6 = ipv6_family

-- A number and three zero bytes, which a reader ignores.
abbrev pub family_entry : ℕ → List ℕ
family_entry number = number ∷ 0 ∷ 0 ∷ 0 ∷ []

-- The value for a family: its number and three zero bytes.
abbrev pub family_value : AddressFamily → List ℕ
family_value family = family_entry (family_number family)

-- The error, if any, when a number is not that of a family.
unfoldable pub family_refusal : ℕ → Option StunParseError
family_refusal number = if number == ipv4_family || number == ipv6_family then None else Some InvalidAttributeData

-- The error, if any, when an attribute is read as a family in an attribute of type `kind`.
unfoldable pub family_read_refusal : ℕ → Attr → Option StunParseError
family_read_refusal kind a = option_or (value_refusal kind 4 4 a) (family_refusal (slice_index a.value 0))
