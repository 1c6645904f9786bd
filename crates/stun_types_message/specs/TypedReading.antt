-- Visible attributes read as values of their own types.
use Rattle.std.specs.Prelude.{◌≡◌, ℕ, ◌==◌, List, slice_get, Option, Some, None, IsSomeAnd}
use Rattle.std.specs.List.{filter}
use Rattle.stun_types_attributes.specs.Wire.declared.attribute.AttributeType.{AttributeType}
use Rattle.stun_types_attributes.specs.Wire.declared.error.StunParseError.{StunParseError}
use Rattle.stun_types_attributes.specs.Wire.declared.error.StunParseError.TheVariants.{MissingAttribute}
use Rattle.stun_types_attributes.specs.Wire.Attributes.{Attr}

-- The attribute of a type that follows `n` others of that type.
abbrev pub nth_of_kind : ℕ → ℕ → List Attr → Option Attr
nth_of_kind kind n all = slice_get (filter (λ a. a.kind == kind) all) n

-- The value `read` was read from an attribute that is present and accepted. It has the attribute's type, and
-- its encoding is `read_value` of the attribute's value.
abbrev pub IsReadOf : {A : Type 0} → (A → ℕ) → (A → List ℕ) → (Attr → Option StunParseError) → (List ℕ → List ℕ)
    → Option Attr → A → Type 0
IsReadOf kind value read_refusal read_value there read = IsSomeAnd there
    (λ a. (read_refusal a ≡ None) × (kind read ≡ a.kind) × (value read ≡ read_value a.value))

-- The error, if any, of reading an attribute: it is missing, or its type rejects the value.
abbrev pub read_of_refusal : AttributeType → (Attr → Option StunParseError) → Option Attr → Option StunParseError
read_of_refusal requested read_refusal None = Some (MissingAttribute requested)
read_of_refusal requested read_refusal (Some a) = read_refusal a
