-- The errors of reading a visible attribute.
use Rattle.std.proofs.Common.{◌≡◌, Option, Some, sym, subst}
use Rattle.std.specs.Prelude.{Result}
use Rattle.stun_types_attributes.specs.Base.Refusals.{RefusesFor}
use Rattle.stun_types_attributes.specs.Wire.declared.attribute.AttributeType.{AttributeType}
use Rattle.stun_types_attributes.specs.Wire.declared.error.StunParseError.{StunParseError}
use Rattle.stun_types_attributes.specs.Wire.declared.error.StunParseError.TheVariants.{NoMemory}
use Rattle.stun_types_attributes.specs.Wire.Attributes.{Attr}
use Rattle.stun_types_message.specs.TypedReading.{read_of_refusal}

pub refused_as : {A : Type 0} (requested : AttributeType) (read_refusal : Attr → Option StunParseError) (there : Option Attr) (a : Attr) (result : Result A StunParseError) → there ≡ Some a → RefusesFor NoMemory (read_refusal a) result
    → RefusesFor NoMemory (read_of_refusal requested read_refusal there) result
refused_as requested read_refusal there a result is h = subst (λ (o : Option Attr). RefusesFor NoMemory (read_of_refusal requested read_refusal o) result) (sym is) h
