-- Address families and their four bytes.
use Rattle.std.proofs.Common.{◌≡◌, ℕ, List, slice_index, None, refl, sym, ap, ◌∙◌, arith}
use Rattle.stun_types_attributes.specs.Base.declared.family.AddressFamily.{AddressFamily}
use Rattle.stun_types_attributes.specs.Base.declared.family.AddressFamily.TheVariants.{IPV4, IPV6}
use Rattle.stun_types_integrity.specs.Write.Adding.{attr_of}
use Rattle.stun_types_integrity.proofs.Write.Values.{value_is_accepted}
use Rattle.turn_types_attributes.specs.FamilyValues.{family_number, family_value, family_refusal, family_read_refusal}

-- Two families with the same number are equal.
pub same_number : (a b : AddressFamily) → family_number a ≡ family_number b → a ≡ b
same_number IPV4 IPV4 h = refl
same_number IPV4 IPV6 h = absurd (omega (arith, h))
same_number IPV6 IPV4 h = absurd (omega (arith, h))
same_number IPV6 IPV6 h = refl

abbrev first_of : List ℕ → ℕ
first_of value = slice_index value 0

number_again : (a : AddressFamily) → first_of (family_value a) ≡ family_number a
number_again IPV4 = refl
number_again IPV6 = refl

-- Two families with the same value are equal.
pub same_family : (a b : AddressFamily) → family_value a ≡ family_value b → a ≡ b
same_family a b h = same_number a b (sym (number_again a) ∙ (ap first_of h ∙ number_again b))

-- Reading does not reject a written family.
pub family_is_accepted : (kind : ℕ) (a : AddressFamily) → family_read_refusal kind (attr_of kind (family_value a)) ≡ None
unfolding family_read_refusal family_refusal
family_is_accepted kind IPV4 = rw (value_is_accepted kind 4 4 (family_value IPV4) (omega arith) (omega arith)) refl
family_is_accepted kind IPV6 = rw (value_is_accepted kind 4 4 (family_value IPV6) (omega arith) (omega arith)) refl

-- The number of a family is not rejected.
pub number_is_known : (a : AddressFamily) → family_refusal (family_number a) ≡ None
unfolding family_refusal
number_is_known IPV4 = refl
number_is_known IPV6 = refl

-- A written family is accepted and is read back.
pub ruleset families = (family_is_accepted, same_family)
