-- Encoding one algorithm in four bytes, and decoding it.
use Rattle.std.proofs.Common.{◌≡◌, None, refl, sym, ap, ◌∙◌, arith}
use Rattle.stun_types_write.specs.Adding.{attr_of}
use Rattle.stun_types_write.proofs.Values.{value_is_accepted}
use Rattle.stun_types_auth_attributes.specs.declared.algorithm.PasswordAlgorithmValue.{PasswordAlgorithmValue}
use Rattle.stun_types_auth_attributes.specs.declared.algorithm.PasswordAlgorithmValue.TheVariants.{MD5, SHA256, SHA512}
use Rattle.stun_types_auth_attributes.specs.PasswordAlgorithmNumbers.{number_of, is_known, number_refusal}
use Rattle.stun_types_auth_attributes.specs.Entries.{entry, algorithm_value, number_decoded, algorithm_read_refusal}
use Rattle.stun_types_write.specs.Wire.Registry.{password_algorithm_kind}

-- Decoding an encoded algorithm and encoding it again gives the same value.
pub decoded_again : (a : PasswordAlgorithmValue) → entry (number_decoded (algorithm_value a)) ≡ algorithm_value a
unfolding number_decoded
decoded_again MD5 = refl
decoded_again SHA256 = refl
decoded_again SHA512 = refl

-- Two algorithms with the same number are equal.
pub same_number : (a b : PasswordAlgorithmValue) → number_of a ≡ number_of b → a ≡ b
same_number MD5 MD5 h = refl
same_number MD5 SHA256 h = absurd (omega (arith, h))
same_number MD5 SHA512 h = absurd (omega (arith, h))
same_number SHA256 MD5 h = absurd (omega (arith, h))
same_number SHA256 SHA256 h = refl
same_number SHA256 SHA512 h = absurd (omega (arith, h))
same_number SHA512 MD5 h = absurd (omega (arith, h))
same_number SHA512 SHA256 h = absurd (omega (arith, h))
same_number SHA512 SHA512 h = refl

number_again : (a : PasswordAlgorithmValue) → number_decoded (algorithm_value a) ≡ number_of a
unfolding number_decoded
number_again MD5 = refl
number_again SHA256 = refl
number_again SHA512 = refl

-- Two algorithms with the same value are equal.
pub same_algorithm : (a b : PasswordAlgorithmValue) → algorithm_value a ≡ algorithm_value b → a ≡ b
same_algorithm a b h = same_number a b (sym (number_again a) ∙ (ap number_decoded h ∙ number_again b))

-- An encoded algorithm is not refused.
pub algorithm_is_accepted : (a : PasswordAlgorithmValue) → algorithm_read_refusal (attr_of password_algorithm_kind (algorithm_value a)) ≡ None
unfolding algorithm_read_refusal number_refusal is_known number_decoded
algorithm_is_accepted MD5 = rw (value_is_accepted password_algorithm_kind 4 4 (algorithm_value MD5) (omega arith) (omega arith)) refl
algorithm_is_accepted SHA256 = rw (value_is_accepted password_algorithm_kind 4 4 (algorithm_value SHA256) (omega arith) (omega arith)) refl
algorithm_is_accepted SHA512 = rw (value_is_accepted password_algorithm_kind 4 4 (algorithm_value SHA512) (omega arith) (omega arith)) refl

-- The rules for encoding an algorithm and decoding it.
pub ruleset algorithms = (algorithm_is_accepted, decoded_again, same_algorithm)

-- Unfolding this name unfolds both definitions on its line, those of known numbers.
unfoldable pub known : Type 0
unfolding is_known number_refusal
known = Unit {0}
