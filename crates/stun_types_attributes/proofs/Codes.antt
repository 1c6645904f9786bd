-- An encoded ERROR-CODE is decoded as the same code and reason phrase.
use Rattle.std.proofs.Common.{◌≡◌, ℕ, ◌+◌, ◌*◌, ◌/◌, ◌%◌, ◌≤◌, length, None, sym, ap, ◌∙◌, arith}
use Rattle.std.proofs.lemmas.Grind.{common_steps}
use Rattle.stun_types_auth_attributes.specs.Write.Adding.{attr_of}
use Rattle.stun_types_auth_attributes.specs.Write.ValueReading.{utf8_refusal}
use Rattle.stun_types_auth_attributes.proofs.Write.Values.{value_is_accepted}
use Rattle.stun_types_wire.specs.Registry.{longest_text}
use Rattle.stun_types_attributes.specs.ErrorCodes.{CodeAndReason, error_value}
use Rattle.stun_types_attributes.specs.ErrorCodeReading.{code_refusal, error_decoded, error_read_refusal}

code_again : (n : ℕ) → 100 * (n / 100) + n % 100 ≡ n
code_again n = omega arith

-- Decoding an encoded ERROR-CODE gives its code and its reason phrase.
pub decoded_again : (e : CodeAndReason) → error_decoded (error_value e) ≡ e
decoded_again e = ap (λ n. let decoded : CodeAndReason = record { code = n; reason = e.reason } in decoded) (code_again e.code)

-- Two ERROR-CODEs with the same value are equal.
pub same_error : (d e : CodeAndReason) → error_value d ≡ error_value e → d ≡ e
same_error d e h = sym (decoded_again d) ∙ ap error_decoded h ∙ decoded_again e

-- A code from 300 to 699 is not refused.
pub code_is_accepted : (e : CodeAndReason) → 300 ≤ e.code → e.code ≤ 699 → code_refusal (error_value e) ≡ None
unfolding code_refusal
code_is_accepted e least most =
    let a : 3 ≤ e.code / 100 = omega arith in
    let b : e.code / 100 ≤ 6 = omega arith in
    let d : e.code % 100 ≤ 99 = omega arith in
    grind (arith, common_steps, a, b, d)

-- An encoded ERROR-CODE is not refused.
pub error_is_accepted : (e : CodeAndReason) → 300 ≤ e.code → e.code ≤ 699 → length e.reason ≤ longest_text → utf8_refusal e.reason ≡ None → error_read_refusal (attr_of 9 (error_value e)) ≡ None
unfolding error_read_refusal
error_is_accepted e least most short text =
    rw (value_is_accepted 9 4 (4 + longest_text) (error_value e) (omega arith) (omega arith)) (rw (code_is_accepted e least most) text)

-- The rules for encoding an ERROR-CODE and decoding it.
pub ruleset error_values = (error_is_accepted, decoded_again, same_error)
