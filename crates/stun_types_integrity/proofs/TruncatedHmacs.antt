-- Bytes of an allowed length are read as a possibly truncated HMAC.
use Rattle.std.proofs.Common.{◌≡◌, ℕ, ◌≤◌, List, length, None, arith}
use Rattle.std.specs.Prelude.{IsTrue}
use Rattle.std.proofs.lemmas.Grind.{common_steps}
use Rattle.stun_types_write.specs.Adding.{attr_of}
use Rattle.stun_types_write.proofs.Values.{value_is_accepted}
use Rattle.stun_types_integrity.specs.TruncatedHmacs.{fours_refusal, truncated_read_refusal, is_truncated_length}

at_least : (least whole len : ℕ) → IsTrue (is_truncated_length least whole len) → least ≤ len
at_least least whole len lawful = grind (arith, common_steps, lawful)

at_most : (least whole len : ℕ) → IsTrue (is_truncated_length least whole len) → len ≤ whole
at_most least whole len lawful = grind (arith, common_steps, lawful)

in_fours : (least whole : ℕ) (bytes : List ℕ) → IsTrue (is_truncated_length least whole (length bytes)) → fours_refusal bytes ≡ None
unfolding fours_refusal
in_fours least whole bytes lawful = grind (arith, common_steps, lawful)

pub lawful_is_accepted : (kind least whole : ℕ) (bytes : List ℕ)
    → IsTrue (is_truncated_length least whole (length bytes)) → truncated_read_refusal kind least whole (attr_of kind bytes) ≡ None
unfolding truncated_read_refusal
lawful_is_accepted kind least whole bytes lawful =
    rw (value_is_accepted kind least whole bytes (at_least least whole (length bytes) lawful) (at_most least whole (length bytes) lawful))
    (in_fours least whole bytes lawful)

-- A group of errors for proofs: unfolding it unfolds both definitions named on its `unfolding` line.
unfoldable pub refusals : Type 0
unfolding truncated_read_refusal fours_refusal
refusals = Unit {0}
