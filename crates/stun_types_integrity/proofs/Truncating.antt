-- Prefixes of byte lists.
use Rattle.std.proofs.Common.{◌≡◌, ◌↔◌, IsTrue, ℕ, Bool, List, ◌++◌, length, take, drop, ap, sym, ◌∙◌}
use Rattle.std.proofs.Math.Seq.{take-append_seam}
use Rattle.std.proofs.lemmas.List.{take-append-drop}
use Rattle.stun_types_integrity.specs.Integrity.{IsPrefix}

of_head : (truncated whole : List ℕ) → truncated ≡ take (length truncated) whole → IsPrefix truncated whole
of_head truncated whole is = record {
  rest = drop (length truncated) whole;
  parts = sym (take-append-drop (length truncated) whole) ∙ ap (λ head. head ++ drop (length truncated) whole) (sym is);
}

to_head : (truncated whole : List ℕ) → IsPrefix truncated whole → truncated ≡ take (length truncated) whole
to_head truncated whole h = sym (ap (take (length truncated)) h.parts ∙ take-append_seam truncated h.rest)

-- A prefix is equal to as many of the first bytes as it has.
pub head_compared : (r : Bool) (truncated head whole : List ℕ) → head ≡ take (length truncated) whole → IsTrue r ↔ (truncated ≡ head) → IsTrue r ↔ IsPrefix truncated whole
head_compared r truncated head whole is h =
    (λ yes. of_head truncated whole (h.0 yes ∙ is), λ prefix. h.1 (to_head truncated whole prefix ∙ sym is))
