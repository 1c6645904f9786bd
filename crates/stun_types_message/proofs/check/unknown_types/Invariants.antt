use Rattle.std.proofs.Common.{◌≡◌, ◌+◌, ◌*◌, ◌^◌, ◌<◌, ℕ, List, length, map}
use Rattle.std.specs.Prelude.{sum_by}
use Rattle.stun_types_attributes.specs.Wire.Attributes.{attr_size, attributes}
use Rattle.stun_types_attributes.specs.Wire.Grammar.{visible}
use Rattle.stun_types_message.specs.MarkedTypes.{IsListing}
use Rattle.stun_types_message.specs.Objections.{unknown_kinds}
use Rattle.stun_types_message.proofs.Listing.{listed_with}
use Rattle.stun_types_message.proofs.check.unknown_types.Given as goal

-- The listed types and the remaining attributes give the final list. What remains is complete attributes.
abbrev pub invariant-loop-left : goal.invariant-loop-left
invariant-loop-left l =
    (seen : List ℕ) ×
    IsListing seen l.listed l.unknown ×
    (length l.listed ≡ 0x8000) ×
    (listed_with (map (λ t. t.0) l.fn.supported) seen (attributes l.left) ≡ unknown_kinds (visible l.fn.msg) (map (λ t. t.0) l.fn.supported)) ×
    (sum_by attr_size (attributes l.left) ≡ length l.left) ×
    (4 * l.unknown.count + length l.left < 2 ^ 63)

abbrev pub decreases-loop-left : goal.decreases-loop-left
decreases-loop-left l = length l.left
