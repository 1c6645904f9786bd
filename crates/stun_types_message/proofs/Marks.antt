-- The marks of the listed types.
use Rattle.std.specs.Prelude.{◌≡◌, ℕ, false, replicate, List, [], map}
use Rattle.std.proofs.Common.{ap}
use Rattle.std.proofs.lemmas.List.{get_or-replicate}
use Rattle.stun_types_attributes.specs.Wire.declared.attribute.AttributeType.{AttributeType}
use Rattle.stun_types_message.specs.declared.check.Unknown.{Unknown}
use Rattle.stun_types_message.specs.MarkedTypes.{IsListing}

-- At the start nothing is listed.
pub none_marked : (n : ℕ) (unknown : Unknown) → n ≡ 0x8000 → unknown.count ≡ 0 → unknown.types.items ≡ [] → IsListing [] (replicate n false) unknown
none_marked n unknown all none empty = record {
  marked = λ kind h. get_or-replicate n kind false false (rw all h);
  counted = none;
  types = λ _. ap (λ (l : List AttributeType). map (λ (t : AttributeType). t.0) l) empty;
}
