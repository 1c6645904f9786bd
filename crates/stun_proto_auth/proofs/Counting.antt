-- The size of parts, counted one part after another.
use Rattle.std.proofs.Common.{◌≡◌, ℕ, ◌+◌, ◌<◌, ◌≤◌, min, List, [], ◌∷◌, length, drop, get_or, refl, ◌∙◌, subst, arith, drop_of_length-le}
use Rattle.std.proofs.lemmas.Bool.{le-leb}
use Rattle.stun_types_message.specs.Wire.declared.algorithm.IntegrityAlgorithm.{IntegrityAlgorithm}
use Rattle.stun_types_message.specs.Wire.RawBytes.{greatest_len}
use Rattle.std.specs.Prelude.{Option}
use Rattle.stun_proto_auth.specs.Addition.{PartOf, size_of_part}
use Rattle.stun_proto_auth.specs.Sizes.{are_within, size_of_addition, size_of_parts, size_of_signature}
use Rattle.stun_proto_auth.proofs.Reaching.{next_of}

-- Loop state: the parts before `left` are within their limits, and `total` counts them and the integrity
-- attribute. `total` plus the size of `left` is the size of the addition, both capped at the greatest
-- `usize`.
pub record IsCounted (all left : List PartOf) (signature total : ℕ) : Type 0 where
  pub within : are_within all ≡ are_within left
  pub sum : min (total + size_of_parts left) greatest_len ≡ min (size_of_parts all + signature) greatest_len
  pub short : total ≤ greatest_len

pub counted_first : (all : List PartOf) (signature total : ℕ) → total ≡ signature → total ≤ greatest_len → IsCounted all all signature total
counted_first all signature total is short = record { within = refl; sum = omega arith; short = short }

counted_next : (all rest : List PartOf) (p : PartOf) (signature total bytes after : ℕ) → IsCounted all (p ∷ rest) signature total → length p.value ≤ p.most
    → bytes ≡ size_of_part p → after ≡ min (total + bytes) greatest_len → IsCounted all rest signature after
counted_next all rest p signature total bytes after c fits is more =
    let sum = c.sum in
    record {
      within = c.within ∙ rw (le-leb (length p.value) p.most fits) refl;
      sum = omega arith;
      short = omega arith;
    }

at_index : (all : List PartOf) (index : ℕ) (p d : PartOf) (signature total : ℕ) → index < length all → p ≡ get_or all index d
    → IsCounted all (drop index all) signature total → IsCounted all (p ∷ drop (index + 1) all) signature total
at_index all index p d signature total below is c =
    subst (λ (left : List PartOf). IsCounted all left signature total) (next_of all index p d below is) c

pub counted_step : (all : List PartOf) (index : ℕ) (p d : PartOf) (signature total bytes after : ℕ) → index < length all → p ≡ get_or all index d
    → IsCounted all (drop index all) signature total → length p.value ≤ p.most → bytes ≡ size_of_part p → after ≡ min (total + bytes) greatest_len
    → IsCounted all (drop (index + 1) all) signature after
counted_step all index p d signature total bytes after below is c fits bytes-are more =
    counted_next all (drop (index + 1) all) p signature total bytes after (at_index all index p d signature total below is c) fits bytes-are more

all_counted : (all : List PartOf) (algorithm : Option IntegrityAlgorithm) (total : ℕ) → IsCounted all [] (size_of_signature algorithm) total
    → total ≡ min (size_of_addition all algorithm) greatest_len
all_counted all algorithm total c =
    let sum = c.sum in
    let short = c.short in
    rw c.within (omega arith)

pub counted_end : (all : List PartOf) (index : ℕ) (algorithm : Option IntegrityAlgorithm) (total : ℕ) → length all ≤ index
    → IsCounted all (drop index all) (size_of_signature algorithm) total → total ≡ min (size_of_addition all algorithm) greatest_len
counted_end all index algorithm total end c =
    all_counted all algorithm total (subst (λ (left : List PartOf). IsCounted all left (size_of_signature algorithm) total) (drop_of_length-le all end) c)
