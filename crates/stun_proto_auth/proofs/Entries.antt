-- Whether an algorithm is among the entries of a list, one entry after another.
use Rattle.std.proofs.Common.{◌≡◌, ℕ, ◌<◌, ◌≤◌, true, false, drop, take, List, length, refl, ◌==◌}
use Rattle.stun_types_message.specs.Wire.declared.algorithm.IntegrityAlgorithm.{IntegrityAlgorithm}
use Rattle.stun_types_message.specs.AuthAttributes.Entries.{number_decoded}
use Rattle.stun_types_message.proofs.AuthAttributes.Lists.{none_decoded, one_decoded}
use Rattle.stun_proto_auth.specs.SupportedAlgorithms.{number_by}
use Rattle.stun_proto_auth.specs.Offers.{offers}

-- Fewer than four bytes list no algorithm.
pub nothing_offered : (left : List ℕ) (algorithm : IntegrityAlgorithm) → length left < 4 → offers left algorithm ≡ false
nothing_offered left algorithm short = rw (none_decoded left short) refl

-- If the first entry has the algorithm's number, the list offers the algorithm; otherwise the entries after
-- it decide.
pub first_offered : (left : List ℕ) (algorithm : IntegrityAlgorithm) → 4 ≤ length left
    → (number_decoded (take 4 left) == number_by algorithm) ≡ true → offers left algorithm ≡ true
first_offered left algorithm enough same = rw (one_decoded left enough) (rw same refl)

pub other_offered : (left : List ℕ) (algorithm : IntegrityAlgorithm) → 4 ≤ length left
    → (number_decoded (take 4 left) == number_by algorithm) ≡ false → offers left algorithm ≡ offers (drop 4 left) algorithm
other_offered left algorithm enough other = rw (one_decoded left enough) (rw other refl)

-- The cases of what the remaining bytes offer.
pub ruleset offered = (nothing_offered, first_offered, other_offered)
