-- When the password algorithms in a message are consistent with the server's (RFC 8489, section 9.2.4).
use Rattle.std.specs.Prelude.{◌≡◌, ℕ, Bool, ◌&&◌, ◌==◌, nat_eq, true, false, List, Option, Some, None, ◌⊎◌}
use Rattle.std.specs.Cmp.Lexicographic.{pointwise}
use Rattle.std.specs.List.{list_any}
use Rattle.stun_proto_auth.specs.Wire.declared.algorithm.IntegrityAlgorithm.{IntegrityAlgorithm}
use Rattle.stun_proto_auth.specs.Wire.declared.algorithm.IntegrityAlgorithm.TheVariants.{Sha1}
use Rattle.stun_proto_auth.specs.SupportedAlgorithms.{is_same_algorithm, list_of, number_by}
use Rattle.stun_proto_auth.specs.Claims.{Claimed}

-- The message has neither PASSWORD-ALGORITHMS nor PASSWORD-ALGORITHM. Its last integrity attribute is
-- MESSAGE-INTEGRITY, whose algorithm the server supports.
pub record ShowsNone (supported : List IntegrityAlgorithm) (claim : Claimed) (algorithm : IntegrityAlgorithm)
    : Type 0 where
  pub list : claim.algorithms ≡ None
  pub choice : claim.algorithm ≡ None
  pub own : algorithm ≡ Sha1
  pub among : list_any (is_same_algorithm algorithm) supported ≡ true

-- The message has both attributes. PASSWORD-ALGORITHMS is the server's list, and PASSWORD-ALGORITHM is the
-- one for the algorithm of the last integrity attribute, which the server supports.
pub record ShowsBoth (supported : List IntegrityAlgorithm) (claim : Claimed) (algorithm : IntegrityAlgorithm)
    : Type 0 where
  pub list : claim.algorithms ≡ Some (list_of supported)
  pub choice : claim.algorithm ≡ Some (number_by algorithm)
  pub among : list_any (is_same_algorithm algorithm) supported ≡ true

-- The password algorithms in a message are consistent with the server's and with the algorithm of the last
-- integrity attribute.
abbrev pub AreConsistent : List IntegrityAlgorithm → Claimed → IntegrityAlgorithm → Type 0
AreConsistent supported claim algorithm = ShowsNone supported claim algorithm ⊎ ShowsBoth supported claim algorithm

-- Whether a PASSWORD-ALGORITHMS value and a PASSWORD-ALGORITHM number, each present or absent, are
-- consistent.
abbrev pub fits_visible : List IntegrityAlgorithm → Option (List ℕ) → Option ℕ → IntegrityAlgorithm → Bool
fits_visible supported None None algorithm =
    is_same_algorithm Sha1 algorithm && list_any (is_same_algorithm algorithm) supported
fits_visible supported (Some value) (Some number) algorithm = pointwise nat_eq value (list_of supported) &&
    (number == number_by algorithm && list_any (is_same_algorithm algorithm) supported)
fits_visible supported _ _ algorithm = false

-- Whether the password algorithms are consistent; `false` without an integrity attribute.
abbrev pub is_consistent : List IntegrityAlgorithm → Claimed → Option IntegrityAlgorithm → Bool
is_consistent supported claim None = false
is_consistent supported claim (Some algorithm) = fits_visible supported claim.algorithms claim.algorithm algorithm
