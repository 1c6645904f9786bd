-- The choice of an algorithm that client and server have in common (RFC 8489, sections 9.2.5 and 14.11).
use Rattle.std.specs.Prelude.{◌≡◌, ℕ, Bool, ◌&&◌, true, false, List, Option, Some, None}
use Rattle.std.specs.List.{list_any}
use Rattle.stun_proto_auth.specs.Wire.declared.algorithm.IntegrityAlgorithm.{IntegrityAlgorithm}
use Rattle.stun_proto_auth.specs.Wire.declared.algorithm.IntegrityAlgorithm.TheVariants.{Sha1}
use Rattle.stun_proto_auth.specs.Wire.Strength.{is_stronger}
use Rattle.stun_proto_auth.specs.SupportedAlgorithms.{is_same_algorithm}
use Rattle.stun_proto_auth.specs.Lists.{lists}
use Rattle.stun_proto_auth.specs.Offers.{offers}

-- Whether the client supports an algorithm.
abbrev pub supports : List IntegrityAlgorithm → IntegrityAlgorithm → Bool
supports own algorithm = list_any (is_same_algorithm algorithm) own

-- Whether a list has an algorithm. A hardened client reads it entry by entry, as it may have unknown algorithms.
abbrev pub offers_to : Bool → List ℕ → IntegrityAlgorithm → Bool
offers_to false value algorithm = offers value algorithm
offers_to true value algorithm = lists value algorithm

-- Whether the server accepts an algorithm: its list has it or, without a list, the algorithm is `Sha1`.
abbrev pub takes : Bool → Option (List ℕ) → IntegrityAlgorithm → Bool
takes hardened (Some value) algorithm = offers_to hardened value algorithm
takes hardened None algorithm = is_same_algorithm Sha1 algorithm

-- Whether both sides have an algorithm.
abbrev pub is_common : List IntegrityAlgorithm → Bool → Option (List ℕ) → IntegrityAlgorithm → Bool
is_common own hardened offered algorithm = supports own algorithm && takes hardened offered algorithm

-- The strongest common algorithm: both sides have it, and no algorithm that both have is stronger.
pub record IsStrongest (own : List IntegrityAlgorithm) (hardened : Bool) (offered : Option (List ℕ))
    (chosen : IntegrityAlgorithm) : Type 0 where
  pub common : is_common own hardened offered chosen ≡ true
  pub greatest : (other : IntegrityAlgorithm) → is_common own hardened offered other ≡ true
      → is_stronger other chosen ≡ false

-- The two sides have no algorithm in common.
abbrev pub HasNoneCommon : List IntegrityAlgorithm → Bool → Option (List ℕ) → Type 0
HasNoneCommon own hardened offered = (other : IntegrityAlgorithm) → is_common own hardened offered other ≡ false
