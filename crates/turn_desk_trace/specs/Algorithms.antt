-- The integrity algorithms of a trace.
use Rattle.std.specs.Prelude.{ℕ, ◌≡◌, List, [], ◌∷◌, ◌++◌, map, codes, Option, Some, None, false}
use Rattle.std.specs.List.{IsDistinct, list_any}
use Rattle.stun_proto_auth.specs.SupportedAlgorithms.{is_same_algorithm}
use Rattle.stun_types_wire.specs.declared.algorithm.IntegrityAlgorithm.{IntegrityAlgorithm}
use Rattle.stun_types_wire.specs.declared.algorithm.IntegrityAlgorithm.TheVariants.{Sha1, Sha256, Sha512}

-- The name of an algorithm.
abbrev pub algorithm_word : IntegrityAlgorithm → List ℕ
algorithm_word Sha1 = codes "sha1"
algorithm_word Sha256 = codes "sha256"
algorithm_word Sha512 = codes "sha512"

-- The words are the names of these algorithms, in order, and no algorithm occurs twice.
abbrev pub AreAlgorithms : List (List ℕ) → List IntegrityAlgorithm → Type 0
AreAlgorithms words algorithms = (words ≡ map algorithm_word algorithms) × IsDistinct is_same_algorithm algorithms

-- The algorithms that were read, or an empty list.
abbrev pub listed : Option (List IntegrityAlgorithm) → List IntegrityAlgorithm
listed None = []
listed (Some algorithms) = algorithms

-- The word is the name of an algorithm that is not in `before`, and `algorithms` is `before` with it
-- appended.
pub record IsAnother (before : List IntegrityAlgorithm) (word : List ℕ) (algorithms : List IntegrityAlgorithm)
    : Type 0 where
  pub algorithm : IntegrityAlgorithm
  pub named : word ≡ algorithm_word algorithm
  pub new : list_any (is_same_algorithm algorithm) before ≡ false
  pub whole : algorithms ≡ before ++ algorithm ∷ []
