-- The message integrity algorithms, and which of two is stronger.
use Rattle.std.specs.Prelude.{ℕ, Bool, nat_lt, List, [], ◌∷◌}
use Rattle.stun_types_wire.specs.declared.algorithm.IntegrityAlgorithm.{IntegrityAlgorithm}
use Rattle.stun_types_wire.specs.declared.algorithm.IntegrityAlgorithm.TheVariants.{Sha1, Sha256, Sha512}

-- All algorithms, weaker ones first.
abbrev pub all_algorithms : List IntegrityAlgorithm
all_algorithms = Sha1 ∷ Sha256 ∷ Sha512 ∷ []

-- The number of algorithms that are not stronger than this one.
abbrev pub strength : IntegrityAlgorithm → ℕ
strength Sha1 = 1
strength Sha256 = 2
strength Sha512 = 3

-- Whether the first algorithm is stronger than the second.
abbrev pub is_stronger : IntegrityAlgorithm → IntegrityAlgorithm → Bool
is_stronger one other = nat_lt (strength other) (strength one)
