-- How a list of supported algorithms is stored: in an array with a position for each existing algorithm.
use Rattle.std.specs.Prelude.{◌≡◌, ℕ, ◌≤◌, List, [], ◌∷◌, ◌++◌, length, take, drop}
use Rattle.std.specs.List.{IsDistinct}
use Rattle.std.proofs.Common.{sym, ap, ◌∙◌}
use Rattle.std.proofs.lemmas.List.{length-take-le, take-append-drop}
use Rattle.stun_types_message.specs.Wire.declared.algorithm.IntegrityAlgorithm.{IntegrityAlgorithm}
use Rattle.stun_types_message.specs.Wire.declared.algorithm.IntegrityAlgorithm.TheVariants.{Sha1}
use Rattle.stun_proto_auth.specs.SupportedAlgorithms.{is_same_algorithm, list_of}
use Rattle.stun_proto_auth.specs.declared.supported.SupportedIntegrity.TheInside.{Inside}

-- The content of unused positions.
abbrev pub blanks : List IntegrityAlgorithm
blanks = Sha1 ∷ Sha1 ∷ Sha1 ∷ []

-- The first `count` algorithms are the list: at least one, and none twice. The unused positions after them
-- have their fixed content, and `decoded` is the PASSWORD-ALGORITHMS value of all positions.
pub record AreStored (algorithms : List IntegrityAlgorithm) (decoded : List ℕ) (count : ℕ) : Type 0 where
  pub size : length algorithms ≡ length blanks
  pub some : 1 ≤ count
  pub within : count ≤ length algorithms
  pub distinct : IsDistinct is_same_algorithm (take count algorithms)
  pub rest : drop count algorithms ≡ drop count blanks
  pub entries : decoded ≡ list_of algorithms

-- The stored form of a list.
abbrev pub stored_as : List IntegrityAlgorithm → Inside
stored_as algorithms =
    let all = algorithms ++ drop (length algorithms) blanks in
    record { algorithms = all; entries = list_of all; count = length algorithms }

-- Storing the list that a stored form represents gives that stored form again.
pub stored_as-take : (s : Inside) → AreStored s.algorithms s.entries s.count → stored_as (take s.count s.algorithms) ≡ s
stored_as-take s stored =
    let head = take s.count s.algorithms in
    let long : length head ≡ s.count = length-take-le s.count s.algorithms stored.within in
    let all : head ++ drop (length head) blanks ≡ s.algorithms =
    ap (λ (n : ℕ). head ++ drop n blanks) long
    ∙ ap (λ (following : List IntegrityAlgorithm). head ++ following) (sym stored.rest)
    ∙ take-append-drop s.count s.algorithms in
    let decoded : list_of (head ++ drop (length head) blanks) ≡ s.entries = ap list_of all ∙ sym stored.entries in
    λ i. record { algorithms = all i; entries = decoded i; count = long i }
