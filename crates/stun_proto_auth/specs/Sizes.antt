-- The sizes of what is added to a message.
use Rattle.std.specs.Prelude.{ℕ, ◌+◌, nat_le, Bool, List, [], ◌∷◌, length, Option, Some, None, if◌then◌else◌}
use Rattle.std.specs.List.{list_all}
use Rattle.std.specs.Option.{option_map}
use Rattle.stun_types_message.specs.Integrity.Credentials.{Key}
use Rattle.stun_types_message.specs.Wire.declared.algorithm.IntegrityAlgorithm.{IntegrityAlgorithm}
use Rattle.stun_types_message.specs.Integrity.Signing.{hmac_length}
use Rattle.stun_proto_auth.specs.Addition.{PartOf, Addition, size_of_part}

-- Whether every part is within its limit.
abbrev pub are_within : List PartOf → Bool
are_within parts = list_all (λ (p : PartOf). nat_le (length p.value) p.most) parts

-- The size in bytes of the parts' attributes.
abbrev pub size_of_parts : List PartOf → ℕ
size_of_parts [] = 0
size_of_parts (p ∷ rest) = size_of_part p + size_of_parts rest

-- The size in bytes of the integrity attribute of an algorithm; 0 without an algorithm.
abbrev pub size_of_signature : Option IntegrityAlgorithm → ℕ
size_of_signature None = 0
size_of_signature (Some algorithm) = 4 + hmac_length algorithm

-- The size in bytes of the parts and the integrity attribute. It is 0 if a part is over its limit, since
-- nothing is added then.
abbrev pub size_of_addition : List PartOf → Option IntegrityAlgorithm → ℕ
size_of_addition parts algorithm =
    if are_within parts then size_of_parts parts + size_of_signature algorithm else 0

-- The size in bytes of an addition.
abbrev pub size_of : Addition → ℕ
size_of a = size_of_addition a.parts (option_map (λ (key : Key). key.algorithm) a.signer)
