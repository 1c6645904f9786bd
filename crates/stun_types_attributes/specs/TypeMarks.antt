-- Sets of attribute types: one bit for each type, in words of 64 bits.
use Rattle.std.specs.Prelude.{◌≡◌, ℕ, ◌/◌, ◌%◌, ◌==◌, Bool, List, get_or, Option, IfSome}
use Rattle.std.specs.Int.{bit_at}
use Rattle.stun_types_auth_attributes.specs.Write.Adding.{has_kind}
use Rattle.stun_types_attributes.specs.declared.type_index.TheConstants.{WORD_TYPES}

-- Whether a type is in the set.
unfoldable pub is_marked : List ℕ → ℕ → Bool
is_marked words kind = bit_at (get_or words (kind / WORD_TYPES) 0) (kind % WORD_TYPES) == 1

-- An index, if there is one, has these types and no others.
abbrev pub IsIndexed : Option (List ℕ) → List ℕ → Type 0
IsIndexed index kinds = IfSome index (λ words. (kind : ℕ) → is_marked words kind ≡ has_kind kind kinds)
