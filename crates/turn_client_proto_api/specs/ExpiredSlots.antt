-- Lists of expired allocations, as they are stored.
use Rattle.std.specs.Prelude.{◌≡◌, List, [], ◌∷◌, refl}
use Rattle.turn_client_proto_api.specs.declared.expired.AllocationExpired.{AllocationExpired}
use Rattle.turn_client_proto_api.specs.declared.expired.Slots.{Slots}
use Rattle.turn_client_proto_api.specs.declared.expired.Slots.TheVariants.{Empty, One, Two}

-- The allocations that are stored, the oldest first.
abbrev pub listed : Slots → List AllocationExpired
listed Empty = []
listed (One first) = first ∷ []
listed (Two first second) = first ∷ second ∷ []

-- The first two of a list, as they are stored.
abbrev pub slots_of : List AllocationExpired → Slots
slots_of [] = Empty
slots_of (first ∷ []) = One first
slots_of (first ∷ second ∷ others) = Two first second

-- What is stored of a list that is stored is the same again.
pub slots_of-listed : (slots : Slots) → slots_of (listed slots) ≡ slots
slots_of-listed Empty = refl
slots_of-listed (One first) = refl
slots_of-listed (Two first second) = refl
