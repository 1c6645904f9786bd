-- The decisions of a trace.
use Rattle.std.specs.Prelude.{ℕ, ◌≡◌, ◌-◌, ◌^◌, ◌==◌, List, [], ◌∷◌, codes, Some}
use Rattle.std.specs.List.{slice_split}
use Rattle.turn_desk_core.specs.declared.decision.Decision.{Decision}
use Rattle.turn_desk_core.specs.declared.decision.Decision.TheVariants.{Refuse, Allocate, Refresh, Connect, Grant}
use Rattle.turn_desk_trace.specs.Address.{AreAddresses}
use Rattle.turn_desk_trace.specs.TraceNumbers.{number_within}
use Rattle.stun_types_wire.specs.Registry.{greatest_code, least_code}

-- The word spells a 32-bit number.
abbrev pub IsU32 : List ℕ → ℕ → Type 0
IsU32 word n = number_within 0 (2 ^ 32 - 1) word ≡ Some n

-- The name and the number spell the decision.
abbrev pub IsNumbered : List ℕ → List ℕ → Decision → Type 0
IsNumbered name word (Refuse code) = (name ≡ codes "refuse") × (number_within least_code greatest_code word ≡ Some code)
IsNumbered name word (Allocate addresses lifetime) = ⊥
IsNumbered name word (Refresh lifetime) = (name ≡ codes "refresh") × IsU32 word lifetime
IsNumbered name word (Connect number) = (name ≡ codes "connect") × IsU32 word number
IsNumbered name word Grant = ⊥

-- The addresses and the lifetime spell the decision.
abbrev pub IsAllocate : List ℕ → List ℕ → Decision → Type 0
IsAllocate addresses_word lifetime_word (Refuse code) = ⊥
IsAllocate addresses_word lifetime_word (Allocate addresses lifetime) =
    AreAddresses (slice_split (λ b. b == 44) addresses_word) addresses × IsU32 lifetime_word lifetime
IsAllocate addresses_word lifetime_word (Refresh lifetime) = ⊥
IsAllocate addresses_word lifetime_word (Connect number) = ⊥
IsAllocate addresses_word lifetime_word Grant = ⊥

-- The words spell the decision.
abbrev pub IsDecision : List (List ℕ) → Decision → Type 0
IsDecision [] decision = ⊥
IsDecision (name ∷ []) decision = (name ≡ codes "grant") × (decision ≡ Grant)
IsDecision (name ∷ word ∷ []) decision = IsNumbered name word decision
IsDecision (name ∷ addresses ∷ lifetime ∷ []) decision = (name ≡ codes "allocate")
    × IsAllocate addresses lifetime decision
IsDecision (name ∷ addresses ∷ lifetime ∷ more ∷ rest) decision = ⊥
