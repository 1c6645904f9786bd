-- The look lines of a trace.
use Rattle.std.specs.Prelude.{ℕ, ◌≡◌, List, [], ◌∷◌, codes}
use Rattle.turn_desk_trace.specs.declared.look.Look.{Look}
use Rattle.turn_desk_trace.specs.declared.look.Look.TheVariants.{Cause, Mapped, Alternate}

-- The word spells what is looked at.
abbrev pub IsLookWord : List ℕ → Look → Type 0
IsLookWord word Cause = word ≡ codes "cause"
IsLookWord word Mapped = word ≡ codes "mapped"
IsLookWord word Alternate = word ≡ codes "alternate"

-- There is one word, and it spells what is looked at.
abbrev pub IsLook : List (List ℕ) → Look → Type 0
IsLook [] look = ⊥
IsLook (word ∷ []) look = IsLookWord word look
IsLook (word ∷ more ∷ rest) look = ⊥
