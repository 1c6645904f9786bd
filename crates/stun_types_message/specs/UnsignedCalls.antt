-- Calls that add no integrity attribute.
use Rattle.std.specs.Prelude.{⊤}
use Rattle.stun_types_add.specs.Calls.{Add, Ordinary, Integrity, Fingerprint}

-- The call adds no integrity attribute.
abbrev pub IsNoIntegrity : Add → Type 0
IsNoIntegrity (Ordinary a) = ⊤
IsNoIntegrity (Integrity algorithm key) = ⊥
IsNoIntegrity Fingerprint = ⊤
