-- Which FINGERPRINT is right, and which one a writer adds (RFC 8489, section 14.7).
use Rattle.std.specs.Prelude.{◌≡◌, ◌⊎◌, ℕ, false, List, [], ◌∷◌, ◌++◌}
use Rattle.std.specs.List.{AllByRecursion}
use Rattle.stun_types_wire.specs.Attributes.{Attr}
use Rattle.stun_types_wire.specs.Registry.{fingerprint_kind}
use Rattle.stun_types_wire.specs.Covered.{covered_text}
use Rattle.stun_types_wire.specs.Fingerprints.{fingerprint_of, fingerprint_value, shows_fingerprint}
use Rattle.stun_types_wire.specs.Text.{message_text}

-- If the attribute at this offset is a FINGERPRINT, its value is that of the bytes that it covers.
abbrev pub IsRightFingerprint : List ℕ → ℕ × Attr → Type 0
IsRightFingerprint bytes entry = entry.1.kind ≡ fingerprint_kind → entry.1.value
    ≡ fingerprint_value (covered_text bytes entry.0)

-- Each FINGERPRINT among these attributes is right.
abbrev pub AreRightFingerprints : List ℕ → List (ℕ × Attr) → Type 0
AreRightFingerprints bytes entries = AllByRecursion (IsRightFingerprint bytes) entries

-- The attributes end with the FINGERPRINT of the message before it, and have no other FINGERPRINT.
pub record EndsWithFingerprint (mtype id : ℕ) (all : List Attr) : Type 0 where
  pub before : List Attr
  pub none : shows_fingerprint before ≡ false
  pub parts : all ≡ before ++ fingerprint_of (message_text mtype id before) ∷ []

-- The attributes are as a writer adds them: without a FINGERPRINT, or with the right one at the end.
abbrev pub HasOwnFingerprint : ℕ → ℕ → List Attr → Type 0
HasOwnFingerprint mtype id all = (shows_fingerprint all ≡ false) ⊎ EndsWithFingerprint mtype id all
