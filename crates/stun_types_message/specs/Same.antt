-- Messages with the same visible attributes.
use Rattle.std.specs.Prelude.{◌≡◌, ℕ, not, ◌==◌, List}
use Rattle.std.specs.List.{filter}
use Rattle.stun_types_attributes.specs.Wire.Attributes.{Attr, kind_at}
use Rattle.stun_types_attributes.specs.Wire.Registry.{fingerprint_kind}
use Rattle.stun_types_attributes.specs.Wire.Grammar.{visible, number_at}

-- The attributes without FINGERPRINT.
abbrev pub without_fingerprint : List Attr → List Attr
without_fingerprint all = filter (λ a. not (a.kind == fingerprint_kind)) all

-- Two messages have the same type, transaction ID and visible attributes, except for a FINGERPRINT.
pub record ShowSame (first second : List ℕ) : Type 0 where
  pub kind : kind_at first ≡ kind_at second
  pub number : number_at first ≡ number_at second
  pub shows : without_fingerprint (visible first) ≡ without_fingerprint (visible second)
