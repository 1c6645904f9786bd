-- Which attribute is validated, and the errors of validation (RFC 8489, sections 9.1.3, 9.2.4 and 14.5).
use Rattle.std.specs.Prelude.{◌≡◌, ℕ, ◌+◌, ◌≤◌, ◌==◌, IsTrue, List, [], ◌∷◌, length, drop, find, Option, None, IsSomeAnd, MatchOption}
use Rattle.std.specs.Option.{option_or}
use Rattle.stun_types_attributes.specs.Wire.declared.algorithm.IntegrityAlgorithm.{IntegrityAlgorithm}
use Rattle.stun_types_attributes.specs.Wire.declared.error.ValidateError.{ValidateError}
use Rattle.stun_types_attributes.specs.Wire.declared.error.ValidateError.TheVariants.{Parse, IntegrityFailed}
use Rattle.stun_types_attributes.specs.Wire.declared.error.StunParseError.TheVariants.{MissingAttribute, InvalidAttributeData}
use Rattle.stun_types_attributes.specs.Wire.Attributes.{Attr, padded, size_at, numbered}
use Rattle.stun_types_attributes.specs.Wire.Registry.{integrity_kind, header_size}
use Rattle.stun_types_attributes.specs.Wire.Grammar.{visible}
use Rattle.stun_types_add.specs.Integrity.declared.credentials.MessageIntegrityCredentials.{MessageIntegrityCredentials}
use Rattle.stun_types_add.specs.Integrity.Keys.{key_of}
use Rattle.stun_types_add.specs.Integrity.Integrity.{IsPrefix, algorithm_of, attribute_kind, integrity_hmac, is_lawful_length}
use Rattle.stun_types_attributes.specs.Wire.Covered.{covered_text}

-- The first visible attribute of a type, with the offset of its header.
abbrev pub first_of_kind : ℕ → List ℕ → Option (ℕ × Attr)
first_of_kind kind bytes = find (λ entry. entry.1.kind == kind) (numbered header_size (visible bytes))

-- The algorithm of the last integrity attribute.
unfoldable pub last_algorithm : List Attr → Option IntegrityAlgorithm
last_algorithm [] = None
last_algorithm (a ∷ rest) = option_or (last_algorithm rest) (algorithm_of a.kind)

-- An attribute with this value lies completely within the bytes at this offset, after the message header.
pub record OccursAt (bytes : List ℕ) (offset : ℕ) (value : List ℕ) : Type 0 where
  pub after_header : header_size ≤ offset
  pub whole : offset + (4 + padded (length value)) ≤ length bytes
  pub size : 4 + padded (length value) ≡ size_at (drop offset bytes)

-- The value at this offset is the HMAC of the text that it covers, possibly truncated.
abbrev pub HasDigest : List ℕ → List ℕ → IntegrityAlgorithm → ℕ → List ℕ → Type 0
HasDigest bytes key algorithm offset value = IsPrefix value (integrity_hmac algorithm key (covered_text bytes offset))

-- The length of the attribute's value is allowed for the algorithm.
abbrev pub IsLawful : IntegrityAlgorithm → ℕ × Attr → Type 0
IsLawful algorithm entry = IsTrue (is_lawful_length algorithm (length entry.1.value))

-- The attribute's value has an allowed length and is the right HMAC.
pub record IsRight (bytes key : List ℕ) (algorithm : IntegrityAlgorithm) (entry : ℕ × Attr) : Type 0 where
  pub lawful : IsLawful algorithm entry
  pub digest : HasDigest bytes key algorithm entry.0 entry.1.value

-- The error of a message that does not validate by an algorithm's attribute: none is visible, the length of
-- its value is not allowed, or its HMAC is wrong.
abbrev pub IsRefused : List ℕ → List ℕ → IntegrityAlgorithm → ValidateError → Type 0
IsRefused bytes key algorithm (Parse (MissingAttribute kind)) = (kind.0 ≡ attribute_kind algorithm)
    × (first_of_kind (attribute_kind algorithm) bytes ≡ None)
IsRefused bytes key algorithm (Parse InvalidAttributeData) = IsSomeAnd
    (first_of_kind (attribute_kind algorithm) bytes) (λ entry. ¬ IsLawful algorithm entry)
IsRefused bytes key algorithm IntegrityFailed = IsSomeAnd (first_of_kind (attribute_kind algorithm) bytes)
    (λ entry. IsLawful algorithm entry × (¬ HasDigest bytes key algorithm entry.0 entry.1.value))
IsRefused bytes key algorithm _ = ⊥

-- The error of a message that does not validate under credentials: no integrity attribute is visible, or
-- validation by the algorithm of the last one fails.
abbrev pub IsNotValid : List ℕ → MessageIntegrityCredentials → ValidateError → Type 0
IsNotValid bytes credentials error =
    MatchOption (last_algorithm (visible bytes)) (error ≡ Parse (MissingAttribute (record { 0 = integrity_kind })))
    (λ algorithm. IsRefused bytes (key_of credentials algorithm).bytes algorithm error)
