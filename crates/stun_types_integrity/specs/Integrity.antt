-- Message integrity: which text is covered, by which digest, and when a message validates (RFC 8489, sections
-- 14.5 and 14.6). HMAC-SHA512 is an extension by this project, modelled on section 14.6.
use Rattle.std.specs.Prelude.{◌≡◌, ℕ, ◌%◌, Bool, ◌==◌, ◌&&◌, nat_le, Option, Some, None, if◌then◌else◌, IsTrue, List, ◌∷◌, ◌++◌, length}
use Rattle.std.specs.List.{AllByRecursion}
use Rattle.sha1.specs.Sha1.{sha1}
use Rattle.sha2.specs.Sha256.{sha256}
use Rattle.sha2.specs.Sha512.{sha512}
use Rattle.stun_types_write.specs.Digest.Hmac.{hmac}
use Rattle.stun_types_write.specs.Wire.declared.algorithm.IntegrityAlgorithm.{IntegrityAlgorithm}
use Rattle.stun_types_write.specs.Wire.declared.algorithm.IntegrityAlgorithm.TheVariants.{Sha1, Sha256, Sha512}
use Rattle.stun_types_write.specs.Wire.Attributes.{Attr, numbered}
use Rattle.stun_types_write.specs.Wire.Registry.{integrity_kind, sha256_kind, sha512_kind, header_size, least_sha256_length, least_sha512_length, sha1_length, sha256_length, sha512_length}
use Rattle.stun_types_write.specs.Wire.Grammar.{IsMessage, visible}
use Rattle.stun_types_write.specs.Wire.Covered.{covered_text}

-- ---- what an algorithm means

-- The type of the attribute that carries an algorithm's HMAC.
abbrev pub attribute_kind : IntegrityAlgorithm → ℕ
attribute_kind Sha1 = integrity_kind
attribute_kind Sha256 = sha256_kind
attribute_kind Sha512 = sha512_kind

-- The HMAC of a text under a key. SHA-1 and SHA-256 work in blocks of 64 bytes, SHA-512 in blocks of 128.
abbrev pub integrity_hmac : IntegrityAlgorithm → List ℕ → List ℕ → List ℕ
integrity_hmac Sha1 key text = hmac sha1 64 key text
integrity_hmac Sha256 key text = hmac sha256 64 key text
integrity_hmac Sha512 key text = hmac sha512 128 key text

-- The bytes `truncated` are a prefix of `whole`.
pub record IsPrefix (truncated whole : List ℕ) : Type 0 where
  pub rest : List ℕ
  pub parts : whole ≡ truncated ++ rest

-- The value of an algorithm's attribute may have this length: the length of the HMAC or, for SHA-256 and
-- SHA-512, a truncation of it to at least 16 bytes and a multiple of four.
abbrev pub is_lawful_length : IntegrityAlgorithm → ℕ → Bool
is_lawful_length Sha1 len = len == sha1_length
is_lawful_length Sha256 len = nat_le least_sha256_length len && (nat_le len sha256_length && len % 4 == 0)
is_lawful_length Sha512 len = nat_le least_sha512_length len && (nat_le len sha512_length && len % 4 == 0)

-- The algorithm of an integrity attribute's type, or `None` for any other type.
abbrev pub algorithm_of : ℕ → Option IntegrityAlgorithm
algorithm_of kind =
    if kind == integrity_kind then Some Sha1
    else if kind == sha256_kind then Some Sha256
    else if kind == sha512_kind then Some Sha512
    else None

-- ---- validation

-- The bytes are a message with a visible attribute of the algorithm. The attribute covers `text`. Its value
-- has an allowed length and is the HMAC of `text` under the key, possibly truncated.
pub record IsSigned (bytes key : List ℕ) (algorithm : IntegrityAlgorithm) (text : List ℕ) : Type 0 where
  pub message : IsMessage bytes
  pub before : List (ℕ × Attr)
  pub offset : ℕ
  pub attribute : Attr
  pub following : List (ℕ × Attr)
  pub shows : numbered header_size (visible bytes) ≡ before ++ (offset, attribute) ∷ following
  pub kind : attribute.kind ≡ attribute_kind algorithm
  pub covered : text ≡ covered_text bytes offset
  pub lawful : IsTrue (is_lawful_length algorithm (length attribute.value))
  pub digest : IsPrefix attribute.value (integrity_hmac algorithm key text)

-- The message is signed, and no visible integrity attribute follows the attribute that signs it.
pub record Validates (bytes key : List ℕ) (algorithm : IntegrityAlgorithm) (text : List ℕ) : Type 0 where
  pub signed : IsSigned bytes key algorithm text
  pub last : AllByRecursion (λ entry. algorithm_of entry.1.kind ≡ None) signed.following
