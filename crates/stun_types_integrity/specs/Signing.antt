-- The integrity attribute that is added at the end of a message, and the errors of adding it (RFC 8489,
-- sections 14.5 to 14.7).
use Rattle.std.specs.Prelude.{ℕ, ◌+◌, ◌-◌, Bool, false, ◌||◌, ◌==◌, List, length, Option, Some, None, if◌then◌else◌}
use Rattle.std.specs.Option.{option_or}
use Rattle.stun_types_write.specs.Wire.declared.algorithm.IntegrityAlgorithm.{IntegrityAlgorithm}
use Rattle.stun_types_write.specs.Wire.declared.algorithm.IntegrityAlgorithm.TheVariants.{Sha1, Sha256, Sha512}
use Rattle.stun_types_write.specs.Wire.declared.error.StunWriteError.{StunWriteError}
use Rattle.stun_types_write.specs.Wire.declared.error.StunWriteError.TheVariants.{AttributeExists, FingerprintExists, IntegrityFailed, MessageIntegrityExists}
use Rattle.stun_types_write.specs.Wire.Attributes.{Attr}
use Rattle.stun_types_write.specs.Wire.Strength.{strength}
use Rattle.stun_types_write.specs.Wire.Registry.{header_size, sha1_length, sha256_length, sha512_length}
use Rattle.stun_types_write.specs.declared.ended.Ended.{Ended}
use Rattle.stun_types_write.specs.Adding.{growth_refusal}
use Rattle.stun_types_write.specs.Drafts.{Draft}
use Rattle.stun_types_write.specs.Wire.Covered.{with_length}
use Rattle.stun_types_integrity.specs.Integrity.{attribute_kind, integrity_hmac}

-- The length in bytes of an algorithm's full HMAC.
abbrev pub hmac_length : IntegrityAlgorithm → ℕ
hmac_length Sha1 = sha1_length
hmac_length Sha256 = sha256_length
hmac_length Sha512 = sha512_length

-- The text that the attribute covers: the bytes written so far, with the length field counting through the
-- attribute.
unfoldable pub text_to_sign : IntegrityAlgorithm → List ℕ → List ℕ
text_to_sign algorithm bytes = with_length bytes (length bytes - header_size + (4 + hmac_length algorithm))

-- The integrity attribute that signs the bytes written so far.
unfoldable pub signature : IntegrityAlgorithm → List ℕ → List ℕ → Attr
signature algorithm key bytes = record {
  kind = attribute_kind algorithm;
  value = integrity_hmac algorithm key
      (text_to_sign algorithm bytes);
}

-- The integrity attribute of an algorithm was added.
abbrev pub has_signed : Ended → IntegrityAlgorithm → Bool
has_signed ended Sha1 = ended.integrity
has_signed ended Sha256 = ended.sha256
has_signed ended Sha512 = ended.sha512

-- The integrity attribute of a stronger algorithm was added.
abbrev pub has_signed_stronger : Ended → IntegrityAlgorithm → Bool
has_signed_stronger ended Sha1 = ended.sha256 || ended.sha512
has_signed_stronger ended Sha256 = ended.sha512
has_signed_stronger ended Sha512 = false

-- The error, if any, due to the order of attributes: nothing follows FINGERPRINT, each integrity attribute is
-- added once, and none follows that of a stronger algorithm.
unfoldable pub order_refusal : Ended → IntegrityAlgorithm → Option StunWriteError
order_refusal ended algorithm =
    if ended.fingerprint then Some FingerprintExists
    else if has_signed ended algorithm then Some (AttributeExists (record { 0 = attribute_kind algorithm }))
    else if has_signed_stronger ended algorithm then Some MessageIntegrityExists
    else None

-- The error, if any, when the key was made for another algorithm.
abbrev pub key_refusal : IntegrityAlgorithm → IntegrityAlgorithm → Option StunWriteError
key_refusal own algorithm = if strength own == strength algorithm then None else Some IntegrityFailed

-- The error, if any, other than out of memory, when a message is signed by `algorithm` with a key made for
-- `own`: the first one that applies.
unfoldable pub signing_refusal : Draft → IntegrityAlgorithm → IntegrityAlgorithm → Option StunWriteError
signing_refusal draft own algorithm =
    option_or (order_refusal draft.ended algorithm)
    (option_or (key_refusal own algorithm) (growth_refusal draft (4 + hmac_length algorithm)))
