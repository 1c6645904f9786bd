-- The bytes of a writer of any kind after some calls (RFC 8489, sections 5 and 14).
use Rattle.std.specs.Prelude.{◌≡◌, ℕ, List, [], ◌∷◌, ◌++◌, drop, length, map, Option, None, ⊤}
use Rattle.stun_types_integrity.specs.Wire.declared.algorithm.IntegrityAlgorithm.{IntegrityAlgorithm}
use Rattle.stun_types_integrity.specs.Wire.declared.error.StunWriteError.{StunWriteError}
use Rattle.stun_types_integrity.specs.Wire.Attributes.{Attr, attr_size}
use Rattle.stun_types_integrity.specs.Wire.Fingerprints.{fingerprint_of}
use Rattle.stun_types_integrity.specs.Wire.Shape.{rank}
use Rattle.stun_types_integrity.specs.Wire.Text.{FitsAttribute, message_text}
use Rattle.stun_types_integrity.specs.Write.Adding.{IsStarted, add_refusal, fingerprint_add_refusal}
use Rattle.stun_types_integrity.specs.Write.Drafts.{Draft, none_ended}
use Rattle.stun_types_integrity.specs.Write.Outcomes.{IsStartedAs, added}
use Rattle.stun_types_integrity.specs.Signing.{signature, signing_refusal}

-- A call that adds an attribute, the integrity attribute of an algorithm under the bytes of a key, or a
-- FINGERPRINT.
pub data Add : Type 0 where
  Ordinary : (a : Attr) → Add
  Integrity : (algorithm : IntegrityAlgorithm) (key : List ℕ) → Add
  Fingerprint : Add

-- The attribute that a call adds to these bytes.
abbrev pub attribute_of : Add → List ℕ → Attr
attribute_of (Ordinary a) bytes = a
attribute_of (Integrity algorithm key) bytes = signature algorithm key bytes
attribute_of Fingerprint bytes = fingerprint_of bytes

-- The error, if any, of a call, other than out of memory.
abbrev pub refusal_of : Add → Draft → Option StunWriteError
refusal_of (Ordinary a) draft = add_refusal draft (attr_size a)
refusal_of (Integrity algorithm key) draft = signing_refusal draft algorithm algorithm
refusal_of Fingerprint draft = fingerprint_add_refusal draft

-- The attribute can be encoded, and is neither an integrity attribute nor FINGERPRINT.
pub record IsOrdinary (a : Attr) : Type 0 where
  pub fits : FitsAttribute a
  pub ordinary : rank a.kind ≡ 0

-- A call of `Ordinary` adds an ordinary attribute.
abbrev pub IsLawful : Add → Type 0
IsLawful (Ordinary a) = IsOrdinary a
IsLawful (Integrity algorithm key) = ⊤
IsLawful Fingerprint = ⊤

-- The draft after one call.
abbrev pub after_call : Add → Draft → Draft
after_call call draft = added (attribute_of call draft.bytes) draft

-- The draft after some calls, in order.
unfoldable pub after_calls : List Add → Draft → Draft
after_calls [] draft = draft
after_calls (call ∷ rest) draft = after_calls rest (after_call call draft)

-- Each of the calls is accepted in its turn.
unfoldable pub AreAccepted : List Add → Draft → Type 0
AreAccepted [] draft = ⊤
AreAccepted (call ∷ rest) draft = (refusal_of call draft ≡ None) × AreAccepted rest (after_call call draft)

-- The attributes of a message with this type and transaction ID: those in `before`, and then those that the
-- calls add.
unfoldable pub attributes_after : ℕ → ℕ → List Add → List Attr → List Attr
attributes_after mtype transaction_id [] before = before
attributes_after mtype transaction_id (call ∷ rest) before =
    attributes_after mtype transaction_id rest (before ++ attribute_of call (message_text mtype transaction_id before) ∷ [])

-- The attributes that the calls add to an empty message.
abbrev pub attributes_of : ℕ → ℕ → List Add → List Attr
attributes_of mtype transaction_id calls = attributes_after mtype transaction_id calls []

-- A message with this type and transaction ID was started in a writer, which then accepted each of these
-- calls.
pub record IsWritten (mtype transaction_id : ℕ) (calls : List Add) (draft : Draft) : Type 0 where
  pub empty : Draft
  pub header : Draft
  pub started : IsStartedAs mtype transaction_id empty header
  pub accepted : AreAccepted calls header
  pub is : draft ≡ after_calls calls header

-- A message with this type and transaction ID was started in a draft, and these ordinary attributes were
-- added to it.
pub record IsComposed (mtype transaction_id : ℕ) (attributes : List Attr) (old new : Draft) : Type 0 where
  pub written : IsWritten mtype transaction_id (map Ordinary attributes) new
  pub text : new.bytes ≡ message_text mtype transaction_id attributes
  pub ended : new.ended ≡ none_ended
  pub following : new.following ≡ drop (length new.bytes) old.following
  pub limit : new.limit ≡ old.limit
  pub started : IsStarted new.bytes
