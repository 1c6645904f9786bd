-- What the steps of an addition check, and the message that they leave.
use Rattle.std.specs.Prelude.{◌≡◌, ℕ, ◌+◌, ◌≤◌, List, length, Option, None}
use Rattle.std.specs.Option.{option_or}
use Rattle.stun_types_message.specs.Base.Refusals.{IsNamed as IsNamedBut}
use Rattle.stun_types_message.specs.Wire.declared.algorithm.IntegrityAlgorithm.{IntegrityAlgorithm}
use Rattle.stun_types_message.specs.Wire.declared.error.StunWriteError.{StunWriteError}
use Rattle.stun_types_message.specs.Wire.declared.error.StunWriteError.TheVariants.{NoMemory}
use Rattle.stun_types_message.specs.Write.Adding.{IsStarted, add_refusal, growth_refusal}
use Rattle.stun_types_message.specs.Wire.Registry.{greatest_size, header_size}
use Rattle.stun_types_message.specs.Wire.Shape.{rank}
use Rattle.stun_types_message.specs.Write.Drafts.{Draft}
use Rattle.stun_types_message.specs.AuthAttributes.Texts.{text_refusal}
use Rattle.stun_types_message.specs.Integrity.Signing.{hmac_length, order_refusal}
use Rattle.stun_types_message.specs.Add.Calls.{AreAccepted, after_calls}
use Rattle.stun_proto_auth.specs.Addition.{PartOf, Addition, calls_of, calls_of_parts, parts_refusal, size_of_part}

-- ---- what is found before anything is added

-- Why a part is refused after `before` further bytes.
abbrev pub refusal_after : Draft → ℕ → PartOf → Option StunWriteError
refusal_after draft before p = option_or (text_refusal p.most p.value) (add_refusal draft (before + size_of_part p))

-- Why signing with an algorithm is refused after `before` further bytes.
abbrev pub signing_refusal_after : Draft → ℕ → IntegrityAlgorithm → Option StunWriteError
signing_refusal_after draft before algorithm =
    option_or (order_refusal draft.ended algorithm) (growth_refusal draft (before + (4 + hmac_length algorithm)))

-- A part can be added after `before` further bytes, and is not an attribute that ends a message. With it
-- there are `after` further bytes.
pub record FitsAfter (draft : Draft) (before : ℕ) (p : PartOf) (after : ℕ) : Type 0 where
  pub accepted : refusal_after draft before p ≡ None
  pub grown : after ≡ before + size_of_part p
  pub short : after ≤ greatest_size
  pub plain : rank p.kind ≡ 0

-- The draft grew by `size` bytes, and no attribute that ends a message was added.
pub record IsGrown (size : ℕ) (old new : Draft) : Type 0 where
  pub grown : length new.bytes ≡ length old.bytes + size
  pub ended : new.ended ≡ old.ended
  pub limit : new.limit ≡ old.limit
  pub long : header_size ≤ length new.bytes

-- The parts can be added, and take `size` bytes.
pub record PartsFit (draft : Draft) (parts : List PartOf) (size : ℕ) : Type 0 where
  pub accepted : parts_refusal draft parts ≡ None
  pub grown : IsGrown size draft (after_calls (calls_of_parts parts) draft)
  pub short : size ≤ greatest_size

-- The error of a refusal other than `NoMemory`.
abbrev pub IsNamed : Option StunWriteError → StunWriteError → Type 0
IsNamed = IsNamedBut NoMemory

-- ---- what is left

-- The parts were added.
pub record AreAdded (parts : List PartOf) (old new : Draft) : Type 0 where
  pub is : new ≡ after_calls (calls_of_parts parts) old
  pub started : IsStarted new.bytes
  pub limit : new.limit ≡ old.limit

-- An addition was made: each of its calls was accepted in turn, and together they left the new draft.
pub record IsMade (made : Addition) (old new : Draft) : Type 0 where
  pub accepted : AreAccepted (calls_of made) old
  pub is : new ≡ after_calls (calls_of made) old
  pub started : IsStarted new.bytes
