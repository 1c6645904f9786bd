-- The draft after a message was started, and after an attribute was added.
use Rattle.std.specs.Prelude.{◌≡◌, ◌≢◌, ℕ, ◌+◌, ◌≤◌, List, [], ◌∷◌, ◌++◌, length, drop, IsSome, None, Result, Err}
use Rattle.stun_types_wire.specs.Base.Refusals.{IsNamed}
use Rattle.stun_types_wire.specs.declared.error.StunWriteError.{StunWriteError}
use Rattle.stun_types_wire.specs.declared.error.StunWriteError.TheVariants.{NoMemory}
use Rattle.stun_types_wire.specs.Attributes.{Attr, attr_size}
use Rattle.stun_types_wire.specs.Text.{message_text}
use Rattle.stun_types_write.specs.Adding.{after_add, growth_refusal, IsStarted}
use Rattle.stun_types_wire.specs.Registry.{greatest_size, header_size}
use Rattle.stun_types_write.specs.Drafts.{Draft, HasRoom, ended_by, none_ended}

-- Nothing has been written, and there is room for a header.
pub record CanBegin (draft : Draft) : Type 0 where
  pub empty : draft.bytes ≡ []
  pub ended : draft.ended ≡ none_ended
  pub room : HasRoom draft header_size

-- A message of this type and transaction ID was started.
pub record IsStartedAs (mtype transaction_id : ℕ) (old new : Draft) : Type 0 where
  pub text : new.bytes ≡ message_text mtype transaction_id []
  pub size : length new.bytes ≡ header_size
  pub following : new.following ≡ drop header_size old.following
  pub ended : new.ended ≡ none_ended
  pub limit : new.limit ≡ old.limit
  pub started : IsStarted new.bytes

-- The draft after an attribute was added at the end, and the length field was set.
abbrev pub added : Attr → Draft → Draft
added a draft = record {
  bytes = after_add draft.bytes a;
  following = drop (attr_size a) draft.following;
  ended = ended_by draft.ended a.kind;
  limit = draft.limit;
}

-- An attribute was added. If the draft was the text of a message, it now is the text of that message with
-- this attribute at its end.
pub record IsAdded (a : Attr) (old new : Draft) : Type 0 where
  pub is : new ≡ added a old
  pub text : (mtype transaction_id : ℕ) (adds : List Attr) → old.bytes ≡ message_text mtype transaction_id adds
      → new.bytes ≡ message_text mtype transaction_id (adds ++ a ∷ [])
  pub started : IsStarted new.bytes

-- `size` more bytes fit, and end at `end`.
pub record Fits (draft : Draft) (size end : ℕ) : Type 0 where
  pub grown : end ≡ length draft.bytes + size
  pub short : end ≤ greatest_size
  pub room : HasRoom draft size
  pub accepted : growth_refusal draft size ≡ None

-- `size` more bytes don't fit, and this error says why.
abbrev pub IsTooLong : Draft → ℕ → StunWriteError → Type 0
IsTooLong draft size = IsNamed NoMemory (growth_refusal draft size)

-- A writer with a maximum size allocates nothing, so its result is never the error of a failed allocation.
abbrev pub TakesNoMemory : {A : Type 0} → Draft → Result A StunWriteError → Type 0
TakesNoMemory draft result = IsSome draft.limit → result ≢ Err NoMemory
