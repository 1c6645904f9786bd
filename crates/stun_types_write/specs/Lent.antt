-- The state of each writer, and its state after all its bytes were replaced in place.
use Rattle.std.specs.Prelude.{ℕ, List, [], ◌++◌, length, take, drop, None, Some}
use Rattle.stun_types_write.specs.declared.ended.Ended.{Ended}
use Rattle.stun_types_write.specs.Drafts.{Draft}

-- The state of a writer into a borrowed slice: the slice, the number of written bytes, and which of the
-- attributes that end a message have been added.
pub record Lent : Type 0 where
  pub lent : List ℕ
  pub len : ℕ
  pub ended : Ended

-- The draft of a writer into a borrowed slice.
abbrev pub lent_draft : Lent → Draft
lent_draft w = record {
  bytes = take w.len w.lent;
  following = drop w.len w.lent;
  ended = w.ended;
  limit = Some (length w.lent);
}

-- The same writer with other bytes in its slice.
abbrev pub with_lent : Lent → List ℕ → Lent
with_lent w all = record { lent = all; len = w.len; ended = w.ended }

-- A draft after all its bytes were replaced in place. The number of written bytes stays.
abbrev pub with_all : Draft → List ℕ → Draft
with_all draft all = record {
  bytes = take (length draft.bytes) all;
  following = drop (length draft.bytes) all;
  ended = draft.ended;
  limit = draft.limit;
}

-- The state of a writer into a vector.
pub record Own : Type 0 where
  pub bytes : List ℕ
  pub ended : Ended

-- The draft of a writer into a vector.
abbrev pub own_draft : Own → Draft
own_draft w = record { bytes = w.bytes; following = []; ended = w.ended; limit = None }

-- The same writer after its bytes were replaced in place.
abbrev pub own_changed : Own → List ℕ → Own
own_changed w all = record { bytes = take (length w.bytes) (all ++ drop (length all) w.bytes); ended = w.ended }
