-- The state of a writer, and what is written to it.
use Rattle.std.specs.Prelude.{ℕ, ◌+◌, ◌≤◌, true, false, ◌==◌, List, [], ◌++◌, length, drop, Option, IfSome, if◌then◌else◌}
use Rattle.stun_types_wire.specs.Attributes.{Attr, attr_size, attributes}
use Rattle.stun_types_wire.specs.Shape.{kinds_of}
use Rattle.stun_types_wire.specs.Registry.{integrity_kind, sha256_kind, sha512_kind, fingerprint_kind, header_size}
use Rattle.stun_types_wire.specs.Text.{attribute_text}
use Rattle.stun_types_write.specs.declared.ended.Ended.{Ended}

-- No attribute that ends a message has been added.
abbrev pub none_ended : Ended
none_ended = record { integrity = false; sha256 = false; sha512 = false; fingerprint = false }

-- The flags after an attribute of this type was added: its own is set, if it is one of the four.
abbrev pub ended_by : Ended → ℕ → Ended
ended_by ended kind = record {
  integrity = if kind == integrity_kind then true else ended.integrity;
  sha256 = if kind == sha256_kind then true else ended.sha256;
  sha512 = if kind == sha512_kind then true else ended.sha512;
  fingerprint = if kind == fingerprint_kind then true else ended.fingerprint;
}

-- A message that is being written: its bytes, the bytes of the borrowed slice after them, which of the
-- attributes that end a message have been added, and the maximum size, if there is one.
pub record Draft : Type 0 where
  pub bytes : List ℕ
  pub following : List ℕ
  pub ended : Ended
  pub limit : Option ℕ

-- Nothing has been written yet.
abbrev pub empty : List ℕ → Option ℕ → Draft
empty following limit = record { bytes = []; following = following; ended = none_ended; limit = limit }

-- The same draft with other written bytes.
abbrev pub with_bytes : Draft → List ℕ → Draft
with_bytes draft bytes = record { bytes = bytes; following = draft.following; ended = draft.ended; limit = draft.limit }

-- There is room for `size` more bytes.
abbrev pub HasRoom : Draft → ℕ → Type 0
HasRoom draft size = IfSome draft.limit (λ most. length draft.bytes + size ≤ most)

-- The draft after bytes were added at the end.
abbrev pub pushed : List ℕ → Draft → Draft
pushed text draft = record {
  bytes = draft.bytes ++ text;
  following = drop (length text) draft.following;
  ended = draft.ended;
  limit = draft.limit;
}

-- The draft after an encoded attribute was added at the end.
abbrev pub pushed_attribute : Attr → Draft → Draft
pushed_attribute a draft = record {
  bytes = draft.bytes ++ attribute_text a;
  following = drop (attr_size a) draft.following;
  ended = ended_by draft.ended a.kind;
  limit = draft.limit;
}

-- The types of the attributes after the header.
abbrev pub kinds_written : List ℕ → List ℕ
kinds_written bytes = kinds_of (attributes (drop header_size bytes))
