-- A message with many LIFETIME attributes.
use Rattle.std.specs.Prelude.{◌≡◌, ℕ, List, ◌++◌, map}
use Rattle.byteorder.specs.Endian.{big_bytes}
use Rattle.stun_types_wire.specs.Attributes.{Attr}
use Rattle.stun_types_wire.specs.Text.{message_text}
use Rattle.stun_types_write.specs.Adding.{attr_of}
use Rattle.turn_types_attributes.specs.TurnRegistry.{lifetime_kind}
use Rattle.bench_codec.specs.Allocated.{granted_type}

-- The LIFETIME of this many seconds.
abbrev pub lifetime : ℕ → Attr
lifetime seconds = attr_of lifetime_kind (big_bytes 4 seconds)

-- The bytes of the response with one LIFETIME for each of these numbers and no other attribute.
abbrev pub lifetimes_text : List ℕ → ℕ → List ℕ
lifetimes_text each number = message_text granted_type number (map lifetime each)

-- If `old` is the bytes of a message, `new` is the bytes of that message with these LIFETIMEs added at its
-- end.
abbrev pub GrowsBy : List ℕ → List ℕ → List ℕ → Type 0
GrowsBy each old new =
    (mtype number : ℕ) (adds : List Attr) → old ≡ message_text mtype number adds
    → new ≡ message_text mtype number (adds ++ map lifetime each)
