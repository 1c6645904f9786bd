-- The encoding of a message, its text: a header, and each attribute with its padding (RFC 8489, sections 5
-- and 14).
use Rattle.std.specs.Prelude.{◌≡◌, ℕ, ◌<◌, ◌≤◌, ◌^◌, List, [], ◌∷◌, ◌++◌, map, length, replicate, ◌⊎◌}
use Rattle.std.specs.List.{flat_map, AllByRecursion}
use Rattle.byteorder.specs.Endian.{big_bytes}
use Rattle.stun_types_wire.specs.Attributes.{Attr, padding_len, kind_at}
use Rattle.stun_types_wire.specs.Shape.{IsShape, kinds_of}
use Rattle.stun_types_wire.specs.Registry.{cookie}

-- The message type, the length of what follows the header, the magic cookie, and the transaction ID.
unfoldable pub header_text : ℕ → ℕ → ℕ → List ℕ
header_text kind len transaction_id = big_bytes 2 kind ++ big_bytes 2 len ++ cookie ++ big_bytes 12 transaction_id

-- The type, the length, the value, and this padding.
unfoldable pub padded_text : Attr → List ℕ → List ℕ
padded_text a padding = big_bytes 2 a.kind ++ big_bytes 2 (length a.value) ++ a.value ++ padding

-- The encoding of an attribute that a writer writes: its padding is zeros.
unfoldable pub attribute_text : Attr → List ℕ
attribute_text a = padded_text a (replicate (padding_len (length a.value)) 0)

-- The encoding of the attributes that a writer writes.
unfoldable pub body_text : List Attr → List ℕ
body_text all = flat_map attribute_text all

-- The encoding of a message that a writer writes.
unfoldable pub message_text : ℕ → ℕ → List Attr → List ℕ
message_text kind transaction_id all = header_text kind (length (body_text all)) transaction_id ++ body_text all

-- An attribute that can be encoded.
pub record FitsAttribute (a : Attr) : Type 0 where
  pub kind : a.kind < 2 ^ 16
  pub value : length a.value < 2 ^ 16

-- ---- any text that is read as a message

-- An attribute and its padding.
pub record Part : Type 0 where
  pub attribute : Attr
  pub padding : List ℕ

abbrev pub part_text : Part → List ℕ
part_text part = padded_text part.attribute part.padding

unfoldable pub parts_text : List Part → List ℕ
parts_text parts = flat_map part_text parts

-- The attributes without their padding.
abbrev pub attributes_of : List Part → List Attr
attributes_of parts = map (λ part. part.attribute) parts

-- The attribute can be encoded, and the padding reaches to a multiple of four. Its bytes may be anything.
pub record FitsPart (part : Part) : Type 0 where
  pub attribute : FitsAttribute part.attribute
  pub padding : length part.padding ≡ padding_len (length part.attribute.value)

-- `rest` has at least four bytes, and begins with a type that breaks the shape after attributes of these
-- types.
pub record LeavesShape (kinds rest : List ℕ) : Type 0 where
  pub four : 4 ≤ length rest
  pub leaves : ¬ IsShape (kinds ++ kind_at rest ∷ [])

-- The bytes are the text of a message with this type, this transaction ID and these visible attributes. The
-- padding may be any bytes, and bytes that break the shape may follow.
pub record IsTextOf (kind transaction_id : ℕ) (all : List Attr) (bytes : List ℕ) : Type 0 where
  pub parts : List Part
  pub following : List ℕ
  pub text : bytes ≡ header_text kind (length (parts_text parts ++ following)) transaction_id ++ (parts_text parts ++ following)
  pub kind_fits : kind < 2 ^ 14
  pub number_fits : transaction_id < 2 ^ 96
  pub length_fits : length (parts_text parts ++ following) < 2 ^ 16
  pub shows : attributes_of parts ≡ all
  pub each : AllByRecursion FitsPart parts
  pub shape : IsShape (kinds_of all)
  pub ended : (following ≡ []) ⊎ LeavesShape (kinds_of all) following
