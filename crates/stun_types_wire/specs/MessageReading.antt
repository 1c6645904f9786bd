-- What is decoded from a message.
use Rattle.std.specs.Prelude.{◌≡◌, ℕ, List, None}
use Rattle.stun_types_wire.specs.Attributes.{Attr, kind_at}
use Rattle.stun_types_wire.specs.Grammar.{refusal, visible, number_at}

-- The bytes are a message with this type, this transaction ID and these visible attributes.
pub record IsReadAs (mtype id : ℕ) (all : List Attr) (bytes : List ℕ) : Type 0 where
  pub message : refusal bytes ≡ None
  pub kind : kind_at bytes ≡ mtype
  pub number : number_at bytes ≡ id
  pub shows : visible bytes ≡ all
