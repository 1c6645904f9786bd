-- Whether a message was signed by a holder of a key (RFC 8489, sections 14.5 and 14.6).
use Rattle.std.specs.Prelude.{ℕ, List}
use Rattle.stun_proto_auth.specs.Integrity.Credentials.{Key}
use Rattle.stun_proto_auth.specs.Integrity.Integrity.{Validates}

-- The last integrity attribute is of the key's algorithm and validates under the key; `text` is the text that
-- it covers.
pub record IsRight (bytes : List ℕ) (key : Key) : Type 0 where
  pub text : List ℕ
  pub validates : Validates bytes key.bytes key.algorithm text

-- The message does not validate under the key: it has no integrity attribute, or the last one is of another
-- algorithm or is wrong.
pub record IsWrong (bytes : List ℕ) (key : Key) : Type 0 where
  pub wrong : (text : List ℕ) → Validates bytes key.bytes key.algorithm text → ⊥
