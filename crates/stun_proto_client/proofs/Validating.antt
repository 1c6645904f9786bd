-- Which messages validate under a key.
use Rattle.std.proofs.Common.{◌≡◌, ◌≢◌, ℕ, List, Some, None}
use Rattle.stun_proto_auth.specs.Wire.declared.algorithm.IntegrityAlgorithm.{IntegrityAlgorithm}
use Rattle.stun_proto_auth.specs.Integrity.Credentials.{Key}
use Rattle.stun_proto_auth.specs.Wire.Grammar.{visible}
use Rattle.stun_proto_auth.specs.Integrity.Integrity.{IsSigned}
use Rattle.stun_proto_auth.specs.Message.MessageValidation.{last_algorithm}
use Rattle.stun_proto_auth.proofs.Message.Validating.{none_validates, signed_validates, validates_last}
use Rattle.stun_proto_client.specs.Digests.{IsRight, IsWrong}

-- A message without an integrity attribute, or whose last one is of another algorithm, does not validate.
pub none_last : (bytes : List ℕ) (key : Key) → last_algorithm (visible bytes) ≡ None → IsWrong bytes key
none_last bytes key is = record { wrong = λ text v. none_validates bytes key.bytes key.algorithm text is v }

pub other_last : (bytes : List ℕ) (key : Key) (last : IntegrityAlgorithm) → last_algorithm (visible bytes) ≡ Some last → last ≢ key.algorithm → IsWrong bytes key
other_last bytes key last is other = record {
  wrong = λ text v.
      let own = validates_last bytes key.bytes key.algorithm text v in
      let same : last ≡ key.algorithm = cc in
      other same;
}

-- A message that is signed by its last integrity attribute validates.
pub by_last : (bytes : List ℕ) (key : Key) → last_algorithm (visible bytes) ≡ Some key.algorithm → (text : List ℕ) × IsSigned bytes key.bytes key.algorithm text → IsRight bytes key
by_last bytes key is s = record { text = s.0; validates = signed_validates bytes key.bytes key.algorithm s.0 is s.1 }
