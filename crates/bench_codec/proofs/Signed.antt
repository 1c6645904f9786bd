-- The result of a validation as a boolean.
use Rattle.std.specs.Prelude.{◌≡◌, ◌↔◌, ℕ, Bool, IsTrue, List, Result, Ok, Err, IfOk, is_ok}
use Rattle.std.proofs.Common.{refl, sym, subst}
use Rattle.stun_types_wire.specs.declared.algorithm.IntegrityAlgorithm.{IntegrityAlgorithm}
use Rattle.stun_types_wire.specs.declared.error.ValidateError.{ValidateError}
use Rattle.stun_types_integrity.specs.Credentials.{Key}
use Rattle.stun_types_integrity.specs.Integrity.{IsSigned}

-- The message is signed under this key, with some signed text.
abbrev Signed : List ℕ → List ℕ → IntegrityAlgorithm → Type 0
Signed bytes key algorithm = (text : List ℕ) × IsSigned bytes key algorithm text

is_signed : (bytes : List ℕ) (key : Key) (answered : Result IntegrityAlgorithm ValidateError)
    → IfOk answered (λ algorithm. (algorithm ≡ key.algorithm) × Signed bytes key.bytes algorithm)
    → ((text : List ℕ) → IsSigned bytes key.bytes key.algorithm text → answered ≡ Ok key.algorithm)
    → (IsTrue (is_ok answered) ↔ Signed bytes key.bytes key.algorithm)
is_signed bytes key (Ok algorithm) valid accepted = (
  λ reported. subst
      (λ (a : IntegrityAlgorithm). Signed bytes key.bytes a) valid.0 valid.1,
  λ signed. refl,
)
is_signed bytes key (Err error) valid accepted = (
  λ reported. absurd (let e = reported in cc),
  λ signed. absurd
      (let e = accepted signed.0 signed.1 in cc),
)

-- The key with these bytes and this algorithm.
abbrev pub key_of : List ℕ → IntegrityAlgorithm → Key
key_of bytes algorithm = record { bytes = bytes; algorithm = algorithm }

pub holds_signed : (bytes message password : List ℕ) (algorithm : IntegrityAlgorithm) (key : Key)
    (answered : Result IntegrityAlgorithm ValidateError) (holds : Bool)
    → key ≡ record { bytes = password; algorithm = algorithm }
    → message ≡ bytes
    → IfOk answered (λ algorithm. (algorithm ≡ key.algorithm) × Signed message key.bytes algorithm)
    → ((text : List ℕ) → IsSigned message key.bytes key.algorithm text → answered ≡ Ok key.algorithm)
    → holds ≡ is_ok answered
    → (IsTrue holds ↔ Signed bytes password algorithm)
holds_signed bytes message password algorithm key answered holds is same valid accepted reported =
    let by_key = is_signed message key answered valid accepted in
    let by_reported : IsTrue holds ↔ Signed message key.bytes key.algorithm = subst
    (λ (b : Bool). IsTrue b ↔ Signed message key.bytes key.algorithm) (sym reported) by_key in
    let by_bytes : IsTrue holds ↔ Signed bytes key.bytes key.algorithm = subst
    (λ (m : List ℕ). IsTrue holds ↔ Signed m key.bytes key.algorithm) same by_reported in
    subst (λ (k : Key). IsTrue holds ↔ Signed bytes k.bytes k.algorithm) is by_bytes
