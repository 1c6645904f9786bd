-- What C's calls make of how a client introduces itself in its requests, and why they are refused.
use Rattle.std.specs.Prelude.{◌≡◌, ◌<◌, ◌||◌, ℕ, ℤ, Bool, true, List, [], ◌∷◌, length, Option, Some, None, IsUtf8}
use Rattle.stun_types_wire.specs.Registry.{longest_software, longest_username}
use Rattle.turn_client_c_calls.specs.Codes as code
use Rattle.turn_client_c_calls.specs.Codes.{same}
use Rattle.turn_client_c_calls.specs.Held.{Held}
use Rattle.turn_client_c_calls.specs.Lengths.{is_bad_length}

-- The statuses that `turn_client_credentials` returns.
abbrev pub is_credentials_answer : ℤ → Bool
is_credentials_answer s = same s code.ok || (same s code.no_client || (same s code.bad_text || (same s code.long_name
    || (same s code.no_memory || same s code.bad_length))))

-- A status of `turn_client_credentials` is returned only if its reason holds.
pub record WhyNotSet (old : Held) (name password : List ℕ) (status : ℤ) : Type 0 where
  pub answer : is_credentials_answer status ≡ true
  pub none : status ≡ code.no_client → old ≡ None
  pub size : status ≡ code.bad_length → (is_bad_length (length name) || is_bad_length (length password)) ≡ true
  pub text : status ≡ code.bad_text → ¬ (IsUtf8 name × IsUtf8 password)
  pub long : status ≡ code.long_name → longest_username < length name

-- The text of SOFTWARE that C passes: none, if it has no bytes.
abbrev pub software_of : List ℕ → Option (List ℕ)
software_of [] = None
software_of (first ∷ others) = Some (first ∷ others)

-- The statuses that `turn_client_software` returns.
abbrev pub is_software_answer : ℤ → Bool
is_software_answer s = same s code.ok || (same s code.no_client || (same s code.bad_text || (same s code.too_large
    || (same s code.no_memory || same s code.bad_length))))

-- A status of `turn_client_software` is returned only if its reason holds.
pub record WhyNoSoftware (old : Held) (text : List ℕ) (status : ℤ) : Type 0 where
  pub answer : is_software_answer status ≡ true
  pub none : status ≡ code.no_client → old ≡ None
  pub size : status ≡ code.bad_length → is_bad_length (length text) ≡ true
  pub text_is : status ≡ code.bad_text → ¬ (IsUtf8 text)
  pub long : status ≡ code.too_large → longest_software < length text
