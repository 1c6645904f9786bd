-- What the errors of decoding a header mean (RFC 8489, section 5).
use Rattle.std.specs.Prelude.{◌≡◌, ℕ, ◌<◌, ◌^◌, nat_lt, true, List, ◌++◌}
use Rattle.std.specs.List.{list_all}
use Rattle.stun_types_wire.specs.Text.{header_text}

-- The numbers are bytes: each is below 256.
abbrev pub AreBytes : List ℕ → Type 0
AreBytes bytes = list_all (λ b. nat_lt b 256) bytes ≡ true

-- The bytes begin with a header.
pub record BeginsWithHeader (bytes : List ℕ) : Type 0 where
  pub kind : ℕ
  pub len : ℕ
  pub number : ℕ
  pub rest : List ℕ
  pub text : bytes ≡ header_text kind len number ++ rest
  pub kind_fits : kind < 2 ^ 14
  pub len_fits : len < 2 ^ 16
  pub number_fits : number < 2 ^ 96

-- The bytes can be extended to bytes that begin with a header.
abbrev pub MayBecomeHeader : List ℕ → Type 0
MayBecomeHeader bytes = (rest : List ℕ) × BeginsWithHeader (bytes ++ rest)
