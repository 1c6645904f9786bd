-- The input so far of an incremental HMAC.
use Rattle.std.specs.Prelude.{ℕ, List, [], ◌++◌}
use Rattle.sha1.specs.declared.Sha1.{Sha1}
use Rattle.sha2.specs.declared.Sha256.{Sha256}
use Rattle.sha2.specs.declared.Sha512.{Sha512}
use Rattle.stun_types_digest.specs.Hmac.{xor_each, block_key, inner_pad, outer_pad}
use Rattle.stun_types_digest.specs.declared.hmac.Hmac.{Hmac}

-- The types of an incremental HMAC-SHA1, HMAC-SHA256 and HMAC-SHA512.
abbrev pub BySha1 : Type 0
BySha1 = Hmac Sha1 64 20

abbrev pub BySha256 : Type 0
BySha256 = Hmac Sha256 64 32

abbrev pub BySha512 : Type 0
BySha512 = Hmac Sha512 128 64

-- The HMAC has no key: neither of its digests has any input.
pub record IsUnkeyed {D : Type 0} {BLOCK SIZE : ℕ} (has_taken : D → List ℕ → Type 0)
    (state : Hmac D BLOCK SIZE) : Type 0 where
  pub inside : has_taken state.inner []
  pub outside : has_taken state.outer []

-- The HMAC has this key, and this is its text so far. The input of the inner digest is the key xored with
-- ipad, followed by the text. The input of the outer digest is the key xored with opad.
pub record HasText {D : Type 0} {BLOCK SIZE : ℕ} (has_taken : D → List ℕ → Type 0) (digest : List ℕ → List ℕ)
    (state : Hmac D BLOCK SIZE) (key text : List ℕ) : Type 0 where
  pub inside : has_taken state.inner (xor_each inner_pad (block_key digest BLOCK key) ++ text)
  pub outside : has_taken state.outer (xor_each outer_pad (block_key digest BLOCK key))
