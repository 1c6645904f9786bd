-- Bytes that begin with the text of a header are accepted.
use Rattle.std.proofs.Common.{◌≡◌, ℕ, ◌/◌, ◌%◌, ◌^◌, ◌<◌, ◌++◌, List, length, None, refl, arith}
use Rattle.std.proofs.lemmas.Bool.{lt-ltb, le-ltb}
use Rattle.byteorder.specs.Endian.{big_bytes}
use Rattle.stun_types_wire.specs.Grammar.{header_refusal, number_at}
use Rattle.stun_types_wire.specs.Text.{header_text}
use Rattle.stun_types_base.specs.GeneratorWords.{words_of}
use Rattle.stun_types_wire.specs.Generated.{generated_id}

pub header_head : (kind len number : ℕ) (body : List ℕ) → kind < 2 ^ 14 → header_refusal (header_text kind len number ++ body) ≡ None
unfolding header_refusal header_text
header_head kind len number body h =
    let top : kind / 256 % 256 < 64 = omega arith in
    let all = header_text kind len number ++ body in
    rw (lt-ltb (kind / 256 % 256) 64 top, le-ltb (length all) 20 (omega arith)) refl

pub header_fine : (kind len number : ℕ) → kind < 2 ^ 14 → header_refusal (header_text kind len number) ≡ None
unfolding header_refusal header_text
header_fine kind len number h =
    let top : kind / 256 % 256 < 64 = omega arith in
    rw (lt-ltb (kind / 256 % 256) 64 top) refl

-- Unfolding this name unfolds both definitions on its line, those of a generated transaction ID.
unfoldable pub generated : Type 0
unfolding words_of generated_id
generated = Unit {0}

-- Unfolding this name unfolds both definitions on its line, those of a decoded header.
unfoldable pub headers : Type 0
unfolding header_refusal number_at
headers = Unit {0}

-- The twelve bytes of a transaction ID are those of its highest 32 bits, followed by those of the 64 bits
-- below them.
pub number_in_words : (n : ℕ) → big_bytes 4 (n / 2 ^ 64) ++ big_bytes 8 (n % 2 ^ 64) ≡ big_bytes 12 n
number_in_words n =
    let a : n / 2 ^ 64 / 2 ^ 24 % 256 ≡ n / 2 ^ 88 % 256 = omega arith in
    let b : n / 2 ^ 64 / 2 ^ 16 % 256 ≡ n / 2 ^ 80 % 256 = omega arith in
    let c : n / 2 ^ 64 / 2 ^ 8 % 256 ≡ n / 2 ^ 72 % 256 = omega arith in
    let d : n % 2 ^ 64 / 2 ^ 56 % 256 ≡ n / 2 ^ 56 % 256 = omega arith in
    let e : n % 2 ^ 64 / 2 ^ 48 % 256 ≡ n / 2 ^ 48 % 256 = omega arith in
    let f : n % 2 ^ 64 / 2 ^ 40 % 256 ≡ n / 2 ^ 40 % 256 = omega arith in
    let g : n % 2 ^ 64 / 2 ^ 32 % 256 ≡ n / 2 ^ 32 % 256 = omega arith in
    let h : n % 2 ^ 64 / 2 ^ 24 % 256 ≡ n / 2 ^ 24 % 256 = omega arith in
    let i : n % 2 ^ 64 / 2 ^ 16 % 256 ≡ n / 2 ^ 16 % 256 = omega arith in
    let j : n % 2 ^ 64 / 2 ^ 8 % 256 ≡ n / 2 ^ 8 % 256 = omega arith in
    let k : n % 2 ^ 64 % 256 ≡ n % 256 = omega arith in
    rw (a, b, c, d, e, f, g, h, i, j, k) refl
