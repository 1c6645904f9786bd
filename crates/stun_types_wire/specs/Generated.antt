-- The transaction ID that is generated from a generator's words (RFC 8489, section 5).
use Rattle.std.specs.Prelude.{ℕ, ◌+◌, ◌*◌, ◌^◌}
use Rattle.rand_core.specs.Stream.{Stream}
use Rattle.stun_types_base.specs.GeneratorWords.{word_at}

-- The number of 32-bit words that one transaction ID takes.
abbrev pub number_words : ℕ
number_words = 3

-- The transaction ID of the next three words. The first word is the highest.
unfoldable pub generated_id : Stream → ℕ
generated_id stream = word_at stream 0 * 2 ^ 64 + word_at stream 1 * 2 ^ 32 + word_at stream 2
