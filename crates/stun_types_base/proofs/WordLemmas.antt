-- Lemmas on the words of a stream, by their position.
use Rattle.std.proofs.Common.{◌≡◌, ℕ, zero, suc, ◌+◌, refl, sym, ap, ◌∙◌, arith}
use Rattle.rand_core.specs.Stream.{Stream, next_u32}
use Rattle.stun_types_base.specs.GeneratorWords.{stream_after, word_at}

-- The rest of a stream after no words is the stream.
pub stream_after-zero : (stream : Stream) → stream_after 0 stream ≡ stream
unfolding stream_after
stream_after-zero stream = refl

-- Taking some words of a stream and then more leaves the same rest as taking all of them at once.
pub stream_after-add : (first more : ℕ) (stream : Stream) → stream_after (first + more) stream ≡ stream_after more (stream_after first stream)
unfolding stream_after
stream_after-add first zero stream = ap (λ n. stream_after n stream) (omega arith)
stream_after-add first (suc more) stream =
    let one_more : first + suc more ≡ suc (first + more) = omega arith in
    ap (λ n. stream_after n stream) one_more ∙ ap (λ s. (next_u32 s).1) (stream_after-add first more stream)

-- A word of the rest after `first` words has a position in the whole stream that is greater by `first`.
pub word_at-stream_after : (first index : ℕ) (stream : Stream) → word_at (stream_after first stream) index ≡ word_at stream (first + index)
word_at-stream_after first index stream = ap (λ s. (next_u32 s).0) (sym (stream_after-add first index stream))

-- The word generated after `count` words is the one at position `count`. It leaves the rest after `count + 1`
-- words.
pub generated : (start before after : Stream) (count word : ℕ) → before ≡ stream_after count start → word ≡ word_at before 0 → after ≡ stream_after 1 before
    → (word ≡ word_at start count) × (after ≡ stream_after (count + 1) start)
generated start before after count word at is left =
    let same : count + 0 ≡ count = omega arith in
    (is ∙ ap (λ s. word_at s 0) at ∙ word_at-stream_after count 0 start ∙ ap (word_at start) same, left ∙ ap (stream_after 1) at ∙ sym (stream_after-add count 1 start))
