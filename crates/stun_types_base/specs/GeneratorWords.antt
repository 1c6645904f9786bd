-- The words that a generator generates, by their position in its stream.
use Rattle.std.specs.Prelude.{ℕ, zero, suc, List, map}
use Rattle.std.specs.List.{range_with_len}
use Rattle.rand_core.specs.Stream.{Stream, next_u32}

-- The rest of a stream after this many words.
unfoldable pub stream_after : ℕ → Stream → Stream
stream_after zero stream = stream
stream_after (suc count) stream = (next_u32 (stream_after count stream)).1

-- The word at this position of a stream.
abbrev pub word_at : Stream → ℕ → ℕ
word_at stream index = (next_u32 (stream_after index stream)).0

-- The first `count` words of a stream.
unfoldable pub words_of : ℕ → Stream → List ℕ
words_of count stream = map (word_at stream) (range_with_len 0 count)
