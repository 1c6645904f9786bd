use Rattle.std.proofs.Common.{◌≡◌, ◌<◌, ℕ, get_or, length}
use Rattle.stun_types_base.specs.GeneratorWords.{stream_after, word_at}
use Rattle.stun_types_base.proofs.words.draw_words.Given as goal

abbrev pub invariant-loop-word : goal.invariant-loop-word
invariant-loop-word g l = record {
  stream : g.R.Rng.stream l.rng ≡ stream_after l.word-index (g.R.Rng.stream l.initial.rng);
  words : (index : ℕ) → index < l.word-index → get_or l.word-items index 0 ≡ word_at (g.R.Rng.stream l.initial.rng) index;
  long : length l.word-items ≡ g.row.COUNT;
}
