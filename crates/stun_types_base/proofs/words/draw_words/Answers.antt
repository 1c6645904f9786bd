use Rattle.std.proofs.Common.{◌≡◌, ◌<◌, ◌≢◌, length, arith, sym, ap, ◌∙◌, get_or-set_other, get_or-set_same, below_more}
use Rattle.std.proofs.lemmas.List.FromFn.{fill_by_all}
use Rattle.std.proofs.lemmas.List.{length-replicate}
use Rattle.std.proofs.lemmas.Grind.{common_steps}
use Rattle.stun_types_base.specs.GeneratorWords.{stream_after, word_at, words_of}
use Rattle.stun_types_base.proofs.WordLemmas.{stream_after-zero, generated}
use Rattle.stun_types_base.proofs.words.draw_words.Goals as goal

pub loop-word-init : goal.loop-word-init
loop-word-init g c = record {
  stream = sym (stream_after-zero _);
  words = λ index below. absurd (omega (arith, below));
  long = length-replicate g.row.COUNT 0;
}

pub loop-word-preserved : goal.loop-word-preserved
loop-word-preserved g c =
    let draw = generated (g.R.Rng.stream c.args.rng.now) (g.R.Rng.stream c.loop-word.rng) (g.R.Rng.stream c.draw_word.new.rng) c.loop-word.word-index c.draw_word.result c.loop-word.invariant.stream c.draw_word.ensures.word c.draw_word.ensures.stream in
    let in_range : c.loop-word.word-index < length c.loop-word.word-items = omega arith in
    record {
      stream = draw.1;
      words = below_more _ _
          (λ index below. let other : index ≢ c.loop-word.word-index = omega (arith, below) in rw get_or-set_other (c.loop-word.invariant.words index below))
          (rw get_or-set_same draw.0);
      long = grind (arith, common_steps);
    }

pub returns-clause-words : goal.returns-clause-words
unfolding words_of
returns-clause-words g c =
    fill_by_all (word_at (g.R.Rng.stream c.args.rng.now)) c.loop-word.word-items g.row.COUNT 0 c.loop-word.invariant.long
    (λ index below. c.loop-word.invariant.words index (omega arith))

pub returns-clause-stream : goal.returns-clause-stream
returns-clause-stream g c =
    let all : c.loop-word.word-index ≡ g.row.COUNT = omega arith in
    c.loop-word.invariant.stream ∙ ap (λ count. stream_after count (g.R.Rng.stream c.args.rng.now)) all
