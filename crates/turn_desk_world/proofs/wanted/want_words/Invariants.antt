use Rattle.std.proofs.Common.{take}
use Rattle.std.specs.Prelude.{All}
use Rattle.turn_desk_world.specs.Wanted.{IsWordCovered, StaysWanted}
use Rattle.turn_desk_world.proofs.wanted.want_words.Given as goal

-- The results that the words so far name are stored.
abbrev pub invariant-loop-word : goal.invariant-loop-word
invariant-loop-word l =
    StaysWanted l.fn.flags l.flags × All (λ word. IsWordCovered l.flags word.now) (take l.word-index l.words)
