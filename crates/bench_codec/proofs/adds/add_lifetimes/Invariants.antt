use Rattle.std.proofs.Common.{◌≤◌, length, take}
use Rattle.stun_types_write.specs.Adding.{IsStarted}
use Rattle.bench_codec.specs.Lifetimes.{GrowsBy}
use Rattle.bench_codec.proofs.adds.add_lifetimes.Given as goal

-- The message grew by the LIFETIMEs before the current index.
abbrev pub invariant-loop-seconds : goal.invariant-loop-seconds
invariant-loop-seconds g l = record {
  inside : l.seconds-index ≤ length l.fn.each;
  started : IsStarted (g.W.MessageWrite.draft l.writer).bytes;
  grown : GrowsBy (take l.seconds-index l.fn.each) (g.W.MessageWrite.draft l.fn.writer).bytes
      (g.W.MessageWrite.draft l.writer).bytes;
}
