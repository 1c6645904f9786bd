use Rattle.std.proofs.Common.{◌≤◌, length, take}
use Rattle.stun_types.specs.Adding.{IsStarted}
use Rattle.test_callers.specs.Redirected.{GrowsBy}
use Rattle.test_callers.proofs.answers.redirect.Given as goal

-- The message can be added to, and has grown by the servers before the index.
abbrev pub invariant-loop-server : goal.invariant-loop-server
invariant-loop-server g l = record {
  inside : l.server-index ≤ length l.fn.servers;
  started : IsStarted (g.W.MessageWrite.draft l.writer).bytes;
  grown : GrowsBy (take l.server-index l.fn.servers) (g.W.MessageWrite.draft l.fn.writer).bytes
      (g.W.MessageWrite.draft l.writer).bytes;
}
