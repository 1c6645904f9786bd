use Rattle.std.proofs.Common.{◌≤◌, length}
use Rattle.std.specs.Io.KnownBytes.{Consumes}
use Rattle.line_io.proofs.input.read_input.Given as goal

-- `bytes` holds what was taken so far, at most the maximum length of an input.
abbrev pub invariant-loop : goal.invariant-loop
invariant-loop g l = Consumes (g.I.Read.remaining l.fn.input) (g.I.Read.remaining l.input) l.bytes.items × (length l.bytes.items ≤ 16777216)
