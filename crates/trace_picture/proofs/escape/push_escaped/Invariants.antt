use Rattle.std.proofs.Common.{◌≡◌, ◌++◌, string_bytes}
use Rattle.std.specs.List.{flat_map}
use Rattle.trace_picture.specs.Escapes.{listed_char}
use Rattle.trace_picture.proofs.escape.push_escaped.Given as goal

-- The characters that were visited are appended.
abbrev pub invariant-loop-c : goal.invariant-loop-c
invariant-loop-c l = string_bytes l.svg ≡ string_bytes l.fn.svg ++ flat_map listed_char l.yielded
