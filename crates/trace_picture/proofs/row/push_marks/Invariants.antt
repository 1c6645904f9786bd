use Rattle.std.proofs.Common.{◌≡◌, ◌++◌, string_bytes, take}
use Rattle.std.specs.List.{flat_map}
use Rattle.trace_picture.specs.Transmitted.{mark_text}
use Rattle.trace_picture.proofs.row.push_marks.Given as goal

-- The arrows that were visited are appended.
abbrev pub invariant-loop-mark : goal.invariant-loop-mark
invariant-loop-mark l = string_bytes l.svg ≡ string_bytes l.fn.svg ++ flat_map mark_text (take l.mark-index l.marks)
