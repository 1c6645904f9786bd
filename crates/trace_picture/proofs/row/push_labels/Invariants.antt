use Rattle.std.proofs.Common.{◌≡◌, ◌++◌, string_bytes, take}
use Rattle.std.specs.List.{flat_map}
use Rattle.trace_picture.specs.Transmitted.{label_text}
use Rattle.trace_picture.proofs.row.push_labels.Given as goal

-- The labels that were visited are appended.
abbrev pub invariant-loop-label : goal.invariant-loop-label
invariant-loop-label l = string_bytes l.svg ≡ string_bytes l.fn.svg ++ flat_map label_text (take l.label-index l.labels)
