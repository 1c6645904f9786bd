use Rattle.std.proofs.Common.{◌≡◌, ◌++◌, codes, string_bytes, take}
use Rattle.std.specs.List.{flat_map}
use Rattle.turn_desk_event.specs.Printed.{relayed_text}
use Rattle.turn_desk_event.proofs.print.print_relayed.Given as goal

-- The text so far has the elements of the list that were visited.
abbrev pub invariant-loop-relayed : goal.invariant-loop-relayed
invariant-loop-relayed l =
    string_bytes l.text ≡ codes "relayed" ++ flat_map relayed_text (take l.relayed-index l.list)
