use Rattle.std.proofs.Common.{◌≡◌, ◌++◌, codes, string_bytes, take}
use Rattle.std.specs.List.{flat_map}
use Rattle.turn_desk_event.specs.Printed.{permitted_text}
use Rattle.turn_desk_event.proofs.print.print_permissions.Given as goal

-- The text so far has the elements of the list that were visited.
abbrev pub invariant-loop-ip : goal.invariant-loop-ip
invariant-loop-ip l =
    string_bytes l.text ≡ codes "permissions" ++ flat_map permitted_text (take l.ip-index l.list)
