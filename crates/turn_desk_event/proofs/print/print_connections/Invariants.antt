use Rattle.std.proofs.Common.{◌≡◌, ◌++◌, codes, string_bytes, take}
use Rattle.std.specs.List.{flat_map}
use Rattle.turn_desk_event.specs.Printed.{connection_text}
use Rattle.turn_desk_event.proofs.print.print_connections.Given as goal

-- The text so far has the elements of the list that were visited.
abbrev pub invariant-loop-connection : goal.invariant-loop-connection
invariant-loop-connection l =
    string_bytes l.text ≡ codes "connections" ++ flat_map connection_text (take l.connection-index l.list)
