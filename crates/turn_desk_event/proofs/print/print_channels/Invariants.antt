use Rattle.std.proofs.Common.{◌≡◌, ◌++◌, codes, string_bytes, take}
use Rattle.std.specs.List.{flat_map}
use Rattle.turn_desk_event.specs.Printed.{channel_text}
use Rattle.turn_desk_event.proofs.print.print_channels.Given as goal

-- The text so far has the elements of the list that were visited.
abbrev pub invariant-loop-channel : goal.invariant-loop-channel
invariant-loop-channel l =
    string_bytes l.text ≡ codes "channels" ++ flat_map channel_text (take l.channel-index l.list)
