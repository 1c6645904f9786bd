use Rattle.std.proofs.Common.{◌≡◌, drop}
use Rattle.std.specs.Prelude.{find}
use Rattle.turn_client_proto_peers.specs.Channel.Binding.{is_to}
use Rattle.turn_client_proto_payload.specs.Sending.{channel_in}
use Rattle.turn_client_proto_payload.proofs.sending.channel_in.Given as goal

-- The search in what is left has the result of the whole search.
abbrev pub invariant-loop-channel : goal.invariant-loop-channel
invariant-loop-channel l =
    find (is_to l.peer) (drop l.channel-index l.channel-items) ≡ channel_in l.fn.transport l.fn.peer l.fn.a
