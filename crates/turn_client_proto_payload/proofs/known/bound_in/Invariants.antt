use Rattle.std.proofs.Common.{◌≡◌, drop, find}
use Rattle.std.specs.Prelude.{option_map}
use Rattle.turn_client_proto_peers.specs.Channel.Numbers.{is_numbered}
use Rattle.turn_client_proto_payload.specs.Payloads.{bound_in}
use Rattle.turn_client_proto_payload.proofs.known.bound_in.Given as goal

-- The search in what is left has the result of the whole search.
abbrev pub invariant-loop-channel : goal.invariant-loop-channel
invariant-loop-channel l =
    option_map (λ c. (l.a.transport, c.peer)) (find (is_numbered l.number) (drop l.channel-index l.channel-items))
    ≡ bound_in l.fn.number l.fn.a
