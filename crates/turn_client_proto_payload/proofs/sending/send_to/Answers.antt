use Rattle.std.proofs.Common.{◌≡◌, ◌≤◌, ℕ, true, List, length, None, arith, rules}
use Rattle.std.specs.List.{list_any}
use Rattle.std.specs.Net.Socket.{socket_ip}
use Rattle.std.specs.declared.net.socket_addr.SocketAddr.{SocketAddr}
use Rattle.std.proofs.lemmas.Bool.Decides.{nat_tests}
use Rattle.stun_types_base.specs.declared.transport.TransportType.{TransportType}
use Rattle.stun_types_base.specs.declared.transport.TransportType.TheVariants.{Udp}
use Rattle.turn_types_attributes.specs.TurnRegistry.{most_payload}
use Rattle.turn_client_proto_peers.specs.Permission.Asking.{permits_over}
use Rattle.turn_client_proto_core.specs.declared.protocol.Protocol.{Protocol}
use Rattle.turn_client_proto_payload.specs.Sending.{send_refusal}
use Rattle.turn_client_proto_payload.proofs.sending.send_to.Goals as goal

-- Over UDP, at most `most_payload` bytes to a peer with a permission are not refused.
none_refused : (transport : TransportType) (old : Protocol) (to : SocketAddr) (bytes : List ℕ) → transport ≡ Udp
    → list_any (permits_over transport (socket_ip to)) old.allocations ≡ true → length bytes ≤ most_payload
    → send_refusal transport old to bytes ≡ None
unfolding send_refusal
none_refused transport old to bytes udp permits few = rw (permits, udp) (grind (arith, nat_tests, few))

pub returns-else-as_slice-gt-MAX_PAYLOAD : goal.returns-else-as_slice-gt-MAX_PAYLOAD
returns-else-as_slice-gt-MAX_PAYLOAD g c =
    rw (none_refused c.args.transport c.args.protocol.now c.args.to (g.T.AsSlice.items c.args.bytes) c.in-Udp.is (search rules) (grind arith), c.in-Udp.is) c.carried.ensures
