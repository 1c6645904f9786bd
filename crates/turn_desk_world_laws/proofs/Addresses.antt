-- A response carries relayed addresses unchanged, and a request carries peers unchanged.
use Rattle.std.proofs.Common.{ℕ, List, [], ◌∷◌}
use Rattle.std.specs.List.{AllByRecursion}
use Rattle.std.specs.declared.net.socket_addr.SocketAddr.{SocketAddr}
use Rattle.turn_desk_core.specs.StunTypesAttributes.Addresses as addresses
use Rattle.turn_desk_step_laws.proofs.TurnClientProtoMessages.Peers.{peer_read}
use Rattle.turn_client_proto_step_laws.specs.Sound.{IsWhole}
use Rattle.turn_desk_step_laws.specs.DeskRun.{AreReported}
use Rattle.turn_desk_world_laws.specs.Reported.{IsReadBack}

pub are_reported : (number : ℕ) (relayed : List SocketAddr) → AllByRecursion IsWhole relayed → AreReported number relayed
unfolding addresses.address_read_refusal
are_reported number [] whole = tt
are_reported number (addr ∷ rest) whole = (peer_read number addr whole.0.own whole.0.flow whole.0.scope, are_reported number rest whole.1)

pub proof_is_read_back : (number : ℕ) (peer : SocketAddr) → IsWhole peer → IsReadBack number peer
unfolding addresses.address_read_refusal
proof_is_read_back number peer whole = peer_read number peer whole.own whole.flow whole.scope
