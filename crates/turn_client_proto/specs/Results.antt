-- Which results of a call leave a client as it was.
use Rattle.std.specs.Prelude.{Bool, true, false}
use Rattle.turn_client_proto_api.specs.declared.answer.TurnRecvRet.{TurnRecvRet}
use Rattle.turn_client_proto_api.specs.declared.answer.TurnRecvRet.TheVariants.{PeerData, PeerIcmp}

-- A datagram brought something of a peer: data, or an ICMP report.
abbrev pub is_of_peer : {T : Type 0} → TurnRecvRet T → Bool
is_of_peer (PeerData given) = true
is_of_peer (PeerIcmp transport peer icmp_type code details) = true
is_of_peer _ = false
