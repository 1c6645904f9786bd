-- One datagram whose bytes are in two places in memory, and the results for it.
use Rattle.std.specs.Prelude.{◌≡◌, ℕ, List}
use Rattle.std.specs.declared.net.socket_addr.SocketAddr.{SocketAddr}
use Rattle.stun_types_base.specs.declared.transmit.Transmit.{Transmit}
use Rattle.stun_types_base.specs.declared.transport.TransportType.{TransportType}
use Rattle.turn_desk_event.specs.TurnClientProtoApi.declared.answer.TurnRecvRet.{TurnRecvRet}
use Rattle.turn_desk_event.specs.TurnClientProtoApi.declared.answer.TurnRecvRet.TheVariants.{Handled, Ignored, PeerData, PeerIcmp}
use Rattle.turn_desk_event.specs.TurnClientProtoApi.Payloads.{PeerPayload}

-- The bytes, the transport and both addresses are the same.
pub record IsCopy {T : Type 0} (items : T → List ℕ) (came copy : Transmit T) : Type 0 where
  pub bytes : items copy.bytes ≡ items came.bytes
  pub transport : copy.transport ≡ came.transport
  pub from : copy.from ≡ came.from
  pub to : copy.to ≡ came.to

-- Both datagrams were handled, or each was given back, or both gave the same data or report from a peer.
pub data AreAlike {T : Type 0} (came copy : Transmit T) (answer again : TurnRecvRet T) : Type 0 where
  BothHandled : answer ≡ Handled → again ≡ Handled → AreAlike came copy answer again
  BothGivenBack : answer ≡ Ignored came → again ≡ Ignored copy → AreAlike came copy answer again
  BothData : (given : PeerPayload) → answer ≡ PeerData given → again ≡ PeerData given → AreAlike came copy answer again
  BothReports : (transport : TransportType) (peer : SocketAddr) (kind code details : ℕ)
      → answer ≡ PeerIcmp transport peer kind code details → again ≡ PeerIcmp transport peer kind code details
      → AreAlike came copy answer again
