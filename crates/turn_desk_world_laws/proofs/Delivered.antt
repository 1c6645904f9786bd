-- What `recv` gives from a peer is what the bytes carry, in the terms of a run.
use Rattle.std.proofs.Common.{◌≡◌, ℕ, Bool, true, false, ◌&&◌, List, [], ◌∷◌, Option, Some, None, is_none, option_map, refl, sym, ap, ◌∙◌, subst}
use Rattle.std.specs.Net.Socket.{socket_ip}
use Rattle.std.specs.Option.{option_or}
use Rattle.std.specs.Prelude.{if◌then◌else◌}
use Rattle.std.specs.declared.net.socket_addr.SocketAddr.{SocketAddr}
use Rattle.turn_desk_core.specs.StunTypesWire.Grammar.{refusal}
use Rattle.turn_desk_core.specs.StunTypesWire.declared.error.StunParseError.{StunParseError}
use Rattle.stun_types_base.specs.declared.transmit.Transmit.{Transmit}
use Rattle.stun_types_base.specs.declared.transport.TransportType.{TransportType}
use Rattle.turn_desk_event.specs.TurnTypesFrame.ChannelFrames.{Frame}
use Rattle.turn_desk_core.specs.TurnTypesPeer.PeerValues.{IcmpReport}
use Rattle.turn_desk_event.specs.TurnClientProtoApi.declared.answer.TurnRecvRet.{TurnRecvRet}
use Rattle.turn_desk_world.specs.TurnClientProtoCore.Deleting.{is_authenticated}
use Rattle.turn_desk_step_laws.specs.TurnRuns.Indications.{data_index, is_data, peer_reported, report_decoded}
use Rattle.turn_client_proto_step_laws.specs.Recv.ClientState.{Protocol}
use Rattle.turn_desk_event.specs.TurnClientProtoApi.Payloads.{PeerPayload, part_of}
use Rattle.turn_desk_step_laws.specs.TurnRuns.Messages.{FromChannel, Payload as Reported}
use Rattle.turn_desk_world.specs.TurnClientProtoPayload.OfPeers.{reported_of}
use Rattle.turn_desk_world.specs.TurnClientProtoPayload.Payloads.{carried_for, carried_over, payload_framed, payload_of, payload_reported, permitted}
use Rattle.turn_client_proto_step_laws.specs.Recv.Datagrams.{IsDelivered}
use Rattle.turn_client_proto_step_laws.specs.Recv.Chunks.{IsDeliveredAs, apart, data_given, index_if, placed}
use Rattle.turn_desk_world.specs.TurnClientProtoPayload.declared.payload.Payload.{Payload}
use Rattle.turn_desk_world.specs.TurnClientProtoPayload.declared.payload.Payload.TheVariants.{Data, Framed, Report}
use Rattle.turn_desk_world.proofs.TurnClientProtoPayload.OfPeers.{payload_of_peer}
use Rattle.turn_client_proto_step_laws.proofs.Lists.{inside}
use Rattle.turn_desk_world_laws.specs.Reported.{data_of, given_by}

-- ---- a message gives no channel's data

abbrev IsMessages : Payload → Type 0
IsMessages (Framed number transport peer start end) = ⊥
IsMessages _ = Unit {0}

module _ (p : Protocol) (bytes : List ℕ) (payload : Payload) where
  by_index : (transport : TransportType) (peer : SocketAddr) (index : Option (ℕ × ℕ)) (report : Option IcmpReport)
      → option_or (option_map (λ index. Data transport peer index.0 index.1) index) (option_map (λ r. Report transport peer r) report) ≡ Some payload → IsMessages payload
  by_index transport peer (Some index) report is = subst IsMessages (inside is) tt
  by_index transport peer None (Some report) is = subst IsMessages (inside is) tt
  by_index transport peer None None is = absurd (Prim.cc is)

  by_transport : (peer : SocketAddr) (transport : Option TransportType) → carried_over bytes peer transport ≡ Some payload → IsMessages payload
  by_transport peer None is = absurd (Prim.cc is)
  by_transport peer (Some transport) is = by_index transport peer (data_index bytes) (report_decoded bytes) is

  by_peer : (peer : Option SocketAddr) → carried_for p.allocations bytes peer ≡ Some payload → IsMessages payload
  by_peer None is = absurd (Prim.cc is)
  by_peer (Some peer) is = by_transport peer (permitted (socket_ip peer) p.allocations) is

  by_phase : (due : Bool) → (if due then carried_for p.allocations bytes (peer_reported bytes) else None) ≡ Some payload → IsMessages payload
  by_phase true is = by_peer (peer_reported bytes) is
  by_phase false is = absurd (Prim.cc is)

  of_message : payload_reported p bytes ≡ Some payload → IsMessages payload
  unfolding payload_reported
  of_message is = by_phase (is_authenticated p.phase && is_data bytes) is

-- The data of a channel frame is in no message.
no_message : (p : Protocol) (bytes : List ℕ) (number : ℕ) (transport : TransportType) (peer : SocketAddr) (start end : ℕ)
    → payload_of p bytes ≡ Some (Framed number transport peer start end) → is_none (refusal bytes) ≡ false
unfolding payload_of
no_message p bytes number transport peer start end is = by (refusal bytes) is
  where
    by : (refused : Option StunParseError) → (if is_none refused then payload_reported p bytes else payload_framed p bytes) ≡ Some (Framed number transport peer start end) → is_none refused ≡ false
    by None is = absurd (of_message p bytes (Framed number transport peer start end) is)
    by (Some error) is = refl

-- ---- what is handed over

-- Data from a peer is what the bytes carry, wherever it is in memory.
module _ (p : Protocol) (frame : List ℕ) where
  pub data_reported : (index : Option (ℕ × ℕ)) (payload : Payload) (given : PeerPayload) → payload_of p frame ≡ Some payload → data_given frame payload ≡ Some given
      → data_of (is_none (refusal frame)) frame (placed index given) ≡ reported_of frame payload
  data_reported index (Data transport peer start end) given gives is =
      let message : refusal frame ≡ None = (payload_of_peer p frame (Data transport peer start end) gives).carried.0.message in
      ap (λ (g : PeerPayload). data_of (is_none (refusal frame)) frame (placed index g)) (sym (inside is))
      ∙ ap (λ (o : Option StunParseError). data_of (is_none o) frame (placed index (apart frame transport peer start end))) message
  data_reported index (Report transport peer report) given gives is = absurd (Prim.cc is)
  data_reported index (Framed number transport peer start end) given gives is =
      let framed = no_message p frame number transport peer start end gives in
      let reported = (payload_of_peer p frame (Framed number transport peer start end) gives).carried.1 in
      ap (λ (g : PeerPayload). data_of (is_none (refusal frame)) frame (placed index g)) (sym (inside is))
      ∙ ap (λ (b : Bool). data_of b frame (placed index (apart frame transport peer start end))) framed
      ∙ ap (λ (f : Frame). FromChannel f.id peer (part_of frame start end)) reported

-- What `recv` returns if it gives what a frame carries.
module _ {T : Type 0} (p : Protocol) (frame : List ℕ) where
  pub delivered_as : (owned : Bool) (payload : Payload) (took : TurnRecvRet T) → payload_of p frame ≡ Some payload → IsDeliveredAs owned frame payload took → given_by frame took ≡ reported_of frame payload ∷ []
  delivered_as owned (Data transport peer start end) took gives is =
      ap (given_by frame) is ∙ ap (λ (x : Reported). x ∷ []) (data_reported p frame (index_if owned start end) (Data transport peer start end) (apart frame transport peer start end) gives refl)
  delivered_as owned (Report transport peer report) took gives is = ap (given_by frame) is
  delivered_as owned (Framed number transport peer start end) took gives is =
      ap (given_by frame) is ∙ ap (λ (x : Reported). x ∷ []) (data_reported p frame (index_if owned start end) (Framed number transport peer start end) (apart frame transport peer start end) gives refl)

module _ {T : Type 0} (items : T → List ℕ) (p : Protocol) (came : Transmit T) where
  pub delivered : (payload : Payload) (took : TurnRecvRet T) → payload_of p (items came.bytes) ≡ Some payload → IsDelivered items came payload took → given_by (items came.bytes) took ≡ reported_of (items came.bytes) payload ∷ []
  delivered (Data transport peer start end) took gives is = delivered_as p (items came.bytes) false (Data transport peer start end) took gives is
  delivered (Report transport peer report) took gives is = ap (given_by (items came.bytes)) is
  delivered (Framed number transport peer start end) took gives is = delivered_as p (items came.bytes) false (Framed number transport peer start end) took gives is
