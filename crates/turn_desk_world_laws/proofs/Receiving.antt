-- What a client does with received bytes is determined, wherever the bytes are in memory, unless an
-- allocation fails.
use Rattle.std.proofs.Common.{◌≡◌, ◌≢◌, ℕ, Bool, List, Option, Some, None, refl, sym, ap, ◌∙◌, subst}
use Rattle.std.specs.Prelude.{MatchOption}
use Rattle.turn_desk_core.specs.StunTypesWire.Grammar.{refusal}
use Rattle.turn_desk_core.specs.StunTypesWire.declared.error.StunParseError.{StunParseError}
use Rattle.stun_types_base.specs.declared.transmit.Transmit.{Transmit}
use Rattle.turn_desk_event.specs.TurnClientProtoApi.declared.answer.TurnRecvRet.{TurnRecvRet}
use Rattle.turn_desk_event.specs.TurnClientProtoApi.declared.answer.TurnRecvRet.TheVariants.{NoMemory, PeerData}
use Rattle.turn_client_proto_step_laws.specs.Recv.ClientState.{ClientState, Protocol}
use Rattle.turn_desk_world.specs.TurnClientProtoPayload.Payloads.{payload_of}
use Rattle.turn_client_proto_step_laws.specs.Recv.Datagrams.{Foreign, Processed, IsDatagramTaken, IsGivenBack, IsDelivered, IsHandledAs, IsMessageTaken, IsOfServer, IsRead, Lost, Own, in_place}
use Rattle.turn_client_proto_step_laws.specs.Recv.Control.{Control, Datagrams, Open, Closed}
use Rattle.turn_client_proto_step_laws.specs.Recv.Receipts.{IsReceived, IsReceivedBy}
use Rattle.turn_desk_world.specs.TurnClientProtoPayload.declared.payload.Payload.{Payload}
use Rattle.turn_desk_world.specs.TurnClientProtoPayload.declared.payload.Payload.TheVariants.{Data, Framed, Report}
use Rattle.turn_desk_world_laws.specs.Copies.{AreAlike, BothData, BothGivenBack, BothHandled, BothReports, IsCopy}
use Rattle.turn_client_proto_step_laws.proofs.Once.Processing.{processed_definite}
use Rattle.turn_desk_world_laws.proofs.SocketOnce.{alike_as, received_at_same}
use Rattle.turn_desk_world_laws.proofs.Streaming.{streamed_same}

module _ {T : Type 0} (items : T → List ℕ) (old : Protocol) (came copy : Transmit T) (now : ℕ) (answer again : TurnRecvRet T) (one other : Protocol) where
  abbrev pub Agree : Type 0
  Agree = AreAlike came copy answer again × (one ≡ other)

  given_back : IsGivenBack old came answer one → IsGivenBack old copy again other → Agree
  given_back a b = (BothGivenBack a.0 b.0, a.1 ∙ sym b.1)

  -- The same bytes give the same from a peer.
  delivered_alike : IsCopy items came copy → (payload : Payload) → IsDelivered items came payload answer → IsDelivered items copy payload again → AreAlike came copy answer again
  delivered_alike c (Data transport peer start end) a b =
      BothData (in_place (items came.bytes) transport peer start end) a (b ∙ ap (λ (l : List ℕ). PeerData (in_place l transport peer start end)) c.bytes)
  delivered_alike c (Report transport peer report) a b = BothReports transport peer report.icmp_type report.code report.details a b
  delivered_alike c (Framed number transport peer start end) a b =
      BothData (in_place (items came.bytes) transport peer start end) a (b ∙ ap (λ (l : List ℕ). PeerData (in_place l transport peer start end)) c.bytes)

  module _ (enough : answer ≢ NoMemory came) (ample : again ≢ NoMemory copy) where
    message_same : (bytes : List ℕ) → IsMessageTaken old bytes came now answer one → IsMessageTaken old bytes copy now again other → Agree
    message_same bytes (Lost reported grows failed) b = absurd (enough reported)
    message_same bytes (Processed handled processed reported) (Lost known grows failed) = absurd (ample known)
    message_same bytes (Processed handled processed reported) (Processed later processes known) =
        let same = (processed_definite old bytes now).same handled later one other processed processes in
        (alike_as came copy answer again later (subst (λ (h : Bool). IsHandledAs came h answer) same.0 reported) known, same.1)

    read_same : (refused : Option StunParseError) (bytes : List ℕ) → IsRead refused old bytes came now answer one → IsRead refused old bytes copy now again other → Agree
    read_same None bytes a b = message_same bytes a b
    read_same (Some error) bytes a b = given_back a b

    taken_same : IsCopy items came copy → (given : Option Payload) (bytes : List ℕ)
        → MatchOption given (IsRead (refusal bytes) old bytes came now answer one) (λ payload. IsDelivered items came payload answer × (one ≡ old))
        → MatchOption given (IsRead (refusal bytes) old bytes copy now again other) (λ payload. IsDelivered items copy payload again × (other ≡ old)) → Agree
    taken_same c None bytes a b = read_same (refusal bytes) bytes a b
    taken_same c (Some payload) bytes a b = (delivered_alike c payload a.0 b.0, a.1 ∙ sym b.1)

    -- A copy is from the server if the datagram is.
    own_copy : IsCopy items came copy → IsOfServer old came → IsOfServer old copy
    own_copy c is = record { transport = c.transport ∙ is.transport; from = c.from ∙ is.from; to = c.to ∙ is.to }

    copy_own : IsCopy items came copy → IsOfServer old copy → IsOfServer old came
    copy_own c is = record { transport = sym c.transport ∙ is.transport; from = sym c.from ∙ is.from; to = sym c.to ∙ is.to }

    datagram_same : IsCopy items came copy → IsDatagramTaken items old came now answer one → IsDatagramTaken items old copy now again other → Agree
    datagram_same c (Own is a) (Own was b) =
        taken_same c (payload_of old (items came.bytes)) (items came.bytes) a
        (subst (λ (l : List ℕ). MatchOption (payload_of old l) (IsRead (refusal l) old l copy now again other) (λ payload. IsDelivered items copy payload again × (other ≡ old))) c.bytes b)
    datagram_same c (Own is a) (Foreign not_so b) = absurd (not_so (own_copy c is))
    datagram_same c (Foreign not_so a) (Own was b) = absurd (not_so (copy_own c was))
    datagram_same c (Foreign not_so a) (Foreign nor b) = given_back a b

-- Two states with the same core and the same stream are equal.
pub stored_same : (one other : ClientState) → one.core ≡ other.core → one.control ≡ other.control → one ≡ other
stored_same one other cores controls = ap (λ (p : Protocol). record one { core = p }) cores ∙ ap (λ (o : Control). record other { control = o }) controls

module _ {T : Type 0} (items : T → List ℕ) (old : Protocol) (came copy : Transmit T) (now : ℕ) (answer again : TurnRecvRet T) (one other : ClientState) (enough : answer ≢ NoMemory came) (ample : again ≢ NoMemory copy) (is : IsCopy items came copy) where
  received_by : (control : Control) → IsReceivedBy items now control old came answer one → IsReceivedBy items now control old copy again other → AreAlike came copy answer again × (one ≡ other)
  received_by Datagrams a b =
      let same = datagram_same items old came copy now answer again one.core other.core enough ample is a.0 b.0 in
      (same.0, stored_same one other same.1 (a.1 ∙ sym b.1))
  received_by (Open stream) a b =
      let same = streamed_same items now stream old came copy answer again one other enough ample is a b in
      (same.0, stored_same one other same.1 same.2)
  received_by Closed a b =
      let same = received_at_same items came copy answer again enough ample is now old one.core other.core a.0 b.0 in
      (same.0, stored_same one other same.1 (a.1 ∙ sym b.1))

pub received_same : {T : Type 0} (items : T → List ℕ) (old : ClientState) (came copy : Transmit T) (now : ℕ) (answer again : TurnRecvRet T) (one other : ClientState) → answer ≢ NoMemory came → again ≢ NoMemory copy
    → IsCopy items came copy → IsReceived items old came now answer one → IsReceived items old copy now again other → AreAlike came copy answer again × (one ≡ other)
received_same items old came copy now answer again one other enough ample is a b = received_by items old.core came copy now answer again one other enough ample is old.control a b

-- The same datagram, twice.
pub received_once : {T : Type 0} (items : T → List ℕ) (old : ClientState) (came : Transmit T) (now : ℕ) (answer again : TurnRecvRet T) (one other : ClientState) → answer ≢ NoMemory came → again ≢ NoMemory came
    → IsReceived items old came now answer one → IsReceived items old came now again other → (answer ≡ again) × (one ≡ other)
received_once {T} items old came now answer again one other enough ample a b =
    let same = received_same items old came came now answer again one other enough ample (record { bytes = refl; transport = refl; from = refl; to = refl }) a b in
    (equal same.0, same.1)
  where
    equal : AreAlike came came answer again → answer ≡ again
    equal (BothHandled x y) = x ∙ sym y
    equal (BothGivenBack x y) = x ∙ sym y
    equal (BothData given x y) = x ∙ sym y
    equal (BothReports transport peer kind code details x y) = x ∙ sym y
