-- The result for a datagram, by the outcome of its bytes.
use Rattle.std.proofs.Common.{◌≡◌, ℕ, Bool, true, false, List, Option, None, Some, subst}
use Rattle.std.specs.Prelude.{MatchOption}
use Rattle.stun_types_wire.specs.Grammar.{refusal}
use Rattle.stun_types_wire.specs.declared.error.StunParseError.{StunParseError}
use Rattle.stun_types_base.specs.declared.transmit.Transmit.{Transmit}
use Rattle.turn_types_frame.specs.ChannelFrames.{channel_refusal}
use Rattle.turn_client_proto_api.specs.declared.answer.TurnRecvRet.{TurnRecvRet}
use Rattle.turn_client_proto_api.specs.declared.answer.TurnRecvRet.TheVariants.{NoMemory, Handled as WasHandled, Ignored as GaveBack}
use Rattle.turn_client_proto_core.specs.Ending.{HasFailed}
use Rattle.turn_client_proto_core.specs.Receiving.{MayGrow}
use Rattle.turn_client_proto_core.specs.declared.protocol.Protocol.{Protocol}
use Rattle.turn_client_proto_payload.specs.Payloads.{payload_of}
use Rattle.turn_client_proto_payload.specs.declared.payload.Payload.{Payload}
use Rattle.turn_client_proto_recv.specs.Datagrams.{IsDelivered, IsHandledAs, IsRead, IsTaken, Processed, Lost}
use Rattle.turn_client_proto_recv.specs.HandingIn.{IsFrameTaken, IsDispatched, taken_as, unread_as}
use Rattle.turn_client_proto_recv.specs.declared.handing.Taken.{Taken}
use Rattle.turn_client_proto_recv.specs.declared.handing.Taken.TheVariants.{Given, Handled, Ignored, Garbled}

-- Handling the bytes failed because a memory allocation failed.
abbrev pub IsLost : Protocol → List ℕ → Protocol → Type 0
IsLost old bytes new = (payload_of old bytes ≡ None) × (refusal bytes ≡ None) × MayGrow old bytes × HasFailed old new

module _ {T : Type 0} (items : T → List ℕ) (came : Transmit T) (answer : TurnRecvRet T) where
  -- The result, by the outcome of the bytes.
  abbrev pub IsAnswered : Taken → Type 0
  IsAnswered (Given payload) = IsDelivered items came payload answer
  IsAnswered Handled = answer ≡ WasHandled
  IsAnswered Ignored = answer ≡ GaveBack came
  IsAnswered Garbled = answer ≡ GaveBack came

  as_handled : (handled : Bool) → IsAnswered (taken_as handled) → IsHandledAs came handled answer
  as_handled true reported = reported
  as_handled false reported = reported

  as_unread : (refused : Option StunParseError) → IsAnswered (unread_as refused) → answer ≡ GaveBack came
  as_unread None reported = reported
  as_unread (Some error) reported = reported

  read_by : (refused : Option StunParseError) (old : Protocol) (bytes : List ℕ) (now : ℕ) (taken : Taken) (new : Protocol)
      → IsDispatched refused old bytes now taken new → IsAnswered taken → IsRead refused old bytes came now answer new
  read_by None old bytes now taken new (handled, is, processed) reported = Processed handled processed (as_handled handled (subst IsAnswered is reported))
  read_by (Some error) old bytes now taken new (is, same) reported = (as_unread (channel_refusal bytes) (subst IsAnswered is reported), same)

  taken_by : (given : Option Payload) (refused : Option StunParseError) (old : Protocol) (bytes : List ℕ) (now : ℕ) (taken : Taken) (new : Protocol)
      → MatchOption given (IsDispatched refused old bytes now taken new) (λ payload. (taken ≡ Given payload) × (new ≡ old))
      → IsAnswered taken
      → MatchOption given (IsRead refused old bytes came now answer new) (λ payload. IsDelivered items came payload answer × (new ≡ old))
  taken_by None refused old bytes now taken new processed reported = read_by refused old bytes now taken new processed reported
  taken_by (Some payload) refused old bytes now taken new gave reported = (subst IsAnswered gave.0 reported, gave.1)

  lost_by : (given : Option Payload) (refused : Option StunParseError) (old : Protocol) (bytes : List ℕ) (now : ℕ) (new : Protocol)
      → given ≡ None → refused ≡ None → MayGrow old bytes → HasFailed old new → answer ≡ NoMemory came
      → MatchOption given (IsRead refused old bytes came now answer new) (λ payload. IsDelivered items came payload answer × (new ≡ old))
  lost_by None None old bytes now new nothing is grows failed reported = Lost reported grows failed
  lost_by None (Some error) old bytes now new nothing is grows failed reported = absurd (Prim.cc is)
  lost_by (Some payload) refused old bytes now new nothing is grows failed reported = absurd (Prim.cc nothing)

  module _ (old : Protocol) (slice : List ℕ) (now : ℕ) (new : Protocol) (bytes : slice ≡ items came.bytes) where
    -- The case in which the bytes were handled.
    pub received_ok : (found taken : Taken) → found ≡ taken → IsFrameTaken old slice now found new → IsAnswered taken → IsTaken items old came now answer new
    received_ok found taken same took reported =
        let one : IsFrameTaken old slice now taken new = subst (λ (t : Taken). IsFrameTaken old slice now t new) same took in
        let two : IsFrameTaken old (items came.bytes) now taken new = subst (λ (l : List ℕ). IsFrameTaken old l now taken new) bytes one in
        taken_by (payload_of old (items came.bytes)) (refusal (items came.bytes)) old (items came.bytes) now taken new two reported

    -- The case in which a memory allocation failed.
    pub received_err : IsLost old slice new → answer ≡ NoMemory came → IsTaken items old came now answer new
    received_err failed reported =
        let lost : IsLost old (items came.bytes) new = subst (λ (l : List ℕ). IsLost old l new) bytes failed in
        lost_by (payload_of old (items came.bytes)) (refusal (items came.bytes)) old (items came.bytes) now new lost.0 lost.1 lost.2 lost.3 reported
