-- The result for a chunk.
use Rattle.std.proofs.Common.{◌≡◌, ◌≢◌, ◌≤◌, ℕ, zero, suc, Bool, true, false, List, [], ◌∷◌, ◌++◌, length, take, drop, Option, Some, None, refl, sym, ap, ◌∙◌, subst, arith, inl, inr}
use Rattle.std.specs.Prelude.{MatchOption}
use Rattle.std.proofs.lemmas.Bool.{cases_Bool}
use Rattle.stun_types_wire.specs.Grammar.{refusal}
use Rattle.stun_types_wire.specs.declared.error.StunParseError.{StunParseError}
use Rattle.stun_types_base.specs.declared.transmit.Transmit.{Transmit}
use Rattle.turn_types_frame.specs.ChannelFrames.{channel_refusal}
use Rattle.turn_types_frame.proofs.Heads.{given_fits}
use Rattle.turn_types_frame.specs.StreamAnswers.{IsChannel, IsMessage, IsNone, after_look, joined, looked}
use Rattle.turn_types_frame.specs.declared.head.FrameHead.{FrameHead}
use Rattle.turn_types_frame.specs.declared.head.FrameHead.TheVariants.{Message, Channel, Incomplete, Invalid as InvalidHead}
use Rattle.turn_types_frame.specs.StreamHeads.{given_of}
use Rattle.turn_types_frame.specs.Streams.{Stream}
use Rattle.turn_client_proto_api.specs.Payloads.{part_of}
use Rattle.turn_client_proto_api.specs.declared.answer.TurnRecvRet.{TurnRecvRet}
use Rattle.turn_client_proto_api.specs.declared.answer.TurnRecvRet.TheVariants as recv
use Rattle.turn_client_proto_core.specs.Ending.{HasFailed}
use Rattle.turn_client_proto_core.specs.Receiving.{MayGrow}
use Rattle.turn_client_proto_core.specs.declared.protocol.Protocol.{Protocol}
use Rattle.turn_client_proto_payload.specs.OfPeers.{end_of}
use Rattle.turn_client_proto_payload.specs.Payloads.{payload_of}
use Rattle.turn_client_proto_payload.specs.declared.payload.Payload.{Payload}
use Rattle.turn_client_proto_payload.specs.declared.payload.Payload.TheVariants.{Data, Framed, Report}
use Rattle.turn_client_proto_payload.proofs.OfPeers.{payload_of_peer}
use Rattle.turn_client_proto_recv.specs.Datagrams.{IsDelivered}
use Rattle.turn_client_proto_recv.specs.HandingIn.{IsFrameTaken, IsDispatched, taken_as, unread_as}
use Rattle.turn_client_proto_recv.specs.Chunks.{AtFrame, Following, Invalid, First, FirstLost, FirstTaken, Grew, HasStarted, IsAfter, IsFirstAnswered, IsDeliveredAs, IsPayloadAnswered, IsChunkTaken, Lost, LostAfter, LostLater, OfItsOwn, Pulled, Refused, Takes, ReportedApart}
use Rattle.turn_client_proto_recv.specs.Pulls.{frame_of}
use Rattle.turn_client_proto_recv.specs.declared.handing.Taken.{Taken}
use Rattle.turn_client_proto_recv.specs.declared.handing.Taken.TheVariants.{Given, Garbled}

-- The frame at the head of a stream lies within its bytes.
pub looked_fits : (s : Stream) → given_of (looked s) ≤ length s.stored
looked_fits s =
    elim (cases_Bool s.dead) [
      | inl dead ↦ rw dead (omega arith)
      | inr lives ↦ rw lives (given_fits s.stored)
    ]

-- The first `n` of the first `m` elements are the first `n`, if there are that many.
head_of_head : {X : Type 0} (n m : ℕ) (xs : List X) → n ≤ length (take m xs) → take n (take m xs) ≡ take n xs
head_of_head zero m xs less = refl
head_of_head (suc n) zero xs less = absurd (omega (arith, less))
head_of_head (suc n) (suc m) [] less = refl
head_of_head {X} (suc n) (suc m) (x ∷ xs) less = ap (λ (l : List X). x ∷ l) (head_of_head n m xs (omega (arith, less)))

part_of_head : (n : ℕ) (bytes : List ℕ) (start end : ℕ) → end ≤ length (take n bytes) → part_of (take n bytes) start end ≡ part_of bytes start end
part_of_head n bytes start end less = ap (λ (l : List ℕ). drop start l) (head_of_head end n bytes less)

-- A payload by its position in the bytes is one by its position in the frame at their start.
pub delivered_as : {T : Type 0} (items : T → List ℕ) (came : Transmit T) (answer : TurnRecvRet T) (n : ℕ) (payload : Payload) → end_of payload ≤ length (take n (items came.bytes)) → IsDelivered items came payload answer
    → IsDeliveredAs false (take n (items came.bytes)) payload answer
delivered_as items came answer n (Data transport peer start end) within is =
    is ∙ ap (λ (l : List ℕ). recv.PeerData (record { payload = l; index = Some (start, end); transport = transport; peer = peer })) (sym (part_of_head n (items came.bytes) start end within))
delivered_as items came answer n (Report transport peer report) within is = is
delivered_as items came answer n (Framed number transport peer start end) within is =
    is ∙ ap (λ (l : List ℕ). recv.PeerData (record { payload = l; index = Some (start, end); transport = transport; peer = peer })) (sym (part_of_head n (items came.bytes) start end within))

-- ---- what was given

no_given : (handled : Bool) (payload : Payload) → Given payload ≡ taken_as handled → ⊥
no_given true payload is = Prim.cc is
no_given false payload is = Prim.cc is

no_unread : (refused : Option StunParseError) (payload : Payload) → Given payload ≡ unread_as refused → ⊥
no_unread None payload is = Prim.cc is
no_unread (Some error) payload is = Prim.cc is

given_only : (old : Protocol) (frame : List ℕ) (now : ℕ) (payload : Payload) (new : Protocol) → IsFrameTaken old frame now (Given payload) new → (payload_of old frame ≡ Some payload) × (new ≡ old)
given_only old frame now payload new is = by (payload_of old frame) (refusal frame) is
  where
    by : (found : Option Payload) (refused : Option StunParseError) → MatchOption found (IsDispatched refused old frame now (Given payload) new) (λ payload'. (Given payload ≡ Given payload') × (new ≡ old)) → (found ≡ Some payload) × (new ≡ old)
    by None None (handled, taken, processed) = absurd (no_given handled payload taken)
    by None (Some error) (taken, same) = absurd (no_unread (channel_refusal frame) payload taken)
    by (Some found) refused (taken, same) = (ap Some (sym (Prim.cc taken)), same)

-- ---- the first frame

module _ {T : Type 0} (now : ℕ) (owned : Bool) (frame : List ℕ) (stream : Stream) (old : Protocol) (came : Transmit T) (answer : TurnRecvRet T) (left : Stream) (new mid : Protocol) where
  abbrev pub Answered : Type 0
  Answered = IsFirstAnswered now owned frame stream old came answer left new

  pub following : (handled : Bool) (taken : Taken) → taken ≡ taken_as handled → IsFrameTaken old frame now taken mid → IsAfter now handled stream mid came answer left new → Answered
  following handled taken is takes (Pulled given pull reported) = FirstTaken (Following handled mid (subst (λ (t : Taken). IsFrameTaken old frame now t mid) is takes) given pull reported)
  following handled taken is takes (LostAfter reported lost) = FirstLost reported (LostLater handled mid (subst (λ (t : Taken). IsFrameTaken old frame now t mid) is takes) lost)

  pub gave : (taken : Taken) (payload : Payload) → taken ≡ Given payload → IsFrameTaken old frame now taken mid → IsDeliveredAs owned frame payload answer → left ≡ stream → new ≡ mid → Answered
  gave taken payload is takes reported rest after =
      let only = given_only old frame now payload mid (subst (λ (t : Taken). IsFrameTaken old frame now t mid) is takes) in
      FirstTaken (First payload only.0 reported rest (after ∙ only.1))

  pub garbled : (taken : Taken) → taken ≡ Garbled → IsFrameTaken old frame now taken mid → answer ≡ recv.Handled → left ≡ stream → new ≡ mid → Answered
  garbled taken is takes reported rest after =
      FirstTaken (Invalid (subst (λ (p : Protocol). IsFrameTaken old frame now Garbled p) (sym after) (subst (λ (t : Taken). IsFrameTaken old frame now t mid) is takes)) reported rest)

  pub lost : (payload_of old frame ≡ None) × (refusal frame ≡ None) × MayGrow old frame × HasFailed old mid → answer ≡ recv.NoMemory came → new ≡ mid → Answered
  lost (none, message, grows, failed) reported after =
      FirstLost reported (Grew (record { gives = none; message = message; grows = grows }) (subst (λ (p : Protocol). HasFailed old p) (sym after) failed))

  -- The result if the payload is delivered in a vector of its own.
  pub gave_apart : (taken : Taken) (payload : Payload) → owned ≡ true → taken ≡ Given payload → IsFrameTaken old frame now taken mid → IsPayloadAnswered frame payload came mid answer new → left ≡ stream → Answered
  gave_apart taken payload owns is takes (ReportedApart reported after) rest =
      gave taken payload is takes (subst (λ (b : Bool). IsDeliveredAs b frame payload answer) (sym owns) reported) rest after
  gave_apart taken payload owns is takes (Refused holds reported failed) rest =
      let only = given_only old frame now payload mid (subst (λ (t : Taken). IsFrameTaken old frame now t mid) is takes) in
      FirstLost reported (OfItsOwn owns payload only.0 holds (subst (λ (p : Protocol). HasFailed p new) only.1 failed))

-- The result if the payload is delivered by its position in the chunk.
pub gave_in_place : {T : Type 0} (items : T → List ℕ) (now : ℕ) (end : ℕ) (slice : List ℕ) (stream : Stream) (old mid : Protocol) (came : Transmit T) (answer : TurnRecvRet T) (taken : Taken) (payload : Payload)
    → slice ≡ take end (items came.bytes) → taken ≡ Given payload → IsFrameTaken old slice now taken mid → IsDelivered items came payload answer
    → IsFirstAnswered now false (take end (items came.bytes)) stream old came answer stream mid
gave_in_place items now end slice stream old mid came answer taken payload bytes is takes reported =
    let here : IsFrameTaken old (take end (items came.bytes)) now taken mid = subst (λ (l : List ℕ). IsFrameTaken old l now taken mid) bytes takes in
    let only = given_only old (take end (items came.bytes)) now payload mid (subst (λ (t : Taken). IsFrameTaken old (take end (items came.bytes)) now t mid) is here) in
    let within = (payload_of_peer old (take end (items came.bytes)) payload only.0).within in
    gave now false (take end (items came.bytes)) stream old came answer stream mid mid taken payload is here (delivered_as items came answer end payload within reported) refl refl

-- ---- the chunk, by its first frame

module _ {T : Type 0} (items : T → List ℕ) (now : ℕ) (stream : Stream) (old : Protocol) (came : Transmit T) (answer : TurnRecvRet T) (left : Stream) (new : Protocol) where
  abbrev grown : Stream
  grown = joined stream (items came.bytes)

  whole : (owned : Bool) → ¬ IsNone (looked grown) → HasStarted stream owned → IsFirstAnswered now owned (frame_of grown) (after_look grown) old came answer left new → IsChunkTaken items now stream old came answer left new
  whole owned some started (FirstTaken is) = Takes some owned started is
  whole owned some started (FirstLost reported is) = Lost reported (AtFrame some owned started is)

  -- The outcome if the first frame begins with the chunk.
  pub in_place : (end : ℕ) (rest : Stream) → ¬ IsNone (looked grown) → stream.stored ≡ [] → end ≡ given_of (looked grown) → rest ≡ after_look grown
      → IsFirstAnswered now false (take end (items came.bytes)) rest old came answer left new → IsChunkTaken items now stream old came answer left new
  in_place end rest some none ends looks is =
      let same : take end (items came.bytes) ≡ frame_of grown = ap (λ (n : ℕ). take n (items came.bytes)) ends ∙ ap (λ (l : List ℕ). take (given_of (looked grown)) (l ++ items came.bytes)) (sym none) in
      whole false some none
      (subst (λ (f : List ℕ). IsFirstAnswered now false f (after_look grown) old came answer left new) same (subst (λ (s : Stream). IsFirstAnswered now false (take end (items came.bytes)) s old came answer left new) looks is))

  -- The outcome if the first frame began in an earlier chunk.
  pub started_before : (slice buffered : List ℕ) (rest : Stream) → ¬ IsNone (looked grown) → stream.stored ≢ [] → buffered ≡ take (given_of (looked grown)) grown.stored → slice ≡ buffered → rest ≡ after_look grown
      → IsFirstAnswered now true slice rest old came answer left new → IsChunkTaken items now stream old came answer left new
  started_before slice buffered rest some started given bytes looks is =
      whole true some started
      (subst (λ (f : List ℕ). IsFirstAnswered now true f (after_look grown) old came answer left new) (bytes ∙ given) (subst (λ (s : Stream). IsFirstAnswered now true slice s old came answer left new) looks is))

-- The frame ends within the chunk.
pub range_fits : {T : Type 0} (items : T → List ℕ) (stream : Stream) (came : Transmit T) (end : ℕ) → stream.stored ≡ [] → end ≡ given_of (looked (joined stream (items came.bytes))) → end ≤ length (items came.bytes)
range_fits items stream came end none ends =
    subst (λ (l : List ℕ). end ≤ length (l ++ items came.bytes)) none
    (subst (λ (n : ℕ). n ≤ length (joined stream (items came.bytes)).stored) (sym ends) (looked_fits (joined stream (items came.bytes))))

pub is_message : (f : FrameHead) → IsMessage f → ¬ IsNone f
is_message (Message n) is none = none
is_message (Channel n) is none = is
is_message Incomplete is none = is
is_message InvalidHead is none = is

pub is_channel : (f : FrameHead) → IsChannel f → ¬ IsNone f
is_channel (Message n) is none = is
is_channel (Channel n) is none = none
is_channel Incomplete is none = is
is_channel InvalidHead is none = is
