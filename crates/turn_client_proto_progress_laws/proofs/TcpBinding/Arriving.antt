-- How a message from the server reaches a client over TCP that holds an allocation, by the contract of `recv`
-- alone.
use Rattle.turn_client_proto_handshake_laws.proofs.StreamHeads.{none_pulled, none_lost, not_garbled, same_handled}
use Rattle.std.proofs.Common.{◌≡◌, ◌≢◌, ℕ, Bool, true, false, List, [], ◌++◌, length, take, Option, None, refl, sym, ap, ◌∙◌, subst, ◌⊎◌, inl, inr}
use Rattle.std.specs.Prelude.{is_none, MatchOption, ◌&&◌, if◌then◌else◌}
use Rattle.std.proofs.Math.Seq.{drop-length, take-length}
use Rattle.turn_client_proto_messages.specs.StunTypesWire.Grammar.{refusal}
use Rattle.turn_client_proto_messages.specs.StunTypesWire.declared.error.StunParseError.{StunParseError}
use Rattle.turn_client_proto_messages.specs.StunTypesBase.declared.transmit.Transmit.{Transmit}
use Rattle.turn_client_proto_messages.specs.TurnTypesFrame.StreamHeads.{given_of}
use Rattle.turn_client_proto_messages.specs.TurnTypesFrame.declared.head.FrameHead.{FrameHead}
use Rattle.turn_client_proto_messages.specs.TurnTypesFrame.declared.head.FrameHead.TheVariants.{Message, Incomplete}
use Rattle.turn_client_proto_messages.specs.TurnTypesFrame.StreamAnswers.{IsNone, after_look, joined, looked}
use Rattle.turn_client_proto_messages.specs.TurnTypesFrame.Streams.{Stream, alive, left_by}
use Rattle.turn_client_proto_messages.specs.Api.Payloads.{PeerPayload}
use Rattle.turn_client_proto_messages.specs.Api.declared.answer.TurnRecvRet.{TurnRecvRet}
use Rattle.turn_client_proto_messages.specs.Api.declared.answer.TurnRecvRet.TheVariants as recv
use Rattle.turn_client_proto_step_laws.specs.Recv.Control.{Control, Open}
use Rattle.turn_client_proto_handshake_laws.specs.Core.Ending.{HasFailed}
use Rattle.turn_client_proto_handshake_laws.specs.Core.Receiving.{IsProcessed}
use Rattle.turn_client_proto_step_laws.specs.Recv.Datagrams.{IsOfServer}
use Rattle.turn_client_proto_step_laws.specs.Recv.HandingIn.{IsFrameTaken, IsDispatched, taken_as}
use Rattle.turn_client_proto_step_laws.specs.Recv.ClientState.{ClientState, Protocol}
use Rattle.turn_client_proto_step_laws.specs.Payload.declared.payload.Payload.{Payload}
use Rattle.turn_client_proto_step_laws.specs.Payload.Payloads.{carried_for, payload_of, payload_reported}
use Rattle.turn_client_proto_step_laws.specs.Recv.Chunks.{AtFrame, Following, Invalid as FrameInvalid, First, Grew, Here, IsAnsweredAfter, IsFirstLost, IsFirstTaken, IsFrameHandled, IsLostOn, IsChunkTaken, Later, Lost, LostLater, OfItsOwn, Takes, Unkept, Waits}
use Rattle.turn_client_proto_step_laws.specs.Recv.Pulls.{Ends, Gives, Goes, IsPulled, frame_of}
use Rattle.turn_client_proto_step_laws.specs.Recv.Receipts.{End, IsOfStream, IsReceived, IsReceivedBy, IsStreamed, Chunk, Strange}
use Rattle.turn_client_proto_step_laws.specs.Recv.declared.handing.Taken.{Taken}
use Rattle.turn_client_proto_step_laws.specs.Recv.declared.handing.Taken.TheVariants.{Given, Garbled}
use Rattle.turn_client_proto_handshake_laws.specs.Coming.{HasCome, IsFromServer, IsProcessedAs, IsLost, IsPartOf}
use Rattle.turn_client_proto_handshake_laws.specs.Sent.{Beginning}
use Rattle.turn_client_proto_messages.specs.StunTypesWire.Attributes.{kind_at}
use Rattle.turn_client_proto_messages.specs.StunTypesWire.Types.{class_of}
use Rattle.turn_client_proto_handshake_laws.specs.Core.Deleting.{is_authenticated}
use Rattle.turn_client_proto_messages.specs.TurnRuns.Indications.{is_indication, peer_reported}
use Rattle.turn_client_proto_handshake_laws.specs.Stages.{IsOf}
use Rattle.turn_client_proto_handshake_laws.proofs.StreamHeads.{none_started, nothing_left, part_head, whole_head}

-- ---- what is taken of a stream without a whole frame

-- ---- a message that gives nothing

-- A message that is no indication carries no data of a peer.
pub gives_none : (p : Protocol) (bytes : List ℕ) → refusal bytes ≡ None → is_indication (class_of (kind_at bytes)) ≡ false → payload_of p bytes ≡ None
unfolding payload_of payload_reported
gives_none p bytes is other = rw (is, other) (by (is_authenticated p.phase))
  where
    by : (b : Bool) → (if b && false then carried_for p.allocations bytes (peer_reported bytes) else None) ≡ None
    by true = refl
    by false = refl

module _ (b : Beginning) (k : ClientState) (settings : IsOf b k.core) where
  module _ {T : Type 0} (items : T → List ℕ) (came : Transmit T) (from : IsFromServer b came) (now : ℕ) (answer : TurnRecvRet T) (k2 : ClientState) where
    of_server : IsOfServer k.core came
    of_server = record {
      transport = from.transport ∙ sym settings.transport;
      from = from.from ∙ sym settings.server;
      to = from.to ∙ sym settings.here;
    }

    of_stream : IsOfStream k.core came
    of_stream = record { of_server = of_server; works = ap is_none settings.remote }

    -- ---- a chunk

    module _ (before : List ℕ) (some : items came.bytes ≢ []) where
      abbrev grown : Stream
      grown = joined (alive before) (items came.bytes)

      taken_chunk : {A : Type 0} → ((left : Stream) → k2.control ≡ Open left → IsChunkTaken items now (alive before) k.core came answer left k2.core → A)
          → IsStreamed items now (alive before) k.core came answer k2 → A
      taken_chunk next (Chunk of more left control taken) = next left control taken
      taken_chunk next (End of none reported same control) = absurd (some none)
      taken_chunk next (Strange foreign received control) = absurd (foreign of_stream)

      -- A chunk that does not complete the message changes nothing except the buffered bytes.
      waits_on : looked grown ≡ Incomplete → (left : Stream) → k2.control ≡ Open left → IsChunkTaken items now (alive before) k.core came answer left k2.core
          → ((answer ≡ recv.Handled) × (k2.core ≡ k.core) × HasCome (before ++ items came.bytes) k2) ⊎ IsLost k came answer k2
      waits_on incomplete left control (Waits none reported left_is same) =
          inl (reported, same, control ∙ ap Open (left_is ∙ ap (λ (f : FrameHead). left_by f (before ++ items came.bytes)) incomplete))
      waits_on incomplete left control (Takes whole owned started first) = absurd (whole (subst IsNone (sym incomplete) tt))
      waits_on incomplete left control (Lost reported (Unkept cause failed)) = inr (reported, failed)
      waits_on incomplete left control (Lost reported (AtFrame whole owned started first)) = absurd (whole (subst IsNone (sym incomplete) tt))

      pub chunk_waits : (message : List ℕ) → IsPartOf (before ++ items came.bytes) message → HasCome before k → IsReceived items k came now answer k2
          → ((answer ≡ recv.Handled) × (k2.core ≡ k.core) × HasCome (before ++ items came.bytes) k2) ⊎ IsLost k came answer k2
      chunk_waits message part come received =
          let streamed = subst (λ (c : Control). IsReceivedBy items now c k.core came answer k2) come received in
          taken_chunk (waits_on (part_head (before ++ items came.bytes) message part)) streamed

      -- ---- that ends it

      module _ (is : refusal (before ++ items came.bytes) ≡ None) (empty : payload_of k.core (before ++ items came.bytes) ≡ None) where
        abbrev message_is : List ℕ
        message_is = before ++ items came.bytes

        whole_looks : looked grown ≡ Message (length message_is)
        whole_looks = whole_head message_is is

        frame_is : frame_of grown ≡ message_is
        frame_is = ap (λ (f : FrameHead). take (given_of f) message_is) whole_looks ∙ take-length message_is

        left_is : after_look grown ≡ alive []
        left_is = ap (λ (f : FrameHead). left_by f message_is) whole_looks ∙ ap alive (drop-length message_is)

        -- The message is handled.
        processed_frame : (taken : Taken) (new : Protocol) → IsFrameTaken k.core message_is now taken new → (handled : Bool) × (taken ≡ taken_as handled) × IsProcessed k.core message_is now handled new
        processed_frame taken new frame =
            let delivered = subst (λ (o : Option Payload). MatchOption o (IsDispatched (refusal message_is) k.core message_is now taken new) (λ payload. (taken ≡ Given payload) × (new ≡ k.core)))
            empty frame in
            subst (λ (o : Option StunParseError). IsDispatched o k.core message_is now taken new) is delivered

        ends : (owned : Bool) (left : Stream) → k2.control ≡ Open left → IsFirstTaken now owned message_is (alive []) k.core came answer left k2.core
            → IsProcessedAs k message_is came now (Open (alive [])) answer k2
        ends owned left control (First payload gives delivered left_so same) = absurd (Prim.cc (sym gives ∙ empty))
        ends owned left control (FrameInvalid frame reported left_so) = (let h = processed_frame Garbled k2.core frame in not_garbled h.0 h.1)
        ends owned left control (Following handled middle frame given pulled following) =
            let h = processed_frame (taken_as handled) middle frame in
            let same = same_handled handled h.0 h.1 in
            let nothing = none_pulled now (alive []) none_started middle k2.core given left pulled in
            record {
              handled = handled;
              processed = subst (λ (x : Protocol). IsProcessed k.core message_is now handled x) (sym nothing.2) (subst (λ (x : Bool). IsProcessed k.core message_is now x middle) (sym same) h.2);
              answer_is = subst (λ (g : Option PeerPayload). IsAnsweredAfter handled g came answer) nothing.0 following;
              control_is = control ∙ ap Open (nothing.1 ∙ nothing_left);
            }

        is_lost : (owned : Bool) → IsFirstLost now owned message_is (alive []) k.core k2.core → HasFailed k.core k2.core
        is_lost owned (Grew grows failed) = failed
        is_lost owned (OfItsOwn apart payload gives needs failed) = failed
        is_lost owned (LostLater handled middle frame lost) = absurd (none_lost now (alive []) none_started middle k2.core lost)

        whole_taken : (left : Stream) → k2.control ≡ Open left → IsChunkTaken items now (alive before) k.core came answer left k2.core
            → IsProcessedAs k message_is came now (Open (alive [])) answer k2 ⊎ IsLost k came answer k2
        whole_taken left control (Waits none reported left_so same) = absurd (subst IsNone whole_looks none)
        whole_taken left control (Takes whole owned started first) =
            let one = subst (λ (l : List ℕ). IsFirstTaken now owned l (after_look grown) k.core came answer left k2.core) frame_is first in
            inl (ends owned left control (subst (λ (s : Stream). IsFirstTaken now owned message_is s k.core came answer left k2.core) left_is one))
        whole_taken left control (Lost reported (Unkept cause failed)) = inr (reported, failed)
        whole_taken left control (Lost reported (AtFrame whole owned started first)) =
            let one = subst (λ (l : List ℕ). IsFirstLost now owned l (after_look grown) k.core k2.core) frame_is first in
            inr (reported, is_lost owned (subst (λ (s : Stream). IsFirstLost now owned message_is s k.core k2.core) left_is one))

        pub chunk_ends : HasCome before k → IsReceived items k came now answer k2
            → IsProcessedAs k message_is came now (Open (alive [])) answer k2 ⊎ IsLost k came answer k2
        chunk_ends come received =
            let streamed = subst (λ (c : Control). IsReceivedBy items now c k.core came answer k2) come received in
            taken_chunk whole_taken streamed
