-- How a success response from the server reaches a client, by the contract of `recv` alone.
use Rattle.turn_client_proto_handshake_laws.proofs.StreamHeads.{whole_head, part_head, none_started, nothing_left, none_pulled, none_lost, not_garbled, same_handled}
use Rattle.std.proofs.Common.{◌≡◌, ◌≢◌, ℕ, ◌+◌, ◌<◌, arith, Bool, true, false, List, [], ◌∷◌, ◌++◌, length, take, Option, Some, None, refl, sym, ap, ◌∙◌, subst, ◌⊎◌, inl, inr, append-nil}
use Rattle.std.specs.Prelude.{is_none, nat_lt, not, ◌&&◌, ◌==◌, if◌then◌else◌, MatchOption}
use Rattle.std.specs.Option.{option_or}
use Rattle.std.proofs.lemmas.Bool.{cases_Bool, ltb-false}
use Rattle.std.proofs.Math.Seq.{drop-length, take-length}
use Rattle.std.proofs.lemmas.List.{length-append}
use Rattle.turn_client_proto_messages.specs.StunTypesWire.Attributes.{kind_at, length_at}
use Rattle.turn_client_proto_messages.specs.StunTypesWire.Grammar.{body_refusal, header_refusal, length_refusal, refusal}
use Rattle.turn_client_proto_messages.specs.StunTypesWire.declared.class.MessageClass.{MessageClass}
use Rattle.turn_client_proto_messages.specs.StunTypesWire.declared.error.StunParseError.{StunParseError}
use Rattle.turn_client_proto_messages.specs.StunTypesWire.Types.{method_of}
use Rattle.turn_client_proto_messages.specs.StunTypesBase.declared.transmit.Transmit.{Transmit}
use Rattle.turn_client_proto_messages.specs.TurnTypesFrame.Frames.{IsMessageFrame}
use Rattle.turn_client_proto_messages.specs.TurnTypesFrame.StreamHeads.{head, given_of}
use Rattle.turn_client_proto_messages.specs.TurnTypesFrame.declared.head.FrameHead.{FrameHead}
use Rattle.turn_client_proto_messages.specs.TurnTypesFrame.declared.head.FrameHead.TheVariants.{Message, Incomplete}
use Rattle.turn_client_proto_messages.proofs.TurnTypesFrame.Heads.{message as head_message, channel, short_message, short_channel, invalid, head_cases, message_grows, channel_grows, invalid_grows, message_at}
use Rattle.turn_client_proto_messages.specs.TurnTypesFrame.StreamAnswers.{IsNone, after_look, joined, looked}
use Rattle.turn_client_proto_messages.specs.TurnTypesFrame.Streams.{Stream, alive, left_by}
use Rattle.turn_client_proto_messages.specs.TurnTypesAttributes.TurnRegistry.{data_method}
use Rattle.turn_client_proto_messages.specs.Api.Payloads.{PeerPayload}
use Rattle.turn_client_proto_messages.specs.Api.declared.answer.TurnRecvRet.{TurnRecvRet}
use Rattle.turn_client_proto_messages.specs.Api.declared.answer.TurnRecvRet.TheVariants as recv
use Rattle.turn_client_proto_step_laws.specs.Recv.Control.{Control, Datagrams, Open}
use Rattle.turn_client_proto_handshake_laws.specs.Core.Ending.{HasFailed}
use Rattle.turn_client_proto_handshake_laws.specs.Core.Receiving.{IsProcessed}
use Rattle.turn_client_proto_step_laws.specs.Recv.Datagrams.{Foreign, Processed, IsDatagramTaken, IsDelivered, IsMessageTaken, IsOfServer, IsRead, Lost as MessageLost, Own}
use Rattle.turn_client_proto_step_laws.specs.Recv.HandingIn.{IsFrameTaken, IsDispatched, taken_as}
use Rattle.turn_client_proto_step_laws.specs.Recv.ClientState.{ClientState, Protocol}
use Rattle.turn_client_proto_step_laws.specs.Payload.declared.payload.Payload.{Payload}
use Rattle.turn_client_proto_step_laws.specs.Payload.Payloads.{carried_for, payload_framed, payload_of, payload_reported}
use Rattle.turn_client_proto_handshake_laws.specs.Core.Deleting.{is_authenticated}
use Rattle.turn_client_proto_messages.specs.TurnRuns.Indications.{is_indication, peer_reported, shows_unexpected}
use Rattle.turn_client_proto_step_laws.specs.Recv.Chunks.{AtFrame, Following, Invalid as FrameInvalid, First, Grew, Here, IsAnsweredAfter, IsFirstLost, IsFirstTaken, IsFrameHandled, IsLostOn, IsChunkTaken, Later, Lost, LostLater, OfItsOwn, Takes, Unkept, Waits}
use Rattle.turn_client_proto_step_laws.specs.Recv.Pulls.{Ends, Gives, Goes, IsPulled, frame_of}
use Rattle.turn_client_proto_step_laws.specs.Recv.Receipts.{End, IsOfStream, IsReceived, IsReceivedBy, IsStreamed, Chunk, Strange}
use Rattle.turn_client_proto_step_laws.specs.Recv.declared.handing.Taken.{Taken}
use Rattle.turn_client_proto_step_laws.specs.Recv.declared.handing.Taken.TheVariants.{Given, Garbled}
use Rattle.turn_client_proto_handshake_laws.specs.Coming.{HasCome, IsFromServer, IsProcessedAs, IsLost, IsPartOf}
use Rattle.turn_client_proto_handshake_laws.specs.Sent.{Beginning}
use Rattle.turn_client_proto_handshake_laws.specs.Stages.{IsOf}
use Rattle.turn_client_proto_progress_laws.specs.Reaching.{IsSuccess}

-- ---- what stands at the head

-- ---- what is taken of a stream without a whole frame

-- ---- what such a client gives

-- A success response carries no data of a peer.
no_payload : (p : Protocol) (bytes : List ℕ) → IsSuccess bytes → payload_of p bytes ≡ None
unfolding payload_of payload_reported
no_payload p bytes is =
    ap (λ (o : Option StunParseError). if is_none o then payload_reported p bytes else payload_framed p bytes) is.message
    ∙ (ap (λ (m : MessageClass). if is_authenticated p.phase && (is_indication m && (method_of (kind_at bytes) == data_method && not (shows_unexpected bytes))) then carried_for p.allocations bytes (peer_reported bytes) else None) is.success
    ∙ ap (λ (x : Bool). if x then carried_for p.allocations bytes (peer_reported bytes) else None) (no_and (is_authenticated p.phase)))
  where
    no_and : (x : Bool) → (x && false) ≡ false
    no_and true = refl
    no_and false = refl

module _ (b : Beginning) (k : ClientState) (u : IsOf b k.core) where
  module _ {T : Type 0} (items : T → List ℕ) (came : Transmit T) (from : IsFromServer b came) (now : ℕ) (answer : TurnRecvRet T) (k2 : ClientState) where
    of_server : IsOfServer k.core came
    of_server = record {
      transport = from.transport ∙ sym u.transport;
      from = from.from ∙ sym u.server;
      to = from.to ∙ sym u.here;
    }

    of_stream : IsOfStream k.core came
    of_stream = record { of_server = of_server; works = ap is_none u.remote }

    -- ---- a datagram

    read : (message : List ℕ) → IsMessageTaken k.core message came now answer k2.core → k2.control ≡ Datagrams → IsProcessedAs k message came now Datagrams answer k2 ⊎ IsLost k came answer k2
    read message (Processed handled processed as_it) control = inl (record { handled = handled; processed = processed; answer_is = as_it; control_is = control })
    read message (MessageLost reported grows failed) control = inr (reported, failed)

    own : IsSuccess (items came.bytes) → IsDatagramTaken items k.core came now answer k2.core → k2.control ≡ Datagrams
        → IsProcessedAs k (items came.bytes) came now Datagrams answer k2 ⊎ IsLost k came answer k2
    own is (Foreign foreign back) control = absurd (foreign of_server)
    own is (Own server taken) control =
        let reads = subst (λ (o : Option Payload). MatchOption o (IsRead (refusal (items came.bytes)) k.core (items came.bytes) came now answer k2.core)
        (λ payload. IsDelivered items came payload answer × (k2.core ≡ k.core))) (no_payload k.core (items came.bytes) is) taken in
        read (items came.bytes) (subst (λ (o : Option StunParseError). IsRead o k.core (items came.bytes) came now answer k2.core) is.message reads) control

    pub datagram_processed : k.control ≡ Datagrams → IsSuccess (items came.bytes) → IsReceived items k came now answer k2
        → IsProcessedAs k (items came.bytes) came now Datagrams answer k2 ⊎ IsLost k came answer k2
    datagram_processed over is received =
        let taken = subst (λ (c : Control). IsReceivedBy items now c k.core came answer k2) over received in
        own is taken.0 taken.1

    -- ---- a chunk

    module _ (before : List ℕ) (some : items came.bytes ≢ []) where
      abbrev grown : Stream
      grown = joined (alive before) (items came.bytes)

      taken_chunk : {A : Type 0} → ((left : Stream) → k2.control ≡ Open left → IsChunkTaken items now (alive before) k.core came answer left k2.core → A)
          → IsStreamed items now (alive before) k.core came answer k2 → A
      taken_chunk next (Chunk of more left control taken) = next left control taken
      taken_chunk next (End of none reported same control) = absurd (some none)
      taken_chunk next (Strange foreign received control) = absurd (foreign of_stream)

      -- A chunk that does not complete the message changes nothing except the buffered bytes.
      waits_on : looked grown ≡ Incomplete → (left : Stream) → k2.control ≡ Open left → IsChunkTaken items now (alive before) k.core came answer left k2.core
          → ((answer ≡ recv.Handled) × (k2.core ≡ k.core) × HasCome (before ++ items came.bytes) k2) ⊎ IsLost k came answer k2
      waits_on incomplete left control (Waits none reported left_is same) =
          inl (reported, same, control ∙ ap Open (left_is ∙ ap (λ (f : FrameHead). left_by f (before ++ items came.bytes)) incomplete))
      waits_on incomplete left control (Takes whole owned started first) = absurd (whole (subst IsNone (sym incomplete) tt))
      waits_on incomplete left control (Lost reported (Unkept cause failed)) = inr (reported, failed)
      waits_on incomplete left control (Lost reported (AtFrame whole owned started first)) = absurd (whole (subst IsNone (sym incomplete) tt))

      pub chunk_waits : (message : List ℕ) → IsPartOf (before ++ items came.bytes) message → HasCome before k → IsReceived items k came now answer k2
          → ((answer ≡ recv.Handled) × (k2.core ≡ k.core) × HasCome (before ++ items came.bytes) k2) ⊎ IsLost k came answer k2
      chunk_waits message part come received =
          let streamed = subst (λ (c : Control). IsReceivedBy items now c k.core came answer k2) come received in
          taken_chunk (waits_on (part_head (before ++ items came.bytes) message part)) streamed

      -- ---- that ends it

      module _ (is : IsSuccess (before ++ items came.bytes)) where
        abbrev message_is : List ℕ
        message_is = before ++ items came.bytes

        whole_look : looked grown ≡ Message (length message_is)
        whole_look = whole_head message_is is.message

        frame_is : frame_of grown ≡ message_is
        frame_is = ap (λ (f : FrameHead). take (given_of f) message_is) whole_look ∙ take-length message_is

        left_is : after_look grown ≡ alive []
        left_is = ap (λ (f : FrameHead). left_by f message_is) whole_look ∙ ap alive (drop-length message_is)

        -- The message is handled.
        processed_frame : (taken : Taken) (new : Protocol) → IsFrameTaken k.core message_is now taken new → (handled : Bool) × (taken ≡ taken_as handled) × IsProcessed k.core message_is now handled new
        processed_frame taken new frame =
            let delivered = subst (λ (o : Option Payload). MatchOption o (IsDispatched (refusal message_is) k.core message_is now taken new) (λ payload. (taken ≡ Given payload) × (new ≡ k.core)))
            (no_payload k.core message_is is) frame in
            subst (λ (o : Option StunParseError). IsDispatched o k.core message_is now taken new) is.message delivered

        ends : (owned : Bool) (left : Stream) → k2.control ≡ Open left → IsFirstTaken now owned message_is (alive []) k.core came answer left k2.core
            → IsProcessedAs k message_is came now (Open (alive [])) answer k2
        ends owned left control (First payload gives delivered left_so same) = absurd (Prim.cc (sym gives ∙ no_payload k.core message_is is))
        ends owned left control (FrameInvalid frame reported left_so) = (let h = processed_frame Garbled k2.core frame in not_garbled h.0 h.1)
        ends owned left control (Following handled middle frame given pulled following) =
            let h = processed_frame (taken_as handled) middle frame in
            let same = same_handled handled h.0 h.1 in
            let nothing = none_pulled now (alive []) none_started middle k2.core given left pulled in
            record {
              handled = handled;
              processed = subst (λ (x : Protocol). IsProcessed k.core message_is now handled x) (sym nothing.2) (subst (λ (x : Bool). IsProcessed k.core message_is now x middle) (sym same) h.2);
              answer_is = subst (λ (g : Option PeerPayload). IsAnsweredAfter handled g came answer) nothing.0 following;
              control_is = control ∙ ap Open (nothing.1 ∙ nothing_left);
            }

        is_lost : (owned : Bool) → IsFirstLost now owned message_is (alive []) k.core k2.core → HasFailed k.core k2.core
        is_lost owned (Grew grows failed) = failed
        is_lost owned (OfItsOwn apart payload gives needs failed) = failed
        is_lost owned (LostLater handled middle frame lost) = absurd (none_lost now (alive []) none_started middle k2.core lost)

        whole_taken : (left : Stream) → k2.control ≡ Open left → IsChunkTaken items now (alive before) k.core came answer left k2.core
            → IsProcessedAs k message_is came now (Open (alive [])) answer k2 ⊎ IsLost k came answer k2
        whole_taken left control (Waits none reported left_so same) = absurd (subst IsNone whole_look none)
        whole_taken left control (Takes whole owned started first) =
            let one = subst (λ (l : List ℕ). IsFirstTaken now owned l (after_look grown) k.core came answer left k2.core) frame_is first in
            inl (ends owned left control (subst (λ (s : Stream). IsFirstTaken now owned message_is s k.core came answer left k2.core) left_is one))
        whole_taken left control (Lost reported (Unkept cause failed)) = inr (reported, failed)
        whole_taken left control (Lost reported (AtFrame whole owned started first)) =
            let one = subst (λ (l : List ℕ). IsFirstLost now owned l (after_look grown) k.core k2.core) frame_is first in
            inr (reported, is_lost owned (subst (λ (s : Stream). IsFirstLost now owned message_is s k.core k2.core) left_is one))

        pub chunk_ends : HasCome before k → IsReceived items k came now answer k2
            → IsProcessedAs k message_is came now (Open (alive [])) answer k2 ⊎ IsLost k came answer k2
        chunk_ends come received =
            let streamed = subst (λ (c : Control). IsReceivedBy items now c k.core came answer k2) come received in
            taken_chunk whole_taken streamed
