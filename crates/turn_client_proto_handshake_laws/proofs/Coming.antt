-- How a message from the server reaches a client that holds nothing yet, by the contracts of `recv` and
-- `poll_recv` alone.
use Rattle.turn_client_proto_handshake_laws.proofs.StreamHeads.{whole_head, part_head, none_started, nothing_left, none_pulled, none_lost, not_garbled, same_handled}
use Rattle.std.proofs.Common.{◌≡◌, ◌≢◌, ℕ, ◌+◌, ◌<◌, arith, Bool, true, false, List, [], ◌∷◌, ◌++◌, length, take, Option, Some, None, refl, sym, ap, ◌∙◌, subst, ◌⊎◌, inl, inr, append-nil}
use Rattle.std.specs.Prelude.{is_none, nat_lt, MatchOption}
use Rattle.std.specs.Option.{option_or}
use Rattle.std.proofs.lemmas.Bool.{cases_Bool, ltb-false}
use Rattle.std.proofs.Math.Seq.{drop-length, take-length}
use Rattle.std.proofs.lemmas.List.{length-append}
use Rattle.turn_client_proto_api.specs.StunTypesWire.Attributes.{length_at}
use Rattle.turn_client_proto_api.specs.StunTypesWire.Grammar.{body_refusal, header_refusal, length_refusal, refusal}
use Rattle.turn_client_proto_api.specs.StunTypesWire.declared.error.StunParseError.{StunParseError}
use Rattle.stun_types_base.specs.declared.transmit.Transmit.{Transmit}
use Rattle.turn_client_proto_api.specs.TurnTypesFrame.Frames.{IsMessageFrame}
use Rattle.turn_client_proto_api.specs.TurnTypesFrame.StreamHeads.{head, given_of}
use Rattle.turn_client_proto_api.specs.TurnTypesFrame.declared.head.FrameHead.{FrameHead}
use Rattle.turn_client_proto_api.specs.TurnTypesFrame.declared.head.FrameHead.TheVariants.{Message, Incomplete}
use Rattle.turn_client_proto_api.proofs.TurnTypesFrame.Heads.{message as head_message, channel, short_message, short_channel, invalid, head_cases, message_grows, channel_grows, invalid_grows, message_at}
use Rattle.turn_client_proto_api.specs.TurnTypesFrame.StreamAnswers.{IsNone, after_look, joined, looked}
use Rattle.turn_client_proto_api.specs.TurnTypesFrame.Streams.{Stream, alive, left_by}
use Rattle.turn_client_proto_messages.specs.Allocation.declared.connection.Connection.{Connection}
use Rattle.turn_client_proto_api.specs.Payloads.{PeerPayload}
use Rattle.turn_client_proto_api.specs.declared.answer.TurnRecvRet.{TurnRecvRet}
use Rattle.turn_client_proto_api.specs.declared.answer.TurnRecvRet.TheVariants as recv
use Rattle.turn_client_proto_recv.specs.Control.{Control, Datagrams, Open}
use Rattle.turn_client_proto_core.specs.Ending.{HasFailed}
use Rattle.turn_client_proto_core.specs.Receiving.{IsProcessed}
use Rattle.turn_client_proto_recv.specs.Datagrams.{Foreign, Processed, IsDatagramTaken, IsDelivered, IsMessageTaken, IsOfServer, IsRead, Lost as MessageLost, Own}
use Rattle.turn_client_proto_recv.specs.HandingIn.{IsFrameTaken, IsDispatched, taken_as}
use Rattle.turn_client_proto_recv.specs.ClientState.{ClientState, Protocol}
use Rattle.turn_client_proto_recv.specs.Payload.declared.payload.Payload.{Payload}
use Rattle.turn_client_proto_recv.specs.Payload.Payloads.{payload_of, payload_reported}
use Rattle.turn_client_proto_recv.specs.Chunks.{AtFrame, Following, Invalid as FrameInvalid, First, Grew, Here, IsAnsweredAfter, IsFirstLost, IsFirstTaken, IsFrameHandled, IsLostOn, IsChunkTaken, Later, Lost, LostLater, OfItsOwn, Takes, Unkept, Waits}
use Rattle.turn_client_proto_recv.specs.Pulls.{Ends, Gives, Goes, IsPulled, frame_of}
use Rattle.turn_client_proto_recv.specs.Receipts.{End, IsFirstGiven, IsGivenBy, IsOfStream, IsReceived, IsReceivedBy, IsStreamed, IsWaitingGiven, Chunk, Strange}
use Rattle.turn_client_proto_recv.specs.SocketChunks.{raw_waiting}
use Rattle.turn_client_proto_recv.specs.declared.handing.Taken.{Taken}
use Rattle.turn_client_proto_recv.specs.declared.handing.Taken.TheVariants.{Given, Garbled}
use Rattle.turn_client_proto_handshake_laws.specs.Coming.{HasCome, IsFromServer, IsProcessedAs, IsLost, IsPartOf, IsUnserved}
use Rattle.turn_client_proto_handshake_laws.specs.Sent.{Beginning}

-- ---- what stands at the head

-- ---- what is taken of a stream without a whole frame

-- ---- what such a client gives

module _ (b : Beginning) (k : ClientState) (u : IsUnserved b k.core) where
  -- A message delivers no data of a peer to it.
  no_payload : (bytes : List ℕ) → refusal bytes ≡ None → payload_of k.core bytes ≡ None
  unfolding payload_of payload_reported
  no_payload bytes is = rw (is, u.phase) refl

  module _ {T : Type 0} (items : T → List ℕ) (came : Transmit T) (from : IsFromServer b came) (now : ℕ) (answer : TurnRecvRet T) (k2 : ClientState) where
    of_server : IsOfServer k.core came
    of_server = record {
      transport = from.transport ∙ sym u.settings.transport;
      from = from.from ∙ sym u.settings.server;
      to = from.to ∙ sym u.settings.here;
    }

    of_stream : IsOfStream k.core came
    of_stream = record { of_server = of_server; works = ap is_none u.settings.remote }

    -- ---- a datagram

    read : (message : List ℕ) → IsMessageTaken k.core message came now answer k2.core → k2.control ≡ Datagrams → IsProcessedAs k message came now Datagrams answer k2 ⊎ IsLost k came answer k2
    read message (Processed handled processed as_it) control = inl (record { handled = handled; processed = processed; answer_is = as_it; control_is = control })
    read message (MessageLost reported grows failed) control = inr (reported, failed)

    own : refusal (items came.bytes) ≡ None → IsDatagramTaken items k.core came now answer k2.core → k2.control ≡ Datagrams
        → IsProcessedAs k (items came.bytes) came now Datagrams answer k2 ⊎ IsLost k came answer k2
    own is (Foreign foreign back) control = absurd (foreign of_server)
    own is (Own server taken) control =
        let reads = subst (λ (o : Option Payload). MatchOption o (IsRead (refusal (items came.bytes)) k.core (items came.bytes) came now answer k2.core)
        (λ payload. IsDelivered items came payload answer × (k2.core ≡ k.core))) (no_payload (items came.bytes) is) taken in
        read (items came.bytes) (subst (λ (o : Option StunParseError). IsRead o k.core (items came.bytes) came now answer k2.core) is reads) control

    pub datagram_processed : k.control ≡ Datagrams → refusal (items came.bytes) ≡ None → IsReceived items k came now answer k2
        → IsProcessedAs k (items came.bytes) came now Datagrams answer k2 ⊎ IsLost k came answer k2
    datagram_processed over is received =
        let taken = subst (λ (c : Control). IsReceivedBy items now c k.core came answer k2) over received in
        own is taken.0 taken.1

    -- ---- a chunk

    module _ (before : List ℕ) (some : items came.bytes ≢ []) where
      abbrev grown : Stream
      grown = joined (alive before) (items came.bytes)

      taken_chunk : {A : Type 0} → ((left : Stream) → k2.control ≡ Open left → IsChunkTaken items now (alive before) k.core came answer left k2.core → A)
          → IsStreamed items now (alive before) k.core came answer k2 → A
      taken_chunk next (Chunk of more left control taken) = next left control taken
      taken_chunk next (End of none reported same control) = absurd (some none)
      taken_chunk next (Strange foreign received control) = absurd (foreign of_stream)

      -- A chunk that does not complete the message changes nothing except the buffered bytes.
      waits_on : looked grown ≡ Incomplete → (left : Stream) → k2.control ≡ Open left → IsChunkTaken items now (alive before) k.core came answer left k2.core
          → ((answer ≡ recv.Handled) × (k2.core ≡ k.core) × HasCome (before ++ items came.bytes) k2) ⊎ IsLost k came answer k2
      waits_on incomplete left control (Waits none reported left_is same) =
          inl (reported, same, control ∙ ap Open (left_is ∙ ap (λ (f : FrameHead). left_by f (before ++ items came.bytes)) incomplete))
      waits_on incomplete left control (Takes whole owned started first) = absurd (whole (subst IsNone (sym incomplete) tt))
      waits_on incomplete left control (Lost reported (Unkept cause failed)) = inr (reported, failed)
      waits_on incomplete left control (Lost reported (AtFrame whole owned started first)) = absurd (whole (subst IsNone (sym incomplete) tt))

      pub chunk_waits : (message : List ℕ) → IsPartOf (before ++ items came.bytes) message → HasCome before k → IsReceived items k came now answer k2
          → ((answer ≡ recv.Handled) × (k2.core ≡ k.core) × HasCome (before ++ items came.bytes) k2) ⊎ IsLost k came answer k2
      chunk_waits message part come received =
          let streamed = subst (λ (c : Control). IsReceivedBy items now c k.core came answer k2) come received in
          taken_chunk (waits_on (part_head (before ++ items came.bytes) message part)) streamed

      -- ---- that ends it

      module _ (is : refusal (before ++ items came.bytes) ≡ None) where
        abbrev message_is : List ℕ
        message_is = before ++ items came.bytes

        whole_look : looked grown ≡ Message (length message_is)
        whole_look = whole_head message_is is

        frame_is : frame_of grown ≡ message_is
        frame_is = ap (λ (f : FrameHead). take (given_of f) message_is) whole_look ∙ take-length message_is

        left_is : after_look grown ≡ alive []
        left_is = ap (λ (f : FrameHead). left_by f message_is) whole_look ∙ ap alive (drop-length message_is)

        -- The message is handled.
        processed_frame : (taken : Taken) (new : Protocol) → IsFrameTaken k.core message_is now taken new → (handled : Bool) × (taken ≡ taken_as handled) × IsProcessed k.core message_is now handled new
        processed_frame taken new frame =
            let delivered = subst (λ (o : Option Payload). MatchOption o (IsDispatched (refusal message_is) k.core message_is now taken new) (λ payload. (taken ≡ Given payload) × (new ≡ k.core)))
            (no_payload message_is is) frame in
            subst (λ (o : Option StunParseError). IsDispatched o k.core message_is now taken new) is delivered

        ends : (owned : Bool) (left : Stream) → k2.control ≡ Open left → IsFirstTaken now owned message_is (alive []) k.core came answer left k2.core
            → IsProcessedAs k message_is came now (Open (alive [])) answer k2
        ends owned left control (First payload gives delivered left_so same) = absurd (Prim.cc (sym gives ∙ no_payload message_is is))
        ends owned left control (FrameInvalid frame reported left_so) = (let h = processed_frame Garbled k2.core frame in not_garbled h.0 h.1)
        ends owned left control (Following handled middle frame given pulled following) =
            let h = processed_frame (taken_as handled) middle frame in
            let same = same_handled handled h.0 h.1 in
            let nothing = none_pulled now (alive []) none_started middle k2.core given left pulled in
            record {
              handled = handled;
              processed = subst (λ (x : Protocol). IsProcessed k.core message_is now handled x) (sym nothing.2) (subst (λ (x : Bool). IsProcessed k.core message_is now x middle) (sym same) h.2);
              answer_is = subst (λ (g : Option PeerPayload). IsAnsweredAfter handled g came answer) nothing.0 following;
              control_is = control ∙ ap Open (nothing.1 ∙ nothing_left);
            }

        is_lost : (owned : Bool) → IsFirstLost now owned message_is (alive []) k.core k2.core → HasFailed k.core k2.core
        is_lost owned (Grew grows failed) = failed
        is_lost owned (OfItsOwn apart payload gives needs failed) = failed
        is_lost owned (LostLater handled middle frame lost) = absurd (none_lost now (alive []) none_started middle k2.core lost)

        whole_taken : (left : Stream) → k2.control ≡ Open left → IsChunkTaken items now (alive before) k.core came answer left k2.core
            → IsProcessedAs k message_is came now (Open (alive [])) answer k2 ⊎ IsLost k came answer k2
        whole_taken left control (Waits none reported left_so same) = absurd (subst IsNone whole_look none)
        whole_taken left control (Takes whole owned started first) =
            let one = subst (λ (l : List ℕ). IsFirstTaken now owned l (after_look grown) k.core came answer left k2.core) frame_is first in
            inl (ends owned left control (subst (λ (s : Stream). IsFirstTaken now owned message_is s k.core came answer left k2.core) left_is one))
        whole_taken left control (Lost reported (Unkept cause failed)) = inr (reported, failed)
        whole_taken left control (Lost reported (AtFrame whole owned started first)) =
            let one = subst (λ (l : List ℕ). IsFirstLost now owned l (after_look grown) k.core k2.core) frame_is first in
            inr (reported, is_lost owned (subst (λ (s : Stream). IsFirstLost now owned message_is s k.core k2.core) left_is one))

        pub chunk_ends : HasCome before k → IsReceived items k came now answer k2
            → IsProcessedAs k message_is came now (Open (alive [])) answer k2 ⊎ IsLost k came answer k2
        chunk_ends come received =
            let streamed = subst (λ (c : Control). IsReceivedBy items now c k.core came answer k2) come received in
            taken_chunk whole_taken streamed

-- ---- what waits is requested

module _ (k : ClientState) (now : ℕ) (given : Option PeerPayload) (k2 : ClientState) where
  same_stored : k2.core ≡ k.core → k2.control ≡ k.control → k2 ≡ k
  same_stored core_is control_is =
      let one : k2 ≡ record { core = k.core; control = k2.control } = ap (λ (x : Protocol). record { core = x; control = k2.control }) core_is in
      let other : record { core = k.core; control = k2.control } ≡ k = ap (λ (x : Control). record { core = k.core; control = x }) control_is in
      one ∙ other

  pub none_requested : k.control ≡ Datagrams → IsWaitingGiven k now given k2 → (given ≡ None) × (k2 ≡ k)
  none_requested over is =
      let requested = subst (λ (c : Control). IsGivenBy now c k.core given k2) over is in
      (requested.0, same_stored requested.1 (requested.2 ∙ sym over))

  pub part_requested : raw_waiting k.core ≡ None → (before message : List ℕ) → IsPartOf before message → HasCome before k → IsWaitingGiven k now given k2 → (given ≡ None) × (k2 ≡ k)
  part_requested no_raw before message part come is =
      let requested = subst (λ (c : Control). IsGivenBy now c k.core given k2) come is in
      let stream = subst (λ (o : Option Connection). IsFirstGiven now o (Open (alive before)) k.core given k2) no_raw requested in
      let incomplete = part_head before message part in
      let nothing = none_pulled now (alive before) (subst IsNone (sym incomplete) tt) k.core k2.core given stream.left stream.pulled in
      (nothing.0, same_stored nothing.2 (stream.occurs ∙ (ap Open (nothing.1 ∙ ap (λ (f : FrameHead). left_by f before) incomplete) ∙ sym come)))
