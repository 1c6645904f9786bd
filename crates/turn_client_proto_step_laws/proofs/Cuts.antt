-- It does not matter where a client's stream is cut.
use Rattle.std.proofs.Common.{◌≡◌, ◌≢◌, ℕ, Bool, true, false, List, [], ◌∷◌, ◌++◌, Option, Some, None, refl, sym, ap, ◌∙◌, subst}
use Rattle.std.specs.Prelude.{MatchOption}
use Rattle.std.specs.List.{concat}
use Rattle.turn_client_proto_timers.specs.StunTypesBase.declared.transmit.Transmit.{Transmit}
use Rattle.turn_client_proto_recv.specs.TurnTypesFrame.StreamAnswers.{IsNone, after_look, looked, joined as grown}
use Rattle.turn_client_proto_recv.specs.TurnTypesFrame.Streams.{Stream, alive}
use Rattle.turn_client_proto_timers.specs.Api.Payloads.{PeerPayload}
use Rattle.turn_client_proto_timers.specs.Api.declared.answer.TurnRecvRet.{TurnRecvRet}
use Rattle.turn_client_proto_timers.specs.Api.declared.answer.TurnRecvRet.TheVariants as recv
use Rattle.turn_client_proto_timers.specs.Core.declared.protocol.Protocol.{Protocol}
use Rattle.turn_client_proto_recv.specs.Payload.Payloads.{payload_of}
use Rattle.turn_client_proto_recv.specs.Payload.declared.payload.Payload.{Payload}
use Rattle.turn_client_proto_recv.specs.Payload.declared.payload.Payload.TheVariants.{Data, Framed, Report}
use Rattle.turn_client_proto_recv.specs.Control.{Control, Open}
use Rattle.turn_client_proto_step_laws.specs.Cuts.{AreDrained, IsRequestedOut, IsDrainedOut, IsChunkDrained, NoMore, OneMore, data_answered, chunks_of}
use Rattle.turn_client_proto_recv.specs.HandingIn.{IsFrameTaken, IsDispatched, taken_as}
use Rattle.turn_client_proto_timers.specs.StunTypesWire.Grammar.{refusal}
use Rattle.turn_client_proto_recv.specs.Datagrams.{IsHandledAs}
use Rattle.turn_client_proto_recv.specs.ClientState.{ClientState}
use Rattle.turn_client_proto_recv.specs.Chunks.{Following, Invalid, First, IsAnsweredAfter, IsFirstTaken, IsFrameHandled, IsDeliveredAs, IsChunkTaken, Lost, Takes, Waits, apart, data_given, data_taken, placed}
use Rattle.turn_client_proto_recv.specs.Pulls.{AreFed, Ends, Gives, Goes, IsDrained, IsPulled, Last, More, frame_of}
use Rattle.turn_client_proto_recv.specs.Receipts.{End, IsRequestedFor, IsGivenBy, IsOfStream, IsReceivedBy, IsStreamed, Chunk, Strange}
use Rattle.turn_client_proto_recv.specs.SocketChunks.{raw_waiting}
use Rattle.turn_client_proto_recv.specs.declared.handing.Taken.{Taken}
use Rattle.turn_client_proto_recv.specs.declared.handing.Taken.TheVariants.{Given, Handled, Ignored, Garbled}
use Rattle.turn_client_proto_step_laws.proofs.OneReading.{frames_definite}
use Rattle.turn_client_proto_recv.proofs.Draining.{drained_after, drained_first, drained_none, drained_out}
use Rattle.turn_client_proto_step_laws.proofs.Cutting.{every_cut}
use Rattle.turn_client_proto_step_laws.proofs.NoneRaw.{chunk_none, pulled_none}
use Rattle.turn_client_proto_step_laws.proofs.Order.{none_first}

module _ (now : ℕ) where
  -- `poll_recv` was called until it returned nothing: the stream was drained, and no bytes of a peer are
  -- buffered.
  pub record IsDrainedTo (stream : Stream) (old : Protocol) (given : List PeerPayload) (new : ClientState) : Type 0 where
    pub left : Stream
    pub occurs : new.control ≡ Open left
    pub drained : IsDrained (IsFrameHandled now) stream old given left new.core
    pub still : raw_waiting new.core ≡ None

  -- The next data comes from the stream itself.
  of_stream : (control : Control) (stream : Stream) (old : Protocol) (given : Option PeerPayload) (new : ClientState) → control ≡ Open stream → raw_waiting old ≡ None → IsGivenBy now control old given new → IsRequestedFor now stream old given new
  of_stream control stream old given new opens none is =
      none_first now (raw_waiting old) (Open stream) old given new none (subst (λ (c : Control). IsGivenBy now c old given new) opens is)

  requested : (old : ClientState) (given : List PeerPayload) (new : ClientState) → IsRequestedOut now old given new → (stream : Stream) → old.control ≡ Open stream → raw_waiting old.core ≡ None → IsDrainedTo stream old.core given new
  requested _ _ _ (NoMore old new is) stream opens none =
      let by = of_stream old.control stream old.core None new opens none is in
      record { left = by.left; occurs = by.occurs; drained = Last stream old.core by.left new.core by.pulled; still = pulled_none now stream old.core None by.left new.core by.pulled none }
  requested _ _ _ (OneMore old between new payload others is rest) stream opens none =
      let by = of_stream old.control stream old.core (Some payload) between opens none is in
      let after = requested between others new rest by.left by.occurs (pulled_none now stream old.core (Some payload) by.left between.core by.pulled none) in
      record { left = after.left; occurs = after.occurs; drained = More stream old.core payload by.left between.core others after.left new.core by.pulled after.drained; still = after.still }

-- A payload that is delivered is that frame's outcome.
gave : (old : Protocol) (frame : List ℕ) (now : ℕ) (payload : Payload) → payload_of old frame ≡ Some payload → IsFrameTaken old frame now (Given payload) old
gave old frame now payload is = by (payload_of old frame) is
  where
    by : (found : Option Payload) → found ≡ Some payload → MatchOption found (IsDispatched (refusal frame) old frame now (Given payload) old) (λ payload'. (Given payload ≡ Given payload') × (old ≡ old))
    by None is = absurd (Prim.cc is)
    by (Some found) is = (ap Given (sym (Prim.cc is)), refl)

-- Data in a vector of its own.
own_data : (frame : List ℕ) (payload : Payload) (p : PeerPayload) → Some p ≡ data_given frame payload → placed None p ≡ p
own_data frame (Data transport peer start end) p is = let same : p ≡ apart frame transport peer start end = Prim.cc is in rw same refl
own_data frame (Report transport peer report) p is = absurd (Prim.cc is)
own_data frame (Framed number transport peer start end) p is = let same : p ≡ apart frame transport peer start end = Prim.cc is in rw same refl

own_taken : (frame : List ℕ) (taken : Taken) (p : PeerPayload) → Some p ≡ data_taken frame taken → placed None p ≡ p
own_taken frame (Given payload) p is = own_data frame payload p is
own_taken frame Handled p is = absurd (Prim.cc is)
own_taken frame Ignored p is = absurd (Prim.cc is)
own_taken frame Garbled p is = absurd (Prim.cc is)

own_pulled : (now : ℕ) (stream : Stream) (state : Protocol) (given : Option PeerPayload) (left : Stream) (after : Protocol) → IsPulled (IsFrameHandled now) stream state given left after → (p : PeerPayload) → given ≡ Some p → placed None p ≡ p
own_pulled now _ _ _ _ _ (Ends stream state none) p is = absurd (Prim.cc is)
own_pulled now _ _ _ _ _ (Gives stream state payload after some holds) p is = own_taken (frame_of stream) holds.taken p (sym is ∙ holds.gives)
own_pulled now _ _ _ _ _ (Goes stream state middle given left after some holds more) p is = own_pulled now (after_look stream) middle given left after more p is

module _ {T : Type 0} (now : ℕ) (came : Transmit T) (answer : TurnRecvRet T) (stream : Stream) (some : ¬ IsNone (looked stream)) (ps : List PeerPayload) (last : Stream) (after : Protocol) where
  abbrev Out : Protocol → Type 0
  Out old = IsDrained (IsFrameHandled now) stream old (data_answered answer ++ ps) last after

  first : (owned : Bool) (old : Protocol) (payload : Payload) → payload_of old (frame_of stream) ≡ Some payload → IsDeliveredAs owned (frame_of stream) payload answer → IsDrained (IsFrameHandled now) (after_look stream) old ps last after → Out old
  first owned old (Data transport peer start end) gives is drains =
      subst (λ (a : TurnRecvRet T). IsDrained (IsFrameHandled now) stream old (data_answered a ++ ps) last after) (sym is)
      (drained_first (IsFrameHandled now) stream old old (apart (frame_of stream) transport peer start end) ps last after some
      (record { taken = Given (Data transport peer start end); is_taken = gave old (frame_of stream) now (Data transport peer start end) gives; gives = refl }) drains)
  first owned old (Report transport peer report) gives is drains =
      subst (λ (a : TurnRecvRet T). IsDrained (IsFrameHandled now) stream old (data_answered a ++ ps) last after) (sym is)
      (drained_after (IsFrameHandled now) stream old old ps last after some
      (record { taken = Given (Report transport peer report); is_taken = gave old (frame_of stream) now (Report transport peer report) gives; gives = refl }) drains)
  first owned old (Framed number transport peer start end) gives is drains =
      subst (λ (a : TurnRecvRet T). IsDrained (IsFrameHandled now) stream old (data_answered a ++ ps) last after) (sym is)
      (drained_first (IsFrameHandled now) stream old old (apart (frame_of stream) transport peer start end) ps last after some
      (record { taken = Given (Framed number transport peer start end); is_taken = gave old (frame_of stream) now (Framed number transport peer start end) gives; gives = refl }) drains)

  no_data : (handled : Bool) → IsHandledAs came handled answer → [] ≡ data_answered answer
  no_data true is = ap data_answered (sym is)
  no_data false is = ap data_answered (sym is)

  no_taken : (frame : List ℕ) (handled : Bool) → None ≡ data_taken frame (taken_as handled)
  no_taken frame true = refl
  no_taken frame false = refl

  following : (handled : Bool) (old middle new : Protocol) (given : Option PeerPayload) (left : Stream) → IsFrameTaken old (frame_of stream) now (taken_as handled) middle
      → IsPulled (IsFrameHandled now) (after_look stream) middle given left new → IsAnsweredAfter handled given came answer → IsDrained (IsFrameHandled now) left new ps last after → Out old
  following handled old middle new None left taken pull reported drains =
      subst (λ (l : List PeerPayload). IsDrained (IsFrameHandled now) stream old (l ++ ps) last after) (no_data handled reported)
      (drained_after (IsFrameHandled now) stream old middle ps last after some (record { taken = taken_as handled; is_taken = taken; gives = no_taken (frame_of stream) handled })
      (drained_out (IsFrameHandled now) (after_look stream) middle None left new pull refl ps last after drains))
  following handled old middle new (Some p) left taken pull reported drains =
      subst (λ (l : List PeerPayload). IsDrained (IsFrameHandled now) stream old (l ++ ps) last after)
      (sym (ap data_answered reported ∙ ap (λ (q : PeerPayload). q ∷ []) (own_pulled now (after_look stream) middle (Some p) left new pull p refl)))
      (drained_after (IsFrameHandled now) stream old middle (p ∷ ps) last after some (record { taken = taken_as handled; is_taken = taken; gives = no_taken (frame_of stream) handled })
      (More (after_look stream) middle p left new ps last after pull drains))

  firsts : (owned : Bool) (old : Protocol) (left : Stream) (new : Protocol) → IsFirstTaken now owned (frame_of stream) (after_look stream) old came answer left new → IsDrained (IsFrameHandled now) left new ps last after → Out old
  firsts owned old left new (First payload gives is rest same) drains =
      first owned old payload gives is
      (subst (λ (s : Stream). IsDrained (IsFrameHandled now) s old ps last after) rest (subst (λ (p : Protocol). IsDrained (IsFrameHandled now) left p ps last after) same drains))
  firsts owned old left new (Invalid taken is rest) drains =
      subst (λ (l : List PeerPayload). IsDrained (IsFrameHandled now) stream old (l ++ ps) last after) (ap data_answered (sym is))
      (drained_after (IsFrameHandled now) stream old new ps last after some (record { taken = Garbled; is_taken = taken; gives = refl })
      (subst (λ (s : Stream). IsDrained (IsFrameHandled now) s new ps last after) rest drains))
  firsts owned old left new (Following handled middle taken given pull reported) drains = following handled old middle new given left taken pull reported drains

module _ {T : Type 0} (items : T → List ℕ) (now : ℕ) where
  taken : (stream : Stream) (old : Protocol) (came : Transmit T) (answer : TurnRecvRet T) (left : Stream) (new : Protocol) → IsChunkTaken items now stream old came answer left new → answer ≢ recv.NoMemory came
      → (ps : List PeerPayload) (last : Stream) (after : Protocol) → IsDrained (IsFrameHandled now) left new ps last after
      → IsDrained (IsFrameHandled now) (grown stream (items came.bytes)) old (data_answered answer ++ ps) last after
  taken stream old came answer left new (Waits none is rest same) ample ps last after drains =
      subst (λ (l : List PeerPayload). IsDrained (IsFrameHandled now) (grown stream (items came.bytes)) old (l ++ ps) last after) (ap data_answered (sym is))
      (drained_none (IsFrameHandled now) (grown stream (items came.bytes)) old ps last after none
      (subst (λ (s : Stream). IsDrained (IsFrameHandled now) s old ps last after) rest (subst (λ (p : Protocol). IsDrained (IsFrameHandled now) left p ps last after) same drains)))
  taken stream old came answer left new (Takes some owned started is) ample ps last after drains = firsts now came answer (grown stream (items came.bytes)) some ps last after owned old left new is drains
  taken stream old came answer left new (Lost reported lost) ample ps last after drains = absurd (ample reported)

  streamed : (stream : Stream) (old : Protocol) (came : Transmit T) (answer : TurnRecvRet T) (between : ClientState) → IsStreamed items now stream old came answer between → IsOfStream old came → items came.bytes ≢ [] → answer ≢ recv.NoMemory came
      → raw_waiting old ≡ None → (waiting : List PeerPayload) (new : ClientState) → IsRequestedOut now between waiting new → IsDrainedTo now (grown stream (items came.bytes)) old (data_answered answer ++ waiting) new
  streamed stream old came answer between (Chunk is some left occurs takes) of_server has ample none waiting new asks =
      let by = requested now between waiting new asks left occurs (chunk_none now items came answer left old between.core none stream ample takes) in
      record { left = by.left; occurs = by.occurs; drained = taken stream old came answer left between.core takes ample waiting by.left new.core by.drained; still = by.still }
  streamed stream old came answer between (End is none reported same closed) of_server has ample none_raw waiting new asks = absurd (has none)
  streamed stream old came answer between (Strange other given stays) of_server has ample none waiting new asks = absurd (other of_server)

  chunk : (old : ClientState) (came : Transmit T) (given : List PeerPayload) (new : ClientState) → IsChunkDrained items now old came given new → (stream : Stream) → old.control ≡ Open stream → raw_waiting old.core ≡ None
      → IsDrainedTo now (grown stream (items came.bytes)) old.core given new
  chunk old came given new is stream opens none =
      let by = streamed stream old.core came is.answer is.between (subst (λ (c : Control). IsReceivedBy items now c old.core came is.answer is.between) opens is.received) is.of_stream is.has_bytes is.ample none is.waiting new is.requested in
      subst (λ (l : List PeerPayload). IsDrainedTo now (grown stream (items came.bytes)) old.core l new) (sym is.gives) by

  -- All chunks are drained in this way.
  record IsFedTo (stream : Stream) (old : Protocol) (chunks : List (Transmit T)) (given : List PeerPayload) (new : ClientState) : Type 0 where
    left : Stream
    occurs : new.control ≡ Open left
    feeds : AreFed (IsFrameHandled now) stream old (chunks_of items chunks) given left new.core

  chunks : (all : List (Transmit T)) (old : ClientState) (given : List PeerPayload) (new : ClientState) → AreDrained items now old all given new → (stream : Stream) → old.control ≡ Open stream → raw_waiting old.core ≡ None → IsFedTo stream old.core all given new
  chunks [] old given new (none, same) stream opens none_raw = record {
    left = stream;
    occurs = ap (λ (k : ClientState). k.control) same ∙ opens;
    feeds = (none, refl, ap (λ (k : ClientState). k.core) same);
  }
  chunks (came ∷ others) old given new (between, first, later, is, parts, rest) stream opens none =
      let one = chunk old came first between is stream opens none in
      let more = chunks others between later new rest one.left one.occurs one.still in
      record {
        left = more.left;
        occurs = more.occurs;
        feeds = (one.left, between.core, first, later, one.drained, parts, more.feeds);
      }

  pub cut_anywhere : (old one other : ClientState) (all cuts : List (Transmit T)) (given again : List PeerPayload) → IsDrainedOut old → concat (chunks_of items all) ≡ concat (chunks_of items cuts)
      → AreDrained items now old all given one → AreDrained items now old cuts again other → (given ≡ again) × (one ≡ other)
  cut_anywhere old one other all cuts given again out same first second =
      let a = chunks all old given one first (alive out.stored) out.stream out.none_raw in
      let b = chunks cuts old again other second (alive out.stored) out.stream out.none_raw in
      let both = every_cut (IsFrameHandled now) old.core one.core other.core out.stored (chunks_of items all) (chunks_of items cuts) given again a.left b.left (frames_definite now) out.none out.left same a.feeds b.feeds in (
        both.0,
        alike both.2 (a.occurs ∙ ap Open both.1 ∙ sym b.occurs),
      )
    where
      alike : one.core ≡ other.core → one.control ≡ other.control → one ≡ other
      alike cores controls = ap (λ (p : Protocol). record one { core = p }) cores ∙ ap (λ (c : Control). record other { control = c }) controls
