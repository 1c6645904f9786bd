-- The first frames of a stream are handled in order.
use Rattle.std.proofs.Common.{◌≡◌, ◌≢◌, ℕ, List, [], ◌∷◌, Option, Some, None, refl, sym, ap, ◌∙◌, subst}
use Rattle.std.specs.Prelude.{MatchOption}
use Rattle.turn_client_proto_timers.specs.StunTypesBase.declared.transmit.Transmit.{Transmit}
use Rattle.turn_client_proto_recv.specs.TurnTypesFrame.StreamAnswers.{after_look, joined, looked, IsNone}
use Rattle.turn_client_proto_recv.specs.TurnTypesFrame.Streams.{Stream}
use Rattle.turn_client_proto_timers.specs.Allocation.declared.connection.Connection.{Connection}
use Rattle.turn_client_proto_timers.specs.Api.Payloads.{PeerPayload}
use Rattle.turn_client_proto_timers.specs.Api.declared.answer.TurnRecvRet.{TurnRecvRet}
use Rattle.turn_client_proto_timers.specs.Api.declared.answer.TurnRecvRet.TheVariants as recv
use Rattle.turn_client_proto_timers.specs.Core.declared.protocol.Protocol.{Protocol}
use Rattle.turn_client_proto_recv.specs.Payload.Payloads.{payload_of}
use Rattle.turn_client_proto_recv.specs.Payload.declared.payload.Payload.{Payload}
use Rattle.turn_client_proto_recv.specs.Control.{Control, Datagrams, Open, Closed}
use Rattle.turn_client_proto_recv.specs.HandingIn.{IsFrameTaken, taken_as}
use Rattle.turn_client_proto_recv.specs.ClientState.{ClientState}
use Rattle.turn_client_proto_step_laws.specs.Order.{AreFirstGiven, AreFirstTaken, AreTaken, AreTakenUntil}
use Rattle.turn_client_proto_recv.specs.Chunks.{Following, Invalid, First, IsFirstTaken, IsFrameHandled, IsChunkTaken, Lost, Takes, Waits}
use Rattle.turn_client_proto_recv.specs.Pulls.{Ends, Gives, Goes, IsPulled, frame_of}
use Rattle.turn_client_proto_recv.specs.Receipts.{End, IsFirstGiven, IsGivenBy, IsOfStream, IsReceivedBy, IsStreamRequested, IsStreamed, Chunk, Strange}
use Rattle.turn_client_proto_recv.specs.SocketChunks.{IsRawGiven, raw_waiting}
use Rattle.turn_client_proto_recv.specs.Waiting.{frames_waiting, whole_frames}
use Rattle.turn_client_proto_recv.specs.declared.handing.Taken.TheVariants.{Given, Garbled}
use Rattle.turn_client_proto_recv.proofs.Waiting.{first_waits, none_after, none_waits}

module _ (now : ℕ) where
  pulled_in_order : (s : Stream) (state : Protocol) (given : Option PeerPayload) (left : Stream) (new : Protocol) → IsPulled (IsFrameHandled now) s state given left new → AreFirstGiven now (whole_frames s) state given (whole_frames left) new
  pulled_in_order _ _ _ _ _ (Ends s state none) = record {
    taken = [];
    parts = none_waits s none ∙ sym (none_after s none);
    in_order = (refl, refl);
    all = λ _. none_after s none;
  }
  pulled_in_order _ _ _ _ _ (Gives s state payload new some holds) = record {
    taken = frame_of s ∷ [];
    parts = first_waits s some;
    in_order = (Some payload, new, holds, (refl, refl, refl));
    all = λ is. absurd (Prim.cc is);
  }
  pulled_in_order _ _ _ _ _ (Goes s state middle given left new some holds more) =
      let rest = pulled_in_order (after_look s) middle given left new more in
      record {
        taken = frame_of s ∷ rest.taken;
        parts = first_waits s some ∙ ap (λ (l : List (List ℕ)). frame_of s ∷ l) rest.parts;
        in_order = (None, middle, holds, rest.in_order);
        all = rest.all;
      }

  following : (reported : Option PeerPayload) (middle : Protocol) (frames : List (List ℕ)) (given : Option PeerPayload) (new : Protocol) → (AreTakenUntil now middle frames given new → AreTaken now middle frames new)
      → MatchOption reported (AreTakenUntil now middle frames given new) (λ payload. (given ≡ Some payload) × (frames ≡ []) × (new ≡ middle)) → AreTaken now middle frames new
  following None middle frames given new others is = others is
  following (Some payload) middle frames given new others is = subst (λ (l : List (List ℕ)). AreTaken now middle l new) (sym is.1) is.2

  -- This holds whatever they gave.
  whatever : (old : Protocol) (frames : List (List ℕ)) (given : Option PeerPayload) (new : Protocol) → AreTakenUntil now old frames given new → AreTaken now old frames new
  whatever old [] given new is = is.1
  whatever old (frame ∷ frames) given new (reported, middle, is, more) =
      (is.taken, middle, is.is_taken, following reported middle frames given new (λ until. whatever middle frames given new until) more)

  given_so : (old : Protocol) (frame : List ℕ) (payload : Payload) → payload_of old frame ≡ Some payload → IsFrameTaken old frame now (Given payload) old
  given_so old frame payload gives = rw gives (refl, refl)

  -- ---- a chunk

  module _ {T : Type 0} (came : Transmit T) (answer : TurnRecvRet T) (grown : Stream) (old : Protocol) (left : Stream) (new : Protocol) where
    abbrev Taken_so : Type 0
    Taken_so = AreFirstTaken now (whole_frames grown) old (whole_frames left) new

    first_in_order : (owned : _) → ¬ IsNone (looked grown) → IsFirstTaken now owned (frame_of grown) (after_look grown) old came answer left new → Taken_so
    first_in_order owned some (First payload gives answered left_is same) = record {
      taken = frame_of grown ∷ [];
      parts = first_waits grown some ∙ ap (λ (s : Stream). frame_of grown ∷ whole_frames s) (sym left_is);
      in_order = (Given payload, old, given_so old (frame_of grown) payload gives, same);
    }
    first_in_order owned some (Invalid takes answered left_is) = record {
      taken = frame_of grown ∷ [];
      parts = first_waits grown some ∙ ap (λ (s : Stream). frame_of grown ∷ whole_frames s) (sym left_is);
      in_order = (Garbled, new, takes, refl);
    }
    first_in_order owned some (Following handled middle takes given pull answered) =
        let rest = pulled_in_order (after_look grown) middle given left new pull in
        record {
          taken = frame_of grown ∷ rest.taken;
          parts = first_waits grown some ∙ ap (λ (l : List (List ℕ)). frame_of grown ∷ l) rest.parts;
          in_order = (taken_as handled, middle, takes, whatever middle rest.taken given new rest.in_order);
        }

  chunk_in_order : {T : Type 0} (items : T → List ℕ) (stream : Stream) (old : Protocol) (came : Transmit T) (answer : TurnRecvRet T) (left : Stream) (new : Protocol) → answer ≢ recv.NoMemory came
      → IsChunkTaken items now stream old came answer left new → AreFirstTaken now (whole_frames (joined stream (items came.bytes))) old (whole_frames left) new
  chunk_in_order items stream old came answer left new ample (Waits none answered left_is same) = record {
    taken = [];
    parts = none_waits (joined stream (items came.bytes)) none ∙ sym (ap whole_frames left_is ∙ none_after (joined stream (items came.bytes)) none);
    in_order = same;
  }
  chunk_in_order items stream old came answer left new ample (Takes some owned started is) = first_in_order came answer (joined stream (items came.bytes)) old left new owned some is
  chunk_in_order items stream old came answer left new ample (Lost answered lost) = absurd (ample answered)

  module _ {T : Type 0} (items : T → List ℕ) (stream : Stream) (old new : ClientState) (came : Transmit T) (answer : TurnRecvRet T) (of : IsOfStream old.core came) (some : items came.bytes ≢ []) (ample : answer ≢ recv.NoMemory came) where
    streamed : IsStreamed items now stream old.core came answer new → AreFirstTaken now (whole_frames (joined stream (items came.bytes))) old.core (frames_waiting new.control) new.core
    streamed (Chunk _ _ left occurs taken) =
        subst (λ (o : Control). AreFirstTaken now (whole_frames (joined stream (items came.bytes))) old.core (frames_waiting o) new.core) (sym occurs)
        (chunk_in_order items stream old.core came answer left new.core ample taken)
    streamed (End _ none answered core closed) = absurd (some none)
    streamed (Strange others back occurs) = absurd (others of)

  pub received_in_order : {T : Type 0} (items : T → List ℕ) (stream : Stream) (old new : ClientState) (came : Transmit T) (answer : TurnRecvRet T) → old.control ≡ Open stream → IsOfStream old.core came → items came.bytes ≢ [] → answer ≢ recv.NoMemory came
      → IsReceivedBy items now old.control old.core came answer new → AreFirstTaken now (whole_frames (joined stream (items came.bytes))) old.core (frames_waiting new.control) new.core
  received_in_order items stream old new came answer at of some ample is =
      streamed items stream old new came answer of some ample (subst (λ (o : Control). IsReceivedBy items now o old.core came answer new) at is)

  -- ---- what waits

  pub stream_in_order : (control : Control) (old : Protocol) (given : Option PeerPayload) (new : ClientState) → IsStreamRequested now control old given new → AreFirstGiven now (frames_waiting control) old given (frames_waiting new.control) new.core
  stream_in_order Datagrams old given new (none, core, same) = record { taken = []; parts = sym (ap frames_waiting same); in_order = (none, core); all = λ _. ap frames_waiting same }
  stream_in_order Closed old given new (none, core, same) = record { taken = []; parts = sym (ap frames_waiting same); in_order = (none, core); all = λ _. ap frames_waiting same }
  stream_in_order (Open stream) old given new is =
      subst (λ (o : Control). AreFirstGiven now (whole_frames stream) old given (frames_waiting o) new.core) (sym is.occurs) (pulled_in_order stream old given is.left new.core is.pulled)

  -- No bytes of a peer are buffered.
  pub none_first : (raw : Option Connection) (control : Control) (old : Protocol) (given : Option PeerPayload) (new : ClientState) → raw ≡ None → IsFirstGiven now raw control old given new → IsStreamRequested now control old given new
  none_first None control old given new none is = is
  none_first (Some c) control old given new none is = absurd (Prim.cc none)

  pub waiting_in_order : (control : Control) (old : Protocol) (given : Option PeerPayload) (new : ClientState) → (control ≢ Datagrams → raw_waiting old ≡ None) → IsGivenBy now control old given new → AreFirstGiven now (frames_waiting control) old given (frames_waiting new.control) new.core
  waiting_in_order Datagrams old given new none is = stream_in_order Datagrams old given new is
  waiting_in_order Closed old given new none is = stream_in_order Closed old given new (none_first (raw_waiting old) Closed old given new (none (λ e. Prim.cc e)) is)
  waiting_in_order (Open stream) old given new none is = stream_in_order (Open stream) old given new (none_first (raw_waiting old) (Open stream) old given new (none (λ e. Prim.cc e)) is)

  -- Some bytes of a peer are buffered.
  some_first : (raw : Option Connection) (c : Connection) (control : Control) (old : Protocol) (given : Option PeerPayload) (new : ClientState) → raw ≡ Some c → IsFirstGiven now raw control old given new → IsRawGiven c old given new.core × (new.control ≡ control)
  some_first None c control old given new some is = absurd (Prim.cc some)
  some_first (Some k) c control old given new some is =
      let same : k ≡ c = Prim.cc some in
      subst (λ (x : Connection). IsRawGiven x old given new.core × (new.control ≡ control)) same is

  pub raw_first : (control : Control) (old : Protocol) (given : Option PeerPayload) (new : ClientState) (c : Connection) → control ≢ Datagrams → raw_waiting old ≡ Some c → IsGivenBy now control old given new → IsRawGiven c old given new.core × (new.control ≡ control)
  raw_first Datagrams old given new c tcp some is = absurd (tcp refl)
  raw_first Closed old given new c tcp some is = some_first (raw_waiting old) c Closed old given new some is
  raw_first (Open stream) old given new c tcp some is = some_first (raw_waiting old) c (Open stream) old given new some is
