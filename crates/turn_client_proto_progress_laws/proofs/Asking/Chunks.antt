-- How a message from the server reaches a client that has allocated, over TCP, and what is buffered there.
use Rattle.turn_client_proto_handshake_laws.proofs.StreamHeads.{whole_head, part_head, none_started, nothing_left, none_pulled, none_lost, not_garbled, same_handled}
use Rattle.std.proofs.Common.{◌≡◌, ◌≢◌, ℕ, ◌+◌, ◌<◌, arith, Bool, true, false, List, [], ◌∷◌, ◌++◌, length, take, Option, Some, None, refl, sym, ap, ◌∙◌, subst, ◌⊎◌, inl, inr, append-nil}
use Rattle.std.specs.Prelude.{is_none, nat_lt, MatchOption}
use Rattle.std.specs.Option.{option_or}
use Rattle.std.specs.declared.net.socket_addr.SocketAddr.{SocketAddr}
use Rattle.std.proofs.lemmas.Bool.{cases_Bool, ltb-false}
use Rattle.std.proofs.Math.Seq.{drop-length, take-length}
use Rattle.std.proofs.lemmas.List.{length-append}
use Rattle.turn_client_proto_messages.specs.StunTypesWire.Attributes.{kind_at, length_at}
use Rattle.turn_client_proto_messages.specs.StunTypesWire.Grammar.{body_refusal, header_refusal, length_refusal, refusal}
use Rattle.turn_client_proto_messages.specs.StunTypesWire.declared.error.StunParseError.{StunParseError}
use Rattle.turn_client_proto_messages.specs.StunTypesWire.Types.{class_of}
use Rattle.turn_client_proto_messages.specs.StunTypesBase.declared.transmit.Transmit.{Transmit}
use Rattle.turn_client_proto_messages.specs.TurnTypesFrame.Frames.{IsMessageFrame}
use Rattle.turn_client_proto_messages.specs.TurnTypesFrame.StreamHeads.{head, given_of}
use Rattle.turn_client_proto_messages.specs.TurnTypesFrame.declared.head.FrameHead.{FrameHead}
use Rattle.turn_client_proto_messages.specs.TurnTypesFrame.declared.head.FrameHead.TheVariants.{Message, Incomplete}
use Rattle.turn_client_proto_messages.proofs.TurnTypesFrame.Heads.{message as head_message, channel, short_message, short_channel, invalid, head_cases, message_grows, channel_grows, invalid_grows, message_at}
use Rattle.turn_client_proto_messages.specs.TurnTypesFrame.StreamAnswers.{IsNone, after_look, joined, looked}
use Rattle.turn_client_proto_messages.specs.TurnTypesFrame.Streams.{Stream, alive, left_by}
use Rattle.turn_client_proto_messages.specs.Allocation.declared.allocation.Allocation.{Allocation}
use Rattle.turn_client_proto_messages.specs.Allocation.declared.connection.Connection.{Connection}
use Rattle.turn_client_proto_messages.specs.Api.Payloads.{PeerPayload}
use Rattle.turn_client_proto_messages.specs.Api.declared.answer.TurnRecvRet.{TurnRecvRet}
use Rattle.turn_client_proto_messages.specs.Api.declared.answer.TurnRecvRet.TheVariants as recv
use Rattle.turn_client_proto_step_laws.specs.Connection.Streams.{emptied, emptied_in, is_any_raw}
use Rattle.turn_client_proto_step_laws.specs.Recv.Control.{Control, Open}
use Rattle.turn_client_proto_handshake_laws.specs.Core.Ending.{HasFailed}
use Rattle.turn_client_proto_handshake_laws.specs.Core.Receiving.{IsProcessed}
use Rattle.turn_client_proto_step_laws.specs.Recv.Datagrams.{IsOfServer}
use Rattle.turn_client_proto_step_laws.specs.Recv.HandingIn.{IsFrameTaken, IsDispatched, taken_as}
use Rattle.turn_client_proto_messages.specs.TurnRuns.Indications.{is_indication}
use Rattle.turn_client_proto_step_laws.specs.Recv.ClientState.{ClientState, Protocol}
use Rattle.turn_client_proto_step_laws.specs.Payload.declared.payload.Payload.{Payload}
use Rattle.turn_client_proto_step_laws.specs.Recv.Chunks.{AtFrame, Following, Invalid as FrameInvalid, First, Grew, Here, IsAnsweredAfter, IsFirstLost, IsFirstTaken, IsFrameHandled, IsLostOn, IsChunkTaken, Later, Lost, LostLater, OfItsOwn, Takes, Unkept, Waits}
use Rattle.turn_client_proto_step_laws.specs.Recv.Pulls.{Ends, Gives, Goes, IsPulled, frame_of}
use Rattle.turn_client_proto_step_laws.specs.Recv.Receipts.{End, IsFirstGiven, IsGivenBy, IsOfStream, IsReceived, IsReceivedBy, IsStreamed, IsWaitingGiven, Chunk, Strange}
use Rattle.turn_client_proto_step_laws.specs.Recv.SocketChunks.{raw_waiting}
use Rattle.turn_client_proto_step_laws.specs.Recv.declared.handing.Taken.{Taken}
use Rattle.turn_client_proto_step_laws.specs.Recv.declared.handing.Taken.TheVariants.{Given, Garbled}
use Rattle.turn_client_proto_handshake_laws.specs.Coming.{HasCome, IsFromServer, IsProcessedAs, IsLost, IsPartOf}
use Rattle.turn_client_proto_handshake_laws.specs.Stages.{IsOf}
use Rattle.turn_client_proto_handshake_laws.specs.Sent.{Beginning}
use Rattle.turn_client_proto_progress_laws.specs.Asking.{APermission, AChannel, Awaits, HasMadeRequest, Wanted}
use Rattle.turn_client_proto_progress_laws.specs.Holding.{HasHeld}
use Rattle.turn_client_proto_progress_laws.specs.Speaking.{Speaks}
use Rattle.turn_client_proto_progress_laws.proofs.Asking.Given.{no_payload_of, same_stored}
use Rattle.turn_client_proto_progress_laws.proofs.Asking.Stored.{Keeps, itself}
use Rattle.turn_client_proto_progress_laws.proofs.Asking.Moving.{requested_still}
use Rattle.turn_client_proto_progress_laws.proofs.Asking.Speaking.{most_changed, own_agent, speaks_with, unchanged}

-- ---- what stands at the head

-- ---- what is taken of a stream without a whole frame

-- ---- what comes to such a client

module _ (b : Beginning) (k : ClientState) (of : IsOf b k.core) where
  module _ {T : Type 0} (items : T → List ℕ) (came : Transmit T) (from : IsFromServer b came) (now : ℕ) (answer : TurnRecvRet T) (k2 : ClientState) where
    of_server : IsOfServer k.core came
    of_server = record {
      transport = from.transport ∙ sym of.transport;
      from = from.from ∙ sym of.server;
      to = from.to ∙ sym of.here;
    }

    of_stream : IsOfStream k.core came
    of_stream = record { of_server = of_server; works = ap is_none of.remote }

    -- ---- a chunk

    module _ (before : List ℕ) (some : items came.bytes ≢ []) where
      abbrev grown : Stream
      grown = joined (alive before) (items came.bytes)

      taken_chunk : {A : Type 0} → ((left : Stream) → k2.control ≡ Open left → IsChunkTaken items now (alive before) k.core came answer left k2.core → A)
          → IsStreamed items now (alive before) k.core came answer k2 → A
      taken_chunk next (Chunk of more left control taken) = next left control taken
      taken_chunk next (End of none reported same control) = absurd (some none)
      taken_chunk next (Strange foreign received control) = absurd (foreign of_stream)

      -- A chunk that does not complete the message changes nothing except the buffered bytes.
      waits_on : looked grown ≡ Incomplete → (left : Stream) → k2.control ≡ Open left → IsChunkTaken items now (alive before) k.core came answer left k2.core
          → ((answer ≡ recv.Handled) × (k2.core ≡ k.core) × HasCome (before ++ items came.bytes) k2) ⊎ IsLost k came answer k2
      waits_on incomplete left control (Waits none reported left_is same) =
          inl (reported, same, control ∙ ap Open (left_is ∙ ap (λ (f : FrameHead). left_by f (before ++ items came.bytes)) incomplete))
      waits_on incomplete left control (Takes whole owned started first) = absurd (whole (subst IsNone (sym incomplete) tt))
      waits_on incomplete left control (Lost reported (Unkept cause failed)) = inr (reported, failed)
      waits_on incomplete left control (Lost reported (AtFrame whole owned started first)) = absurd (whole (subst IsNone (sym incomplete) tt))

      pub chunk_waits : (message : List ℕ) → IsPartOf (before ++ items came.bytes) message → HasCome before k → IsReceived items k came now answer k2
          → ((answer ≡ recv.Handled) × (k2.core ≡ k.core) × HasCome (before ++ items came.bytes) k2) ⊎ IsLost k came answer k2
      chunk_waits message part come received =
          let streamed = subst (λ (c : Control). IsReceivedBy items now c k.core came answer k2) come received in
          taken_chunk (waits_on (part_head (before ++ items came.bytes) message part)) streamed

      -- ---- that ends it

      module _ (is : refusal (before ++ items came.bytes) ≡ None) (answers : is_indication (class_of (kind_at (before ++ items came.bytes))) ≡ false) where
        abbrev message_is : List ℕ
        message_is = before ++ items came.bytes

        whole_look : looked grown ≡ Message (length message_is)
        whole_look = whole_head message_is is

        frame_is : frame_of grown ≡ message_is
        frame_is = ap (λ (f : FrameHead). take (given_of f) message_is) whole_look ∙ take-length message_is

        left_is : after_look grown ≡ alive []
        left_is = ap (λ (f : FrameHead). left_by f message_is) whole_look ∙ ap alive (drop-length message_is)

        -- The message is handled.
        processed_frame : (taken : Taken) (new : Protocol) → IsFrameTaken k.core message_is now taken new → (handled : Bool) × (taken ≡ taken_as handled) × IsProcessed k.core message_is now handled new
        processed_frame taken new frame =
            let delivered = subst (λ (o : Option Payload). MatchOption o (IsDispatched (refusal message_is) k.core message_is now taken new) (λ payload. (taken ≡ Given payload) × (new ≡ k.core)))
            (no_payload_of k.core message_is is answers) frame in
            subst (λ (o : Option StunParseError). IsDispatched o k.core message_is now taken new) is delivered

        ends : (owned : Bool) (left : Stream) → k2.control ≡ Open left → IsFirstTaken now owned message_is (alive []) k.core came answer left k2.core
            → IsProcessedAs k message_is came now (Open (alive [])) answer k2
        ends owned left control (First payload gives delivered left_so same) = absurd (Prim.cc (sym gives ∙ no_payload_of k.core message_is is answers))
        ends owned left control (FrameInvalid frame reported left_so) = (let h = processed_frame Garbled k2.core frame in not_garbled h.0 h.1)
        ends owned left control (Following handled middle frame given pulled following) =
            let h = processed_frame (taken_as handled) middle frame in
            let same = same_handled handled h.0 h.1 in
            let nothing = none_pulled now (alive []) none_started middle k2.core given left pulled in
            record {
              handled = handled;
              processed = subst (λ (x : Protocol). IsProcessed k.core message_is now handled x) (sym nothing.2) (subst (λ (x : Bool). IsProcessed k.core message_is now x middle) (sym same) h.2);
              answer_is = subst (λ (g : Option PeerPayload). IsAnsweredAfter handled g came answer) nothing.0 following;
              control_is = control ∙ ap Open (nothing.1 ∙ nothing_left);
            }

        is_lost : (owned : Bool) → IsFirstLost now owned message_is (alive []) k.core k2.core → HasFailed k.core k2.core
        is_lost owned (Grew grows failed) = failed
        is_lost owned (OfItsOwn apart payload gives needs failed) = failed
        is_lost owned (LostLater handled middle frame lost) = absurd (none_lost now (alive []) none_started middle k2.core lost)

        whole_taken : (left : Stream) → k2.control ≡ Open left → IsChunkTaken items now (alive before) k.core came answer left k2.core
            → IsProcessedAs k message_is came now (Open (alive [])) answer k2 ⊎ IsLost k came answer k2
        whole_taken left control (Waits none reported left_so same) = absurd (subst IsNone whole_look none)
        whole_taken left control (Takes whole owned started first) =
            let one = subst (λ (l : List ℕ). IsFirstTaken now owned l (after_look grown) k.core came answer left k2.core) frame_is first in
            inl (ends owned left control (subst (λ (s : Stream). IsFirstTaken now owned message_is s k.core came answer left k2.core) left_is one))
        whole_taken left control (Lost reported (Unkept cause failed)) = inr (reported, failed)
        whole_taken left control (Lost reported (AtFrame whole owned started first)) =
            let one = subst (λ (l : List ℕ). IsFirstLost now owned l (after_look grown) k.core k2.core) frame_is first in
            inr (reported, is_lost owned (subst (λ (s : Stream). IsFirstLost now owned message_is s k.core k2.core) left_is one))

        pub chunk_ends : HasCome before k → IsReceived items k came now answer k2
            → IsProcessedAs k message_is came now (Open (alive [])) answer k2 ⊎ IsLost k came answer k2
        chunk_ends come received =
            let streamed = subst (λ (c : Control). IsReceivedBy items now c k.core came answer k2) come received in
            taken_chunk whole_taken streamed

-- ---- what waits is requested

-- Nothing is buffered, or bytes of a connection's peer are, and are returned.
pub data IsTakenFrom (k : ClientState) (k2 : ClientState) : Type 0 where
  Nothing : k2 ≡ k → IsTakenFrom k k2
  Raw : k2.core ≡ record k.core { allocations = emptied k.core.allocations } → k2.control ≡ k.control → IsTakenFrom k k2

-- No frame is complete in what is buffered.
pub record IsUnderWay (before : List ℕ) : Type 0 where
  pub none : IsNone (looked (alive before))
  pub stays : after_look (alive before) ≡ alive before

pub nothing_stored : IsUnderWay []
nothing_stored = record { none = none_started; stays = nothing_left }

pub part_stored : (before message : List ℕ) → IsPartOf before message → IsUnderWay before
part_stored before message part =
    let incomplete = part_head before message part in
    record { none = subst IsNone (sym incomplete) tt; stays = ap (λ (f : FrameHead). left_by f before) incomplete }

pub either_stored : (before message : List ℕ) → (before ≡ []) ⊎ IsPartOf before message → IsUnderWay before
either_stored before message (inl none) = subst (λ (l : List ℕ). IsUnderWay l) (sym none) nothing_stored
either_stored before message (inr part) = part_stored before message part

module _ (k : ClientState) (now : ℕ) (given : Option PeerPayload) (k2 : ClientState) (before : List ℕ) (under_way : IsUnderWay before) (come : HasCome before k) where
  by_raw : (raw : Option Connection) → IsFirstGiven now raw (Open (alive before)) k.core given k2 → IsTakenFrom k k2
  by_raw (Some c) is = Raw is.0.after (is.1 ∙ sym come)
  by_raw None stream =
      let nothing = none_pulled now (alive before) under_way.none k.core k2.core given stream.left stream.pulled in
      Nothing (same_stored k k2 nothing.2 (stream.occurs ∙ (ap Open (nothing.1 ∙ under_way.stays) ∙ sym come)))

  pub taken_from : IsWaitingGiven k now given k2 → IsTakenFrom k k2
  taken_from is = by_raw (raw_waiting k.core) (subst (λ (c : Control). IsGivenBy now c k.core given k2) come is)

-- ---- what that leaves

emptied_keeps : (numbers : List ℕ) (number : ℕ) (wanted : Wanted) (a : Allocation) → Keeps numbers number wanted a (emptied_in a)
emptied_keeps numbers number wanted a = record { transport = refl; address = refl; expiry = refl; visible = refl; awaits = awaits wanted }
  where
    awaits : (wanted : Wanted) → Awaits numbers number wanted a → Awaits numbers number wanted (emptied_in a)
    awaits (APermission ip) is = record { no_refresh = is.no_refresh; no_channel = is.no_channel; no_renewal = is.no_renewal; requested = is.requested }
    awaits (AChannel which peer) is = record { no_refresh = is.no_refresh; requested = is.requested; free = is.free }

pub taken_speaks : (b : Beginning) (realm : List ℕ) (address : SocketAddr) (k k2 : ClientState) → Speaks b realm address k.core → IsTakenFrom k k2 → Speaks b realm address k2.core
taken_speaks b realm address k k2 is (Nothing same) = unchanged b realm address k.core is k2.core (ap (λ (x : ClientState). x.core) same)
taken_speaks b realm address k k2 is (Raw after control) = subst (λ (x : Protocol). Speaks b realm address x) (sym after)
    (speaks_with b realm address k.core is (record k.core { allocations = emptied k.core.allocations }) (own_agent b realm address k.core is) refl refl refl refl refl
    (most_changed b address is_any_raw emptied_in (λ a. record { transport = refl; address = refl }) k.core.allocations is.one))

pub taken_asks : (b : Beginning) (realm : List ℕ) (address : SocketAddr) (wanted : Wanted) (request : List ℕ) (until beyond : ℕ) (Counts : ℕ → Type 0) (k k2 : ClientState) → HasMadeRequest b realm address wanted request until beyond Counts k.core → IsTakenFrom k k2
    → HasMadeRequest b realm address wanted request until beyond Counts k2.core
taken_asks b realm address wanted request until beyond Counts k k2 h (Nothing same) = subst (λ (x : ClientState). HasMadeRequest b realm address wanted request until beyond Counts x.core) (sym same) h
taken_asks b realm address wanted request until beyond Counts k k2 h (Raw after control) =
    let at : emptied k.core.allocations ≡ emptied (h.allocation ∷ []) = ap emptied h.only in
    subst (λ (x : Protocol). HasMadeRequest b realm address wanted request until beyond Counts x) (sym after) (elim (cases_Bool (is_any_raw h.allocation)) [
      | inl raw ↦ requested_still b realm address wanted request until beyond Counts k.core h _ (record { server = refl; remote = refl; transport = refl; here = refl; waits = refl; allocates = refl; asked = refl; auth = refl; phase = refl }) refl
          (emptied_in h.allocation) (at ∙ rw raw refl) (emptied_keeps h.numbers h.number wanted h.allocation) h.others h.transaction h.outstanding h.continues
      | inr none ↦ requested_still b realm address wanted request until beyond Counts k.core h _ (record { server = refl; remote = refl; transport = refl; here = refl; waits = refl; allocates = refl; asked = refl; auth = refl; phase = refl }) refl
          h.allocation (at ∙ rw none refl) (itself h.numbers h.number wanted h.allocation) h.others h.transaction h.outstanding h.continues
    ])

-- A statement on an allocation that does not concern connections still holds.
pub taken_holds : (b : Beginning) (Is : Allocation → Type 0) → ((a : Allocation) → Is a → Is (emptied_in a)) → (k k2 : ClientState) → HasHeld b k.core Is → IsTakenFrom k k2 → HasHeld b k2.core Is
taken_holds b Is on k k2 h (Nothing same) = subst (λ (x : ClientState). HasHeld b x.core Is) (sym same) h
taken_holds b Is on k k2 h (Raw after control) = subst (λ (x : Protocol). HasHeld b x Is) (sym after) (elim (cases_Bool (is_any_raw h.allocation)) [
  | inl raw ↦ with_one (emptied_in h.allocation) (ap emptied h.only ∙ rw raw refl) h.transport h.occurs (on h.allocation h.is)
  | inr none ↦ with_one h.allocation (ap emptied h.only ∙ rw none refl) h.transport h.occurs h.is
])
  where
    with_one : (a : Allocation) → emptied k.core.allocations ≡ a ∷ [] → a.transport ≡ b.config.transport → a.is_expired ≡ false → Is a → HasHeld b (record k.core { allocations = emptied k.core.allocations }) Is
    with_one a only transport occurs is = record {
      settings = record {
        server = h.settings.server;
        remote = h.settings.remote;
        transport = h.settings.transport;
        here = h.settings.here;
        waits = h.settings.waits;
        allocates = h.settings.allocates;
        families = h.settings.families;
        options = h.settings.options;
        pace = h.settings.pace;
        indications = h.settings.indications;
        usual = h.settings.usual;
      };
      phase = h.phase;
      allocation = a;
      only = only;
      transport = transport;
      occurs = occurs;
      is = is;
    }

-- The same part of a message is buffered.
pub taken_come : (k k2 : ClientState) (before : List ℕ) → HasCome before k → IsTakenFrom k k2 → HasCome before k2
taken_come k k2 before come (Nothing same) = ap (λ (x : ClientState). x.control) same ∙ come
taken_come k k2 before come (Raw after control) = control ∙ come
