-- What a client does with a chunk on the socket of a connection is determined, wherever the chunk's bytes are
-- in memory, unless an allocation fails.
use Rattle.std.proofs.Common.{◌≡◌, ◌≢◌, ℕ, ◌==◌, Bool, true, false, if◌then◌else◌, List, [], length, Option, Some, None, refl, sym, ap, ◌∙◌, subst}
use Rattle.std.specs.Bool.{MatchBool}
use Rattle.std.specs.Prelude.{MatchOption, ◌&&◌}
use Rattle.std.specs.declared.net.socket_addr.SocketAddr.{SocketAddr}
use Rattle.turn_desk_core.specs.StunTypesWire.Grammar.{refusal}
use Rattle.turn_desk_core.specs.StunTypesWire.declared.error.StunParseError.{StunParseError}
use Rattle.stun_types_base.specs.declared.transmit.Transmit.{Transmit}
use Rattle.stun_types_base.specs.declared.transport.TransportType.{TransportType}
use Rattle.turn_desk_event.specs.TurnTypesFrame.StreamAnswers.{IsNone, after_look, joined, looked}
use Rattle.turn_desk_event.specs.TurnTypesFrame.Streams.{Stream, alive}
use Rattle.turn_desk_step_laws.specs.TurnClientProtoAllocation.declared.connection.Binding.{Binding}
use Rattle.turn_desk_step_laws.specs.TurnClientProtoAllocation.declared.connection.Connection.{Connection}
use Rattle.turn_desk_event.specs.TurnClientProtoApi.declared.answer.TurnRecvRet.{TurnRecvRet}
use Rattle.turn_desk_event.specs.TurnClientProtoApi.declared.answer.TurnRecvRet.TheVariants as recv
use Rattle.turn_desk_event.specs.TurnClientProtoApi.declared.answer.TurnRecvRet.TheVariants.{PeerData}
use Rattle.turn_client_proto_step_laws.specs.Recv.Closing.{after_close}
use Rattle.turn_desk_world.specs.TurnClientProtoConnection.Streams.{from as over}
use Rattle.turn_client_proto_step_laws.specs.Recv.Datagrams.{IsGivenBack, IsHandledAs}
use Rattle.turn_client_proto_step_laws.specs.Recv.ClientState.{Protocol}
use Rattle.turn_desk_step_laws.specs.TurnClientProtoAllocation.Same.{is_same_address, is_same_transport}
use Rattle.turn_client_proto_step_laws.specs.Recv.Pulls.{frame_of}
use Rattle.turn_client_proto_step_laws.specs.Recv.SocketChunks.{Closes, Fed, GivesRaw, Processes, IsBytesTaken, IsEnded, IsFed, IsFrameProcessed, IsMessageProcessed, IsChunkFed, IsRawTaken, IsReceivedAt, IsTakenBy, IsTakenFor, LostEnd, LostFrames, LostRaw, Stops, Waits, after_raw, is_for_client, is_joining, raw_given, socket_of, with_stored}
use Rattle.turn_client_proto_step_laws.proofs.Once.Answers.{processed_single}
use Rattle.turn_client_proto_step_laws.proofs.Once.Processing.{processed_definite}
use Rattle.turn_desk_world.specs.TurnClientProtoCore.Receiving.{IsProcessed}
use Rattle.turn_client_proto_step_laws.specs.Recv.Processing.{IsProcessedAt}
use Rattle.turn_desk_world_laws.specs.Copies.{AreAlike, BothData, BothGivenBack, BothHandled, IsCopy}

-- ---- what becomes of a client by a message is one thing

module _ (here : SocketAddr) (now : ℕ) where
  pub message_once : (old : Protocol) (frame : List ℕ) (one other : Protocol) → IsMessageProcessed here now old frame one → IsMessageProcessed here now old frame other → one ≡ other
  message_once old frame one other a b =
      elim (is_same_address here old.agent.here) as (λ (t : Bool). MatchBool t ((handled : Bool) × IsProcessed old frame now handled one) (IsProcessedAt here old frame now one)
      → MatchBool t ((handled : Bool) × IsProcessed old frame now handled other) (IsProcessedAt here old frame now other) → one ≡ other) [
        | true ↦ λ x y. ((processed_definite old frame now).same x.0 y.0 one other x.1 y.1).1
        | false ↦ λ x y. (processed_single here frame now old).same one other x y
      ] a b

  frame_once : (old : Protocol) (frame : List ℕ) (one other : Protocol) → IsFrameProcessed here now old frame one → IsFrameProcessed here now old frame other → one ≡ other
  frame_once old frame one other a b = by (refusal frame) a.1 b.1
    where
      by : (refused : Option StunParseError) → MatchOption refused (IsMessageProcessed here now old frame one) (λ error. one ≡ old) → MatchOption refused (IsMessageProcessed here now old frame other) (λ error. other ≡ old) → one ≡ other
      by None x y = message_once old frame one other x y
      by (Some error) x y = x ∙ sym y

  -- ---- frames one after another

  -- How it begins: the connection is not to be bound; or no frame is complete; or the one at the head is
  -- handled.
  data IsStarted (stream : Stream) (state : Protocol) (left : Stream) (after : Protocol) : Type 0 where
    Stopped : is_joining here state ≡ false → left ≡ stream → after ≡ state → IsStarted stream state left after
    Waited : is_joining here state ≡ true → IsNone (looked stream) → left ≡ after_look stream → after ≡ state → IsStarted stream state left after
    Processed : (middle : Protocol) → is_joining here state ≡ true → ¬ IsNone (looked stream) → IsFrameProcessed here now state (frame_of stream) middle → IsFed here now (after_look stream) middle left after → IsStarted stream state left after

  started : (stream : Stream) (state : Protocol) (left : Stream) (after : Protocol) → IsFed here now stream state left after → IsStarted stream state left after
  started _ _ _ _ (Stops stream state not_so) = Stopped not_so refl refl
  started _ _ _ _ (Waits stream state joining none) = Waited joining none refl refl
  started _ _ _ _ (Processes stream state middle left after joining some processed more) = Processed middle joining some processed more

  abbrev IsSame : Stream → Stream → Protocol → Protocol → Type 0
  IsSame left rest one other = (left ≡ rest) × (one ≡ other)

  stopped_same : (stream : Stream) (state : Protocol) (rest : Stream) (other : Protocol) → is_joining here state ≡ false → IsStarted stream state rest other → IsSame stream rest state other
  stopped_same stream state rest other not_so (Stopped nor left after) = (sym left, sym after)
  stopped_same stream state rest other not_so (Waited joining none left after) = absurd (Prim.cc (sym joining ∙ not_so))
  stopped_same stream state rest other not_so (Processed middle joining some processed more) = absurd (Prim.cc (sym joining ∙ not_so))

  waited_same : (stream : Stream) (state : Protocol) (rest : Stream) (other : Protocol) → is_joining here state ≡ true → IsNone (looked stream) → IsStarted stream state rest other → IsSame (after_look stream) rest state other
  waited_same stream state rest other joining none (Stopped not_so left after) = absurd (Prim.cc (sym joining ∙ not_so))
  waited_same stream state rest other joining none (Waited joining_too nor left after) = (sym left, sym after)
  waited_same stream state rest other joining none (Processed middle joining_too some processed more) = absurd (some none)

  processed_same : (stream : Stream) (state middle : Protocol) (left rest : Stream) (one other : Protocol) → is_joining here state ≡ true → ¬ IsNone (looked stream) → IsFrameProcessed here now state (frame_of stream) middle
      → (IsFed here now (after_look stream) middle rest other → IsSame left rest one other) → IsStarted stream state rest other → IsSame left rest one other
  processed_same stream state middle left rest one other joining some processed following (Stopped not_so l a) = absurd (Prim.cc (sym joining ∙ not_so))
  processed_same stream state middle left rest one other joining some processed following (Waited joining_too none l a) = absurd (some none)
  processed_same stream state middle left rest one other joining some processed following (Processed between joining_too some_too processed_too more) =
      following (subst (λ (p : Protocol). IsFed here now (after_look stream) p rest other) (sym (frame_once state (frame_of stream) middle between processed processed_too)) more)

fed_same : (here : SocketAddr) (now : ℕ) (stream : Stream) (state : Protocol) (left rest : Stream) (one other : Protocol) → IsFed here now stream state left one → IsFed here now stream state rest other → (left ≡ rest) × (one ≡ other)
fed_same here now _ _ _ rest _ other (Stops stream state not_so) b = stopped_same here now stream state rest other not_so (started here now stream state rest other b)
fed_same here now _ _ _ rest _ other (Waits stream state joining none) b = waited_same here now stream state rest other joining none (started here now stream state rest other b)
fed_same here now _ _ _ rest _ other (Processes stream state middle left after joining some processed more) b =
    processed_same here now stream state middle left rest after other joining some processed (λ more_too. fed_same here now (after_look stream) middle left rest after other more more_too) (started here now stream state rest other b)

-- ---- a chunk

-- The bytes were handled, or given back.
pub alike_as : {T : Type 0} (came copy : Transmit T) (answer again : TurnRecvRet T) (handled : Bool) → IsHandledAs came handled answer → IsHandledAs copy handled again → AreAlike came copy answer again
alike_as came copy answer again true a b = BothHandled a b
alike_as came copy answer again false a b = BothGivenBack a b

module _ {T : Type 0} (items : T → List ℕ) (came copy : Transmit T) (answer again : TurnRecvRet T) (enough : answer ≢ recv.NoMemory came) (ample : again ≢ recv.NoMemory copy) (is : IsCopy items came copy) where
  fed_alike : (here : SocketAddr) (now : ℕ) (stream : Stream) (old : Protocol) (left rest : Stream) (one other : Protocol) → IsChunkFed items here now stream old came answer left one → IsChunkFed items here now stream old copy again rest other
      → AreAlike came copy answer again × (left ≡ rest) × (one ≡ other)
  fed_alike here now stream old left rest one other (Fed fed reported) (Fed fed_too known) =
      let grown = joined stream (items came.bytes) in
      let on_these : IsFed here now grown old rest other = subst (λ (l : List ℕ). IsFed here now (joined stream l) old rest other) is.bytes fed_too in
      let known_so : IsHandledAs copy (is_for_client (looked grown)) again = subst (λ (l : List ℕ). IsHandledAs copy (is_for_client (looked (joined stream l))) again) is.bytes known in
      let same = fed_same here now grown old left rest one other fed on_these in
      (alike_as came copy answer again (is_for_client (looked grown)) reported known_so, same.0, same.1)
  fed_alike here now stream old left rest one other (Fed fed reported) (LostFrames known lost) = absurd (ample known)
  fed_alike here now stream old left rest one other (LostFrames reported lost) b = absurd (enough reported)

  module _ (now : ℕ) (old one other : Protocol) where
    abbrev Agree : Type 0
    Agree = AreAlike came copy answer again × (one ≡ other)

    joined_alike : (c : Connection) → IsTakenFor items c now old came answer one → IsTakenFor items c now old copy again other → Agree
    joined_alike c a b =
        let fed : IsChunkFed items came.to now c.stream (with_stored came.to (alive []) old) copy again b.left b.middle =
        subst (λ (h : SocketAddr). IsChunkFed items h now c.stream (with_stored h (alive []) old) copy again b.left b.middle) is.to b.fed in
        let same = fed_alike came.to now c.stream (with_stored came.to (alive []) old) a.left b.left a.middle b.middle a.fed fed in (
          same.0,
          a.after ∙ ap (λ (s : Stream). with_stored came.to s a.middle) same.1 ∙ ap (λ (p : Protocol). with_stored came.to b.left p) same.2
              ∙ sym (ap (λ (h : SocketAddr). with_stored h b.left b.middle) is.to) ∙ sym b.after,
        )

    raw_alike : (c : Connection) → IsRawTaken items c old came answer one → IsRawTaken items c old copy again other → Agree
    raw_alike c (GivesRaw reported same) (GivesRaw known as_it_was) = (
      BothData (raw_given c (items came.bytes)) reported (known ∙ ap (λ (l : List ℕ). PeerData (raw_given c l)) is.bytes),
      same ∙ sym (ap (λ (h : SocketAddr). after_raw h c old) is.to) ∙ sym as_it_was,
    )
    raw_alike c (GivesRaw reported same) (LostRaw some known failed) = absurd (ample known)
    raw_alike c (LostRaw some reported failed) b = absurd (enough reported)

    ended_alike : IsEnded old came answer one → IsEnded old copy again other → Agree
    ended_alike (Closes reported same) (Closes known as_it_was) = (BothHandled reported known, same ∙ sym (ap (λ (h : SocketAddr). after_close h old.server old) is.to) ∙ sym as_it_was)
    ended_alike (Closes reported same) (LostEnd known failed) = absurd (ample known)
    ended_alike (LostEnd reported failed) b = absurd (enough reported)

    bytes_alike : (awaited : Option Binding) (c : Connection) → IsBytesTaken items awaited c now old came answer one → IsBytesTaken items awaited c now old copy again other → Agree
    bytes_alike (Some binding) c a b = joined_alike c a b
    bytes_alike None c a b = raw_alike c a b

    by_alike : (c : Connection) → IsTakenBy items c now old came answer one → IsTakenBy items c now old copy again other → Agree
    by_alike c a b =
        by (length (items came.bytes) == 0) a (subst (λ (l : List ℕ). MatchBool (length l == 0) (IsEnded old copy again other) (IsBytesTaken items c.awaited c now old copy again other)) is.bytes b)
      where
        by : (t : Bool) → MatchBool t (IsEnded old came answer one) (IsBytesTaken items c.awaited c now old came answer one) → MatchBool t (IsEnded old copy again other) (IsBytesTaken items c.awaited c now old copy again other) → Agree
        by true x y = ended_alike x y
        by false x y = bytes_alike c.awaited c x y

    -- A copy comes on the socket of the same connection.
    abbrev found : TransportType → (from to : SocketAddr) → Option Connection
    found t f h = if is_same_transport t old.agent.transport && is_same_address f old.server then over h old.allocations else None

    one_socket : socket_of old copy ≡ socket_of old came
    one_socket =
        ap (λ (t : TransportType). found t copy.from copy.to) is.transport
        ∙ ap (λ (f : SocketAddr). found came.transport f copy.to) is.from
        ∙ ap (λ (h : SocketAddr). found came.transport came.from h) is.to

    pub received_at_same : IsReceivedAt items now old came answer one → IsReceivedAt items now old copy again other → Agree
    received_at_same a b =
        by (socket_of old came) a (subst (λ (o : Option Connection). MatchOption o (IsGivenBack old copy again other) (λ c. IsTakenBy items c now old copy again other)) one_socket b)
      where
        by : (o : Option Connection) → MatchOption o (IsGivenBack old came answer one) (λ c. IsTakenBy items c now old came answer one)
            → MatchOption o (IsGivenBack old copy again other) (λ c. IsTakenBy items c now old copy again other) → Agree
        by None x y = (BothGivenBack x.0 y.0, x.1 ∙ sym y.1)
        by (Some c) x y = by_alike c x y
