-- The loop that handles the frames on the socket of a connection.
use Rattle.std.proofs.Common.{◌≡◌, ℕ, ◌<◌, Bool, true, false, List, [], ◌++◌, Result, Ok, Err, length, take, refl, sym, ap, ◌∙◌, subst}
use Rattle.std.specs.Bool.{MatchBool}
use Rattle.std.specs.Prelude.{MatchResult, OnErr, OnOk}
use Rattle.std.specs.declared.net.socket_addr.SocketAddr.{SocketAddr}
use Rattle.stun_types_base.specs.declared.transmit.Transmit.{Transmit}
use Rattle.turn_types_frame.specs.declared.head.FrameHead.{FrameHead}
use Rattle.turn_types_frame.specs.declared.head.FrameHead.TheVariants.{Message, Channel, Incomplete, Invalid}
use Rattle.turn_types_frame.specs.StreamAnswers.{IsChannel, IsMessage, IsNone, after_look, joined, looked}
use Rattle.turn_types_frame.specs.StreamHeads.{given_of}
use Rattle.turn_types_frame.specs.Streams.{Stream}
use Rattle.turn_client_proto_api.specs.declared.answer.TurnRecvRet.{TurnRecvRet}
use Rattle.turn_client_proto_api.specs.declared.answer.TurnRecvRet.TheVariants as recv
use Rattle.turn_client_proto_core.specs.Ending.{HasFailed}
use Rattle.turn_client_proto_core.specs.declared.protocol.Protocol.{Protocol}
use Rattle.turn_client_proto_recv.specs.Datagrams.{IsHandledAs}
use Rattle.turn_client_proto_recv.specs.Pulls.{frame_of}
use Rattle.turn_client_proto_recv.specs.SocketChunks.{AfterFirst, AtFirst, AtFrame, Fed, HeadLost, HeadTaken, Processes, Here, IsFed, IsFrameProcessed, IsHeadTaken, IsLostAt, IsLostFrom, IsNextTaken, IsChunkFed, IsTakenFrom, Later, LostFrames, MayGrowAt, Stops, Waits, is_for_client, is_joining}
use Rattle.turn_client_proto_recv.proofs.Loops.{shorter}

module _ (here : SocketAddr) (now : ℕ) (first : Stream) (start : Protocol) where
  -- The outcome of the frames from here on is the outcome of all of them, and so is the failure of a memory
  -- allocation.
  pub record IsOnwardAt (stream : Stream) (state : Protocol) : Type 0 where
    pub ok : (left : Stream) (after : Protocol) → IsFed here now stream state left after → IsFed here now first start left after
    pub err : (after : Protocol) → IsLostAt here now stream state after → IsLostAt here now first start after

  module _ (stream : Stream) (state : Protocol) (onward : IsOnwardAt stream state) (left : Stream) (after : Protocol) where
    pub continues : IsNextTaken here now stream state true left after → IsOnwardAt left after
    continues (joins, some, processed, left_is) = record {
      ok = λ last end more. onward.ok last end (Processes stream state after last end joins some processed (subst (λ (s : Stream). IsFed here now s after last end) left_is more));
      err = λ end more. onward.err end (Later stream state after end joins some processed (subst (λ (s : Stream). IsLostAt here now s after end) left_is more));
    }

    pub goes_less : IsNextTaken here now stream state true left after → length left.stored < length stream.stored
    goes_less (joins, some, processed, left_is) = subst (λ (s : Stream). length s.stored < length stream.stored) (sym left_is) (shorter stream some)

    pub ends_here : IsNextTaken here now stream state false left after → IsFed here now first start left after
    ends_here is = by (is_joining here state) refl is
      where
        by : (b : Bool) → is_joining here state ≡ b
            → MatchBool b (IsNone (looked stream) × (left ≡ after_look stream) × (after ≡ state)) ((left ≡ stream) × (after ≡ state)) → IsFed here now first start left after
        by true joins (none, left_is, same) =
            subst (λ (s : Stream). IsFed here now first start s after) (sym left_is)
            (subst (λ (p : Protocol). IsFed here now first start (after_look stream) p) (sym same) (onward.ok (after_look stream) state (Waits stream state joins none)))
        by false stops (left_is, same) =
            subst (λ (s : Stream). IsFed here now first start s after) (sym left_is)
            (subst (λ (p : Protocol). IsFed here now first start stream p) (sym same) (onward.ok stream state (Stops stream state stops)))

    pub lost_here : is_joining here state ≡ true → ¬ IsNone (looked stream) → MayGrowAt here state (frame_of stream) → HasFailed state after → IsLostAt here now first start after
    lost_here joins some grows failed = onward.err after (Here stream state after joins some grows failed)

module _ (here : SocketAddr) (now : ℕ) (frame : List ℕ) (stream : Stream) (old middle : Protocol) (left : Stream) (new : Protocol) (processed : IsFrameProcessed here now old frame middle) where
  pub taken_from : {R E : Type 0} (r : Result R E) → OnOk r (IsFed here now stream middle left new) → OnOk r (IsTakenFrom here now frame stream old left new)
  taken_from (Ok x) fed = record { middle = middle; processed = processed; fed = fed }
  taken_from (Err e) fed = tt

  pub lost_from : {R E : Type 0} (r : Result R E) → OnErr r (IsLostAt here now stream middle new) → OnErr r (IsLostFrom here now frame stream old new)
  lost_from (Ok x) lost = tt
  lost_from (Err e) lost = AfterFirst middle processed lost

-- ---- a chunk, by its first frame

module _ {T : Type 0} (here : SocketAddr) (now : ℕ) (message : Bool) (frame : List ℕ) (stream : Stream) (old : Protocol) (came : Transmit T) (answer : TurnRecvRet T) (left : Stream) (new : Protocol) where
  pub attribute_head_taken : {R E : Type 0} (done : Result R E) → OnOk done (IsTakenFrom here now frame stream old left new) → OnErr done (IsLostFrom here now frame stream old new)
      → MatchResult done (λ _. IsHandledAs came message answer) (λ _. answer ≡ recv.NoMemory came) → IsHeadTaken here now message frame stream old came answer left new
  attribute_head_taken (Ok x) taken lost reported = HeadTaken taken reported
  attribute_head_taken (Err e) taken lost reported = HeadLost reported lost

module _ {T : Type 0} (items : T → List ℕ) (here : SocketAddr) (now : ℕ) (stream : Stream) (old : Protocol) (came : Transmit T) (answer : TurnRecvRet T) (left : Stream) (new : Protocol) (joins : is_joining here old ≡ true) where
  abbrev grown : Stream
  grown = joined stream (items came.bytes)

  abbrev Comes : Type 0
  Comes = IsChunkFed items here now stream old came answer left new

  -- Without a complete frame, the bytes count as for the client.
  no_frame : (f : FrameHead) → IsNone f → is_for_client f ≡ true
  no_frame (Message n) none = absurd none
  no_frame (Channel n) none = absurd none
  no_frame Incomplete none = refl
  no_frame Invalid none = refl

  pub waits_fed : IsNone (looked grown) → answer ≡ recv.Handled → left ≡ after_look grown → new ≡ old → Comes
  waits_fed none reported left_is same =
      Fed (subst (λ (s : Stream). IsFed here now grown old s new) (sym left_is) (subst (λ (p : Protocol). IsFed here now grown old (after_look grown) p) (sym same) (Waits grown old joins none)))
      (subst (λ (b : Bool). IsHandledAs came b answer) (sym (no_frame (looked grown) none)) reported)

  whole : (message : Bool) → ¬ IsNone (looked grown) → is_for_client (looked grown) ≡ message → IsHeadTaken here now message (frame_of grown) (after_look grown) old came answer left new → Comes
  whole message some is (HeadTaken taken reported) = Fed (Processes grown old taken.middle left new joins some taken.processed taken.fed) (subst (λ (b : Bool). IsHandledAs came b answer) (sym is) reported)
  whole message some is (HeadLost reported (AtFirst grows failed)) = LostFrames reported (AtFrame (Here grown old new joins some grows failed))
  whole message some is (HeadLost reported (AfterFirst middle processed lost)) = LostFrames reported (AtFrame (Later grown old middle new joins some processed lost))

  -- The outcome if the first frame begins with the chunk.
  pub in_place : (message : Bool) (end : ℕ) (rest : Stream) → ¬ IsNone (looked grown) → is_for_client (looked grown) ≡ message → stream.stored ≡ [] → end ≡ given_of (looked grown) → rest ≡ after_look grown
      → IsHeadTaken here now message (take end (items came.bytes)) rest old came answer left new → Comes
  in_place message end rest some is none ends looks taken =
      let same : take end (items came.bytes) ≡ frame_of grown = ap (λ (n : ℕ). take n (items came.bytes)) ends ∙ ap (λ (l : List ℕ). take (given_of (looked grown)) (l ++ items came.bytes)) (sym none) in
      whole message some is
      (subst (λ (f : List ℕ). IsHeadTaken here now message f (after_look grown) old came answer left new) same (subst (λ (s : Stream). IsHeadTaken here now message (take end (items came.bytes)) s old came answer left new) looks taken))

  -- The outcome if the first frame began in an earlier chunk.
  pub started_before : (message : Bool) (slice buffered : List ℕ) (rest : Stream) → ¬ IsNone (looked grown) → is_for_client (looked grown) ≡ message → buffered ≡ take (given_of (looked grown)) grown.stored → slice ≡ buffered → rest ≡ after_look grown
      → IsHeadTaken here now message slice rest old came answer left new → Comes
  started_before message slice buffered rest some is given bytes looks taken =
      whole message some is
      (subst (λ (f : List ℕ). IsHeadTaken here now message f (after_look grown) old came answer left new) (bytes ∙ given) (subst (λ (s : Stream). IsHeadTaken here now message slice s old came answer left new) looks taken))

pub for_client : (f : FrameHead) → IsMessage f → is_for_client f ≡ true
for_client (Message n) is = refl
for_client (Channel n) is = absurd is
for_client Incomplete is = absurd is
for_client Invalid is = absurd is

pub for_nobody : (f : FrameHead) → IsChannel f → is_for_client f ≡ false
for_nobody (Message n) is = absurd is
for_nobody (Channel n) is = refl
for_nobody Incomplete is = absurd is
for_nobody Invalid is = absurd is
