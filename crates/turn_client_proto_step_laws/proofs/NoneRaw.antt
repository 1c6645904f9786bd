-- After frames of the stream from the server no bytes of a connection's peer are buffered.
use Rattle.std.proofs.Common.{◌≡◌, ◌≢◌, ℕ, Bool, List, Option, Some, None, ap, ◌∙◌}
use Rattle.std.specs.Prelude.{MatchOption}
use Rattle.turn_client_proto_timers.specs.StunTypesWire.Grammar.{refusal}
use Rattle.turn_client_proto_timers.specs.StunTypesWire.declared.error.StunParseError.{StunParseError}
use Rattle.turn_client_proto_timers.specs.StunTypesBase.declared.transmit.Transmit.{Transmit}
use Rattle.turn_client_proto_recv.specs.TurnTypesFrame.StreamAnswers.{after_look}
use Rattle.turn_client_proto_recv.specs.TurnTypesFrame.Streams.{Stream}
use Rattle.turn_client_proto_timers.specs.Api.Payloads.{PeerPayload}
use Rattle.turn_client_proto_timers.specs.Api.declared.answer.TurnRecvRet.{TurnRecvRet}
use Rattle.turn_client_proto_timers.specs.Api.declared.answer.TurnRecvRet.TheVariants as recv
use Rattle.turn_client_proto_timers.specs.Core.declared.protocol.Protocol.{Protocol}
use Rattle.turn_client_proto_recv.specs.Payload.declared.payload.Payload.{Payload}
use Rattle.turn_client_proto_recv.specs.Payload.Payloads.{payload_of}
use Rattle.turn_client_proto_step_laws.proofs.SocketsLeft.{processed_none}
use Rattle.turn_client_proto_recv.specs.HandingIn.{IsFrameTaken, IsDispatched}
use Rattle.turn_client_proto_recv.specs.Chunks.{Following, Invalid, First, IsFirstTaken, IsFrameHandled, IsChunkTaken, Lost, Takes, Waits}
use Rattle.turn_client_proto_recv.specs.Pulls.{Ends, Gives, Goes, IsPulled, frame_of}
use Rattle.turn_client_proto_recv.specs.SocketChunks.{raw_waiting}
use Rattle.turn_client_proto_recv.specs.declared.handing.Taken.{Taken}
use Rattle.turn_client_proto_recv.specs.declared.handing.Taken.TheVariants.{Given}

module _ (now : ℕ) where
  module _ (frame : List ℕ) (old new : Protocol) (none : raw_waiting old ≡ None) where
    same_none : new ≡ old → raw_waiting new ≡ None
    same_none is = ap raw_waiting is ∙ none

    delivered : (refused : Option StunParseError) (taken : Taken) → IsDispatched refused old frame now taken new → raw_waiting new ≡ None
    delivered None taken (handled, is, processed) = processed_none old frame now handled new processed none
    delivered (Some error) taken (is, same) = same_none same

    by : (found : Option Payload) (refused : Option StunParseError) (taken : Taken) → MatchOption found (IsDispatched refused old frame now taken new) (λ payload. (taken ≡ Given payload) × (new ≡ old)) → raw_waiting new ≡ None
    by None refused taken is = delivered refused taken is
    by (Some payload) refused taken is = same_none is.1

    taken_none : (taken : Taken) → IsFrameTaken old frame now taken new → raw_waiting new ≡ None
    taken_none taken is = by (payload_of old frame) (refusal frame) taken is

  pub pulled_none : (stream : Stream) (old : Protocol) (given : Option PeerPayload) (left : Stream) (new : Protocol) → IsPulled (IsFrameHandled now) stream old given left new → raw_waiting old ≡ None → raw_waiting new ≡ None
  pulled_none _ _ _ _ _ (Ends stream old nothing) none = none
  pulled_none _ _ _ _ _ (Gives stream old payload new some holds) none = taken_none (frame_of stream) old new none holds.taken holds.is_taken
  pulled_none _ _ _ _ _ (Goes stream old middle given left new some holds more) none =
      pulled_none (after_look stream) middle given left new more (taken_none (frame_of stream) old middle none holds.taken holds.is_taken)

  module _ {T : Type 0} (items : T → List ℕ) (came : Transmit T) (answer : TurnRecvRet T) (left : Stream) (old new : Protocol) (none : raw_waiting old ≡ None) where
    first_none : (owned : Bool) (frame : List ℕ) (stream : Stream) → IsFirstTaken now owned frame stream old came answer left new → raw_waiting new ≡ None
    first_none owned frame stream (First payload gives is rest same) = same_none frame old new none same
    first_none owned frame stream (Invalid takes is rest) = taken_none frame old new none _ takes
    first_none owned frame stream (Following handled middle takes given pull reported) = pulled_none stream middle given left new pull (taken_none frame old middle none _ takes)

    pub chunk_none : (stream : Stream) → answer ≢ recv.NoMemory came → IsChunkTaken items now stream old came answer left new → raw_waiting new ≡ None
    chunk_none stream ample (Waits nothing is rest same) = same_none (items came.bytes) old new none same
    chunk_none stream ample (Takes some owned started is) = first_none owned _ _ is
    chunk_none stream ample (Lost reported lost) = absurd (ample reported)
