-- The result for a chunk whose first frame delivers nothing.
use Rattle.std.proofs.Common.{◌≡◌, ℕ, Bool, true, false, Some, None, refl}
use Rattle.stun_types_base.specs.declared.transmit.Transmit.{Transmit}
use Rattle.turn_types_frame.specs.Streams.{Stream}
use Rattle.turn_client_proto_api.specs.Payloads.{PeerPayload}
use Rattle.turn_client_proto_api.specs.declared.answer.TurnRecvRet.{TurnRecvRet}
use Rattle.turn_client_proto_api.specs.declared.answer.TurnRecvRet.TheVariants as recv
use Rattle.turn_client_proto_core.specs.declared.protocol.Protocol.{Protocol}
use Rattle.turn_client_proto_recv.specs.Datagrams.{IsHandledAs}
use Rattle.turn_client_proto_recv.specs.Chunks.{IsAfter, IsFrameHandled, Pulled}
use Rattle.turn_client_proto_recv.specs.Pulls.{IsPulled}

module _ {T : Type 0} (now : ℕ) (handled : Bool) (stream : Stream) (old : Protocol) (came : Transmit T) (left : Stream) (new : Protocol) where
  pub after_some : (given : PeerPayload) → IsPulled (IsFrameHandled now) stream old (Some given) left new → IsAfter now handled stream old came (recv.PeerData given) left new
  after_some given pull = Pulled (Some given) pull refl

  pub after_none : (answer : TurnRecvRet T) → IsPulled (IsFrameHandled now) stream old None left new → IsHandledAs came handled answer → IsAfter now handled stream old came answer left new
  after_none answer pull reported = Pulled None pull reported

-- The result, by whether the frame was for the client.
pub handled_so : {T : Type 0} (came : Transmit T) (handled : Bool) → handled ≡ true → IsHandledAs came handled recv.Handled
handled_so came true is = refl
handled_so came false is = absurd (Prim.cc is)

pub ignored_so : {T : Type 0} (came : Transmit T) (handled : Bool) → handled ≡ false → IsHandledAs came handled (recv.Ignored came)
ignored_so came true is = absurd (Prim.cc is)
ignored_so came false is = refl
