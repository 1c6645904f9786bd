-- What a client does with a frame is determined.
use Rattle.std.proofs.Common.{◌≡◌, ℕ, List, Option, Some, None, refl, sym, ap, ◌∙◌, subst}
use Rattle.std.specs.Prelude.{MatchOption}
use Rattle.turn_client_proto_timers.specs.StunTypesWire.Grammar.{refusal}
use Rattle.turn_client_proto_timers.specs.StunTypesWire.declared.error.StunParseError.{StunParseError}
use Rattle.turn_client_proto_timers.specs.Api.Payloads.{PeerPayload}
use Rattle.turn_client_proto_timers.specs.Core.declared.protocol.Protocol.{Protocol}
use Rattle.turn_client_proto_recv.specs.Payload.Payloads.{payload_of}
use Rattle.turn_client_proto_recv.specs.Payload.declared.payload.Payload.{Payload}
use Rattle.turn_client_proto_recv.specs.HandingIn.{IsFrameTaken, IsDispatched, taken_as}
use Rattle.turn_client_proto_recv.specs.Chunks.{IsFrameHandled, data_taken}
use Rattle.turn_client_proto_recv.specs.TurnTypesFrame.StreamAnswers.{IsNone, after_look, looked}
use Rattle.turn_client_proto_recv.specs.TurnTypesFrame.Streams.{Stream}
use Rattle.turn_client_proto_recv.specs.Pulls.{Ends, Gives, Goes, IsDefinite, IsPulled, frame_of}
use Rattle.turn_client_proto_recv.specs.declared.handing.Taken.{Taken}
use Rattle.turn_client_proto_recv.specs.declared.handing.Taken.TheVariants.{Given}
use Rattle.turn_client_proto_step_laws.proofs.Once.Processing.{processed_definite}

module _ (old : Protocol) (frame : List ℕ) (now : ℕ) (taken again : Taken) (one other : Protocol) where
  delivered_same : (refused : Option StunParseError) → IsDispatched refused old frame now taken one → IsDispatched refused old frame now again other → (taken ≡ again) × (one ≡ other)
  delivered_same None (handled, is, processed) (later, was, processes) =
      let same = (processed_definite old frame now).same handled later one other processed processes in
      (is ∙ ap taken_as same.0 ∙ sym was, same.1)
  delivered_same (Some error) a b = (a.0 ∙ sym b.0, a.1 ∙ sym b.1)

  given_same : (payload : Option Payload) (refused : Option StunParseError)
      → MatchOption payload (IsDispatched refused old frame now taken one) (λ payload. (taken ≡ Given payload) × (one ≡ old))
      → MatchOption payload (IsDispatched refused old frame now again other) (λ payload. (again ≡ Given payload) × (other ≡ old)) → (taken ≡ again) × (one ≡ other)
  given_same None refused a b = delivered_same refused a b
  given_same (Some payload) refused a b = (a.0 ∙ sym b.0, a.1 ∙ sym b.1)

  pub taken_same : IsFrameTaken old frame now taken one → IsFrameTaken old frame now again other → (taken ≡ again) × (one ≡ other)
  taken_same a b = given_same (payload_of old frame) (refusal frame) a b

pub frames_definite : (now : ℕ) → IsDefinite (IsFrameHandled now)
frames_definite now state frame one other left right a b =
    let same = taken_same state frame now a.taken b.taken left right a.is_taken b.is_taken in
    (a.gives ∙ ap (data_taken frame) same.0 ∙ sym b.gives, same.1)

-- ---- what is pulled

none_left : (now : ℕ) (stream : Stream) (state : Protocol) (given : Option PeerPayload) (left : Stream) (after : Protocol) → IsPulled (IsFrameHandled now) stream state given left after → IsNone (looked stream)
    → (None ≡ given) × (after_look stream ≡ left) × (state ≡ after)
none_left now _ _ _ _ _ (Ends stream state none) is = (refl, refl, refl)
none_left now _ _ _ _ _ (Gives stream state payload after some holds) is = absurd (some is)
none_left now _ _ _ _ _ (Goes stream state middle given left after some holds more) is = absurd (some is)

-- The first frame gave something, or the pull went on after it.
data IsOpened (now : ℕ) (stream : Stream) (state : Protocol) (given : Option PeerPayload) (left : Stream) (after : Protocol) : Type 0 where
  Gave : (payload : PeerPayload) → given ≡ Some payload → left ≡ after_look stream → IsFrameHandled now state (frame_of stream) (Some payload) after → IsOpened now stream state given left after
  Went : (middle : Protocol) → IsFrameHandled now state (frame_of stream) None middle → IsPulled (IsFrameHandled now) (after_look stream) middle given left after → IsOpened now stream state given left after

opened : (now : ℕ) (stream : Stream) (state : Protocol) (given : Option PeerPayload) (left : Stream) (after : Protocol) → IsPulled (IsFrameHandled now) stream state given left after → ¬ IsNone (looked stream) → IsOpened now stream state given left after
opened now _ _ _ _ _ (Ends stream state none) is = absurd (is none)
opened now _ _ _ _ _ (Gives stream state payload after some holds) is = Gave payload refl refl holds
opened now _ _ _ _ _ (Goes stream state middle given left after some holds more) is = Went middle holds more

abbrev pub IsSame : Option PeerPayload → Option PeerPayload → Stream → Stream → Protocol → Protocol → Type 0
IsSame given again left rest one other = (given ≡ again) × (left ≡ rest) × (one ≡ other)

gave_same : (now : ℕ) (stream : Stream) (state : Protocol) (payload : PeerPayload) (again : Option PeerPayload) (rest : Stream) (one other : Protocol) → IsFrameHandled now state (frame_of stream) (Some payload) one → IsOpened now stream state again rest other
    → IsSame (Some payload) again (after_look stream) rest one other
gave_same now stream state payload again rest one other is (Gave later reported left was) =
    let same = frames_definite now state (frame_of stream) (Some payload) (Some later) one other is was in
    (same.0 ∙ sym reported, sym left, same.1)
gave_same now stream state payload again rest one other is (Went middle was more) =
    let same = frames_definite now state (frame_of stream) (Some payload) None one middle is was in
    absurd (Prim.cc same.0)

went_same : (now : ℕ) (stream : Stream) (state middle : Protocol) (given again : Option PeerPayload) (left rest : Stream) (one other : Protocol) → IsFrameHandled now state (frame_of stream) None middle
    → (IsPulled (IsFrameHandled now) (after_look stream) middle again rest other → IsSame given again left rest one other) → IsOpened now stream state again rest other → IsSame given again left rest one other
went_same now stream state middle given again left rest one other holds following (Gave later reported left_is was) =
    let same = frames_definite now state (frame_of stream) None (Some later) middle other holds was in
    absurd (Prim.cc same.0)
went_same now stream state middle given again left rest one other holds following (Went between was more) =
    let same = frames_definite now state (frame_of stream) None None middle between holds was in
    following (subst (λ (p : Protocol). IsPulled (IsFrameHandled now) (after_look stream) p again rest other) (sym same.1) more)

-- A pull has one outcome.
pub pulled_same : (now : ℕ) (stream : Stream) (state : Protocol) (given again : Option PeerPayload) (left rest : Stream) (one other : Protocol) → IsPulled (IsFrameHandled now) stream state given left one
    → IsPulled (IsFrameHandled now) stream state again rest other → IsSame given again left rest one other
pulled_same now _ _ _ again _ rest _ other (Ends stream state none) b = none_left now stream state again rest other b none
pulled_same now _ _ _ again _ rest _ other (Gives stream state payload after some holds) b = gave_same now stream state payload again rest after other holds (opened now stream state again rest other b some)
pulled_same now _ _ _ again _ rest _ other (Goes stream state middle given left after some holds more) b =
    went_same now stream state middle given again left rest after other holds (λ more_too. pulled_same now (after_look stream) middle given again left rest after other more more_too) (opened now stream state again rest other b some)
