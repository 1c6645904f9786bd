-- What is handled of a stream, as a list: the first complete frames, in order, once each (RFC 8656, section
-- 12.5).
use Rattle.std.specs.Prelude.{◌≡◌, ℕ, List, [], ◌∷◌, ◌++◌, Option, None, Some, MatchOption}
use Rattle.turn_client_proto_timers.specs.Api.Payloads.{PeerPayload}
use Rattle.turn_client_proto_timers.specs.Core.declared.protocol.Protocol.{Protocol}
use Rattle.turn_client_proto_recv.specs.HandingIn.{IsFrameTaken}
use Rattle.turn_client_proto_recv.specs.Chunks.{IsFrameHandled}
use Rattle.turn_client_proto_recv.specs.declared.handing.Taken.{Taken}

-- These frames were handled, one after another.
abbrev pub AreTaken : ℕ → Protocol → List (List ℕ) → Protocol → Type 0
AreTaken now old [] new = new ≡ old
AreTaken now old (frame ∷ frames) new =
    (taken : Taken) × (middle : Protocol) × IsFrameTaken old frame now taken middle × AreTaken now middle frames new

-- These frames were handled, one after another; and the last of them gave this data, or none gave any.
abbrev pub AreTakenUntil : ℕ → Protocol → List (List ℕ) → Option PeerPayload → Protocol → Type 0
AreTakenUntil now old [] given new = (given ≡ None) × (new ≡ old)
AreTakenUntil now old (frame ∷ frames) given new =
    (reported : Option PeerPayload) × (middle : Protocol) × IsFrameHandled now old frame reported middle
    × MatchOption reported (AreTakenUntil now middle frames given new)
    (λ payload. (given ≡ Some payload) × (frames ≡ []) × (new ≡ middle))

-- The first of these frames were handled, and the others stay buffered.
pub record AreFirstTaken (now : ℕ) (frames : List (List ℕ)) (old : Protocol) (left : List (List ℕ)) (new : Protocol)
    : Type 0 where
  pub taken : List (List ℕ)
  pub parts : frames ≡ taken ++ left
  pub in_order : AreTaken now old taken new

-- The first of these frames were handled, until one gave data or all were handled; the others stay buffered.
pub record AreFirstGiven (now : ℕ) (frames : List (List ℕ)) (old : Protocol) (given : Option PeerPayload)
    (left : List (List ℕ)) (new : Protocol) : Type 0 where
  pub taken : List (List ℕ)
  pub parts : frames ≡ taken ++ left
  pub in_order : AreTakenUntil now old taken given new
  pub all : given ≡ None → left ≡ []
