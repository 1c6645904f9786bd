-- Taking frames from a stream, one by one (RFC 8656, section 12.5). The receiver has a state, and a relation
-- says how it handles each frame.
use Rattle.std.specs.Prelude.{◌≡◌, ℕ, List, [], ◌∷◌, ◌++◌, take, Option, Some, None, option_to_list}
use Rattle.turn_types_frame.specs.StreamAnswers.{IsNone, after_look, joined, looked}
use Rattle.turn_types_frame.specs.StreamHeads.{head, given_of}
use Rattle.turn_types_frame.specs.Streams.{Stream}

-- How a frame is handled in a state: what it delivers, and the state afterwards.
abbrev pub Handling : Type 0 → Type 0 → Type 1
Handling S P = S → List ℕ → Option P → S → Type 0

-- The frame at the head of a stream, without its padding.
abbrev pub frame_of : Stream → List ℕ
frame_of stream = take (given_of (looked stream)) stream.stored

-- Frames are handled until one delivers something, or none is complete.
pub data IsPulled {S P : Type 0} (Is : Handling S P) : Stream → S → Option P → Stream → S → Type 0 where
  Ends : (stream : Stream) (state : S) → IsNone (looked stream)
      → IsPulled Is stream state None (after_look stream) state
  Gives : (stream : Stream) (state : S) (payload : P) (after : S) → ¬ IsNone (looked stream)
      → Is state (frame_of stream) (Some payload) after
      → IsPulled Is stream state (Some payload) (after_look stream) after
  Goes : (stream : Stream) (state middle : S) (given : Option P) (left : Stream) (after : S) → ¬ IsNone (looked stream)
      → Is state (frame_of stream) None middle → IsPulled Is (after_look stream) middle given left after
      → IsPulled Is stream state given left after

-- ---- frames one after another, whatever the cuts

-- A complete frame without its padding.
abbrev pub bare : List ℕ → List ℕ
bare frame = take (given_of (head frame)) frame

-- The frames are handled in order, and deliver these payloads.
abbrev pub AreHandled : {S P : Type 0} → Handling S P → S → List (List ℕ) → List P → S → Type 0
AreHandled Is state [] payloads after = (payloads ≡ []) × (after ≡ state)
AreHandled {S} {P} Is state (frame ∷ frames) payloads after =
    (middle : S) × (given : Option P) × (later : List P) × Is state (bare frame) given middle
    × (payloads ≡ option_to_list given ++ later) × AreHandled Is middle frames later after

-- The stream is drained: frames are pulled until nothing is delivered.
pub data IsDrained {S P : Type 0} (Is : Handling S P) : Stream → S → List P → Stream → S → Type 0 where
  Last : (stream : Stream) (state : S) (left : Stream) (after : S) → IsPulled Is stream state None left after
      → IsDrained Is stream state [] left after
  More : (stream : Stream) (state : S) (payload : P) (middle : Stream) (between : S) (payloads : List P)
      (left : Stream) (after : S) → IsPulled Is stream state (Some payload) middle between
      → IsDrained Is middle between payloads left after
      → IsDrained Is stream state (payload ∷ payloads) left after

-- Chunks come one after another, and the stream is drained after each.
abbrev pub AreFed : {S P : Type 0} → Handling S P → Stream → S → List (List ℕ) → List P → Stream → S → Type 0
AreFed Is stream state [] payloads left after = (payloads ≡ []) × (left ≡ stream) × (after ≡ state)
AreFed {S} {P} Is stream state (chunk ∷ chunks) payloads left after =
    (middle : Stream) × (between : S) × (now : List P) × (later : List P)
    × IsDrained Is (joined stream chunk) state now middle between
    × (payloads ≡ now ++ later) × AreFed Is middle between chunks later left after

-- The handling is deterministic: a frame in a state has one result and one state afterwards.
abbrev pub IsDefinite : {S P : Type 0} → Handling S P → Type 0
IsDefinite {S} {P} Is = (state : S) (frame : List ℕ) (one other : Option P) (left right : S)
    → Is state frame one left → Is state frame other right → (one ≡ other) × (left ≡ right)
