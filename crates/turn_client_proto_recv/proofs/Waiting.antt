-- The buffered frames of a stream, taken one by one.
use Rattle.std.proofs.Common.{◌≡◌, ℕ, Bool, true, false, ltb, List, [], ◌∷◌, ◌++◌, length, drop, map, refl, sym, ap, ◌∙◌, subst, inl, inr}
use Rattle.std.proofs.lemmas.Bool.{cases_Bool, and_from}
use Rattle.std.proofs.lemmas.List.Folds.{list_all-append}
use Rattle.std.specs.List.{list_all}
use Rattle.stun_types_wire.specs.Headers.{AreBytes}
use Rattle.stun_types_wire.proofs.HeaderLaws.{are_parts}
use Rattle.turn_types_frame.specs.declared.head.FrameHead.{FrameHead}
use Rattle.turn_types_frame.specs.declared.head.FrameHead.TheVariants.{Message, Channel, Incomplete, Invalid}
use Rattle.turn_types_frame.specs.StreamAnswers.{IsNone, looked, after_look, joined}
use Rattle.turn_types_frame.specs.StreamHeads.{given_of, size_of}
use Rattle.turn_types_frame.specs.Streams.{Fed, Stream, alive, fed, left_by}
use Rattle.turn_types_frame.proofs.Feeding.{cut_anywhere}
use Rattle.turn_client_proto_recv.specs.Pulls.{bare, frame_of}
use Rattle.turn_client_proto_recv.specs.Waiting.{completed, whole_frames}
use Rattle.turn_client_proto_recv.proofs.Draining.{looked_again}
use Rattle.turn_client_proto_recv.proofs.Loops.{alive_of}
use Rattle.turn_client_proto_recv.proofs.Steps.{none_of, step_of}

-- ---- the frame at the head

-- The complete frames of a valid stream.
frames_of : (stored : List ℕ) → whole_frames (alive stored) ≡ map bare (fed stored).frames
frames_of stored = refl

pub first_waits : (s : Stream) → ¬ IsNone (looked s) → whole_frames s ≡ frame_of s ∷ whole_frames (after_look s)
first_waits s some =
    let lives = alive_of s some in
    subst (λ (t : Stream). whole_frames t ≡ frame_of t ∷ whole_frames (after_look t)) (sym lives)
    (by s.stored (subst (λ (t : Stream). ¬ IsNone (looked t)) lives some))
  where
    by : (stored : List ℕ) → ¬ IsNone (looked (alive stored)) → whole_frames (alive stored) ≡ frame_of (alive stored) ∷ whole_frames (after_look (alive stored))
    by stored some =
        let step = step_of stored some in
        ap (λ (f : Fed). map bare f.frames) step.fed_is
        ∙ ap (λ (l : List ℕ). l ∷ map bare (fed (after_look (alive stored)).stored).frames) step.is_bare
        ∙ ap (λ (t : Stream). frame_of (alive stored) ∷ whole_frames t) (sym step.lives)

pub none_waits : (s : Stream) → IsNone (looked s) → whole_frames s ≡ []
none_waits s none =
    elim (cases_Bool s.dead) [
      | inl dead ↦ rw dead refl
      | inr lives ↦ by lives
    ]
  where
    by : s.dead ≡ false → whole_frames s ≡ []
    by lives =
        let is : s ≡ alive s.stored = ap (λ (d : Bool). record { stored = s.stored; dead = d }) lives in
        ap whole_frames is ∙ ap (map bare) (none_of s.stored (subst (λ (t : Stream). IsNone (looked t)) is none)).0

pub none_after : (s : Stream) → IsNone (looked s) → whole_frames (after_look s) ≡ []
none_after s none = none_waits (after_look s) (looked_again s none).0

-- ---- a chunk

map_joined : {X Y : Type 0} (f : X → Y) (xs ys : List X) → map f (xs ++ ys) ≡ map f xs ++ map f ys
map_joined f [] ys = refl
map_joined f (x ∷ xs) ys = ap (λ l. f x ∷ l) (map_joined f xs ys)

nil_after : {X : Type 0} (xs : List X) → xs ++ [] ≡ xs
nil_after [] = refl
nil_after {X} (x ∷ xs) = ap (λ (l : List X). x ∷ l) (nil_after xs)

dropped : {X : Type 0} (xs ys : List X) → drop (length xs) (xs ++ ys) ≡ ys
dropped [] ys = refl
dropped (x ∷ xs) ys = dropped xs ys

-- The first list is a prefix of the second.
abbrev IsLonger : List (List ℕ) → List (List ℕ) → Type 0
IsLonger xs all = (more : List (List ℕ)) × (all ≡ xs ++ more)

longer : (xs all : List (List ℕ)) → IsLonger xs all → all ≡ xs ++ drop (length xs) all
longer xs all is = is.1 ∙ ap (λ (l : List (List ℕ)). xs ++ l) (sym (dropped xs is.0)) ∙ ap (λ (l : List (List ℕ)). xs ++ drop (length xs) l) (sym is.1)

fed_longer : (stored more : List ℕ) → IsLonger (fed stored).frames (fed (stored ++ more)).frames
fed_longer stored more =
    elim (cases_Bool (fed stored).stream.dead) [
      | inl dead ↦ ([], ap (λ (f : Fed). f.frames) (died dead) ∙ sym (nil_after (fed stored).frames))
      | inr lives ↦ ((fed ((fed stored).stream.stored ++ more)).frames, ap (λ (f : Fed). f.frames) (lived lives))
    ]
  where
    died : (fed stored).stream.dead ≡ true → fed (stored ++ more) ≡ fed stored
    died dead = sym (cut_anywhere stored more) ∙ rw dead refl

    lived : (fed stored).stream.dead ≡ false
        → fed (stored ++ more) ≡ record { frames = (fed stored).frames ++ (fed ((fed stored).stream.stored ++ more)).frames; stream = (fed ((fed stored).stream.stored ++ more)).stream }
    lived lives = sym (cut_anywhere stored more) ∙ rw lives refl

-- The complete frames after a chunk are those before it, followed by those that it completes.
pub chunk_completes : (s : Stream) (chunk : List ℕ) → whole_frames (joined s chunk) ≡ whole_frames s ++ completed s chunk
chunk_completes s chunk =
    elim (cases_Bool s.dead) [
      | inl dead ↦ rw dead refl
      | inr lives ↦ longer (whole_frames s) (whole_frames (joined s chunk)) (by lives)
    ]
  where
    by : s.dead ≡ false → IsLonger (whole_frames s) (whole_frames (joined s chunk))
    by lives =
        let all = fed_longer s.stored chunk in
        (map bare all.0, rw lives (ap (map bare) all.1 ∙ map_joined bare (fed s.stored).frames all.0))

-- ---- the bytes

pub joined_bytes : (s : Stream) (chunk : List ℕ) → AreBytes s.stored → AreBytes chunk → AreBytes (joined s chunk).stored
joined_bytes s chunk one two =
    list_all-append (λ b. ltb b 256) s.stored chunk ∙ and_from (list_all (λ b. ltb b 256) s.stored) (list_all (λ b. ltb b 256) chunk) one two

pub frame_bytes : (s : Stream) → AreBytes s.stored → AreBytes (frame_of s)
frame_bytes s are = (are_parts (given_of (looked s)) s.stored are).0

pub left_bytes : (s : Stream) → AreBytes s.stored → AreBytes (after_look s).stored
left_bytes s are = by (looked s)
  where
    by : (f : FrameHead) → AreBytes (left_by f s.stored).stored
    by (Message size) = (are_parts size s.stored are).1
    by (Channel len) = (are_parts (size_of (Channel len)) s.stored are).1
    by Incomplete = are
    by Invalid = refl
