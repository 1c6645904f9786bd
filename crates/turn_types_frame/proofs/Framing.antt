-- A stream returns the frames at its head, and they are unique.
use Rattle.std.proofs.Common.{◌≡◌, ℕ, zero, suc, ◌+◌, ◌<◌, List, [], ◌∷◌, ◌++◌, length, take, drop, refl, sym, ap, ◌∙◌, append_assoc, arith, inl, inr}
use Rattle.std.specs.List.{concat}
use Rattle.std.proofs.lemmas.List.{length-append, length-drop, take-append-drop, append_cancel_left, take_at, drop_at}
use Rattle.turn_types_peer.specs.Wire.Attributes.{length_at, padded}
use Rattle.turn_types_frame.specs.declared.head.FrameHead.TheVariants.{Incomplete, Invalid}
use Rattle.turn_types_frame.specs.Frames.{IsFrame, BeginsNone, IsHopeless, Frames, AreFrames}
use Rattle.turn_types_frame.specs.StreamHeads.{head}
use Rattle.turn_types_frame.specs.Streams.{Fed, alive, one_more, fed_within, fed}
use Rattle.turn_types_frame.proofs.Heads.{message, channel, short_message, short_channel, invalid, head_cases, invalid_grows, message_at, channel_at, head_is_message, head_is_channel}
use Rattle.turn_types_frame.proofs.Feeding.{takes, takes_channel, waits, ends}
use Rattle.turn_types_frame.specs.ChannelFrames.{channel_header_refusal, channel_refusal}

-- ---- what begins no frame

no_frame_of_incomplete : (bytes : List ℕ) → head bytes ≡ Incomplete → BeginsNone bytes
no_frame_of_incomplete bytes is frame rest parts (inl h) = absurd (let at = message_at frame rest h in let one = ap head parts in cc)
no_frame_of_incomplete bytes is frame rest parts (inr h) = absurd (let at = channel_at frame rest h in let one = ap head parts in cc)

no_frame_of_invalid : (bytes : List ℕ) → head bytes ≡ Invalid → BeginsNone bytes
no_frame_of_invalid bytes is frame rest parts (inl h) = absurd (let at = message_at frame rest h in let one = ap head parts in cc)
no_frame_of_invalid bytes is frame rest parts (inr h) = absurd (let at = channel_at frame rest h in let one = ap head parts in cc)

pub invalid_is_hopeless : (bytes : List ℕ) → head bytes ≡ Invalid → IsHopeless bytes
invalid_is_hopeless bytes is more =
    elim (head_cases bytes) [
      | message _ _ _ other ↦ absurd cc
      | channel _ _ other ↦ absurd cc
      | short_message _ _ _ other ↦ absurd cc
      | short_channel _ _ other ↦ absurd cc
      | invalid top begins _ ↦ no_frame_of_invalid (bytes ++ more) (invalid_grows bytes more top begins)
    ]

-- ---- the frames of a stream are frames

one_frame_more : (frame bytes : List ℕ) (given : Fed) → IsFrame frame → AreFrames bytes given → AreFrames (frame ++ bytes) (one_more frame given)
one_frame_more frame bytes given is h = (
  h.0,
  record {
    joined = ap (λ (l : List ℕ). frame ++ l) h.1.joined ∙ sym (append_assoc frame (concat given.frames) h.0);
    each = (is, h.1.each);
    ended = h.1.ended;
  },
  h.2,
)

are_frames : (n : ℕ) (bytes : List ℕ) → length bytes < n → AreFrames bytes (fed_within n bytes)
are_frames zero bytes p = absurd (omega arith)
are_frames (suc n) bytes p =
    elim (head_cases bytes) [
      | message top begins fits is ↦
          let size : ℕ = 20 + length_at bytes in
          let later = are_frames n (drop size bytes) (omega (arith, length-drop size bytes)) in
          let both = one_frame_more (take size bytes) (drop size bytes) (fed_within n (drop size bytes)) (inl (head_is_message bytes top begins fits)) later in
          rw (takes n size bytes is) (transport_frames (take-append-drop size bytes) both)
      | channel top fits is ↦
          let size : ℕ = 4 + padded (length_at bytes) in
          let later = are_frames n (drop size bytes) (omega (arith, length-drop size bytes)) in
          let both = one_frame_more (take size bytes) (drop size bytes) (fed_within n (drop size bytes)) (inr (head_is_channel bytes top fits)) later in
          rw (takes_channel n (length_at bytes) bytes is) (transport_frames (take-append-drop size bytes) both)
      | short_message _ _ _ is ↦ rw (waits n bytes is) (none_given bytes is)
      | short_channel _ _ is ↦ rw (waits n bytes is) (none_given bytes is)
      | invalid _ _ is ↦ rw (ends n bytes is) (bytes, record { joined = refl; each = tt; ended = no_frame_of_invalid bytes is }, rw is refl)
    ]
  where
    none_given : (bytes : List ℕ) → head bytes ≡ Incomplete → AreFrames bytes (record { frames = []; stream = alive bytes })
    none_given bytes is = (bytes, record { joined = refl; each = tt; ended = no_frame_of_incomplete bytes is }, rw is refl)

    transport_frames : {one other : List ℕ} {f : Fed} → one ≡ other → AreFrames one f → AreFrames other f
    transport_frames e h = rw (sym e) h

pub given_are_frames : (bytes : List ℕ) → AreFrames bytes (fed bytes)
given_are_frames bytes = are_frames (suc (length bytes)) bytes (omega arith)

-- ---- and there is one way to take bytes apart

gives : (n : ℕ) (bytes : List ℕ) (frames : List (List ℕ)) (rest : List ℕ) → length bytes < n → Frames bytes frames rest → (fed_within n bytes).frames ≡ frames
gives zero bytes frames rest p h = absurd (omega arith)
gives (suc n) bytes [] rest p h =
    elim (head_cases bytes) [
      | message top begins fits is ↦
          absurd (h.ended (take (20 + length_at bytes) bytes) (drop (20 + length_at bytes) bytes) (sym h.joined ∙ sym (take-append-drop (20 + length_at bytes) bytes)) (inl (head_is_message bytes top begins fits)))
      | channel top fits is ↦
          absurd (h.ended (take (4 + padded (length_at bytes)) bytes) (drop (4 + padded (length_at bytes)) bytes) (sym h.joined ∙ sym (take-append-drop (4 + padded (length_at bytes)) bytes)) (inr (head_is_channel bytes top fits)))
      | short_message _ _ _ is ↦ ap (λ f. f.frames) (waits n bytes is)
      | short_channel _ _ is ↦ ap (λ f. f.frames) (waits n bytes is)
      | invalid _ _ is ↦ ap (λ f. f.frames) (ends n bytes is)
    ]
gives (suc n) bytes (frame ∷ frames) rest p h =
    let parts : bytes ≡ frame ++ (concat frames ++ rest) = h.joined ∙ append_assoc frame (concat frames) rest in
    let following : Frames (concat frames ++ rest) frames rest = record { joined = refl; each = h.each.1; ended = h.ended } in
    let whole = ap length parts ∙ length-append frame (concat frames ++ rest) in
    let first : take (length frame) (frame ++ (concat frames ++ rest)) ≡ frame = take_at frame (concat frames ++ rest) (length frame) refl in
    let later : drop (length frame) (frame ++ (concat frames ++ rest)) ≡ concat frames ++ rest = drop_at frame (concat frames ++ rest) (length frame) refl in
    elim h.each.0 [
      | inl is ↦
          ap (λ f. f.frames) (takes n (length frame) bytes (ap head parts ∙ message_at frame (concat frames ++ rest) is))
          ∙ rw (parts, first, later) (ap (λ l. frame ∷ l) (gives n (concat frames ++ rest) frames rest (let size = is.size in omega arith) following))
      | inr is ↦
          let size = is.size in
          ap (λ f. f.frames) (takes_channel n (length_at frame) bytes (ap head parts ∙ channel_at frame (concat frames ++ rest) is))
          ∙ rw (sym size, parts, first, later) (ap (λ l. frame ∷ l) (gives n (concat frames ++ rest) frames rest (omega arith) following))
    ]

pub one_way : (bytes : List ℕ) (one other : List (List ℕ)) (rest left : List ℕ) → Frames bytes one rest → Frames bytes other left → (one ≡ other) × (rest ≡ left)
one_way bytes one other rest left g h =
    let n : ℕ = suc (length bytes) in
    let same : one ≡ other = sym (gives n bytes one rest (omega arith) g) ∙ gives n bytes other left (omega arith) h in
    (same, append_cancel_left (concat one) rest left (sym g.joined ∙ h.joined ∙ ap (λ fs. concat fs ++ left) (sym same)))

-- A group of errors for proofs: unfolding it unfolds both definitions named on its `unfolding` line.
unfoldable pub refusals : Type 0
unfolding channel_refusal channel_header_refusal
refusals = Unit {0}
