-- The frames of a stream do not depend on how it is split into chunks.
use Rattle.std.proofs.Common.{◌≡◌, ℕ, zero, suc, ◌+◌, ◌<◌, List, [], ◌++◌, length, take, drop, refl, sym, ap, ◌∙◌, arith, inl, inr}
use Rattle.std.proofs.lemmas.Bool.{cases_Bool}
use Rattle.std.proofs.lemmas.List.{length-append, length-drop, take-append-le, drop-append-le}
use Rattle.turn_types_peer.specs.Wire.Attributes.{length_at, padded}
use Rattle.turn_types_frame.specs.declared.head.FrameHead.TheVariants.{Message, Channel, Incomplete, Invalid}
use Rattle.turn_types_frame.specs.StreamHeads.{head, size_of}
use Rattle.turn_types_frame.specs.Streams.{Fed, alive, dead_stream, left_by, one_more, fed_by, fed_within, fed, feeding}
use Rattle.turn_types_frame.proofs.Heads.{message, channel, short_message, short_channel, invalid, head_cases, message_grows, channel_grows, invalid_grows}

-- ---- one step

step : (n : ℕ) (bytes : List ℕ) → fed_within (suc n) bytes ≡ fed_by (head bytes) bytes (fed_within n (drop (size_of (head bytes)) bytes))
unfolding fed_within
step n bytes = refl

-- If a message of this size is at the head, feeding returns it and then the frames of the bytes after it.
pub takes : (n size : ℕ) (bytes : List ℕ) → head bytes ≡ Message size → fed_within (suc n) bytes ≡ one_more (take size bytes) (fed_within n (drop size bytes))
takes n size bytes is = step n bytes ∙ rw is refl

pub takes_channel : (n len : ℕ) (bytes : List ℕ) → head bytes ≡ Channel len → fed_within (suc n) bytes ≡ one_more (take (4 + padded len) bytes) (fed_within n (drop (4 + padded len) bytes))
takes_channel n len bytes is = step n bytes ∙ rw is refl

pub waits : (n : ℕ) (bytes : List ℕ) → head bytes ≡ Incomplete → fed_within (suc n) bytes ≡ record { frames = []; stream = alive bytes }
waits n bytes is = step n bytes ∙ rw is refl

pub ends : (n : ℕ) (bytes : List ℕ) → head bytes ≡ Invalid → fed_within (suc n) bytes ≡ record { frames = []; stream = dead_stream }
ends n bytes is = step n bytes ∙ rw is refl

-- ---- enough is enough

pub enough : (n m : ℕ) (bytes : List ℕ) → length bytes < n → length bytes < m → fed_within n bytes ≡ fed_within m bytes
enough zero m bytes p q = absurd (omega arith)
enough (suc n) zero bytes p q = absurd (omega arith)
enough (suc n) (suc m) bytes p q =
    elim (head_cases bytes) [
      | message top begins fits is ↦
          let size : ℕ = 20 + length_at bytes in
          takes n size bytes is
          ∙ ap (one_more (take size bytes)) (enough n m (drop size bytes) (omega (arith, length-drop size bytes)) (omega (arith, length-drop size bytes)))
          ∙ sym (takes m size bytes is)
      | channel top fits is ↦
          let size : ℕ = 4 + padded (length_at bytes) in
          takes_channel n (length_at bytes) bytes is
          ∙ ap (one_more (take size bytes)) (enough n m (drop size bytes) (omega (arith, length-drop size bytes)) (omega (arith, length-drop size bytes)))
          ∙ sym (takes_channel m (length_at bytes) bytes is)
      | short_message _ _ _ is ↦ waits n bytes is ∙ sym (waits m bytes is)
      | short_channel _ _ is ↦ waits n bytes is ∙ sym (waits m bytes is)
      | invalid _ _ is ↦ ends n bytes is ∙ sym (ends m bytes is)
    ]

-- ---- feeding on

feeding_one_more : (more frame : List ℕ) (before : Fed) → feeding more (one_more frame before) ≡ one_more frame (feeding more before)
feeding_one_more more frame before =
    elim (cases_Bool before.stream.dead) [
      | inl dead ↦ rw dead refl
      | inr lives ↦ rw lives refl
    ]

joins : (n m : ℕ) (bytes more : List ℕ) → length bytes < n → length (bytes ++ more) < m → feeding more (fed_within n bytes) ≡ fed_within m (bytes ++ more)
joins zero m bytes more p q = absurd (omega arith)
joins (suc n) zero bytes more p q = absurd (omega arith)
joins (suc n) (suc m) bytes more p q =
    elim (head_cases bytes) [
      | message top begins fits is ↦
          let size : ℕ = 20 + length_at bytes in
          let later = joins n m (drop size bytes) more (omega (arith, length-drop size bytes)) (omega (arith, length-drop size bytes, length-append bytes more, length-append (drop size bytes) more)) in
          let first = take-append-le size bytes more fits in
          let rest = drop-append-le size bytes more fits in
          ap (feeding more) (takes n size bytes is)
          ∙ feeding_one_more more (take size bytes) (fed_within n (drop size bytes))
          ∙ ap (one_more (take size bytes)) (later ∙ ap (fed_within m) (sym rest))
          ∙ ap (λ f. one_more f (fed_within m (drop size (bytes ++ more)))) (sym first)
          ∙ sym (takes m size (bytes ++ more) (message_grows bytes more top begins fits))
      | channel top fits is ↦
          let size : ℕ = 4 + padded (length_at bytes) in
          let later = joins n m (drop size bytes) more (omega (arith, length-drop size bytes)) (omega (arith, length-drop size bytes, length-append bytes more, length-append (drop size bytes) more)) in
          let first = take-append-le size bytes more fits in
          let rest = drop-append-le size bytes more fits in
          ap (feeding more) (takes_channel n (length_at bytes) bytes is)
          ∙ feeding_one_more more (take size bytes) (fed_within n (drop size bytes))
          ∙ ap (one_more (take size bytes)) (later ∙ ap (fed_within m) (sym rest))
          ∙ ap (λ f. one_more f (fed_within m (drop size (bytes ++ more)))) (sym first)
          ∙ sym (takes_channel m (length_at bytes) (bytes ++ more) (channel_grows bytes more top fits))
      | short_message _ _ _ is ↦ ap (feeding more) (waits n bytes is) ∙ enough (suc (length (bytes ++ more))) (suc m) (bytes ++ more) (omega arith) q
      | short_channel _ _ is ↦ ap (feeding more) (waits n bytes is) ∙ enough (suc (length (bytes ++ more))) (suc m) (bytes ++ more) (omega arith) q
      | invalid top begins is ↦ ap (feeding more) (ends n bytes is) ∙ sym (ends m (bytes ++ more) (invalid_grows bytes more top begins))
    ]

pub cut_anywhere : (bytes more : List ℕ) → feeding more (fed bytes) ≡ fed (bytes ++ more)
cut_anywhere bytes more = joins (suc (length bytes)) (suc (length (bytes ++ more))) bytes more (omega arith) (omega arith)

-- ---- one look is one step

look_message : (size : ℕ) (bytes : List ℕ) → head bytes ≡ Message size → fed_by (head bytes) bytes (fed (left_by (head bytes) bytes).stored) ≡ one_more (take size bytes) (fed (drop size bytes))
look_message size bytes is = rw is refl

look_channel : (len : ℕ) (bytes : List ℕ) → head bytes ≡ Channel len → fed_by (head bytes) bytes (fed (left_by (head bytes) bytes).stored) ≡ one_more (take (4 + padded len) bytes) (fed (drop (4 + padded len) bytes))
look_channel len bytes is = rw is refl

pub one_look : (bytes : List ℕ) → fed bytes ≡ fed_by (head bytes) bytes (fed (left_by (head bytes) bytes).stored)
one_look bytes =
    elim (head_cases bytes) [
      | message top begins fits is ↦
          let size : ℕ = 20 + length_at bytes in
          takes (length bytes) size bytes is
          ∙ ap (one_more (take size bytes)) (enough (length bytes) (suc (length (drop size bytes))) (drop size bytes) (omega (arith, length-drop size bytes)) (omega arith))
          ∙ sym (look_message size bytes is)
      | channel top fits is ↦
          let size : ℕ = 4 + padded (length_at bytes) in
          takes_channel (length bytes) (length_at bytes) bytes is
          ∙ ap (one_more (take size bytes)) (enough (length bytes) (suc (length (drop size bytes))) (drop size bytes) (omega (arith, length-drop size bytes)) (omega arith))
          ∙ sym (look_channel (length_at bytes) bytes is)
      | short_message _ _ _ is ↦ waits (length bytes) bytes is ∙ rw is refl
      | short_channel _ _ is ↦ waits (length bytes) bytes is ∙ rw is refl
      | invalid _ _ is ↦ ends (length bytes) bytes is ∙ rw is refl
    ]
