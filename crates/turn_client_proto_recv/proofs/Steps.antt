-- One frame of a stream.
use Rattle.std.proofs.Common.{◌≡◌, ℕ, zero, suc, ◌+◌, ◌<◌, ◌≤◌, true, List, [], ◌∷◌, ◌++◌, length, take, drop, refl, sym, ap, ◌∙◌, subst, arith}
use Rattle.std.proofs.lemmas.List.{length-drop, length-take, take-append-drop}
use Rattle.stun_types_wire.specs.Attributes.{length_at, padded}
use Rattle.turn_types_frame.specs.declared.head.FrameHead.TheVariants.{Message, Channel}
use Rattle.turn_types_frame.specs.StreamAnswers.{IsNone, looked, after_look}
use Rattle.turn_types_frame.specs.StreamHeads.{head, given_of, is_channel_top}
use Rattle.turn_types_frame.specs.Streams.{Fed, Stream, alive, one_more, fed}
use Rattle.turn_types_frame.proofs.Feeding.{takes, takes_channel, enough, waits, ends}
use Rattle.turn_types_frame.proofs.Heads.{message, channel, short_message, short_channel, invalid, head_cases, head_is_message, head_is_channel, message_at, channel_at, same_length}
use Rattle.turn_client_proto_recv.specs.Pulls.{bare, frame_of}

-- A complete frame at the head of a valid stream.
pub record IsStep (stored : List ℕ) : Type 0 where
  pub frame : List ℕ
  pub is_bare : bare frame ≡ frame_of (alive stored)
  pub fed_is : fed stored ≡ one_more frame (fed (after_look (alive stored)).stored)
  pub lives : after_look (alive stored) ≡ alive (after_look (alive stored)).stored
  pub shorter : length (after_look (alive stored)).stored < length stored

nil_after : {X : Type 0} (xs : List X) → xs ++ [] ≡ xs
nil_after [] = refl
nil_after {X} (x ∷ xs) = ap (λ (l : List X). x ∷ l) (nil_after xs)

bare_message : (frame : List ℕ) (size : ℕ) → head (frame ++ []) ≡ Message size → bare frame ≡ take size frame
bare_message frame size is = ap (λ f. take (given_of f) frame) (ap head (sym (nil_after frame)) ∙ is)

bare_channel : (frame : List ℕ) (len : ℕ) → head (frame ++ []) ≡ Channel len → bare frame ≡ take (4 + len) frame
bare_channel frame len is = ap (λ f. take (given_of f) frame) (ap head (sym (nil_after frame)) ∙ is)

look_message : (stored : List ℕ) (size : ℕ) → head stored ≡ Message size → after_look (alive stored) ≡ alive (drop size stored)
look_message stored size is = rw is refl

look_channel : (stored : List ℕ) (len : ℕ) → head stored ≡ Channel len → after_look (alive stored) ≡ alive (drop (4 + padded len) stored)
look_channel stored len is = rw is refl

frame_message : (stored : List ℕ) (size : ℕ) → head stored ≡ Message size → frame_of (alive stored) ≡ take size stored
frame_message stored size is = rw is refl

frame_channel : (stored : List ℕ) (len : ℕ) → head stored ≡ Channel len → frame_of (alive stored) ≡ take (4 + len) stored
frame_channel stored len is = rw is refl

takes_twice : {X : Type 0} (n m : ℕ) (xs : List X) → n ≤ m → take n (take m xs) ≡ take n xs
takes_twice zero m xs less = refl
takes_twice (suc n) zero xs less = absurd (omega (arith, less))
takes_twice (suc n) (suc m) [] less = refl
takes_twice {X} (suc n) (suc m) (x ∷ xs) less = ap (λ (l : List X). x ∷ l) (takes_twice n m xs (omega (arith, less)))

pub step_of : (stored : List ℕ) → (IsNone (looked (alive stored)) → ⊥) → IsStep stored
step_of stored some =
    elim (head_cases stored) [
      | message top begins fits is ↦
          let size : ℕ = 20 + length_at stored in
          let frame : List ℕ = take size stored in
          let whole = head_is_message stored top begins fits in
          let long : length frame ≡ size = omega (arith, length-take size stored) in
          let here : head (frame ++ []) ≡ Message size = message_at frame [] whole ∙ ap (λ n. Message n) long in
          let look = look_message stored size is in
          let left : (after_look (alive stored)).stored ≡ drop size stored = ap (λ (s : Stream). s.stored) look in
          record {
            frame = frame;
            is_bare = bare_message frame size here ∙ takes_twice size size stored (omega arith) ∙ sym (frame_message stored size is);
            fed_is = takes (length stored) size stored is ∙ ap (one_more frame) (enough (length stored) (suc (length (drop size stored))) (drop size stored) (omega (arith, length-drop size stored)) (omega arith))
                ∙ ap (λ (l : List ℕ). one_more frame (fed l)) (sym left);
            lives = look ∙ ap (λ (l : List ℕ). alive l) (sym left);
            shorter = subst (λ (l : List ℕ). length l < length stored) (sym left) (omega (arith, length-drop size stored));
          }
      | channel top fits is ↦
          let size : ℕ = 4 + padded (length_at stored) in
          let frame : List ℕ = take size stored in
          let whole = head_is_channel stored top fits in
          let here : head (frame ++ []) ≡ Channel (length_at frame) = channel_at frame [] whole in
          let same : length_at frame ≡ length_at stored = same_len stored top fits in
          let less : 4 + length_at stored ≤ size = omega arith in
          let look = look_channel stored (length_at stored) is in
          let left : (after_look (alive stored)).stored ≡ drop size stored = ap (λ (s : Stream). s.stored) look in
          record {
            frame = frame;
            is_bare = bare_channel frame (length_at frame) here ∙ ap (λ n. take (4 + n) frame) same ∙ takes_twice (4 + length_at stored) size stored less ∙ sym (frame_channel stored (length_at stored) is);
            fed_is = takes_channel (length stored) (length_at stored) stored is ∙ ap (one_more frame) (enough (length stored) (suc (length (drop size stored))) (drop size stored) (omega (arith, length-drop size stored)) (omega arith))
                ∙ ap (λ (l : List ℕ). one_more frame (fed l)) (sym left);
            lives = look ∙ ap (λ (l : List ℕ). alive l) (sym left);
            shorter = subst (λ (l : List ℕ). length l < length stored) (sym left) (omega (arith, length-drop size stored));
          }
      | short_message _ _ _ is ↦ absurd (some (subst IsNone (sym is) tt))
      | short_channel _ _ is ↦ absurd (some (subst IsNone (sym is) tt))
      | invalid _ _ is ↦ absurd (some (subst IsNone (sym is) tt))
    ]
  where
    same_len : (bytes : List ℕ) → is_channel_top bytes ≡ true → 4 + padded (length_at bytes) ≤ length bytes → length_at (take (4 + padded (length_at bytes)) bytes) ≡ length_at bytes
    same_len bytes top fits =
        let size : ℕ = 4 + padded (length_at bytes) in
        sym (same_length (take size bytes) (drop size bytes) (omega (arith, length-take size bytes, fits))) ∙ ap length_at (take-append-drop size bytes)

-- If no frame is complete, feeding the bytes gives no frame.
pub none_of : (stored : List ℕ) → IsNone (looked (alive stored)) → ((fed stored).frames ≡ []) × ((fed stored).stream ≡ after_look (alive stored))
none_of stored none =
    elim (head_cases stored) [
      | message _ _ _ is ↦ absurd (subst IsNone is none)
      | channel _ _ is ↦ absurd (subst IsNone is none)
      | short_message _ _ _ is ↦ (ap (λ (f : Fed). f.frames) (waits (length stored) stored is), ap (λ (f : Fed). f.stream) (waits (length stored) stored is) ∙ rw is refl)
      | short_channel _ _ is ↦ (ap (λ (f : Fed). f.frames) (waits (length stored) stored is), ap (λ (f : Fed). f.stream) (waits (length stored) stored is) ∙ rw is refl)
      | invalid _ _ is ↦ (ap (λ (f : Fed). f.frames) (ends (length stored) stored is), ap (λ (f : Fed). f.stream) (ends (length stored) stored is) ∙ rw is refl)
    ]
