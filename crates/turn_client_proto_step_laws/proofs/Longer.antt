-- A stream to which more bytes came: a complete frame at its head is unchanged.
use Rattle.std.proofs.Common.{◌≡◌, ℕ, ◌+◌, ◌≤◌, Bool, true, List, ◌++◌, take, drop, length, refl, sym, ap, ◌∙◌, subst, ◌⊎◌, inl, inr, arith}
use Rattle.std.proofs.lemmas.Bool.{cases_Bool}
use Rattle.std.proofs.lemmas.List.{drop-append-le, take-append-le}
use Rattle.turn_client_proto_timers.specs.StunTypesWire.Attributes.{length_at, padded}
use Rattle.turn_client_proto_recv.specs.TurnTypesFrame.declared.head.FrameHead.TheVariants.{Message, Channel, Invalid}
use Rattle.turn_client_proto_recv.specs.TurnTypesFrame.StreamAnswers.{IsNone, looked, after_look, joined}
use Rattle.turn_client_proto_recv.specs.TurnTypesFrame.StreamHeads.{head}
use Rattle.turn_client_proto_recv.specs.TurnTypesFrame.Streams.{Stream, alive}
use Rattle.turn_client_proto_recv.proofs.TurnTypesFrame.Heads.{invalid, invalid_grows, channel, channel_grows, head_cases, message, message_grows, short_channel, short_message}
use Rattle.turn_client_proto_recv.specs.Pulls.{frame_of}
use Rattle.turn_client_proto_recv.proofs.Loops.{alive_of}

-- With more bytes after it, the head of the stream and the frame there are unchanged, and what is left is
-- followed by these bytes.
pub record IsLonger (stream : Stream) (more : List ℕ) : Type 0 where
  pub look : looked (joined stream more) ≡ looked stream
  pub frame : frame_of (joined stream more) ≡ frame_of stream
  pub left : after_look (joined stream more) ≡ joined (after_look stream) more

-- The stream is invalid, with what was looked at before more came, and without.
abbrev pub AreInvalid : Stream → List ℕ → Type 0
AreInvalid s more = (looked (joined s more) ≡ Invalid) × (looked (joined (after_look s) more) ≡ Invalid)

module _ (stored more : List ℕ) where
  by_message : (size : ℕ) → size ≤ length stored → head stored ≡ Message size → head (stored ++ more) ≡ Message size → IsLonger (alive stored) more
  by_message size fits is grows =
      let before : frame_of (alive stored) ≡ take size stored = rw is refl in
      let after : frame_of (alive (stored ++ more)) ≡ take size (stored ++ more) = rw grows refl in
      let rest : after_look (alive stored) ≡ alive (drop size stored) = rw is refl in
      let following : after_look (alive (stored ++ more)) ≡ alive (drop size (stored ++ more)) = rw grows refl in
      record {
        look = grows ∙ sym is;
        frame = after ∙ take-append-le size stored more fits ∙ sym before;
        left = following ∙ ap (λ (l : List ℕ). alive l) (drop-append-le size stored more fits) ∙ sym (ap (λ (s : Stream). joined s more) rest);
      }

  by_channel : (len : ℕ) → 4 + padded len ≤ length stored → 4 + len ≤ length stored → head stored ≡ Channel len → head (stored ++ more) ≡ Channel len → IsLonger (alive stored) more
  by_channel len fits given is grows =
      let before : frame_of (alive stored) ≡ take (4 + len) stored = rw is refl in
      let after : frame_of (alive (stored ++ more)) ≡ take (4 + len) (stored ++ more) = rw grows refl in
      let rest : after_look (alive stored) ≡ alive (drop (4 + padded len) stored) = rw is refl in
      let following : after_look (alive (stored ++ more)) ≡ alive (drop (4 + padded len) (stored ++ more)) = rw grows refl in
      record {
        look = grows ∙ sym is;
        frame = after ∙ take-append-le (4 + len) stored more given ∙ sym before;
        left = following ∙ ap (λ (l : List ℕ). alive l) (drop-append-le (4 + padded len) stored more fits) ∙ sym (ap (λ (s : Stream). joined s more) rest);
      }

  longer_alive : ¬ IsNone (looked (alive stored)) → IsLonger (alive stored) more
  longer_alive some =
      elim (head_cases stored) [
        | message top begins fits is ↦ by_message (20 + length_at stored) fits is (message_grows stored more top begins fits)
        | channel top fits is ↦ by_channel (length_at stored) fits (omega arith) is (channel_grows stored more top fits)
        | short_message _ _ _ is ↦ absurd (some (subst IsNone (sym is) tt))
        | short_channel _ _ is ↦ absurd (some (subst IsNone (sym is) tt))
        | invalid _ _ is ↦ absurd (some (subst IsNone (sym is) tt))
      ]

  -- If no frame is complete, the buffered bytes are as they were, or the stream is invalid.
  still_alive : IsNone (looked (alive stored)) → (after_look (alive stored) ≡ alive stored) ⊎ AreInvalid (alive stored) more
  still_alive none =
      elim (head_cases stored) [
        | message _ _ _ is ↦ absurd (subst IsNone is none)
        | channel _ _ is ↦ absurd (subst IsNone is none)
        | short_message _ _ _ is ↦ inl (rw is refl)
        | short_channel _ _ is ↦ inl (rw is refl)
        | invalid top begins is ↦ inr (invalid_grows stored more top begins, rw is refl)
      ]

pub longer : (s : Stream) (more : List ℕ) → ¬ IsNone (looked s) → IsLonger s more
longer s more some =
    let lives = alive_of s some in
    subst (λ (x : Stream). IsLonger x more) (sym lives) (longer_alive s.stored more (subst (λ (x : Stream). ¬ IsNone (looked x)) lives some))

dead_before : (s : Stream) (more : List ℕ) → s.dead ≡ true → AreInvalid s more
dead_before s more dead = (rw dead refl, rw dead refl)

pub still : (s : Stream) (more : List ℕ) → IsNone (looked s) → (after_look s ≡ s) ⊎ AreInvalid s more
still s more none =
    elim (cases_Bool s.dead) [
      | inl dead ↦ inr (dead_before s more dead)
      | inr lives ↦
          let is : s ≡ alive s.stored = ap (λ (d : Bool). record { stored = s.stored; dead = d }) lives in
          subst (λ (x : Stream). (after_look x ≡ x) ⊎ AreInvalid x more) (sym is)
          (still_alive s.stored more (subst (λ (x : Stream). IsNone (looked x)) is none))
    ]
