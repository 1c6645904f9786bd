-- A frame that is complete at the head of a stream lies within the stream.
use Rattle.std.proofs.Common.{◌≡◌, ℕ, ◌+◌, ◌≤◌, leb, List, length, refl, sym, ◌∙◌, arith, inl, inr}
use Rattle.std.proofs.lemmas.Bool.{cases_Bool, leb-true}
use Rattle.stun_types_wire.specs.Attributes.{length_at, padded}
use Rattle.stun_types_wire.specs.Grammar.{may_begin}
use Rattle.turn_types_frame.specs.declared.head.FrameHead.TheVariants.{Message, Channel, Incomplete, Invalid}
use Rattle.turn_types_frame.specs.StreamHeads.{head, is_channel_top}

data HeadCase (bytes : List ℕ) : Type 0 where
  message : 20 + length_at bytes ≤ length bytes → head bytes ≡ Message (20 + length_at bytes) → HeadCase bytes
  channel : 4 + padded (length_at bytes) ≤ length bytes → head bytes ≡ Channel (length_at bytes) → HeadCase bytes
  incomplete : head bytes ≡ Incomplete → HeadCase bytes
  invalid : head bytes ≡ Invalid → HeadCase bytes

head_cases : (bytes : List ℕ) → HeadCase bytes
unfolding head
head_cases bytes =
    elim (cases_Bool (is_channel_top bytes)) [
      | inl top ↦ elim (cases_Bool (leb (4 + padded (length_at bytes)) (length bytes))) [
        | inl fits ↦ channel (leb-true (4 + padded (length_at bytes)) (length bytes) fits) (rw (top, fits) refl)
        | inr less ↦ incomplete (rw (top, less) refl)
      ]
      | inr top ↦ elim (cases_Bool (may_begin bytes)) [
        | inl begins ↦ elim (cases_Bool (leb (20 + length_at bytes) (length bytes))) [
          | inl fits ↦ message (leb-true (20 + length_at bytes) (length bytes) fits) (rw (top, begins, fits) refl)
          | inr less ↦ incomplete (rw (top, begins, less) refl)
        ]
        | inr other ↦ invalid (rw (top, other) refl)
      ]
    ]

-- A message has at least a header, and lies within the stream.
pub message_fits : (bytes : List ℕ) (size : ℕ) → head bytes ≡ Message size → (20 ≤ size) × (size ≤ length bytes)
message_fits bytes size h =
    elim (head_cases bytes) [
      | message fits is ↦
          let same : 20 + length_at bytes ≡ size = let both = sym is ∙ h in cc in
          (omega (arith, same), omega (arith, same, fits))
      | channel _ is ↦ absurd (let both = sym is ∙ h in cc)
      | incomplete is ↦ absurd (let both = sym is ∙ h in cc)
      | invalid is ↦ absurd (let both = sym is ∙ h in cc)
    ]

-- A channel frame with its padding lies within the stream.
pub channel_fits : (bytes : List ℕ) (len : ℕ) → head bytes ≡ Channel len → 4 + padded len ≤ length bytes
channel_fits bytes len h =
    elim (head_cases bytes) [
      | message _ is ↦ absurd (let both = sym is ∙ h in cc)
      | channel fits is ↦
          let same : length_at bytes ≡ len = let both = sym is ∙ h in cc in
          rw (← same) fits
      | incomplete is ↦ absurd (let both = sym is ∙ h in cc)
      | invalid is ↦ absurd (let both = sym is ∙ h in cc)
    ]
