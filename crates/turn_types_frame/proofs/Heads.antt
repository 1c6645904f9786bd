-- What the first bytes of a stream are, case by case, and that appended bytes do not change it.
use Rattle.std.proofs.Common.{◌≡◌, ◌≢◌, ℕ, ◌+◌, ◌<◌, ◌≤◌, true, false, ltb, leb, eqb, List, [], ◌∷◌, ◌++◌, length, take, drop, None, Some, refl, sym, ap, ◌∙◌, arith, inl, inr}
use Rattle.std.proofs.lemmas.Bool.{cases_Bool, and_parts, leb-true, leb-false, le-leb, ltb-true}
use Rattle.std.proofs.lemmas.List.{length-append, length-take, take-append-drop}
use Rattle.std.specs.List.{starts_with}
use Rattle.turn_types_peer.specs.Wire.Registry.{cookie}
use Rattle.turn_types_peer.specs.Wire.declared.error.StunParseError.{StunParseError}
use Rattle.turn_types_peer.specs.Wire.declared.error.StunParseError.TheVariants.{NotStun}
use Rattle.turn_types_peer.specs.Wire.Attributes.{length_at, padded}
use Rattle.turn_types_peer.specs.Wire.Grammar.{may_begin, header_refusal}
use Rattle.turn_types_peer.proofs.Wire.HeaderLaws.{wrong, short, whole, header_cases, head_begins}
use Rattle.turn_types_frame.specs.declared.head.FrameHead.TheVariants.{Message, Channel, Incomplete, Invalid}
use Rattle.turn_types_frame.specs.StreamHeads.{head, is_channel_top, size_of, given_of}
use Rattle.turn_types_frame.specs.Frames.{IsMessageFrame, IsChannelFrame}

pub data HeadCase (bytes : List ℕ) : Type 0 where
  message : is_channel_top bytes ≡ false → may_begin bytes ≡ true → 20 + length_at bytes ≤ length bytes → head bytes ≡ Message (20 + length_at bytes) → HeadCase bytes
  channel : is_channel_top bytes ≡ true → 4 + padded (length_at bytes) ≤ length bytes → head bytes ≡ Channel (length_at bytes) → HeadCase bytes
  short_message : is_channel_top bytes ≡ false → may_begin bytes ≡ true → length bytes < 20 + length_at bytes → head bytes ≡ Incomplete → HeadCase bytes
  short_channel : is_channel_top bytes ≡ true → length bytes < 4 + padded (length_at bytes) → head bytes ≡ Incomplete → HeadCase bytes
  invalid : is_channel_top bytes ≡ false → may_begin bytes ≡ false → head bytes ≡ Invalid → HeadCase bytes

pub head_cases : (bytes : List ℕ) → HeadCase bytes
unfolding head
head_cases bytes =
    elim (cases_Bool (is_channel_top bytes)) [
      | inl top ↦ elim (cases_Bool (leb (4 + padded (length_at bytes)) (length bytes))) [
        | inl fits ↦ channel top (leb-true (4 + padded (length_at bytes)) (length bytes) fits) (rw (top, fits) refl)
        | inr less ↦ short_channel top (leb-false (4 + padded (length_at bytes)) (length bytes) less) (rw (top, less) refl)
      ]
      | inr top ↦ elim (cases_Bool (may_begin bytes)) [
        | inl begins ↦ elim (cases_Bool (leb (20 + length_at bytes) (length bytes))) [
          | inl fits ↦ message top begins (leb-true (20 + length_at bytes) (length bytes) fits) (rw (top, begins, fits) refl)
          | inr less ↦ short_message top begins (leb-false (20 + length_at bytes) (length bytes) less) (rw (top, begins, less) refl)
        ]
        | inr other ↦ invalid top other (rw (top, other) refl)
      ]
    ]

-- ---- each case, from what makes it

pub is_message : (bytes : List ℕ) → is_channel_top bytes ≡ false → may_begin bytes ≡ true → 20 + length_at bytes ≤ length bytes → head bytes ≡ Message (20 + length_at bytes)
unfolding head
is_message bytes top begins fits = let enough = le-leb (20 + length_at bytes) (length bytes) fits in rw (top, begins, enough) refl

pub is_channel : (bytes : List ℕ) → is_channel_top bytes ≡ true → 4 + padded (length_at bytes) ≤ length bytes → head bytes ≡ Channel (length_at bytes)
unfolding head
is_channel bytes top fits = let enough = le-leb (4 + padded (length_at bytes)) (length bytes) fits in rw (top, enough) refl

pub is_invalid : (bytes : List ℕ) → is_channel_top bytes ≡ false → may_begin bytes ≡ false → head bytes ≡ Invalid
unfolding head
is_invalid bytes top begins = rw (top, begins) refl

pub is_incomplete : (bytes : List ℕ) → is_channel_top bytes ≡ false → may_begin bytes ≡ true → length bytes < 20 + length_at bytes → head bytes ≡ Incomplete
unfolding head
is_incomplete bytes top begins less = elim (cases_Bool (leb (20 + length_at bytes) (length bytes))) [
  | inl fits ↦ absurd (let more = leb-true (20 + length_at bytes) (length bytes) fits in omega arith)
  | inr below ↦ rw (top, begins, below) refl
]

-- ---- more bytes after it

-- Appended bytes do not change the length field in the first four bytes.
pub same_length : (bytes more : List ℕ) → 4 ≤ length bytes → length_at (bytes ++ more) ≡ length_at bytes
same_length [] more h = absurd (omega arith)
same_length (a ∷ []) more h = absurd (omega arith)
same_length (a ∷ b ∷ []) more h = absurd (omega arith)
same_length (a ∷ b ∷ c ∷ []) more h = absurd (omega arith)
same_length (a ∷ b ∷ c ∷ d ∷ rest) more h = refl

pub same_top : (bytes more : List ℕ) → 0 < length bytes → is_channel_top (bytes ++ more) ≡ is_channel_top bytes
same_top [] more h = absurd (omega arith)
same_top (a ∷ rest) more h = refl

pub same_begin : (bytes more : List ℕ) → 8 ≤ length bytes → may_begin (bytes ++ more) ≡ may_begin bytes
same_begin [] more h = absurd (omega arith)
same_begin (a ∷ []) more h = absurd (omega arith)
same_begin (a ∷ b ∷ []) more h = absurd (omega arith)
same_begin (a ∷ b ∷ c ∷ []) more h = absurd (omega arith)
same_begin (a ∷ b ∷ c ∷ d ∷ []) more h = absurd (omega arith)
same_begin (a ∷ b ∷ c ∷ d ∷ e ∷ []) more h = absurd (omega arith)
same_begin (a ∷ b ∷ c ∷ d ∷ e ∷ f ∷ []) more h = absurd (omega arith)
same_begin (a ∷ b ∷ c ∷ d ∷ e ∷ f ∷ g ∷ []) more h = absurd (omega arith)
same_begin (a ∷ b ∷ c ∷ d ∷ e ∷ f ∷ g ∷ i ∷ rest) more h = refl

-- Bytes that cannot start a message are not empty.
some_byte : (bytes : List ℕ) → may_begin bytes ≡ false → 0 < length bytes
some_byte [] h = absurd cc
some_byte (a ∷ rest) h = omega arith

-- Bytes that start a channel frame are not empty.
top_byte : (bytes : List ℕ) → is_channel_top bytes ≡ true → 0 < length bytes
top_byte [] h = absurd cc
top_byte (a ∷ rest) h = omega arith

pub message_grows : (bytes more : List ℕ) → is_channel_top bytes ≡ false → may_begin bytes ≡ true → 20 + length_at bytes ≤ length bytes → head (bytes ++ more) ≡ Message (20 + length_at bytes)
message_grows bytes more top begins fits =
    let len = same_length bytes more (omega arith) in
    is_message (bytes ++ more)
    (same_top bytes more (omega arith) ∙ top)
    (same_begin bytes more (omega arith) ∙ begins)
    (omega (arith, length-append bytes more, len))
    ∙ ap (λ n. Message (20 + n)) len

pub channel_grows : (bytes more : List ℕ) → is_channel_top bytes ≡ true → 4 + padded (length_at bytes) ≤ length bytes → head (bytes ++ more) ≡ Channel (length_at bytes)
channel_grows bytes more top fits =
    let len = same_length bytes more (omega arith) in
    is_channel (bytes ++ more) (same_top bytes more (omega arith) ∙ top)
    (let both = ap padded len in omega (arith, length-append bytes more, both))
    ∙ ap (λ n. Channel n) len

pub invalid_grows : (bytes more : List ℕ) → is_channel_top bytes ≡ false → may_begin bytes ≡ false → head (bytes ++ more) ≡ Invalid
invalid_grows bytes more top begins =
    is_invalid (bytes ++ more) (same_top bytes more (some_byte bytes begins) ∙ top)
    (elim (cases_Bool (may_begin (bytes ++ more))) [
      | inl started ↦ absurd (let same = head_begins bytes more started in cc)
      | inr other ↦ other
    ])

-- ---- a whole frame at the head

-- Bytes that can start a message do not start a channel frame.
pub no_channel : (bytes : List ℕ) → may_begin bytes ≡ true → is_channel_top bytes ≡ false
no_channel [] h = refl
no_channel (a ∷ rest) h =
    let top = ltb-true a 64 (and_parts (ltb a 64) (starts_with eqb cookie (take 4 (drop 3 rest))) h).0 in
    elim (cases_Bool (leb 64 a)) [
      | inl more ↦ absurd (let n = leb-true 64 a more in omega arith)
      | inr less ↦ rw less refl
    ]

pub message_at : (frame rest : List ℕ) → IsMessageFrame frame → head (frame ++ rest) ≡ Message (length frame)
message_at frame rest h =
    elim (header_cases frame) [
      | wrong _ is ↦ absurd (let none = h.header in cc)
      | short _ _ is ↦ absurd (let none = h.header in cc)
      | whole begins long _ ↦
          message_grows frame rest (no_channel frame begins) begins (let size = h.size in omega arith)
          ∙ ap (λ n. Message n) (sym h.size)
    ]

pub channel_at : (frame rest : List ℕ) → IsChannelFrame frame → head (frame ++ rest) ≡ Channel (length_at frame)
channel_at frame rest h = channel_grows frame rest h.top (let size = h.size in omega arith)

-- ---- and what is at the head is one

pub head_is_message : (bytes : List ℕ) → is_channel_top bytes ≡ false → may_begin bytes ≡ true → 20 + length_at bytes ≤ length bytes → IsMessageFrame (take (20 + length_at bytes) bytes)
head_is_message bytes top begins fits =
    let frame : List ℕ = take (20 + length_at bytes) bytes in
    let rest : List ℕ = drop (20 + length_at bytes) bytes in
    let parts : frame ++ rest ≡ bytes = take-append-drop (20 + length_at bytes) bytes in
    let size : length frame ≡ 20 + length_at bytes = omega (arith, length-take (20 + length_at bytes) bytes) in
    let len : length_at bytes ≡ length_at frame = ap length_at (sym parts) ∙ same_length frame rest (omega arith) in
    let starts : may_begin frame ≡ true = head_begins frame rest (ap may_begin parts ∙ begins) in
    record {
      header = elim (header_cases frame) [
        | wrong other _ ↦ absurd cc
        | short _ less _ ↦ absurd (omega arith)
        | whole _ _ is ↦ is
      ];
      size = omega arith;
    }

pub head_is_channel : (bytes : List ℕ) → is_channel_top bytes ≡ true → 4 + padded (length_at bytes) ≤ length bytes → IsChannelFrame (take (4 + padded (length_at bytes)) bytes)
head_is_channel bytes top fits =
    let frame : List ℕ = take (4 + padded (length_at bytes)) bytes in
    let rest : List ℕ = drop (4 + padded (length_at bytes)) bytes in
    let parts : frame ++ rest ≡ bytes = take-append-drop (4 + padded (length_at bytes)) bytes in
    let size : length frame ≡ 4 + padded (length_at bytes) = omega (arith, length-take (4 + padded (length_at bytes)) bytes) in
    let len : length_at bytes ≡ length_at frame = ap length_at (sym parts) ∙ same_length frame rest (omega arith) in
    let both = ap padded len in
    record {
      top = sym (same_top frame rest (omega arith)) ∙ ap is_channel_top parts ∙ top;
      header = omega arith;
      size = omega arith;
    }

-- ---- what the header says

pub decoded_wrong : (bytes : List ℕ) → is_channel_top bytes ≡ false → header_refusal bytes ≡ Some NotStun → Invalid ≡ head bytes
decoded_wrong bytes top h =
    elim (header_cases bytes) [
      | wrong other _ ↦ sym (is_invalid bytes top other)
      | short _ _ is ↦ absurd cc
      | whole _ _ is ↦ absurd cc
    ]

pub decoded_short : (bytes : List ℕ) (error : StunParseError) → is_channel_top bytes ≡ false → header_refusal bytes ≡ Some error → error ≢ NotStun → Incomplete ≡ head bytes
decoded_short bytes error top h named =
    elim (header_cases bytes) [
      | wrong _ is ↦ absurd (named cc)
      | short begins less _ ↦ sym (is_incomplete bytes top begins (omega arith))
      | whole _ _ is ↦ absurd cc
    ]

pub decoded_incomplete : (bytes : List ℕ) → is_channel_top bytes ≡ false → header_refusal bytes ≡ None → length bytes < 20 + length_at bytes → Incomplete ≡ head bytes
decoded_incomplete bytes top h less =
    elim (header_cases bytes) [
      | wrong _ is ↦ absurd cc
      | short _ _ is ↦ absurd cc
      | whole begins _ _ ↦ sym (is_incomplete bytes top begins less)
    ]

pub decoded_message : (bytes : List ℕ) → is_channel_top bytes ≡ false → header_refusal bytes ≡ None → 20 + length_at bytes ≤ length bytes → Message (20 + length_at bytes) ≡ head bytes
decoded_message bytes top h fits =
    elim (header_cases bytes) [
      | wrong _ is ↦ absurd cc
      | short _ _ is ↦ absurd cc
      | whole begins _ _ ↦ sym (is_message bytes top begins fits)
    ]

-- ---- what is taken and given is there

pub taken_fits : (bytes : List ℕ) → size_of (head bytes) ≤ length bytes
taken_fits bytes =
    elim (head_cases bytes) [
      | message _ _ fits is ↦ rw is fits
      | channel _ fits is ↦ rw is fits
      | short_message _ _ _ is ↦ rw is (omega arith)
      | short_channel _ _ is ↦ rw is (omega arith)
      | invalid _ _ is ↦ rw is (omega arith)
    ]

pub given_fits : (bytes : List ℕ) → given_of (head bytes) ≤ length bytes
given_fits bytes =
    elim (head_cases bytes) [
      | message _ _ fits is ↦ rw is fits
      | channel _ fits is ↦ rw is (omega arith)
      | short_message _ _ _ is ↦ rw is (omega arith)
      | short_channel _ _ is ↦ rw is (omega arith)
      | invalid _ _ is ↦ rw is (omega arith)
    ]

-- What the first bytes are, case by case.
pub ruleset decoded = (decoded_wrong, decoded_short, decoded_incomplete, decoded_message)
