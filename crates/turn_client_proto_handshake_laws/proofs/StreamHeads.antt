-- A message from the server, or a part of one, at the head of a stream, and what is taken of it.
use Rattle.std.proofs.Common.{◌≡◌, ◌≢◌, ℕ, ◌+◌, ◌<◌, arith, Bool, true, false, List, [], ◌∷◌, ◌++◌, length, Option, Some, None, refl, sym, ap, ◌∙◌, inl, inr, append-nil}
use Rattle.std.specs.Prelude.{nat_lt}
use Rattle.std.specs.Option.{option_or}
use Rattle.std.proofs.lemmas.Bool.{cases_Bool, ltb-false}
use Rattle.std.proofs.lemmas.List.{length-append}
use Rattle.turn_client_proto_api.specs.StunTypesWire.Attributes.{length_at}
use Rattle.turn_client_proto_api.specs.StunTypesWire.Grammar.{body_refusal, header_refusal, length_refusal, refusal}
use Rattle.turn_client_proto_api.specs.StunTypesWire.declared.error.StunParseError.{StunParseError}
use Rattle.turn_client_proto_api.specs.TurnTypesFrame.Frames.{IsMessageFrame}
use Rattle.turn_client_proto_api.specs.TurnTypesFrame.StreamHeads.{head}
use Rattle.turn_client_proto_api.specs.TurnTypesFrame.declared.head.FrameHead.TheVariants.{Message, Incomplete}
use Rattle.turn_client_proto_api.proofs.TurnTypesFrame.Heads.{message as head_message, channel, short_message, short_channel, invalid, head_cases, message_grows, channel_grows, invalid_grows, message_at}
use Rattle.turn_client_proto_api.specs.TurnTypesFrame.StreamAnswers.{IsNone, after_look, looked}
use Rattle.turn_client_proto_api.specs.TurnTypesFrame.Streams.{Stream, alive}
use Rattle.turn_client_proto_api.specs.Payloads.{PeerPayload}
use Rattle.turn_client_proto_recv.specs.HandingIn.{taken_as}
use Rattle.turn_client_proto_recv.specs.ClientState.{Protocol}
use Rattle.turn_client_proto_recv.specs.Chunks.{Here, IsFrameHandled, IsLostOn, Later}
use Rattle.turn_client_proto_recv.specs.Pulls.{Ends, Gives, Goes, IsPulled}
use Rattle.turn_client_proto_recv.specs.declared.handing.Taken.TheVariants.{Garbled}
use Rattle.turn_client_proto_handshake_laws.specs.Coming.{IsPartOf}

pub no_first : (one other : Option StunParseError) → option_or one other ≡ None → (one ≡ None) × (other ≡ None)
no_first None other is = (refl, is)
no_first (Some error) other is = absurd (Prim.cc is)

-- The length in the header of a message is right.
pub right_length : (bytes : List ℕ) → length_refusal bytes ≡ None → length bytes ≡ 20 + length_at bytes
unfolding length_refusal
right_length bytes is =
    elim (cases_Bool (nat_lt (length bytes) (20 + length_at bytes))) [
      | inl less ↦ absurd (Prim.cc (rw less at is))
      | inr not_less ↦ elim (cases_Bool (nat_lt (20 + length_at bytes) (length bytes))) [
        | inl more ↦ absurd (Prim.cc (rw more at (rw not_less at is)))
        | inr not_more ↦ (
            let a = ltb-false (length bytes) (20 + length_at bytes) not_less in
            let b = ltb-false (20 + length_at bytes) (length bytes) not_more in
            omega (arith, a, b))
      ]
    ]

-- A message is a complete frame.
pub message_frame : (bytes : List ℕ) → refusal bytes ≡ None → IsMessageFrame bytes
unfolding refusal
message_frame bytes is =
    let first = no_first (header_refusal bytes) (option_or (length_refusal bytes) (body_refusal bytes)) is in
    let second = no_first (length_refusal bytes) (body_refusal bytes) first.1 in
    record { header = first.0; size = right_length bytes second.0 }

pub whole_head : (bytes : List ℕ) → refusal bytes ≡ None → head bytes ≡ Message (length bytes)
whole_head bytes is = ap head (sym (append-nil bytes)) ∙ message_at bytes [] (message_frame bytes is)

pub some_length : (bytes : List ℕ) → bytes ≢ [] → 0 < length bytes
some_length [] some = absurd (some refl)
some_length (x ∷ rest) some = omega arith

-- The first bytes of a message are no complete frame yet.
pub part_head : (part message : List ℕ) → IsPartOf part message → head part ≡ Incomplete
part_head part message is =
    let whole : head (part ++ is.rest) ≡ Message (length message) = ap head (sym is.parts) ∙ whole_head message is.is_message in
    elim (head_cases part) [
      | head_message top begins fits found ↦ absurd (
          let grown = message_grows part is.rest top begins fits in
          let same : Message (20 + length_at part) ≡ Message (length message) = sym grown ∙ whole in
          let size : 20 + length_at part ≡ length message = Prim.cc same in
          let all = ap length is.parts ∙ length-append part is.rest in
          let more = some_length is.rest is.more in
          omega (arith, size, all, more, fits))
      | channel top fits found ↦ absurd (Prim.cc (sym (channel_grows part is.rest top fits) ∙ whole))
      | short_message top begins less found ↦ found
      | short_channel top less found ↦ found
      | invalid top begins found ↦ absurd (Prim.cc (sym (invalid_grows part is.rest top begins) ∙ whole))
    ]

-- An empty stream has no frame.
pub none_started : IsNone (looked (alive []))
unfolding head
none_started = tt

pub nothing_left : after_look (alive []) ≡ alive []
unfolding head
nothing_left = refl

pub none_pulled : (now : ℕ) (s : Stream) → IsNone (looked s) → (state after : Protocol) (given : Option PeerPayload) (left : Stream) → IsPulled (IsFrameHandled now) s state given left after
    → (given ≡ None) × (left ≡ after_look s) × (after ≡ state)
none_pulled now _ none _ _ _ _ (Ends stream state nothing) = (refl, refl, refl)
none_pulled now _ none _ _ _ _ (Gives stream state payload after some handled) = absurd (some none)
none_pulled now _ none _ _ _ _ (Goes stream state middle given left after some handled more) = absurd (some none)

pub none_lost : (now : ℕ) (s : Stream) → IsNone (looked s) → (old new : Protocol) → IsLostOn now s old new → ⊥
none_lost now _ none _ _ (Here stream old new some needs failed) = some none
none_lost now _ none _ _ (Later stream old middle new some handled lost) = some none

-- A message is no garbled frame.
pub not_garbled : {A : Type 0} (handled : Bool) → Garbled ≡ taken_as handled → A
not_garbled true is = absurd (Prim.cc is)
not_garbled false is = absurd (Prim.cc is)

pub same_handled : (one other : Bool) → taken_as one ≡ taken_as other → one ≡ other
same_handled true true is = refl
same_handled false false is = refl
same_handled true false is = absurd (Prim.cc is)
same_handled false true is = absurd (Prim.cc is)
