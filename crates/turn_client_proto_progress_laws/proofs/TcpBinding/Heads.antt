-- The head of a stream: a message, a part of one, or nothing (RFC 8489, section 6.2.2).
use Rattle.turn_client_proto_handshake_laws.proofs.StreamHeads.{message_frame}
use Rattle.std.proofs.Common.{◌≡◌, ◌≢◌, ℕ, ◌+◌, ◌<◌, arith, List, [], ◌∷◌, ◌++◌, length, take, drop, Option, Some, None, refl, sym, ap, ◌∙◌, inl, inr, append-nil}
use Rattle.std.specs.Prelude.{nat_lt}
use Rattle.std.specs.Option.{option_or}
use Rattle.std.proofs.lemmas.Bool.{cases_Bool, ltb-false}
use Rattle.std.proofs.lemmas.List.{length-append}
use Rattle.turn_client_proto_messages.specs.StunTypesWire.Attributes.{length_at}
use Rattle.turn_client_proto_messages.specs.StunTypesWire.Grammar.{body_refusal, header_refusal, length_refusal, refusal}
use Rattle.turn_client_proto_messages.specs.StunTypesWire.declared.error.StunParseError.{StunParseError}
use Rattle.turn_client_proto_messages.specs.TurnTypesFrame.Frames.{IsMessageFrame}
use Rattle.turn_client_proto_messages.specs.TurnTypesFrame.StreamHeads.{head, given_of}
use Rattle.turn_client_proto_messages.specs.TurnTypesFrame.declared.head.FrameHead.{FrameHead}
use Rattle.turn_client_proto_messages.specs.TurnTypesFrame.declared.head.FrameHead.TheVariants.{Message, Incomplete}
use Rattle.turn_client_proto_messages.proofs.TurnTypesFrame.Heads.{message as head_message, channel, short_message, short_channel, invalid, head_cases, message_grows, channel_grows, invalid_grows, message_at}
use Rattle.turn_client_proto_messages.specs.TurnTypesFrame.StreamAnswers.{IsNone, after_look, looked}
use Rattle.turn_client_proto_messages.specs.TurnTypesFrame.Streams.{alive, left_by}
use Rattle.turn_client_proto_step_laws.specs.Recv.Pulls.{frame_of}
use Rattle.turn_client_proto_handshake_laws.specs.Coming.{IsPartOf}

-- ---- what stands at the head

-- A message is at the head, whatever follows it.
pub whole_at : (bytes more : List ℕ) → refusal bytes ≡ None → head (bytes ++ more) ≡ Message (length bytes)
whole_at bytes more is = message_at bytes more (message_frame bytes is)

take_head : (bytes more : List ℕ) → take (length bytes) (bytes ++ more) ≡ bytes
take_head [] more = refl
take_head (x ∷ bytes) more = ap (λ (l : List ℕ). x ∷ l) (take_head bytes more)

drop_head : (bytes more : List ℕ) → drop (length bytes) (bytes ++ more) ≡ more
drop_head [] more = refl
drop_head (x ∷ bytes) more = drop_head bytes more

-- The message is taken, and what follows is left.
module _ (bytes more : List ℕ) (is : refusal bytes ≡ None) where
  pub whole_look : looked (alive (bytes ++ more)) ≡ Message (length bytes)
  whole_look = whole_at bytes more is

  pub whole_frame : frame_of (alive (bytes ++ more)) ≡ bytes
  whole_frame = ap (λ (f : FrameHead). take (given_of f) (bytes ++ more)) whole_look ∙ take_head bytes more

  pub whole_left : after_look (alive (bytes ++ more)) ≡ alive more
  whole_left = ap (λ (f : FrameHead). left_by f (bytes ++ more)) whole_look ∙ ap alive (drop_head bytes more)
