-- The complete frames of a stream in which a message, or a part of one, is buffered.
use Rattle.std.proofs.Common.{◌≡◌, ℕ, List, [], ◌∷◌, length, take, None, sym, ap, ◌∙◌, subst}
use Rattle.std.proofs.Math.Seq.{drop-length, take-length}
use Rattle.turn_client_proto_api.specs.StunTypesWire.Grammar.{refusal}
use Rattle.turn_client_proto_api.specs.TurnTypesFrame.StreamAnswers.{IsNone, after_look, looked}
use Rattle.turn_client_proto_api.specs.TurnTypesFrame.Streams.{Stream, alive, left_by}
use Rattle.turn_client_proto_api.specs.TurnTypesFrame.StreamHeads.{given_of}
use Rattle.turn_client_proto_api.specs.TurnTypesFrame.declared.head.FrameHead.{FrameHead}
use Rattle.turn_client_proto_recv.specs.Pulls.{frame_of}
use Rattle.turn_client_proto_recv.specs.Waiting.{whole_frames}
use Rattle.turn_client_proto_recv.proofs.Waiting.{first_waits, none_waits}
use Rattle.turn_client_proto_handshake_laws.specs.Coming.{IsPartOf}
use Rattle.turn_client_proto_handshake_laws.proofs.StreamHeads.{none_started, part_head, whole_head}

-- A part of a message has no complete frame.
pub part_has_none : (part message : List ℕ) → IsPartOf part message → whole_frames (alive part) ≡ []
part_has_none part message is = none_waits (alive part) (subst IsNone (sym (part_head part message is)) tt)

-- A message is its own only complete frame.
pub message_has_one : (message : List ℕ) → refusal message ≡ None → whole_frames (alive message) ≡ message ∷ []
message_has_one message is =
    let head_is = whole_head message is in
    let frame_is : frame_of (alive message) ≡ message = ap (λ (f : FrameHead). take (given_of f) message) head_is ∙ take-length message in
    let left_is : after_look (alive message) ≡ alive [] = ap (λ (f : FrameHead). left_by f message) head_is ∙ ap alive (drop-length message) in
    first_waits (alive message) (λ none. subst IsNone head_is none)
    ∙ ap (λ (l : List ℕ). l ∷ whole_frames (after_look (alive message))) frame_is
    ∙ ap (λ (s : Stream). message ∷ whole_frames s) left_is
    ∙ ap (λ (l : List (List ℕ)). message ∷ l) (none_waits (alive []) none_started)
