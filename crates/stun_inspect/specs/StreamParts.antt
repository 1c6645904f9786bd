-- The first part of a stream.
use Rattle.std.specs.Prelude.{ℕ, ◌≡◌, ◌+◌, ◌<◌, ◌++◌, List, length, ⊤}
use Rattle.stun_types_wire.specs.Attributes.{padded}
use Rattle.turn_types_frame.specs.declared.head.FrameHead.TheVariants as Heads
use Rattle.turn_types_frame.specs.StreamHeads.{head}
use Rattle.stun_inspect.specs.declared.stream.StreamPart.{StreamPart}
use Rattle.stun_inspect.specs.declared.stream.StreamPart.TheVariants.{Message, Frame, Rest, Invalid}

-- The part is what the head of the bytes says that begins here, whole: it and what follows are the bytes.
abbrev pub IsFirstPart : List ℕ → StreamPart → Type 0
IsFirstPart bytes (Message message after) =
    (bytes ≡ message.now ++ after.now) × (head bytes ≡ Heads.Message (length message.now))
IsFirstPart bytes (Frame frame after) =
    (bytes ≡ frame.now ++ after.now)
    × ((len : ℕ) × (head bytes ≡ Heads.Channel len) × (length frame.now ≡ 4 + padded len))
IsFirstPart bytes Rest = head bytes ≡ Heads.Incomplete
IsFirstPart bytes Invalid = head bytes ≡ Heads.Invalid

-- What follows the part is shorter than the bytes.
abbrev pub IsShorter : List ℕ → StreamPart → Type 0
IsShorter bytes (Message message after) = length after.now < length bytes
IsShorter bytes (Frame frame after) = length after.now < length bytes
IsShorter bytes Rest = ⊤
IsShorter bytes Invalid = ⊤
