-- What a stream buffer returns for a chunk of bytes, and when it is polled for a frame.
use Rattle.std.specs.Prelude.{◌≡◌, ◌≢◌, ⊤, ℕ, List, [], ◌++◌, take, Option, Some, None, if◌then◌else◌}
use Rattle.turn_types_peer.specs.Base.declared.transmit.Transmit.{Transmit}
use Rattle.turn_types_frame.specs.declared.head.FrameHead.{FrameHead}
use Rattle.turn_types_frame.specs.declared.head.FrameHead.TheVariants.{Message, Channel, Incomplete, Invalid}
use Rattle.turn_types_frame.specs.declared.tcp.IncomingTcp.{IncomingTcp}
use Rattle.turn_types_frame.specs.declared.tcp.IncomingTcp.TheVariants.{CompleteMessage, CompleteChannel, StoredMessage, StoredChannel, NoMemory}
use Rattle.turn_types_frame.specs.declared.tcp.StoredTcp.{StoredTcp}
use Rattle.turn_types_frame.specs.declared.tcp.StoredTcp.TheVariants.{Message as AMessage, Channel as AChannel}
use Rattle.turn_types_frame.specs.StreamHeads.{head, given_of}
use Rattle.turn_types_frame.specs.Streams.{Stream, left_by}

abbrev pub IsMessage : FrameHead → Type 0
IsMessage (Message _) = ⊤
IsMessage (Channel _) = ⊥
IsMessage Incomplete = ⊥
IsMessage Invalid = ⊥

abbrev pub IsChannel : FrameHead → Type 0
IsChannel (Message _) = ⊥
IsChannel (Channel _) = ⊤
IsChannel Incomplete = ⊥
IsChannel Invalid = ⊥

-- There is no complete frame.
abbrev pub IsNone : FrameHead → Type 0
IsNone (Message _) = ⊥
IsNone (Channel _) = ⊥
IsNone Incomplete = ⊤
IsNone Invalid = ⊤

-- The stream with more bytes appended.
abbrev pub joined : Stream → List ℕ → Stream
joined stream more = record { stored = stream.stored ++ more; dead = stream.dead }

-- What the first bytes of a stream are. Those of a dead stream are invalid.
abbrev pub looked : Stream → FrameHead
looked stream = if stream.dead then Invalid else head stream.stored

-- The stream after the frame at its head, if any, is removed.
abbrev pub after_look : Stream → Stream
after_look stream = left_by (looked stream) stream.stored

-- The bytes are the frame at the head of the stream, without the padding of a channel frame.
abbrev pub IsGiven : Stream → List ℕ → Type 0
IsGiven stream bytes = bytes ≡ take (given_of (looked stream)) stream.stored

-- The range covers the frame at the start of a chunk.
pub record IsRange (size start end : ℕ) : Type 0 where
  pub start_is : start ≡ 0
  pub end_is : end ≡ size

-- What a buffer returns for a chunk, given the stream with the chunk's bytes appended. A frame that starts in
-- the chunk is reported by its range; a frame that starts in buffered bytes is returned in a vector. An
-- allocation can fail only if bytes were buffered before the call, or would be after it.
abbrev pub IsAnswer : {T : Type 0} → Stream → List ℕ → Transmit T → Option (IncomingTcp T) → Type 0
IsAnswer old chunk transmit None = IsNone (looked (joined old chunk))
IsAnswer old chunk transmit (Some (CompleteMessage came range)) = IsMessage (looked (joined old chunk))
    × (old.stored ≡ []) × (came ≡ transmit) × IsRange (given_of (looked (joined old chunk))) range.start range.end
IsAnswer old chunk transmit (Some (CompleteChannel came range)) = IsChannel (looked (joined old chunk))
    × (old.stored ≡ []) × (came ≡ transmit) × IsRange (given_of (looked (joined old chunk))) range.start range.end
IsAnswer old chunk transmit (Some (StoredMessage bytes came)) = IsMessage (looked (joined old chunk))
    × (old.stored ≢ []) × (came ≡ transmit) × IsGiven (joined old chunk) bytes.items
IsAnswer old chunk transmit (Some (StoredChannel bytes came)) = IsChannel (looked (joined old chunk))
    × (old.stored ≢ []) × (came ≡ transmit) × IsGiven (joined old chunk) bytes.items
IsAnswer old chunk transmit (Some (NoMemory came)) =
    (came ≡ transmit) × (old.stored ≡ [] → (after_look (joined old chunk)).stored ≢ [])

-- The buffer after the call. It is unchanged if an allocation failed.
abbrev pub after_incoming : {T : Type 0} → Stream → List ℕ → Option (IncomingTcp T) → Stream
after_incoming old chunk None = after_look (joined old chunk)
after_incoming old chunk (Some (CompleteMessage _ _)) = after_look (joined old chunk)
after_incoming old chunk (Some (CompleteChannel _ _)) = after_look (joined old chunk)
after_incoming old chunk (Some (StoredMessage _ _)) = after_look (joined old chunk)
after_incoming old chunk (Some (StoredChannel _ _)) = after_look (joined old chunk)
after_incoming old chunk (Some (NoMemory _)) = old

-- What a buffer returns when it is polled for a frame.
abbrev pub IsStored : Stream → Option StoredTcp → Type 0
IsStored old None = IsNone (looked old)
IsStored old (Some (AMessage bytes)) = IsMessage (looked old) × IsGiven old bytes.items
IsStored old (Some (AChannel bytes)) = IsChannel (looked old) × IsGiven old bytes.items
