-- Handling of bytes from the server (RFC 8489, section 6.3; RFC 8656, sections 11.4, 11.6 and 12.6).
use Rattle.std.specs.Prelude.{◌≡◌, ℕ, Bool, true, false, List, Option, None, Some, MatchOption}
use Rattle.stun_types_wire.specs.Grammar.{refusal}
use Rattle.stun_types_wire.specs.declared.error.StunParseError.{StunParseError}
use Rattle.turn_types_frame.specs.ChannelFrames.{channel_refusal}
use Rattle.turn_client_proto_core.specs.Receiving.{IsProcessed}
use Rattle.turn_client_proto_core.specs.declared.protocol.Protocol.{Protocol}
use Rattle.turn_client_proto_payload.specs.Payloads.{payload_of}
use Rattle.turn_client_proto_recv.specs.declared.handing.Taken.{Taken}
use Rattle.turn_client_proto_recv.specs.declared.handing.Taken.TheVariants.{Given, Handled, Ignored, Garbled}

-- The result for a message, by whether it was for the client.
abbrev pub taken_as : Bool → Taken
taken_as true = Handled
taken_as false = Ignored

-- The result for bytes that are no message and deliver nothing, by whether they are a channel frame.
abbrev pub unread_as : Option StunParseError → Taken
unread_as None = Ignored
unread_as (Some error) = Garbled

-- The outcome of bytes that deliver nothing. A message is handled; other bytes have no effect.
abbrev pub IsDispatched : Option StunParseError → Protocol → List ℕ → ℕ → Taken → Protocol → Type 0
IsDispatched None old bytes now taken new = (handled : Bool) × (taken ≡ taken_as handled) × IsProcessed old bytes now handled new
IsDispatched (Some error) old bytes now taken new = (taken ≡ unread_as (channel_refusal bytes)) × (new ≡ old)

-- The outcome of a frame. If and only if it carries something from a peer that the client permits, that is
-- delivered, and nothing changes; otherwise the frame is handled.
abbrev pub IsFrameTaken : Protocol → List ℕ → ℕ → Taken → Protocol → Type 0
IsFrameTaken old frame now taken new = MatchOption (payload_of old frame)
    (IsDispatched (refusal frame) old frame now taken new)
    (λ payload. (taken ≡ Given payload) × (new ≡ old))
