-- The frame of a channel is no message; what is delivered of it.
use Rattle.std.proofs.Common.{◌≡◌, ℕ, ◌<◌, ◌≤◌, arith, Bool, true, false, List, [], ◌∷◌, length, Option, Some, None, is_none, refl, sym, ap, ◌∙◌, inl, inr}
use Rattle.std.specs.Prelude.{◌&&◌, nat_lt, nat_le, slice_index}
use Rattle.std.specs.Option.{option_or}
use Rattle.std.specs.declared.net.socket_addr.SocketAddr.{SocketAddr}
use Rattle.std.proofs.lemmas.Bool.{cases_Bool, leb-true, ltb-true}
use Rattle.turn_client_proto_messages.specs.StunTypesWire.Attributes.{kind_at}
use Rattle.turn_client_proto_messages.specs.StunTypesWire.Grammar.{header_refusal, may_begin, refusal}
use Rattle.turn_client_proto_messages.specs.StunTypesWire.Headers.{AreBytes}
use Rattle.turn_client_proto_messages.specs.StunTypesWire.declared.error.StunParseError.{StunParseError}
use Rattle.turn_client_proto_messages.specs.StunTypesBase.declared.transport.TransportType.{TransportType}
use Rattle.turn_client_proto_messages.specs.TurnTypesFrame.ChannelFrames.{Frame, channel_data_refusal, channel_header_refusal, channel_refusal, is_channel}
use Rattle.turn_client_proto_messages.specs.TurnTypesAttributes.TurnRegistry.{channel_header_size, least_channel}
use Rattle.turn_client_proto_messages.specs.Api.Payloads.{part_of}
use Rattle.turn_client_proto_handshake_laws.specs.Core.declared.protocol.Protocol.{Protocol}
use Rattle.turn_client_proto_step_laws.specs.Payload.declared.payload.Payload.TheVariants.{Framed}
use Rattle.turn_client_proto_step_laws.specs.Payload.Payloads.{payload_of}
use Rattle.turn_client_proto_step_laws.proofs.Payload.OfPeers.{payload_of_peer}
use Rattle.turn_client_proto_progress_laws.specs.Holding.{IsFrameOf}

first_none : {A : Type 0} (one other : Option A) → option_or one other ≡ None → one ≡ None
first_none None other is = refl
first_none (Some x) other is = absurd (Prim.cc is)

first_so : (x y : Bool) → (x && y) ≡ true → x ≡ true
first_so true y is = refl
first_so false y is = absurd (Prim.cc is)

second_so : (x y : Bool) → (x && y) ≡ true → y ≡ true
second_so true y is = is
second_so false y is = absurd (Prim.cc is)

-- The top bits of a message are 0.
small_first : (bytes : List ℕ) → refusal bytes ≡ None → slice_index bytes 0 < 64
unfolding refusal header_refusal
small_first bytes is =
    let header : header_refusal bytes ≡ None = first_none (header_refusal bytes) _ is in
    elim (cases_Bool (may_begin bytes)) [
      | inl begins ↦ ltb-true (slice_index bytes 0) 64 (first_so (nat_lt (slice_index bytes 0) 64) _ begins)
      | inr not_so ↦ absurd (Prim.cc (rw not_so at header))
    ]

-- A byte is below 256.
second_small : (bytes : List ℕ) → AreBytes bytes → slice_index bytes 1 < 256
second_small [] are = omega arith
second_small (a ∷ []) are = omega arith
second_small (a ∷ c ∷ rest) are = ltb-true c 256 (first_so (nat_lt c 256) _ (second_so (nat_lt a 256) _ are))

-- So the first number of a message is no channel number.
least_there : (bytes : List ℕ) → channel_refusal bytes ≡ None → least_channel ≤ kind_at bytes
unfolding channel_refusal channel_header_refusal
least_there bytes is =
    let header : channel_header_refusal bytes ≡ None = first_none (channel_header_refusal bytes) (channel_data_refusal bytes) is in
    elim (cases_Bool (nat_lt (length bytes) channel_header_size)) [
      | inl short ↦ absurd (Prim.cc (rw short at header))
      | inr long ↦ elim (cases_Bool (is_channel (kind_at bytes))) [
        | inl channel ↦ leb-true least_channel (kind_at bytes) (first_so (nat_le least_channel (kind_at bytes)) _ channel)
        | inr other ↦ absurd (Prim.cc (rw other at (rw long at header)))
      ]
    ]

no_frame_reads : (bytes : List ℕ) → AreBytes bytes → channel_refusal bytes ≡ None → refusal bytes ≡ None → ⊥
no_frame_reads bytes are frame message =
    let one = small_first bytes message in
    let two = second_small bytes are in
    let kind = least_there bytes frame in
    omega (arith, one, two, kind)

pub no_message : (bytes : List ℕ) → AreBytes bytes → channel_refusal bytes ≡ None → is_none (refusal bytes) ≡ false
no_message bytes are frame = by (refusal bytes) refl
  where
    by : (o : Option StunParseError) → refusal bytes ≡ o → is_none o ≡ false
    by None is = absurd (no_frame_reads bytes are frame is)
    by (Some error) is = refl

-- The payload starts after the header.
pub frame_part : (p : Protocol) (transport : TransportType) (peer : SocketAddr) (channel start end : ℕ) (payload bytes : List ℕ) → IsFrameOf channel payload bytes → payload_of p bytes ≡ Some (Framed channel transport peer start end)
    → part_of bytes start end ≡ payload
frame_part p transport peer channel start end payload bytes f gives =
    let is = payload_of_peer p bytes (Framed channel transport peer start end) gives in
    ap (λ (x : Frame). x.payload) (sym is.carried.1 ∙ f.is)
