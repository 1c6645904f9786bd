-- A client that has failed delivers nothing, whatever is buffered of its stream.
use Rattle.std.proofs.Common.{◌≡◌, ℕ, Bool, true, false, List, [], Option, Some, None, refl, sym, ap, ◌∙◌, subst, inl, inr}
use Rattle.std.specs.Prelude.{MatchOption, is_none}
use Rattle.std.proofs.lemmas.Bool.{cases_Bool}
use Rattle.turn_client_proto_timers.specs.StunTypesWire.Grammar.{refusal}
use Rattle.turn_client_proto_timers.specs.StunTypesWire.declared.error.StunParseError.{StunParseError}
use Rattle.turn_client_proto_recv.specs.TurnTypesFrame.ChannelFrames.{channel_refusal}
use Rattle.turn_client_proto_recv.specs.TurnTypesFrame.StreamAnswers.{after_look}
use Rattle.turn_client_proto_recv.specs.TurnTypesFrame.Streams.{Stream}
use Rattle.turn_client_proto_timers.specs.Api.Payloads.{PeerPayload}
use Rattle.turn_client_proto_timers.specs.Core.Receiving.{IsProcessedIn, is_unawaited}
use Rattle.turn_client_proto_timers.specs.Core.declared.protocol.Phase.{Phase}
use Rattle.turn_client_proto_timers.specs.Core.declared.protocol.Phase.TheVariants.{Ended}
use Rattle.turn_client_proto_timers.specs.Core.declared.protocol.Protocol.{Protocol}
use Rattle.turn_client_proto_recv.specs.Payload.Payloads.{payload_framed, payload_of, payload_reported}
use Rattle.turn_client_proto_recv.specs.Payload.declared.payload.Payload.{Payload}
use Rattle.turn_client_proto_recv.specs.HandingIn.{IsDispatched, taken_as, unread_as}
use Rattle.turn_client_proto_recv.specs.Chunks.{IsFrameHandled, data_taken}
use Rattle.turn_client_proto_recv.specs.Pulls.{Ends, Gives, Goes, IsPulled, frame_of}
use Rattle.turn_client_proto_recv.specs.declared.handing.Taken.{Taken}
use Rattle.turn_client_proto_recv.specs.declared.handing.Taken.TheVariants.{Given}
use Rattle.turn_client_proto_step_laws.proofs.Polling.{by_test}

-- Nothing is held, so nothing is permitted.
holds_none : (old : Protocol) (frame : List ℕ) → old.phase ≡ Ended → old.allocations ≡ [] → payload_of old frame ≡ None
unfolding payload_of payload_reported payload_framed
holds_none old frame ended empty =
    elim (cases_Bool (is_none (refusal frame))) [
      | inl message ↦ rw (message, ended) refl
      | inr other ↦ elim (cases_Bool (is_none (channel_refusal frame))) [
        | inl channel ↦ rw (other, channel, empty) refl
        | inr neither ↦ rw (other, neither) refl
      ]
    ]

module _ (old : Protocol) (frame : List ℕ) (now : ℕ) (new : Protocol) (ended : old.phase ≡ Ended) (empty : old.allocations ≡ []) where
  as_decoded : (handled : Bool) → None ≡ data_taken frame (taken_as handled)
  as_decoded true = refl
  as_decoded false = refl

  as_unread : (refused : Option StunParseError) → None ≡ data_taken frame (unread_as refused)
  as_unread None = refl
  as_unread (Some error) = refl

  delivered : (refused : Option StunParseError) (taken : Taken) → IsDispatched refused old frame now taken new → (data_taken frame taken ≡ None) × (new ≡ old)
  delivered None taken (handled, is, processed) =
      let same : new ≡ old =
      by_test (is_unawaited old frame)
      (λ (_ : is_unawaited old frame ≡ true) (o : (handled ≡ false) × (new ≡ old)). o.1)
      (λ (_ : is_unawaited old frame ≡ false) (o : IsProcessedIn old.phase old frame now handled new).
      (subst (λ (p : Phase). IsProcessedIn p old frame now handled new) ended o).1) processed in
      (ap (data_taken frame) is ∙ sym (as_decoded handled), same)
  delivered (Some error) taken (is, same) = (ap (data_taken frame) is ∙ sym (as_unread (channel_refusal frame)), same)

  taken_none : (found : Option Payload) (refused : Option StunParseError) (taken : Taken) → found ≡ None → MatchOption found (IsDispatched refused old frame now taken new) (λ payload. (taken ≡ Given payload) × (new ≡ old))
      → (data_taken frame taken ≡ None) × (new ≡ old)
  taken_none None refused taken none is = delivered refused taken is
  taken_none (Some payload) refused taken none is = absurd (Prim.cc none)

  frame_none : (given : Option PeerPayload) → IsFrameHandled now old frame given new → (given ≡ None) × (new ≡ old)
  frame_none given is =
      let all = taken_none (payload_of old frame) (refusal frame) is.taken (holds_none old frame ended empty) is.is_taken in
      (is.gives ∙ all.0, all.1)

pub gives_none : (now : ℕ) (stream : Stream) (old : Protocol) (given : Option PeerPayload) (left : Stream) (new : Protocol) → IsPulled (IsFrameHandled now) stream old given left new → old.phase ≡ Ended → old.allocations ≡ []
    → (given ≡ None) × (new ≡ old)
gives_none now _ _ _ _ _ (Ends stream old none) ended empty = (refl, refl)
gives_none now _ _ _ _ _ (Gives stream old payload new some holds) ended empty = frame_none old (frame_of stream) now new ended empty (Some payload) holds
gives_none now _ _ _ _ _ (Goes stream old middle given left new some holds more) ended empty =
    let same = (frame_none old (frame_of stream) now middle ended empty None holds).1 in
    let all = gives_none now (after_look stream) middle given left new more (ap (λ (p : Protocol). p.phase) same ∙ ended) (ap (λ (p : Protocol). p.allocations) same ∙ empty) in
    (all.0, all.1 ∙ same)
