-- The loop of a pull.
use Rattle.std.proofs.Common.{◌≡◌, ℕ, ◌<◌, Bool, true, false, length, Option, Some, None, Result, Ok, Err, sym, ap, subst, inl, inr}
use Rattle.std.specs.Prelude.{OnErr, is_some}
use Rattle.std.proofs.lemmas.Bool.{cases_Bool}
use Rattle.turn_types_frame.specs.StreamAnswers.{IsNone, after_look, looked}
use Rattle.turn_types_frame.specs.Streams.{Stream, alive}
use Rattle.turn_client_proto_api.specs.Payloads.{PeerPayload}
use Rattle.turn_client_proto_core.specs.Ending.{HasFailed}
use Rattle.turn_client_proto_core.specs.declared.protocol.Protocol.{Protocol}
use Rattle.turn_client_proto_recv.specs.Chunks.{Here, IsFrameHandled, IsLostOn, IsTakenOff, Later, Needs}
use Rattle.turn_client_proto_recv.specs.Pulls.{Ends, Gives, Goes, IsPulled, frame_of}
use Rattle.turn_client_proto_recv.proofs.Steps.{step_of}

-- A stream with a complete frame at its head is valid.
pub alive_of : (s : Stream) → ¬ IsNone (looked s) → s ≡ alive s.stored
alive_of s some =
    elim (cases_Bool s.dead) [
      | inl dead ↦ absurd (some (rw dead tt))
      | inr lives ↦ ap (λ (d : Bool). record { stored = s.stored; dead = d }) lives
    ]

pub shorter : (old : Stream) → ¬ IsNone (looked old) → length (after_look old).stored < length old.stored
shorter old some =
    let lives = alive_of old some in
    subst (λ (s : Stream). length (after_look s).stored < length old.stored) (sym lives) (step_of old.stored (subst (λ (s : Stream). ¬ IsNone (looked s)) lives some)).shorter

module _ (now : ℕ) (first : Stream) (start : Protocol) where
  -- The outcome of the pull from here on is the outcome of the whole pull, and so is the failure of a memory
  -- allocation.
  pub record IsOnward (here : Stream) (state : Protocol) : Type 0 where
    pub ok : (given : Option PeerPayload) (left : Stream) (after : Protocol) → IsPulled (IsFrameHandled now) here state given left after → IsPulled (IsFrameHandled now) first start given left after
    pub err : (after : Protocol) → IsLostOn now here state after → IsLostOn now first start after

  module _ (here : Stream) (state : Protocol) (onward : IsOnward here state) (left : Stream) (after : Protocol) where
    pub ends : IsTakenOff now here state None left after → IsPulled (IsFrameHandled now) first start None left after
    ends (none, left_is, same) =
        subst (λ (s : Stream). IsPulled (IsFrameHandled now) first start None s after) (sym left_is)
        (subst (λ (p : Protocol). IsPulled (IsFrameHandled now) first start None (after_look here) p) (sym same) (onward.ok None (after_look here) state (Ends here state none)))

    pub gives : (given : Option PeerPayload) → IsTakenOff now here state (Some given) left after → is_some given ≡ true → IsPulled (IsFrameHandled now) first start given left after
    gives None taken is = absurd (Prim.cc is)
    gives (Some payload) (some, handled, left_is) is =
        subst (λ (s : Stream). IsPulled (IsFrameHandled now) first start (Some payload) s after) (sym left_is) (onward.ok (Some payload) (after_look here) after (Gives here state payload after some handled))

    pub goes : (given : Option PeerPayload) → IsTakenOff now here state (Some given) left after → is_some given ≡ false → IsOnward left after
    goes (Some payload) taken is = absurd (Prim.cc is)
    goes None (some, handled, left_is) is = record {
      ok = λ given last end more. onward.ok given last end (Goes here state after given last end some handled (subst (λ (s : Stream). IsPulled (IsFrameHandled now) s after given last end) left_is more));
      err = λ end more. onward.err end (Later here state after end some handled (subst (λ (s : Stream). IsLostOn now s after end) left_is more));
    }

    pub less : (given : Option PeerPayload) → IsTakenOff now here state (Some given) left after → length left.stored < length here.stored
    less given (some, handled, left_is) = subst (λ (s : Stream). length s.stored < length here.stored) (sym left_is) (shorter here some)

  pub lost : (here : Stream) (state after : Protocol) → IsOnward here state → ¬ IsNone (looked here) → Needs state (frame_of here) → HasFailed state after → IsLostOn now first start after
  lost here state after onward some needs failed = onward.err after (Here here state after some needs failed)

-- What holds anyway holds if a call failed.
pub on_err : {A : Type 0} {R E : Type 0} (r : Result R E) → A → OnErr r A
on_err (Ok x) holds = tt
on_err (Err e) holds = holds
