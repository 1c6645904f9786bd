-- A message that was received is a step of a run.
use Rattle.std.proofs.Common.{◌≡◌, ℕ, Bool, true, false, ◌&&◌, List, [], ◌∷◌, None, refl, subst}
use Rattle.turn_client_proto_timers.specs.StunTypesWire.Attributes.{kind_at}
use Rattle.turn_client_proto_timers.specs.StunTypesWire.Grammar.{number_at, refusal}
use Rattle.turn_client_proto_timers.specs.StunTypesWire.Headers.{AreBytes}
use Rattle.turn_client_proto_timers.specs.StunTypesWire.Types.{class_of}
use Rattle.turn_client_proto_timers.specs.StunProtoAgent.Handling.{is_response}
use Rattle.turn_client_proto_timers.specs.Allocation.Awaited.{has_number}
use Rattle.turn_client_proto_timers.specs.Core.Attempting.{IsIndicationTaken}
use Rattle.turn_client_proto_timers.specs.Core.Authenticating.{IsFirstJudged, IsSignedJudged}
use Rattle.turn_client_proto_timers.specs.Core.Receiving.{IsFollowed, IsProcessed, IsProcessedIn, is_unawaited}
use Rattle.turn_client_proto_timers.specs.TurnRuns.Indications.{is_indication}
use Rattle.turn_client_proto_timers.specs.Core.Standing.{IsJudgedStanding}
use Rattle.turn_client_proto_timers.specs.Core.declared.protocol.Phase.{Phase}
use Rattle.turn_client_proto_timers.specs.Core.declared.protocol.Phase.TheVariants.{Initial, InitialSent, Authenticating, Authenticated, Ended}
use Rattle.turn_client_proto_timers.specs.Core.declared.protocol.Protocol.{Protocol}
use Rattle.turn_client_proto_step_laws.specs.RunClient.{Client}
use Rattle.turn_client_proto_step_laws.specs.RunSteps.{IsRunStep}
use Rattle.turn_client_proto_step_laws.specs.Sound.{BeforeAllocated, CanAsk, IsSound, UntilEnded}
use Rattle.turn_client_proto_step_laws.proofs.Ending.{still}
use Rattle.turn_client_proto_step_laws.proofs.Offering.{indication_step}
use Rattle.turn_client_proto_step_laws.proofs.Processing.{IsAllocating, first_judged, signed_judged}
use Rattle.turn_client_proto_step_laws.proofs.Polling.{by_test}
use Rattle.turn_client_proto_step_laws.proofs.Standing.{standing_judged}

first_of : (x y : Bool) → (x && y) ≡ true → x ≡ true
first_of true y h = refl
first_of false y h = absurd (Prim.cc h)

module _ (c : Client) (bytes : List ℕ) (now : ℕ) (handled : Bool) (new : Protocol) (sound : IsSound c) where
  can_at : (phase : Phase) → c.core.phase ≡ phase → UntilEnded phase (CanAsk c)
  can_at phase at = subst (λ (f : Phase). UntilEnded f (CanAsk c)) at sound.can_ask

  allocating_at : (phase : Phase) → c.core.phase ≡ phase → IsAllocating phase → IsAllocating c.core.phase
  allocating_at phase at is A h = is A (subst (λ (f : Phase). BeforeAllocated f A) at h)

  ignored : (handled ≡ false) × (new ≡ c.core) → IsRunStep c (bytes ∷ []) None [] new
  ignored o = still c (bytes ∷ []) new sound o.1

  processed_in : (phase : Phase) → AreBytes bytes → refusal bytes ≡ None → c.core.phase ≡ phase → IsProcessedIn phase c.core bytes now handled new → IsRunStep c (bytes ∷ []) None [] new
  processed_in Initial are_bytes message at h = ignored h
  processed_in Ended are_bytes message at h = ignored h
  processed_in (InitialSent numbers) are_bytes message at h =
      by_test (is_response bytes)
      (λ (_ : is_response bytes ≡ true) (f : IsFollowed IsFirstJudged c.core bytes now handled new).
      first_judged c bytes now sound.orderly (can_at (InitialSent numbers) at) (allocating_at (InitialSent numbers) at (λ A x. x)) f.verdict f.auth handled new f.is_judged f.outcome)
      (λ (_ : is_response bytes ≡ false). ignored) h
  processed_in (Authenticating numbers) are_bytes message at h =
      by_test (is_response bytes && has_number (number_at bytes) numbers)
      (λ (passes : (is_response bytes && has_number (number_at bytes) numbers) ≡ true) (f : IsFollowed IsSignedJudged c.core bytes now handled new).
      signed_judged c bytes now sound.orderly (can_at (Authenticating numbers) at) (allocating_at (Authenticating numbers) at (λ A x. x)) are_bytes message
      (first_of (is_response bytes) (has_number (number_at bytes) numbers) passes) f.verdict f.auth handled new f.is_judged f.outcome)
      (λ (_ : (is_response bytes && has_number (number_at bytes) numbers) ≡ false). ignored) h
  processed_in Authenticated are_bytes message at h =
      by_test (is_indication (class_of (kind_at bytes)))
      (λ (indication : is_indication (class_of (kind_at bytes)) ≡ true) (o : IsIndicationTaken c.core bytes handled new).
      indication_step c bytes handled new sound (can_at Authenticated at) message indication o)
      (λ (_ : is_indication (class_of (kind_at bytes)) ≡ false) (f : IsFollowed IsJudgedStanding c.core bytes now handled new).
      standing_judged c bytes now sound.orderly (can_at Authenticated at) at are_bytes message f.verdict f.auth handled new f.is_judged f.outcome) h

pub receive_step : (c : Client) (bytes : List ℕ) (now : ℕ) (handled : Bool) (new : Protocol) → IsSound c → AreBytes bytes → refusal bytes ≡ None → IsProcessed c.core bytes now handled new → IsRunStep c (bytes ∷ []) None [] new
receive_step c bytes now handled new sound are_bytes message is =
    by_test (is_unawaited c.core bytes)
    (λ (_ : is_unawaited c.core bytes ≡ true). ignored c bytes now handled new sound)
    (λ (_ : is_unawaited c.core bytes ≡ false). processed_in c bytes now handled new sound c.core.phase are_bytes message refl) is
