-- REFRESH requests that a client makes.
use Rattle.std.proofs.Common.{◌≡◌, ℕ, ◌+◌, ◌<◌, ◌^◌, Bool, false, if◌then◌else◌, [], ◌∷◌, map, Option, Some, None, Result, Ok, Err, refl, sym, ap, ◌∙◌, subst, arith, inl, inr}
use Rattle.std.specs.Prelude.{IfNone, IfSome, MatchResult}
use Rattle.turn_client_proto_timers.specs.TurnRuns.Members.{IsIn}
use Rattle.turn_client_proto_timers.specs.TurnRuns.StunWire.{decoded_by}
use Rattle.turn_client_proto_timers.specs.Allocation.Refreshing.{deleted}
use Rattle.turn_client_proto_timers.specs.Api.declared.error.DeleteError.{DeleteError}
use Rattle.turn_client_proto_timers.specs.Api.declared.error.DeleteError.TheVariants.{NoAllocation, NoMemory}
use Rattle.turn_client_proto_timers.specs.Messages.Requests.{request_text}
use Rattle.turn_client_proto_timers.specs.Messages.declared.request.TurnRequest.TheVariants.{Refresh}
use Rattle.turn_client_proto_timers.specs.Core.Asking.{requested}
use Rattle.turn_client_proto_timers.specs.Core.Deleting.{IsDeleteAnswered, IsDeleted, after_delete, delete_refusal, is_authenticated}
use Rattle.turn_client_proto_timers.specs.Core.Numbering.{after_number}
use Rattle.turn_client_proto_timers.specs.Core.declared.protocol.Phase.{Phase}
use Rattle.turn_client_proto_timers.specs.Core.declared.protocol.Phase.TheVariants.{Initial, InitialSent, Authenticating, Authenticated, Ended}
use Rattle.turn_client_proto_timers.specs.Core.declared.protocol.Protocol.{Protocol}
use Rattle.turn_client_proto_step_laws.specs.Held.{PendingRefresh}
use Rattle.turn_client_proto_step_laws.specs.RunClient.{Client, Parts, moved, parts_of}
use Rattle.turn_client_proto_step_laws.specs.RunSteps.{IsRunStep}
use Rattle.turn_client_proto_step_laws.specs.Sound.{AreShort, BeforeAllocated, CanAsk, IsOrderly, IsSound, UntilEnded}
use Rattle.turn_client_proto_step_laws.proofs.Adding.{AreLess, HasNumber, adds_both, adds_none, allocations_less}
use Rattle.turn_client_proto_step_laws.proofs.Asking.{IsMade, IsUnderWay, requested_adds, requested_orderly, asks, at_first, made}
use Rattle.turn_client_proto_step_laws.proofs.Ending.{still}
use Rattle.turn_client_proto_step_laws.proofs.Lessening.{deleted_distinct, each_less, end_requested}
use Rattle.turn_client_proto_step_laws.proofs.Numbers.{words_after}
use Rattle.turn_client_proto_step_laws.proofs.Orderly.{allocations_orderly, until_map}
use Rattle.turn_client_proto_step_laws.proofs.Plain.{counts_one, nothing_transmitted, quiet, run_step}

-- ---- one REFRESH

-- The REFRESH that an allocation then awaits.
abbrev pub refresh_of : (number lifetime : ℕ) → PendingRefresh
refresh_of number lifetime = record { number = number; lifetime = lifetime }

-- Once the server has allocated, anything may be outstanding.
pub allocated : (A : Type 0) (phase : Phase) → phase ≡ Authenticated → BeforeAllocated phase A
allocated A phase is = subst (λ (f : Phase). BeforeAllocated f A) (sym is) tt

pub refresh_short : (number lifetime : ℕ) → lifetime < 2 ^ 32 → AreShort (refresh_of number lifetime ∷ [])
refresh_short number lifetime small r h = elim h [
  | inl is ↦ subst (λ (x : PendingRefresh). x.lifetime < 2 ^ 32) is small
  | inr none ↦ absurd none
]

pub refresh_made : (mid : Protocol) (number lifetime : ℕ) → IsMade mid (Refresh lifetime) number → (r : PendingRefresh) → IsIn r (refresh_of number lifetime ∷ [])
    → HasNumber r.number (decoded_by (request_text mid.auth (Refresh lifetime) number) ∷ [])
refresh_made mid number lifetime is r h = elim h [
  | inl own ↦ record {
    one = decoded_by (request_text mid.auth (Refresh lifetime) number);
    listed = inl refl;
    is = is.number_is ∙ ap (λ (x : PendingRefresh). x.number) own;
  }
  | inr none ↦ absurd none
]

-- ---- an end that is requested

module _ (c : Client) (number now : ℕ) (sound : IsOrderly (parts_of c.core)) (occurs : c.core.phase ≡ Authenticated) (under_way : IsUnderWay c [] c.core) (is : IsMade c.core (Refresh 0) number) where
  deletes : IsRunStep c [] None [] (after_delete number now c.core)
  unfolding after_delete requested
  deletes =
      let text = request_text c.core.auth (Refresh 0) number in
      let mid : Parts = parts_of (requested (after_number c.core) (Refresh 0) number now) in
      let less : AreLess (refresh_of number 0 ∷ []) c.core.allocations (map (deleted number now) c.core.allocations) =
      each_less (refresh_of number 0 ∷ []) (deleted number now) (end_requested number now) c.core.allocations in
      let adds = adds_both (decoded_by text ∷ []) (parts_of c.core) mid (record mid { allocations = map (deleted number now) c.core.allocations })
      (requested_adds c.core (Refresh 0) number now)
      (allocations_less (decoded_by text ∷ []) (refresh_of number 0 ∷ []) mid (map (deleted number now) c.core.allocations) less (refresh_made c.core number 0 is)) in
      let orderly = allocations_orderly (refresh_of number 0 ∷ []) mid (map (deleted number now) c.core.allocations) less (refresh_short number 0 (omega arith)) (deleted_distinct number now c.core.allocations sound.distinct)
      (requested_orderly c.core (Refresh 0) number now is (allocated _ c.core.phase occurs) sound) in
      asks c c.core (Refresh 0) number under_way is None (after_delete number now c.core) adds orderly refl (λ realm h. h) under_way.can_ask.settings refl refl (nothing_transmitted (decoded_by text ∷ []) c)

-- A client that could make requests still can, one transaction ID later.
can_still : (c : Client) → CanAsk c → CanAsk (moved c (c.transmitted + 1) (after_number c.core))
can_still c can = record {
  account = can.account;
  settled = can.settled;
  texts = can.texts;
  settings = can.settings;
  words = words_after c.core.rng c.transmitted c.seed can.words;
}

-- A transaction ID is generated, and nothing else is done.
pub number_transmitted : (c : Client) → IsSound c → IsRunStep c [] None [] (after_number c.core)
number_transmitted c sound =
    run_step [] [] None [] c (c.transmitted + 1) (after_number c.core)
    (quiet None [] c (c.transmitted + 1) (after_number c.core) (counts_one c (after_number c.core) refl) (λ realm h. inl h) (adds_none [] (parts_of c.core)) (nothing_transmitted [] c) refl)
    sound.orderly (until_map c.core.phase (can_still c) sound.can_ask)

-- The call is refused, and nothing changes.
rejected : (c : Client) (error : DeleteError) (refused : Option DeleteError) (answer : Result (Unit {0}) DeleteError) (new : Protocol) → IsSound c → refused ≡ Some error
    → IfSome refused (λ e. (answer ≡ Err e) × (new ≡ c.core)) → IsRunStep c [] None [] new
rejected c error None answer new sound is h = absurd (Prim.cc is)
rejected c error (Some e) answer new sound is h = still c [] new sound h.1

answered_by : (c : Client) (now : ℕ) (answer : Result (Unit {0}) DeleteError) (new : Protocol) → IsSound c → c.core.phase ≡ Authenticated → CanAsk c
    → MatchResult answer (λ _. IsDeleted c.core now new) (λ error. (error ≡ NoMemory) × (new ≡ after_number c.core)) → IsRunStep c [] None [] new
answered_by c now (Ok x) new sound occurs can is =
    let under_way = at_first c [] sound.orderly can in
    subst (λ (p : Protocol). IsRunStep c [] None [] p) (sym is.after)
    (deletes c is.number now sound.orderly occurs under_way (made c c.core (Refresh 0) is.number under_way (omega arith) tt is.is_next))
answered_by c now (Err e) new sound occurs can is = subst (λ (p : Protocol). IsRunStep c [] None [] p) (sym is.1) (number_transmitted c sound)

refused_at : (c : Client) (phase : Phase) → c.core.phase ≡ phase → is_authenticated phase ≡ false → delete_refusal c.core ≡ Some NoAllocation
refused_at c phase at none =
    ap (λ (b : Bool). if b then None else Some NoAllocation) (ap is_authenticated at ∙ none)

deleted_in : (c : Client) (now : ℕ) (answer : Result (Unit {0}) DeleteError) (new : Protocol) (phase : Phase) → IsSound c → c.core.phase ≡ phase → IsDeleteAnswered c.core now answer new → IsRunStep c [] None [] new
deleted_in c now answer new Initial sound at is = rejected c NoAllocation (delete_refusal c.core) answer new sound (refused_at c Initial at refl) is.refused
deleted_in c now answer new (InitialSent numbers) sound at is = rejected c NoAllocation (delete_refusal c.core) answer new sound (refused_at c (InitialSent numbers) at refl) is.refused
deleted_in c now answer new (Authenticating numbers) sound at is = rejected c NoAllocation (delete_refusal c.core) answer new sound (refused_at c (Authenticating numbers) at refl) is.refused
deleted_in c now answer new Ended sound at is = rejected c NoAllocation (delete_refusal c.core) answer new sound (refused_at c Ended at refl) is.refused
deleted_in c now answer new Authenticated sound at is =
    let none : delete_refusal c.core ≡ None = ap (λ (f : Phase). if is_authenticated f then None else Some NoAllocation) at in
    answered_by c now answer new sound at (subst (λ (f : Phase). UntilEnded f (CanAsk c)) at sound.can_ask)
    (subst (λ (o : Option DeleteError). IfNone o (MatchResult answer (λ _. IsDeleted c.core now new) (λ error. (error ≡ NoMemory) × (new ≡ after_number c.core)))) none is.requested)

pub delete_step : (c : Client) (now : ℕ) (answer : Result (Unit {0}) DeleteError) (new : Protocol) → IsSound c → IsDeleteAnswered c.core now answer new → IsRunStep c [] None [] new
delete_step c now answer new sound is = deleted_in c now answer new c.core.phase sound refl is
