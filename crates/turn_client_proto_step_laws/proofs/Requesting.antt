-- A request of a caller for permissions is a step of a run.
use Rattle.std.proofs.Common.{◌≡◌, ℕ, Bool, true, false, if◌then◌else◌, List, [], ◌∷◌, Option, Some, None, Result, Ok, Err, refl, sym, subst, inl}
use Rattle.std.specs.Prelude.{IfNone, IfSome, MatchResult}
use Rattle.std.specs.declared.net.ip_addr.IpAddr.{IpAddr}
use Rattle.turn_client_proto_timers.specs.StunTypesBase.declared.transport.TransportType.{TransportType}
use Rattle.turn_client_proto_timers.specs.TurnRuns.StunWire.{decoded_by}
use Rattle.turn_client_proto_timers.specs.Allocation.Changes.{change_first}
use Rattle.turn_client_proto_timers.specs.Api.declared.error.CreatePermissionError.{CreatePermissionError}
use Rattle.turn_client_proto_timers.specs.Api.declared.error.CreatePermissionError.TheVariants.{AlreadyExists, NoAllocation, NoMemory}
use Rattle.turn_client_proto_timers.specs.Api.declared.error.CreatePermissionsError.{CreatePermissionsError}
use Rattle.turn_client_proto_timers.specs.Allocation.Permissions.{each_once}
use Rattle.turn_client_proto_timers.specs.Peers.Permission.Asking.{asking, is_of, is_past, marked}
use Rattle.turn_client_proto_timers.specs.Messages.Requests.{request_text}
use Rattle.turn_client_proto_timers.specs.Messages.declared.request.TurnRequest.{TurnRequest}
use Rattle.turn_client_proto_timers.specs.Messages.declared.request.TurnRequest.TheVariants.{CreatePermission}
use Rattle.turn_client_proto_timers.specs.Core.Asking.{requested}
use Rattle.turn_client_proto_timers.specs.Core.Deleting.{is_authenticated}
use Rattle.turn_client_proto_timers.specs.Core.Numbering.{after_number}
use Rattle.turn_client_proto_timers.specs.Core.Permitting.{AreAnsweredAmong, AreInvalid, ArePermissionsAnswered, IsAnsweredAmong, IsPermissionAnswered, IsPermissionRequested, after_asking, allocation_for, changed_for, family_of_ip, knows_any, may_name, permissions_refusal, refusal_among, refused_in}
use Rattle.turn_client_proto_timers.specs.Core.declared.protocol.Phase.{Phase}
use Rattle.turn_client_proto_timers.specs.Core.declared.protocol.Phase.TheVariants.{Initial, InitialSent, Authenticating, Authenticated, Ended}
use Rattle.turn_client_proto_timers.specs.Core.declared.protocol.Protocol.{Protocol}
use Rattle.turn_client_proto_step_laws.specs.Held.{Allocation}
use Rattle.turn_client_proto_step_laws.specs.RunClient.{Client, Parts, parts_of}
use Rattle.turn_client_proto_step_laws.specs.RunSteps.{IsRunStep}
use Rattle.turn_client_proto_step_laws.specs.Sound.{CanAsk, IsOrderly, IsSound, UntilEnded}
use Rattle.turn_client_proto_step_laws.proofs.Adding.{AreLess, adds_both, allocations_less}
use Rattle.turn_client_proto_step_laws.proofs.Asking.{IsMade, IsUnderWay, requested_adds, requested_orderly, asks, at_first, made}
use Rattle.turn_client_proto_step_laws.proofs.Ending.{still, still_can}
use Rattle.turn_client_proto_step_laws.proofs.Lessening.{first_less, marked_less, same_first_distinct}
use Rattle.turn_client_proto_step_laws.proofs.Orderly.{allocations_orderly, until_map}
use Rattle.turn_client_proto_step_laws.proofs.Permissions.{asking_permitting, first_permitting, pending_for}
use Rattle.turn_client_proto_step_laws.proofs.Permits.{asks_by, made_number, permission_fit}
use Rattle.turn_client_proto_step_laws.proofs.Fitting.{permitting_orderly}
use Rattle.turn_client_proto_step_laws.proofs.Permitting.{ArePermitting, allocations_permitting, none_gained}
use Rattle.turn_client_proto_step_laws.proofs.Plain.{counts_none, nothing_transmitted, quiet, run_step}
use Rattle.turn_client_proto_step_laws.proofs.Polling.{by_test}
use Rattle.turn_client_proto_step_laws.proofs.Refreshing.{allocated, number_transmitted}

-- The first allocation that passes is marked as expired.
pub marks_first : (c : Client) (passes : Allocation → Bool) → IsSound c → IsRunStep c [] None [] (record c.core { allocations = change_first passes marked c.core.allocations })
marks_first c passes sound =
    let left : List Allocation = change_first passes marked c.core.allocations in
    let less : AreLess [] c.core.allocations left = first_less [] marked marked_less passes c.core.allocations in
    let core : Protocol = record c.core { allocations = left } in
    run_step [] [] None [] c c.transmitted core
    (quiet None [] c c.transmitted core (counts_none c core refl) (λ realm h. inl h) (allocations_less [] [] (parts_of c.core) left less (λ r h. absurd h)) (nothing_transmitted [] c) refl)
    (allocations_orderly [] (parts_of c.core) left less (λ r h. absurd h)
    (same_first_distinct passes marked (λ a. (refl, refl)) c.core.allocations sound.orderly.distinct) sound.orderly) (until_map c.core.phase (still_can c core refl refl refl refl) sound.can_ask)

pub authenticated : (phase : Phase) → is_authenticated phase ≡ true → phase ≡ Authenticated
authenticated Initial h = absurd (Prim.cc h)
authenticated (InitialSent numbers) h = absurd (Prim.cc h)
authenticated (Authenticating numbers) h = absurd (Prim.cc h)
authenticated Authenticated h = refl
authenticated Ended h = absurd (Prim.cc h)

module _ (c : Client) (transport : TransportType) (ip : IpAddr) (others : List IpAddr) (now : ℕ) where
  abbrev request : TurnRequest
  request = CreatePermission (each_once (ip ∷ others))

  -- The permissions are requested.
  asks_for : (number : ℕ) → IsOrderly (parts_of c.core) → c.core.phase ≡ Authenticated → IsUnderWay c [] c.core → IsMade c.core request number → IsRunStep c [] None [] (after_asking transport ip others number now c.core)
  unfolding after_asking requested
  asks_for number orderly occurs under_way is =
      let text = request_text c.core.auth request number in
      let mid : Parts = parts_of (requested (after_number c.core) request number now) in
      let left : List Allocation = changed_for transport ip (asking (pending_for ip others number)) c.core.allocations in
      let are : ArePermitting none_gained (asks_by request number) c.core.allocations left =
      first_permitting none_gained (asks_by request number) (is_of transport (family_of_ip ip)) (asking (pending_for ip others number)) c.core.allocations (λ a found. asking_permitting ip others number a) in
      let adds = adds_both (decoded_by text ∷ []) (parts_of c.core) mid (record mid { allocations = left }) (requested_adds c.core request number now)
      (allocations_permitting (decoded_by text ∷ []) (asks_by request number) mid left are (made_number c.core request number now is)) in
      let stored = permitting_orderly none_gained (asks_by request number) mid left are (permission_fit c.core (each_once (ip ∷ others)) number now is)
      (requested_orderly c.core request number now is (allocated _ c.core.phase occurs) orderly)
      (same_first_distinct (is_of transport (family_of_ip ip)) (asking (pending_for ip others number)) (λ a. (refl, refl)) c.core.allocations orderly.distinct) in
      asks c c.core request number under_way is None (after_asking transport ip others number now c.core) adds stored refl (λ realm h. h) under_way.can_ask.settings refl refl (nothing_transmitted (decoded_by text ∷ []) c)

  refused : (found : Option Allocation) (new : Protocol) → IsSound c → new ≡ refused_in found transport ip now c.core → IsRunStep c [] None [] new
  refused None new sound is = still c [] new sound is
  refused (Some a) new sound is =
      subst (λ (p : Protocol). IsRunStep c [] None [] p) (sym is)
      (elim (is_past now a) as (λ b. IsRunStep c [] None [] (if b then record c.core { allocations = changed_for transport ip marked c.core.allocations } else c.core)) [
        | true ↦ marks_first c (is_of transport (family_of_ip ip)) sound
        | false ↦ still c [] c.core sound refl
      ])

  answered : (answer : Result (Unit {0}) CreatePermissionError) (new : Protocol) → IsSound c → c.core.phase ≡ Authenticated → CanAsk c
      → MatchResult answer (λ _. IsPermissionRequested c.core transport ip others now new) (λ error. (error ≡ NoMemory) × (new ≡ after_number c.core)) → IsRunStep c [] None [] new
  answered (Ok x) new sound occurs can is =
      let under_way = at_first c [] sound.orderly can in
      subst (λ (p : Protocol). IsRunStep c [] None [] p) (sym is.after)
      (asks_for is.number sound.orderly occurs under_way (made c c.core request is.number under_way is.lawful tt is.is_next))
  answered (Err e) new sound occurs can is = subst (λ (p : Protocol). IsRunStep c [] None [] p) (sym is.1) (number_transmitted c sound)

  -- If the call is not refused, the server has allocated.
  is_active_by : (found : Option Allocation) (phase : Phase) → refusal_among found phase ip others now ≡ None → is_authenticated phase ≡ true
  is_active_by None phase none = absurd (Prim.cc none)
  is_active_by (Some a) phase none =
      elim (is_past now a) as (λ (b : Bool). (if b then Some NoAllocation else (if knows_any ip others a then Some AlreadyExists else (if is_authenticated phase then None else Some NoAllocation))) ≡ None → is_authenticated phase ≡ true) [
        | true ↦ λ h. absurd (Prim.cc h)
        | false ↦ elim (knows_any ip others a) as (λ (b : Bool). (if b then Some AlreadyExists else (if is_authenticated phase then None else Some NoAllocation)) ≡ None → is_authenticated phase ≡ true) [
          | true ↦ λ h. absurd (Prim.cc h)
          | false ↦ elim (is_authenticated phase) as (λ (b : Bool). (if b then None else Some NoAllocation) ≡ None → b ≡ true) [
            | true ↦ λ h. refl
            | false ↦ λ h. absurd (Prim.cc h)
          ]
        ]
      ] none

  among_step : (answer : Result (Unit {0}) CreatePermissionError) (new : Protocol) → IsSound c → IsAnsweredAmong c.core transport ip others now answer new → IsRunStep c [] None [] new
  among_step answer new sound is = by (permissions_refusal c.core transport ip others now) refl is.refused is.requested
    where
      by : (o : Option CreatePermissionError) → permissions_refusal c.core transport ip others now ≡ o
          → IfSome o (λ error. (answer ≡ Err error) × (new ≡ refused_in (allocation_for transport ip c.core) transport ip now c.core))
          → IfNone o (MatchResult answer (λ _. IsPermissionRequested c.core transport ip others now new) (λ error. (error ≡ NoMemory) × (new ≡ after_number c.core)))
          → IsRunStep c [] None [] new
      by (Some error) at rejected none = refused (allocation_for transport ip c.core) new sound rejected.1
      by None at none going =
          let occurs = authenticated c.core.phase (is_active_by (allocation_for transport ip c.core) c.core.phase at) in
          answered answer new sound occurs (subst (λ (f : Phase). UntilEnded f (CanAsk c)) occurs sound.can_ask) going

pub permission_step : (c : Client) (transport : TransportType) (ip : IpAddr) (now : ℕ) (answer : Result (Unit {0}) CreatePermissionError) (new : Protocol) → IsSound c → IsPermissionAnswered c.core transport ip now answer new → IsRunStep c [] None [] new
permission_step c transport ip now answer new sound is = among_step c transport ip [] now answer new sound is

-- The addresses alone refuse it, or they can stand in one request.
pub permissions_step : (c : Client) (transport : TransportType) (ips : List IpAddr) (now : ℕ) (answer : Result (Unit {0}) CreatePermissionsError) (new : Protocol) → IsSound c → ArePermissionsAnswered c.core transport ips now answer new → IsRunStep c [] None [] new
permissions_step c transport [] now answer new sound is = still c [] new sound is.1
permissions_step c transport (ip ∷ others) now answer new sound is =
    by_test (may_name ip others)
    (λ (_ : may_name ip others ≡ true) (many : AreAnsweredAmong c.core transport ip others now answer new). among_step c transport ip others now many.among new sound many.answered)
    (λ (_ : may_name ip others ≡ false) (invalid : AreInvalid c.core answer new). still c [] new sound invalid.1) is
