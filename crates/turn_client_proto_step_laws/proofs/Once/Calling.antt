-- The result of a deletion or of a call for permissions, and the client afterwards, are determined, unless
-- memory runs out.
use Rattle.std.proofs.Common.{◌≡◌, ◌≢◌, ℕ, Bool, true, false, List, [], ◌∷◌, Option, Some, None, Result, Ok, Err, IfNone, IfSome, MatchResult, refl, sym, ap, ◌∙◌}
use Rattle.std.specs.Bool.{MatchBool}
use Rattle.std.specs.declared.net.ip_addr.IpAddr.{IpAddr}
use Rattle.turn_client_proto_timers.specs.StunTypesBase.declared.transport.TransportType.{TransportType}
use Rattle.turn_client_proto_timers.specs.Api.declared.error.CreatePermissionError.{CreatePermissionError}
use Rattle.turn_client_proto_timers.specs.Api.declared.error.CreatePermissionError.TheVariants as permission
use Rattle.turn_client_proto_timers.specs.Api.declared.error.CreatePermissionsError.{CreatePermissionsError}
use Rattle.turn_client_proto_timers.specs.Api.declared.error.CreatePermissionsError.TheVariants as several
use Rattle.turn_client_proto_timers.specs.Api.declared.error.DeleteError.{DeleteError}
use Rattle.turn_client_proto_timers.specs.Api.declared.error.DeleteError.TheVariants as deletion
use Rattle.turn_client_proto_timers.specs.Core.Deleting.{IsDeleteAnswered, IsDeleted, after_delete, delete_refusal}
use Rattle.turn_client_proto_timers.specs.Core.Numbering.{after_number}
use Rattle.turn_client_proto_timers.specs.Core.Permitting.{AreAnsweredAmong, AreInvalid, ArePermissionsAnswered, IsAnsweredAmong, IsPermissionAnswered, IsPermissionRequested, after_asking, allocation_for, as_several, may_name, permissions_refusal, refused_in}
use Rattle.turn_client_proto_timers.specs.Core.declared.protocol.Protocol.{Protocol}
use Rattle.turn_client_proto_step_laws.proofs.Once.Numbering.{next_same}

-- A call that is refused for a reason; or it is done, or memory ran out.
module _ {E : Type 0} (no_memory : E) (Refused : E → Protocol → Type 0) (Done : Protocol → Type 0) (lost : Protocol) where
  abbrev pub IsRefused : Option E → Result (Unit {0}) E → Protocol → Type 0
  IsRefused refusal answer new = IfSome refusal (λ error. (answer ≡ Err error) × Refused error new)

  abbrev pub IsDone : Option E → Result (Unit {0}) E → Protocol → Type 0
  IsDone refusal answer new = IfNone refusal (MatchResult answer (λ _. Done new) (λ error. (error ≡ no_memory) × (new ≡ lost)))

  pub call_same : ((error : E) (one other : Protocol) → Refused error one → Refused error other → one ≡ other) → ((one other : Protocol) → Done one → Done other → one ≡ other)
      → (refusal : Option E) (answer again : Result (Unit {0}) E) (one other : Protocol) → answer ≢ Err no_memory → again ≢ Err no_memory
      → IsRefused refusal answer one → IsDone refusal answer one → IsRefused refusal again other → IsDone refusal again other → (answer ≡ again) × (one ≡ other)
  call_same refused done (Some error) answer again one other enough ample a x b y = (a.0 ∙ sym b.0, refused error one other a.1 b.1)
  call_same refused done None (Ok _) (Ok _) one other enough ample a x b y = (refl, done one other x y)
  call_same refused done None (Err error) again one other enough ample a x b y = absurd (enough (ap (λ (e : E). Err e) x.0))
  call_same refused done None (Ok _) (Err error) one other enough ample a x b y = absurd (ample (ap (λ (e : E). Err e) y.0))

module _ (old : Protocol) (now : ℕ) where
  deleted_same : (one other : Protocol) → IsDeleted old now one → IsDeleted old now other → one ≡ other
  deleted_same one other a b = a.after ∙ ap (λ (n : ℕ). after_delete n now old) (next_same old a.number b.number a.is_next b.is_next) ∙ sym b.after

  pub delete_same : (answer again : Result (Unit {0}) DeleteError) (one other : Protocol) → answer ≢ Err deletion.NoMemory → again ≢ Err deletion.NoMemory
      → IsDeleteAnswered old now answer one → IsDeleteAnswered old now again other → (answer ≡ again) × (one ≡ other)
  delete_same answer again one other enough ample a b =
      call_same deletion.NoMemory (λ error new. new ≡ old) (IsDeleted old now) (after_number old)
      (λ error p q x y. x ∙ sym y) deleted_same (delete_refusal old) answer again one other enough ample a.refused a.requested b.refused b.requested

module _ (old : Protocol) (transport : TransportType) (ip : IpAddr) (others : List IpAddr) (now : ℕ) where
  requested_same : (one other : Protocol) → IsPermissionRequested old transport ip others now one → IsPermissionRequested old transport ip others now other → one ≡ other
  requested_same one other a b = a.after ∙ ap (λ (n : ℕ). after_asking transport ip others n now old) (next_same old a.number b.number a.is_next b.is_next) ∙ sym b.after

  among_same : (answer again : Result (Unit {0}) CreatePermissionError) (one other : Protocol) → answer ≢ Err permission.NoMemory → again ≢ Err permission.NoMemory
      → IsAnsweredAmong old transport ip others now answer one → IsAnsweredAmong old transport ip others now again other → (answer ≡ again) × (one ≡ other)
  among_same answer again one other enough ample a b =
      call_same permission.NoMemory (λ error new. new ≡ refused_in (allocation_for transport ip old) transport ip now old) (IsPermissionRequested old transport ip others now) (after_number old)
      (λ error p q x y. x ∙ sym y) requested_same (permissions_refusal old transport ip others now) answer again one other enough ample a.refused a.requested b.refused b.requested

  -- The result, in the words of a call for several.
  several_same : (answer again : Result (Unit {0}) CreatePermissionsError) (one other : Protocol) → answer ≢ Err (several.Refused permission.NoMemory) → again ≢ Err (several.Refused permission.NoMemory)
      → AreAnsweredAmong old transport ip others now answer one → AreAnsweredAmong old transport ip others now again other → (answer ≡ again) × (one ≡ other)
  several_same answer again one other enough ample a b =
      let same = among_same a.among b.among one other (λ is. enough (a.is ∙ ap as_several is)) (λ is. ample (b.is ∙ ap as_several is)) a.answered b.answered in
      (a.is ∙ ap as_several same.0 ∙ sym b.is, same.1)

module _ (old : Protocol) (transport : TransportType) where
  pub permission_same : (ip : IpAddr) (now : ℕ) (answer again : Result (Unit {0}) CreatePermissionError) (one other : Protocol) → answer ≢ Err permission.NoMemory → again ≢ Err permission.NoMemory
      → IsPermissionAnswered old transport ip now answer one → IsPermissionAnswered old transport ip now again other → (answer ≡ again) × (one ≡ other)
  permission_same ip now answer again one other enough ample a b = among_same old transport ip [] now answer again one other enough ample a b

  invalid_same : (answer again : Result (Unit {0}) CreatePermissionsError) (one other : Protocol) → AreInvalid old answer one → AreInvalid old again other → (answer ≡ again) × (one ≡ other)
  invalid_same answer again one other a b = (a.0 ∙ sym b.0, a.1 ∙ sym b.1)

  pub permissions_same : (ips : List IpAddr) (now : ℕ) (answer again : Result (Unit {0}) CreatePermissionsError) (one other : Protocol) → answer ≢ Err (several.Refused permission.NoMemory) → again ≢ Err (several.Refused permission.NoMemory)
      → ArePermissionsAnswered old transport ips now answer one → ArePermissionsAnswered old transport ips now again other → (answer ≡ again) × (one ≡ other)
  permissions_same [] now answer again one other enough ample a b = invalid_same answer again one other a b
  permissions_same (ip ∷ others) now answer again one other enough ample a b = by (may_name ip others) a b
    where
      by : (may : Bool) → MatchBool may (AreAnsweredAmong old transport ip others now answer one) (AreInvalid old answer one)
          → MatchBool may (AreAnsweredAmong old transport ip others now again other) (AreInvalid old again other) → (answer ≡ again) × (one ≡ other)
      by true x y = several_same old transport ip others now answer again one other enough ample x y
      by false x y = invalid_same answer again one other x y
