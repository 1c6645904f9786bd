-- Requests for permissions.
use Rattle.std.proofs.Common.{◌≡◌, ℕ, true, false, List, [], ◌∷◌, Option, Some, None, Result, Err, position, slice_get, slice_set, refl, sym, ap, ◌∙◌, subst}
use Rattle.std.specs.Prelude.{IfNone, IfSome, MatchResult}
use Rattle.std.specs.declared.net.ip_addr.IpAddr.{IpAddr}
use Rattle.stun_types_base.specs.declared.transport.TransportType.{TransportType}
use Rattle.turn_client_proto_allocation.proofs.Changes.{change_first_at}
use Rattle.turn_client_proto_allocation.specs.Permissions.{each_once}
use Rattle.turn_client_proto_allocation.specs.declared.allocation.Allocation.{Allocation}
use Rattle.turn_client_proto_api.specs.declared.error.CreatePermissionError.{CreatePermissionError}
use Rattle.turn_client_proto_api.specs.declared.error.CreatePermissionError.TheVariants.{AlreadyExists, NoAllocation, NoMemory}
use Rattle.turn_client_proto_peers.specs.Permission.Asking.{asking, is_of, is_past}
use Rattle.turn_client_proto_messages.specs.ReportedRequests.{IsLawfulRequest}
use Rattle.turn_client_proto_messages.specs.declared.request.TurnRequest.TheVariants.{CreatePermission}
use Rattle.turn_client_proto_core.specs.Asking.{requested}
use Rattle.turn_client_proto_core.specs.Deleting.{is_authenticated}
use Rattle.turn_client_proto_core.specs.Numbering.{IsNextNumber, after_number}
use Rattle.turn_client_proto_core.specs.Permitting.{IsAnsweredAmong, IsPermissionRequested, after_asking, allocation_for, family_of_ip, knows_any, permissions_refusal, refusal_among, refused_in}
use Rattle.turn_client_proto_core.specs.declared.protocol.Phase.{Phase}
use Rattle.turn_client_proto_core.specs.declared.protocol.Protocol.{Protocol}

-- ---- refusals

module _ (phase : Phase) (ip : IpAddr) (others : List IpAddr) (now : ℕ) (a : Allocation) where
  pub past : is_past now a ≡ true → refusal_among (Some a) phase ip others now ≡ Some NoAllocation
  past is = rw is refl

  pub known : is_past now a ≡ false → knows_any ip others a ≡ true → refusal_among (Some a) phase ip others now ≡ Some AlreadyExists
  known not_past is = rw (not_past, is) refl

  pub ended : is_past now a ≡ false → knows_any ip others a ≡ false → is_authenticated phase ≡ false → refusal_among (Some a) phase ip others now ≡ Some NoAllocation
  ended not_past not_known is = rw (not_past, not_known, is) refl

  pub free : is_past now a ≡ false → knows_any ip others a ≡ false → is_authenticated phase ≡ true → refusal_among (Some a) phase ip others now ≡ None
  free not_past not_known is = rw (not_past, not_known, is) refl

module _ (old : Protocol) (transport : TransportType) (ip : IpAddr) (others : List IpAddr) (now : ℕ) where
  -- The result of a refused call, by the allocation that was found.
  pub refused_by : (found : Option Allocation) → allocation_for transport ip old ≡ found → (error : CreatePermissionError) (new : Protocol) → refusal_among found old.phase ip others now ≡ Some error
      → new ≡ refused_in found transport ip now old → IsAnsweredAmong old transport ip others now (Err error) new
  refused_by found is error new refusal after =
      let here : permissions_refusal old transport ip others now ≡ Some error = ap (λ (o : Option Allocation). refusal_among o old.phase ip others now) is ∙ refusal in
      let answer : Result (Unit {0}) CreatePermissionError = Err error in
      record {
        refused = subst (λ (o : Option CreatePermissionError). IfSome o (λ e. (answer ≡ Err e) × (new ≡ refused_in (allocation_for transport ip old) transport ip now old))) (sym here)
            (refl, after ∙ ap (λ (o : Option Allocation). refused_in o transport ip now old) (sym is));
        requested = subst (λ (o : Option CreatePermissionError). IfNone o (MatchResult answer (λ _. IsPermissionRequested old transport ip others now new) (λ e. (e ≡ NoMemory) × (new ≡ after_number old)))) (sym here) tt;
      }

  pub answered_by : (found : Option Allocation) → allocation_for transport ip old ≡ found → (answer : Result (Unit {0}) CreatePermissionError) (new : Protocol) → refusal_among found old.phase ip others now ≡ None
      → MatchResult answer (λ _. IsPermissionRequested old transport ip others now new) (λ e. (e ≡ NoMemory) × (new ≡ after_number old)) → IsAnsweredAmong old transport ip others now answer new
  answered_by found is answer new none outcome =
      let here : permissions_refusal old transport ip others now ≡ None = ap (λ (o : Option Allocation). refusal_among o old.phase ip others now) is ∙ none in
      record {
        refused = subst (λ (o : Option CreatePermissionError). IfSome o (λ e. (answer ≡ Err e) × (new ≡ refused_in (allocation_for transport ip old) transport ip now old))) (sym here) tt;
        requested = subst (λ (o : Option CreatePermissionError). IfNone o (MatchResult answer (λ _. IsPermissionRequested old transport ip others now new) (λ e. (e ≡ NoMemory) × (new ≡ after_number old)))) (sym here) outcome;
      }

  -- The result if a permission was requested in the allocation at `index`.
  pub requested_there : (index : ℕ) (a : Allocation) (number : ℕ) (new : Protocol) (read : Option Allocation) → position (is_of transport (family_of_ip ip)) old.allocations ≡ Some index → slice_get old.allocations index ≡ read → read ≡ Some a → IsNextNumber old number → IsLawfulRequest (CreatePermission (each_once (ip ∷ others)))
      → IfSome read (λ x. new ≡ record (requested (after_number old) (CreatePermission (each_once (ip ∷ others))) number now) { allocations = slice_set old.allocations index (asking (record { ip = ip; others = others; numbers = number ∷ [] }) x) })
      → IsPermissionRequested old transport ip others now new
  unfolding after_asking
  requested_there index a number new None here at_it none next lawful is = absurd (Prim.cc none)
  requested_there index a number new (Some x) here at_it some next lawful is = record {
    number = number;
    is_next = next;
    lawful = lawful;
    after = is ∙ ap (λ (l : List Allocation). record (requested (after_number old) (CreatePermission (each_once (ip ∷ others))) number now) { allocations = l })
        (change_first_at (is_of transport (family_of_ip ip)) (asking (record { ip = ip; others = others; numbers = number ∷ [] })) old.allocations index x here at_it);
  }
