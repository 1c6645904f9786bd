-- A client requests a permission, by the contract of `create_permission` alone.
use Rattle.std.proofs.Common.{◌≡◌, ℕ, ◌<◌, Bool, true, false, List, [], ◌∷◌, Option, Some, None, refl, sym, ap, ◌∙◌, subst}
use Rattle.std.specs.Prelude.{IfNone, IfSome, MatchResult, Result, Ok, Err, find, if◌then◌else◌, nat_le}
use Rattle.std.specs.declared.net.ip_addr.IpAddr.{IpAddr}
use Rattle.std.proofs.lemmas.Bool.{lt-leb, leb-false}
use Rattle.turn_client_proto_messages.specs.StunTypesBase.Family.{family_of_ip, family_of_socket}
use Rattle.turn_client_proto_messages.specs.StunTypesBase.declared.transport.TransportType.TheVariants.{Tcp}
use Rattle.turn_client_proto_messages.specs.Allocation.Changes.{change_first}
use Rattle.turn_client_proto_messages.specs.Allocation.declared.allocation.Allocation.{Allocation}
use Rattle.turn_client_proto_messages.specs.Api.Families.{is_same_family}
use Rattle.turn_client_proto_messages.specs.Api.declared.error.CreatePermissionError.{CreatePermissionError}
use Rattle.turn_client_proto_messages.specs.Api.declared.error.CreatePermissionError.TheVariants.{NoAllocation, NoMemory}
use Rattle.turn_client_proto_messages.specs.Api.declared.event.TurnEvent.{TurnEvent}
use Rattle.turn_client_proto_handshake_laws.specs.Core.Asking.{requested}
use Rattle.turn_client_proto_handshake_laws.specs.Core.Numbering.{after_draw, after_number}
use Rattle.turn_client_proto_handshake_laws.specs.Core.Permitting.{IsPermissionAnswered, IsPermissionRequested, after_asking, allocation_for, permission_refusal, refusal_in, refused_in}
use Rattle.turn_client_proto_handshake_laws.specs.Core.declared.protocol.Phase.{Phase}
use Rattle.turn_client_proto_handshake_laws.specs.Core.declared.protocol.Protocol.{Protocol}
use Rattle.turn_client_proto_messages.specs.declared.request.TurnRequest.TheVariants.{CreatePermission}
use Rattle.turn_client_proto_step_laws.specs.Peers.Permission.Asking.{asking, is_of}
use Rattle.turn_client_proto_progress_laws.proofs.TcpBinding.Tools.{AreNumbered}
use Rattle.turn_client_proto_progress_laws.specs.Holders.{Holder}
use Rattle.turn_client_proto_progress_laws.specs.TcpBinding.{HasRequestedPermission, IsHolding, allocation_with, permitting}
use Rattle.turn_client_proto_progress_laws.proofs.TcpBinding.Asks.{has_requested, number_fits}
use Rattle.turn_client_proto_progress_laws.proofs.TcpBinding.Same.{equal_families, same_family}

module _ (h : Holder) (last : ℕ) (events : List TurnEvent) (p : Protocol) (w : IsHolding h last events p) (ip : IpAddr) (now : ℕ) where
  abbrev held : Allocation
  held = allocation_with h [] [] [] [] []

  abbrev family : Bool
  family = is_same_family (family_of_socket h.address) (family_of_ip ip)

  found : allocation_for Tcp ip p ≡ (if family then Some held else None)
  found = ap (find (is_of Tcp (family_of_ip ip))) w.allocations

  refusal_is : permission_refusal p Tcp ip now ≡ (if family then (if nat_le held.expiry now then Some NoAllocation else None) else Some NoAllocation)
  refusal_is =
      ap (λ (o : Option Allocation). refusal_in o p.phase ip now) found
      ∙ (ap (λ (f : Phase). refusal_in (if family then Some held else None) f ip now) w.phase ∙ by family)
    where
      by : (b : Bool) → refusal_in (if b then Some held else None) Rattle.turn_client_proto_handshake_laws.specs.Core.declared.protocol.Phase.TheVariants.Authenticated ip now ≡ (if b then (if nat_le held.expiry now then Some NoAllocation else None) else Some NoAllocation)
      by true = refl
      by false = refl

  -- For an IP of the family of the client's relayed address, before the end, the call is refused only if
  -- memory runs out.
  pub permission_free : family_of_ip ip ≡ family_of_socket h.address → now < held.expiry → permission_refusal p Tcp ip now ≡ None
  permission_free same before =
      refusal_is
      ∙ (ap (λ (b : Bool). if b then (if nat_le held.expiry now then Some NoAllocation else None) else Some NoAllocation) (equal_families (family_of_socket h.address) (family_of_ip ip) (sym same))
      ∙ ap (λ (b : Bool). if b then Some NoAllocation else None) (lt-leb held.expiry now before))

  -- Otherwise there is a reason to refuse it.
  pub permission_unbarred : permission_refusal p Tcp ip now ≡ None → (family_of_ip ip ≡ family_of_socket h.address) × (now < held.expiry)
  permission_unbarred none = by family (nat_le held.expiry now) refl refl (sym refusal_is ∙ none)
    where
      by : (f past : Bool) → family ≡ f → nat_le held.expiry now ≡ past → (if f then (if past then Some NoAllocation else None) else Some NoAllocation) ≡ None → (family_of_ip ip ≡ family_of_socket h.address) × (now < held.expiry)
      by true true is over free = absurd (Prim.cc free)
      by true false is over free = (sym (same_family (family_of_socket h.address) (family_of_ip ip) is), leb-false held.expiry now over)
      by false past is over free = absurd (Prim.cc free)

  -- The result, by whether there is a reason.
  module _ (answer : Result (Unit {0}) CreatePermissionError) (q : Protocol) (is : IsPermissionAnswered p Tcp ip now answer q) where
    pub permission_taken : permission_refusal p Tcp ip now ≡ None → MatchResult answer (λ _. IsPermissionRequested p Tcp ip [] now q) (λ error. error ≡ NoMemory)
    permission_taken none =
        by answer (subst (λ (o : Option CreatePermissionError). IfNone o (MatchResult answer (λ _. IsPermissionRequested p Tcp ip [] now q) (λ error. (error ≡ NoMemory) × (q ≡ after_number p)))) none is.requested)
      where
        by : (x : Result (Unit {0}) CreatePermissionError) → MatchResult x (λ _. IsPermissionRequested p Tcp ip [] now q) (λ error. (error ≡ NoMemory) × (q ≡ after_number p)) → MatchResult x (λ _. IsPermissionRequested p Tcp ip [] now q) (λ error. error ≡ NoMemory)
        by (Ok u) a = a
        by (Err e) a = a.0

    pub permission_refused : answer ≡ Ok tt → permission_refusal p Tcp ip now ≡ None
    permission_refused ok = by (permission_refusal p Tcp ip now) is.refused
      where
        by : (o : Option CreatePermissionError) → IfSome o (λ error. (answer ≡ Err error) × (q ≡ refused_in (allocation_for Tcp ip p) Tcp ip now p)) → o ≡ None
        by None a = refl
        by (Some error) a = absurd (Prim.cc (sym ok ∙ a.0))

  -- The permission was requested.
  pub permission_requested : AreNumbered → (q : Protocol) → permission_refusal p Tcp ip now ≡ None → (k : IsPermissionRequested p Tcp ip [] now q) → HasRequestedPermission h ip k.number now last events q
  unfolding after_asking requested
  permission_requested numbered q none k =
      let same = (permission_unbarred none).0 in
      let changed : change_first (is_of Tcp (family_of_ip ip)) (asking (record { ip = ip; others = []; numbers = k.number ∷ [] })) p.allocations ≡ permitting h ip k.number ∷ [] =
      ap (change_first (is_of Tcp (family_of_ip ip)) (asking (record { ip = ip; others = []; numbers = k.number ∷ [] }))) w.allocations
      ∙ ap (λ (b : Bool). if b then permitting h ip k.number ∷ [] else held ∷ []) (equal_families (family_of_socket h.address) (family_of_ip ip) (sym same)) in
      subst (λ (x : Protocol). HasRequestedPermission h ip k.number now last events x) (sym k.after)
      (has_requested h None [] held [] last events p w (CreatePermission (ip ∷ [])) k.number now (number_fits p k.number k.is_next) k.lawful numbered
      (permitting h ip k.number) _ changed p.agent.here h.started.here w.settings.here (after_draw p.rng))
