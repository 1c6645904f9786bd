use Rattle.std.proofs.Common.{◌≡◌, ℕ, ◌++◌, Bool, true, false, List, [], ◌∷◌, Option, Some, None, refl, sym, ap, ◌∙◌, subst}
use Rattle.std.specs.Prelude.{◌==◌, ◌||◌, is_some}
use Rattle.std.proofs.lemmas.Bool.{eq-eqb}
use Rattle.std.specs.declared.net.ip_addr.IpAddr.{IpAddr}
use Rattle.turn_client_proto_messages.specs.StunTypesWire.Attributes.{kind_at}
use Rattle.turn_client_proto_messages.specs.StunTypesWire.Grammar.{number_at}
use Rattle.turn_client_proto_messages.specs.StunTypesWire.Types.{class_of, method_of}
use Rattle.turn_client_proto_messages.specs.StunTypesBase.declared.transport.TransportType.TheVariants.{Tcp}
use Rattle.turn_client_proto_messages.specs.StunProtoAgent.State as agents
use Rattle.turn_client_proto_messages.specs.TurnTypesAttributes.TurnRegistry.{create_permission_method, refresh_method}
use Rattle.turn_client_proto_messages.specs.Allocation.Awaited.{has_number}
use Rattle.turn_client_proto_messages.specs.Allocation.PendingRequests.{addresses_for, all_reissued_under, pending_request, requested_of}
use Rattle.turn_client_proto_messages.specs.Allocation.declared.pending.PendingRequest.{PendingRequest as Wanted}
use Rattle.turn_client_proto_messages.specs.Allocation.declared.pending.PendingRequest.TheVariants.{NewPermission}
use Rattle.turn_client_proto_messages.specs.Api.declared.event.TurnEvent.{TurnEvent}
use Rattle.turn_client_proto_messages.specs.Api.declared.event.TurnEvent.TheVariants.{PermissionCreated}
use Rattle.turn_client_proto_step_laws.specs.Peers.Permission.Granted.{granted_for}
use Rattle.turn_client_proto_step_laws.specs.Peers.Permission.Permitted.{all_permitted}
use Rattle.turn_client_proto_messages.specs.declared.request.TurnRequest.TheVariants.{CreatePermission}
use Rattle.turn_client_proto_handshake_laws.specs.Core.Outcomes.{IsHandled}
use Rattle.turn_client_proto_handshake_laws.specs.Core.Permitting.{IsGrantedFor, IsPermissionResponded, IsRefusedFor, granted}
use Rattle.turn_client_proto_handshake_laws.specs.Core.Receiving.{IsProcessed}
use Rattle.turn_client_proto_handshake_laws.specs.Core.Responding.{accepted, is_error_class, judged}
use Rattle.turn_client_proto_handshake_laws.specs.Core.Standing.{IsRequestAnswered, after_refresh}
use Rattle.turn_client_proto_handshake_laws.specs.Core.declared.protocol.Protocol.{Protocol}
use Rattle.turn_client_proto_progress_laws.specs.Holders.{Holder}
use Rattle.turn_client_proto_progress_laws.specs.Replies.{IsSuccessOf}
use Rattle.turn_client_proto_progress_laws.specs.TcpBinding.{IsReady, allocation_with, permission_request}
use Rattle.turn_client_proto_progress_laws.proofs.Asking.Addresses.{one_address}
use Rattle.turn_client_proto_progress_laws.proofs.TcpBinding.Processes.{after_success, agent_after, success_processed}
use Rattle.turn_client_proto_progress_laws.proofs.TcpBinding.Tools.{where_false, where_true}
use Rattle.turn_desk_laws.specs.ConnectionRequests.{IsPermitting, permitting_by}
use Rattle.turn_desk_laws.proofs.ConnectionAgain.{challenge_processed}
use Rattle.turn_desk_laws.proofs.challenged_connects.challenged_permissions_go_again.Goals as goal

or_true : (b : Bool) → (b || true) ≡ true
or_true true = refl
or_true false = refl

-- The last of some transaction IDs is among them.
has_last : (ids : List ℕ) (n : ℕ) → has_number n (ids ++ n ∷ []) ≡ true
has_last [] n = rw (eq-eqb n n refl) refl
has_last (x ∷ rest) n = ap (λ (b : Bool). (x == n) || b) (has_last rest n) ∙ or_true (x == n)

by_permission : (p : Protocol) (bytes : List ℕ) (now : ℕ) (handled : Bool) (q : Protocol) → IsRequestAnswered p bytes now handled q → method_of (kind_at bytes) ≡ create_permission_method → IsPermissionResponded p bytes now handled q
by_permission p bytes now handled q is same =
    let a = where_false (IsHandled (after_refresh bytes now p) handled q) _ (method_of (kind_at bytes) == refresh_method) (ap (λ (m : ℕ). m == refresh_method) same) is in
    where_true (IsPermissionResponded p bytes now handled q) _ (method_of (kind_at bytes) == create_permission_method) (ap (λ (m : ℕ). m == create_permission_method) same) a

module _ (h : Holder) (ip : IpAddr) (ids : List ℕ) (number : ℕ) (among : has_number number ids ≡ true) where
  permission_of : requested_of number (permitting_by h ip ids) ≡ Some (NewPermission Tcp ip)
  unfolding requested_of
  permission_of = rw among refl

  permission_by : pending_request number (permitting_by h ip ids ∷ []) ≡ Some (NewPermission Tcp ip)
  permission_by = rw permission_of (rw permission_of refl)

  addresses_by : addresses_for number (permitting_by h ip ids ∷ []) ≡ ip ∷ []
  addresses_by = one_address number ip ids (permitting_by h ip ids) (ap is_some permission_of) (rw among refl)

  permitted_so : (now : ℕ) → all_permitted ip number now (permitting_by h ip ids ∷ []) ≡ allocation_with h (granted_for ip now ∷ []) [] [] [] [] ∷ []
  permitted_so now = rw permission_of (rw among refl)

  reissued : (next : ℕ) → all_reissued_under (NewPermission Tcp ip) number next (permitting_by h ip ids ∷ []) ≡ permitting_by h ip (ids ++ next ∷ []) ∷ []
  reissued next = rw permission_of (rw among refl)

  module _ (made last : ℕ) (events : List TurnEvent) (p : Protocol) (w : IsPermitting h ip ids number made [] last events p) (bytes : List ℕ) (is : IsSuccessOf h create_permission_method number bytes) where
    pub permission_processed : (now : ℕ) (handled : Bool) (q : Protocol) → IsProcessed p bytes now handled q
        → IsReady h ip now last (events ++ PermissionCreated Tcp ip ∷ []) q × (q.resends ≡ 0)
    unfolding accepted granted
    permission_processed now handled q processed =
        let k = success_processed h (permission_request h ip number made) [] (permitting_by h ip ids) [] last events p w create_permission_method bytes is now handled q processed in
        let r = by_permission (accepted bytes (judged k.client p)) bytes now handled q k.answered is.method_is in
        let g = where_false (IsRefusedFor (pending_request (number_at bytes) p.allocations) (accepted bytes (judged k.client p)) (number_at bytes) handled q)
        (IsGrantedFor (pending_request (number_at bytes) p.allocations) (accepted bytes (judged k.client p)) (number_at bytes) now handled q) (is_error_class (class_of (kind_at bytes))) (ap is_error_class is.success) r in
        let what : pending_request (number_at bytes) p.allocations ≡ Some (NewPermission Tcp ip) =
        ap (λ (n : ℕ). pending_request n p.allocations) is.number_is ∙ (ap (pending_request number) w.allocations ∙ permission_by) in
        let addresses : addresses_for (number_at bytes) p.allocations ≡ ip ∷ [] =
        ap (λ (n : ℕ). addresses_for n p.allocations) is.number_is ∙ (ap (addresses_for number) w.allocations ∙ addresses_by) in
        let t : IsHandled (granted Tcp (ip ∷ []) (number_at bytes) now (accepted bytes (judged k.client p))) handled q =
        subst (λ (l : List IpAddr). IsHandled (granted Tcp l (number_at bytes) now (accepted bytes (judged k.client p))) handled q) addresses
        (subst (λ (o : Option Wanted). IsGrantedFor o (accepted bytes (judged k.client p)) (number_at bytes) now handled q) what g) in
        let all : all_permitted ip (number_at bytes) now p.allocations ≡ allocation_with h (granted_for ip now ∷ []) [] [] [] [] ∷ [] =
        ap (λ (n : ℕ). all_permitted ip n now p.allocations) is.number_is ∙ (ap (all_permitted ip number now) w.allocations ∙ permitted_so now) in
        let after = after_success h (permission_request h ip number made) [] (permitting_by h ip ids) [] last events p w create_permission_method bytes is
        (allocation_with h (granted_for ip now ∷ []) [] [] [] []) (all_permitted ip (number_at bytes) now p.allocations) all
        (events ++ PermissionCreated Tcp ip ∷ []) (p.events ++ PermissionCreated Tcp ip ∷ []) (ap (λ (l : List TurnEvent). l ++ PermissionCreated Tcp ip ∷ []) w.events_are) k.client k.client_is 0 in
        let agent = agent_after h (permission_request h ip number made) [] (permitting_by h ip ids) [] last events p w create_permission_method bytes is in (
          subst (λ (x : Protocol). IsReady h ip now last (events ++ PermissionCreated Tcp ip ∷ []) x) (sym (t.1
              ∙ ap (λ (y : agents.Agent). granted Tcp (ip ∷ []) (number_at bytes) now (record p { auth = k.client; agent = y; resends = 0 })) agent)) after,
          ap (λ (x : Protocol). x.resends) t.1,
        )

pub returns-clause-challenged : goal.returns-clause-challenged
returns-clause-challenged c = λ h ip ids id made last events old new bytes now handled reported some among is fewer challenge can processed.
    let a = challenge_processed h (permission_request h ip id made) (permitting_by h ip ids) last events old is fewer create_permission_method reported bytes challenge
    c.proof_requests_are_read.ensures.number c.proof_texts_stay_short.ensures.stay c.texts_stay_read.ensures.stay
    (NewPermission Tcp ip) (CreatePermission (ip ∷ [])) (ap CreatePermission (addresses_by h ip ids id among)) (permission_by h ip ids id among) (λ next. permitting_by h ip (ids ++ next ∷ [])) (reissued h ip ids id among) now new handled some can processed in
    record {
      choice = a.choice;
      can = a.answerable;
      transaction_id = a.next;
      fits = a.fits;
      other = a.other;
      lawful = a.lawful;
      counted = a.counted;
      all = ids ++ a.next ∷ [];
      among = has_last ids a.next;
      is = a.requested_is;
    }

pub returns-clause-granted : goal.returns-clause-granted
returns-clause-granted c = λ h ip ids id made last events old new bytes now handled among is success processed.
    permission_processed h ip ids id among made last events old is bytes success now handled new processed
