-- The success response to a CREATE_PERMISSION comes to a client, and that to a CONNECT.
use Rattle.std.proofs.Common.{◌≡◌, ℕ, ◌++◌, Bool, true, List, [], ◌∷◌, Option, Some, None, refl, sym, ap, ◌∙◌, subst, append-nil}
use Rattle.std.specs.Prelude.{◌==◌, find, is_some, if◌then◌else◌}
use Rattle.std.specs.declared.net.ip_addr.IpAddr.{IpAddr}
use Rattle.std.specs.declared.net.socket_addr.SocketAddr.{SocketAddr}
use Rattle.std.proofs.lemmas.Bool.{eq-eqb}
use Rattle.turn_client_proto_messages.specs.StunTypesWire.Attributes.{kind_at}
use Rattle.turn_client_proto_messages.specs.StunTypesWire.Grammar.{number_at}
use Rattle.turn_client_proto_messages.specs.StunTypesWire.Types.{class_of, method_of}
use Rattle.turn_client_proto_messages.specs.StunTypesBase.declared.transport.TransportType.TheVariants.{Tcp}
use Rattle.turn_client_proto_messages.specs.StunProtoAgent.State as agents
use Rattle.turn_client_proto_messages.specs.TurnTypesAttributes.TurnRegistry.{channel_bind_method, connect_method, create_permission_method, refresh_method}
use Rattle.turn_client_proto_messages.specs.Allocation.Awaited.{has_number, renews_permission}
use Rattle.turn_client_proto_messages.specs.Allocation.declared.permission.Permission.{Permission}
use Rattle.turn_client_proto_messages.specs.Api.declared.event.TurnEvent.{TurnEvent}
use Rattle.turn_client_proto_messages.specs.Api.declared.event.TurnEvent.TheVariants.{PermissionCreated}
use Rattle.turn_client_proto_messages.specs.Allocation.PendingRequests.{addresses_for, pending_request, requested_of}
use Rattle.turn_client_proto_step_laws.specs.Peers.Permission.Permitted.{all_permitted}
use Rattle.turn_client_proto_messages.specs.Allocation.declared.pending.PendingRequest.{PendingRequest as Wanted}
use Rattle.turn_client_proto_messages.specs.Allocation.declared.pending.PendingRequest.TheVariants.{NewConnection, NewPermission}
use Rattle.turn_client_proto_step_laws.specs.Connection.Reported.{all_connected, answered as connections_answered, is_connect, reported_of, waiting_for}
use Rattle.turn_client_proto_handshake_laws.specs.Core.Binding.{IsBindResponded}
use Rattle.turn_client_proto_handshake_laws.specs.Core.Outcomes.{IsHandled, IsIgnored}
use Rattle.turn_client_proto_handshake_laws.specs.Core.Permitting.{IsGrantedFor, IsPermissionResponded, IsRefusedFor, granted}
use Rattle.turn_client_proto_handshake_laws.specs.Core.Receiving.{IsProcessed}
use Rattle.turn_client_proto_handshake_laws.specs.Core.Responding.{accepted, is_error_class, judged}
use Rattle.turn_client_proto_messages.specs.Reported.{connection_reported}
use Rattle.turn_client_proto_handshake_laws.specs.Core.Standing.{IsConnectResponded, IsRequestAnswered, after_connect, after_refresh}
use Rattle.turn_client_proto_handshake_laws.specs.Core.declared.protocol.Protocol.{Protocol}
use Rattle.turn_client_proto_step_laws.specs.Peers.Permission.Granted.{granted_for}
use Rattle.turn_client_proto_progress_laws.proofs.Asking.Addresses.{one_address}
use Rattle.turn_client_proto_progress_laws.proofs.TcpBinding.Tools.{where_false, where_true}
use Rattle.turn_client_proto_progress_laws.specs.Holders.{Holder}
use Rattle.turn_client_proto_progress_laws.specs.TcpBinding.{HasLearned, HasSentConnect, HasSentPermission, IsReady, allocation_with, connect_request, connecting_to, permission_request, permitting}
use Rattle.turn_client_proto_progress_laws.specs.Replies.{IsSuccessOf}
use Rattle.turn_client_proto_progress_laws.specs.Resting.{AreUnrenewed}
use Rattle.turn_client_proto_progress_laws.proofs.TcpBinding.Processes.{after_success, agent_after, success_processed}

-- The outcome, by the method of a success response.
module _ (p : Protocol) (bytes : List ℕ) (now : ℕ) (handled : Bool) (q : Protocol) where
  abbrev method : ℕ
  method = method_of (kind_at bytes)

  by_connect : IsRequestAnswered p bytes now handled q → method ≡ connect_method → IsConnectResponded p bytes handled q
  by_connect is same =
      let a = where_false (IsHandled (after_refresh bytes now p) handled q) _ (method == refresh_method) (ap (λ (m : ℕ). m == refresh_method) same) is in
      let b = where_false (IsPermissionResponded p bytes now handled q) _ (method == create_permission_method) (ap (λ (m : ℕ). m == create_permission_method) same) a in
      let c = where_false (IsBindResponded p bytes now handled q) _ (method == channel_bind_method) (ap (λ (m : ℕ). m == channel_bind_method) same) b in
      where_true (IsConnectResponded p bytes handled q) (IsIgnored p handled q) (method == connect_method) (ap (λ (m : ℕ). m == connect_method) same) c

  by_permission : IsRequestAnswered p bytes now handled q → method ≡ create_permission_method → IsPermissionResponded p bytes now handled q
  by_permission is same =
      let a = where_false (IsHandled (after_refresh bytes now p) handled q) _ (method == refresh_method) (ap (λ (m : ℕ). m == refresh_method) same) is in
      where_true (IsPermissionResponded p bytes now handled q) _ (method == create_permission_method) (ap (λ (m : ℕ). m == create_permission_method) same) a

number_same : (number : ℕ) → (number == number) ≡ true
number_same number = eq-eqb number number refl

-- ---- a permission

module _ (h : Holder) (ip : IpAddr) (number : ℕ) where
  permission_of : requested_of number (permitting h ip number) ≡ Some (NewPermission Tcp ip)
  unfolding requested_of
  permission_of = rw (number_same number) refl

  permission_by : pending_request number (permitting h ip number ∷ []) ≡ Some (NewPermission Tcp ip)
  permission_by = rw permission_of (rw permission_of refl)

  addresses_by : addresses_for number (permitting h ip number ∷ []) ≡ ip ∷ []
  addresses_by = one_address number ip (number ∷ []) (permitting h ip number) (ap is_some permission_of) (rw (number_same number) refl)

  permitted_so : (now : ℕ) → all_permitted ip number now (permitting h ip number ∷ []) ≡ allocation_with h (granted_for ip now ∷ []) [] [] [] [] ∷ []
  permitted_so now = rw permission_of (rw (number_same number) refl)

module _ (h : Holder) (ip : IpAddr) (number made last : ℕ) (events : List TurnEvent) (p : Protocol) (w : HasSentPermission h ip number made last events p) (bytes : List ℕ) (is : IsSuccessOf h create_permission_method number bytes) where
  pub permission_processed : (now : ℕ) (handled : Bool) (q : Protocol) → IsProcessed p bytes now handled q
      → (handled ≡ true) × IsReady h ip now last (events ++ PermissionCreated Tcp ip ∷ []) q
  unfolding accepted granted
  permission_processed now handled q processed =
      let k = success_processed h (permission_request h ip number made) [] (permitting h ip number) [] last events p w create_permission_method bytes is now handled q processed in
      let r = by_permission (accepted bytes (judged k.client p)) bytes now handled q k.answered is.method_is in
      let g = where_false (IsRefusedFor (pending_request (number_at bytes) p.allocations) (accepted bytes (judged k.client p)) (number_at bytes) handled q)
      (IsGrantedFor (pending_request (number_at bytes) p.allocations) (accepted bytes (judged k.client p)) (number_at bytes) now handled q) (is_error_class (class_of (kind_at bytes))) (ap is_error_class is.success) r in
      let what : pending_request (number_at bytes) p.allocations ≡ Some (NewPermission Tcp ip) =
      ap (λ (n : ℕ). pending_request n p.allocations) is.number_is ∙ (ap (pending_request number) w.allocations ∙ permission_by h ip number) in
      let addresses : addresses_for (number_at bytes) p.allocations ≡ ip ∷ [] =
      ap (λ (n : ℕ). addresses_for n p.allocations) is.number_is ∙ (ap (addresses_for number) w.allocations ∙ addresses_by h ip number) in
      let t : IsHandled (granted Tcp (ip ∷ []) (number_at bytes) now (accepted bytes (judged k.client p))) handled q =
      subst (λ (l : List IpAddr). IsHandled (granted Tcp l (number_at bytes) now (accepted bytes (judged k.client p))) handled q) addresses
      (subst (λ (o : Option Wanted). IsGrantedFor o (accepted bytes (judged k.client p)) (number_at bytes) now handled q) what g) in
      let all : all_permitted ip (number_at bytes) now p.allocations ≡ allocation_with h (granted_for ip now ∷ []) [] [] [] [] ∷ [] =
      ap (λ (n : ℕ). all_permitted ip n now p.allocations) is.number_is ∙ (ap (all_permitted ip number now) w.allocations ∙ permitted_so h ip number now) in
      let after = after_success h (permission_request h ip number made) [] (permitting h ip number) [] last events p w create_permission_method bytes is
      (allocation_with h (granted_for ip now ∷ []) [] [] [] []) (all_permitted ip (number_at bytes) now p.allocations) all
      (events ++ PermissionCreated Tcp ip ∷ []) (p.events ++ PermissionCreated Tcp ip ∷ []) (ap (λ (l : List TurnEvent). l ++ PermissionCreated Tcp ip ∷ []) w.events_are) k.client k.client_is 0 in
      let agent = agent_after h (permission_request h ip number made) [] (permitting h ip number) [] last events p w create_permission_method bytes is in (
        t.0,
        subst (λ (x : Protocol). IsReady h ip now last (events ++ PermissionCreated Tcp ip ∷ []) x) (sym (t.1
            ∙ ap (λ (y : agents.Agent). granted Tcp (ip ∷ []) (number_at bytes) now (record p { auth = k.client; agent = y; resends = 0 })) agent)) after,
      )

-- ---- a connection

unrenewed : (number : ℕ) (permissions : List Permission) → AreUnrenewed permissions → find (renews_permission number) permissions ≡ None
unrenewed number [] is = refl
unrenewed number (x ∷ rest) is =
    ap (λ (l : List ℕ). if has_number number l then Some x else find (renews_permission number) rest) is.0 ∙ unrenewed number rest is.1

module _ (h : Holder) (permissions : List Permission) (settled : AreUnrenewed permissions) (peer : SocketAddr) (number : ℕ) where
  connection_of : requested_of number (connecting_to h permissions peer number) ≡ Some (NewConnection peer)
  unfolding requested_of
  connection_of = rw (unrenewed number permissions settled) (rw (number_same number) refl)

  connection_by : pending_request number (connecting_to h permissions peer number ∷ []) ≡ Some (NewConnection peer)
  connection_by = rw connection_of (rw connection_of refl)

  connected_so : (connection : ℕ) → all_connected connection peer number (connecting_to h permissions peer number ∷ []) ≡ allocation_with h permissions [] [] (waiting_for connection peer ∷ []) [] ∷ []
  connected_so connection = rw connection_of (rw (number_same number) refl)

module _ (h : Holder) (permissions : List Permission) (settled : AreUnrenewed permissions) (peer : SocketAddr) (number made last : ℕ) (events : List TurnEvent) (p : Protocol) (w : HasSentConnect h permissions peer number made last events p)
    (connection : ℕ) (bytes : List ℕ) (is : IsSuccessOf h connect_method number bytes) (reported : connection_reported bytes ≡ Some connection) where
  pub connect_processed : (now : ℕ) (handled : Bool) (q : Protocol) → IsProcessed p bytes now handled q
      → (handled ≡ true) × HasLearned h permissions connection peer last events q
  unfolding accepted after_connect
  connect_processed now handled q processed =
      let k = success_processed h (connect_request h peer number made) [] (connecting_to h permissions peer number) [] last events p w connect_method bytes is now handled q processed in
      let r = by_connect (accepted bytes (judged k.client p)) bytes now handled q k.answered is.method_is in
      let what : pending_request (number_at bytes) p.allocations ≡ Some (NewConnection peer) =
      ap (λ (n : ℕ). pending_request n p.allocations) is.number_is ∙ (ap (pending_request number) w.allocations ∙ connection_by h permissions settled peer number) in
      let all : connections_answered (pending_request (number_at bytes) p.allocations) (connection_reported bytes) (number_at bytes) p.allocations ≡ allocation_with h permissions [] [] (waiting_for connection peer ∷ []) [] ∷ [] =
      ap (λ (o : Option Wanted). connections_answered o (connection_reported bytes) (number_at bytes) p.allocations) what
      ∙ (ap (λ (o : Option ℕ). connections_answered (Some (NewConnection peer)) o (number_at bytes) p.allocations) reported
      ∙ (ap (λ (n : ℕ). all_connected connection peer n p.allocations) is.number_is
      ∙ (ap (all_connected connection peer number) w.allocations ∙ connected_so h permissions settled peer number connection))) in
      let decodes : p.events ++ reported_of (pending_request (number_at bytes) p.allocations) (connection_reported bytes) ≡ events =
      ap (λ (o : Option Wanted). p.events ++ reported_of o (connection_reported bytes)) what
      ∙ (ap (λ (o : Option ℕ). p.events ++ reported_of (Some (NewConnection peer)) o) reported ∙ (append-nil p.events ∙ w.events_are)) in
      let after = after_success h (connect_request h peer number made) [] (connecting_to h permissions peer number) [] last events p w connect_method bytes is
      (allocation_with h permissions [] [] (waiting_for connection peer ∷ []) []) (connections_answered (pending_request (number_at bytes) p.allocations) (connection_reported bytes) (number_at bytes) p.allocations) all
      events (p.events ++ reported_of (pending_request (number_at bytes) p.allocations) (connection_reported bytes)) decodes k.client k.client_is 0 in
      let agent = agent_after h (connect_request h peer number made) [] (connecting_to h permissions peer number) [] last events p w connect_method bytes is in (
        r.0 ∙ ap is_connect what,
        subst (λ (x : Protocol). HasLearned h permissions connection peer last events x) (sym (r.1
            ∙ ap (λ (y : agents.Agent). after_connect bytes (record p { auth = k.client; agent = y; resends = 0 })) agent)) after,
      )
