-- What a client does with the response to a CHANNEL_BIND is a step of a run.
use Rattle.std.proofs.Common.{◌≡◌, ℕ, Bool, true, false, List, [], ◌∷◌, ◌++◌, map, Option, Some, None, refl, sym, subst}
use Rattle.std.specs.declared.net.ip_addr.IpAddr.{IpAddr}
use Rattle.std.specs.declared.net.socket_addr.SocketAddr.{SocketAddr}
use Rattle.turn_client_proto_timers.specs.StunTypesWire.Attributes.{kind_at}
use Rattle.turn_client_proto_timers.specs.StunTypesWire.Grammar.{number_at}
use Rattle.turn_client_proto_timers.specs.StunTypesWire.Types.{class_of}
use Rattle.turn_client_proto_timers.specs.StunTypesBase.declared.transport.TransportType.{TransportType}
use Rattle.turn_client_proto_timers.specs.Api.declared.event.TurnEvent.TheVariants.{ChannelCreateFailed, PermissionCreateFailed}
use Rattle.turn_client_proto_timers.specs.Allocation.PendingRequests.{pending_request}
use Rattle.turn_client_proto_timers.specs.Peers.Channel.Granted as channels
use Rattle.turn_client_proto_timers.specs.Peers.Channel.Numbers.{AreDistinct}
use Rattle.turn_client_proto_timers.specs.Allocation.declared.pending.PendingRequest.{PendingRequest}
use Rattle.turn_client_proto_timers.specs.Allocation.declared.pending.PendingRequest.TheVariants.{ChannelRenewal, Lifetime, NewChannel, NewConnection, NewPermission, Renewal}
use Rattle.turn_client_proto_timers.specs.Peers.Permission.Granted as permissions
use Rattle.turn_client_proto_timers.specs.Core.Binding.{IsBindResponded, IsBoundFor, IsUnboundFor, bound, expires_due, permission_with, renews_channels, reported_with, rejected_with, unbound}
use Rattle.turn_client_proto_timers.specs.Core.Responding.{is_error_class}
use Rattle.turn_client_proto_timers.specs.Core.declared.protocol.Protocol.{Protocol}
use Rattle.turn_client_proto_timers.proofs.Peers.Distinct.{each_stay_distinct, expire_due_uses_less, renewed_uses_less, rejected_uses_less}
use Rattle.turn_client_proto_step_laws.specs.Held.{Allocation}
use Rattle.turn_client_proto_step_laws.specs.RunClient.{Client}
use Rattle.turn_client_proto_step_laws.specs.RunSteps.{IsRunStep}
use Rattle.turn_client_proto_step_laws.proofs.Asking.{IsUnderWay}
use Rattle.turn_client_proto_step_laws.proofs.Binding.{expire_due_permitting, renewed_permitting, rejected_permitting}
use Rattle.turn_client_proto_step_laws.proofs.Chaining.{chained}
use Rattle.turn_client_proto_step_laws.proofs.Processing.{done}
use Rattle.turn_client_proto_step_laws.proofs.Leaving.{left_step}
use Rattle.turn_client_proto_step_laws.proofs.Lessening.{same_distinct}
use Rattle.turn_client_proto_step_laws.proofs.Permissions as kin
use Rattle.turn_client_proto_step_laws.proofs.Permitting.{ArePermitting, each_permitting, none_asks, none_gained}
use Rattle.turn_client_proto_step_laws.proofs.Plain.{none_decoded, notices}
use Rattle.turn_client_proto_step_laws.proofs.Polling.{by_test}

module _ (c : Client) (mid : Protocol) (bytes : List ℕ) (now : ℕ) (under_way : IsUnderWay c (bytes ∷ []) mid) where
  abbrev number : ℕ
  number = number_at bytes

  -- ---- refused

  -- Requested channels were removed, and their permission.
  abbrev rejected : List Allocation
  rejected = map (channels.rejected number) mid.allocations

  first_down : ArePermitting none_gained none_asks mid.allocations rejected
  first_down = each_permitting none_gained none_asks (channels.rejected number) (rejected_permitting number) mid.allocations

  first_distinct : AreDistinct rejected
  first_distinct = each_stay_distinct mid.allocations (channels.rejected number) (rejected_uses_less number) under_way.orderly.distinct

  both_down : (ip : Option IpAddr) → ArePermitting none_gained none_asks mid.allocations (rejected_with ip number rejected)
  both_down None = first_down
  both_down (Some ip) = chained none_gained none_asks mid.allocations rejected (map (permissions.rejected number) rejected) first_down
      (each_permitting none_gained none_asks (permissions.rejected number) (kin.rejected_permitting number) rejected)

  both_distinct : (ip : Option IpAddr) → AreDistinct (rejected_with ip number rejected)
  both_distinct None = first_distinct
  both_distinct (Some ip) = same_distinct (permissions.rejected number) (kin.rejected_alike number) rejected first_distinct

  -- Nothing is reported as created.
  none_of_both : (transport : TransportType) (peer : SocketAddr) (ip : Option IpAddr) → notices (mid.events ++ ChannelCreateFailed transport peer ∷ reported_with (PermissionCreateFailed transport) ip) ≡ notices mid.events
  none_of_both transport peer None = none_decoded mid.events (ChannelCreateFailed transport peer ∷ []) refl
  none_of_both transport peer (Some ip) = none_decoded mid.events (ChannelCreateFailed transport peer ∷ PermissionCreateFailed transport ip ∷ []) refl

  unbound_step : (transport : TransportType) (peer : SocketAddr) (ip : Option IpAddr) → IsRunStep c (bytes ∷ []) None [] (unbound transport peer ip number mid)
  unfolding unbound
  unbound_step transport peer ip =
      left_step c mid bytes under_way (unbound transport peer ip number mid) (rejected_with ip number rejected) (both_down ip) (both_distinct ip) refl (none_of_both transport peer ip)

  -- Channels that were to be renewed have expired.
  expires_step : (transport : TransportType) (peer : SocketAddr) → IsRunStep c (bytes ∷ []) None [] (expires_due transport peer number mid)
  unfolding expires_due
  expires_step transport peer =
      left_step c mid bytes under_way (expires_due transport peer number mid) (map (channels.expire_due number) mid.allocations)
      (each_permitting none_gained none_asks (channels.expire_due number) (expire_due_permitting number) mid.allocations)
      (each_stay_distinct mid.allocations (channels.expire_due number) (expire_due_uses_less number) under_way.orderly.distinct) refl
      (none_decoded mid.events (ChannelCreateFailed transport peer ∷ []) refl)

  unbound_for : (what : Option PendingRequest) (handled : Bool) (new : Protocol) → IsUnboundFor what mid number handled new → IsRunStep c (bytes ∷ []) None [] new
  unbound_for None handled new h = done c (bytes ∷ []) mid new under_way h.1
  unbound_for (Some (Lifetime lifetime)) handled new h = done c (bytes ∷ []) mid new under_way h.1
  unbound_for (Some (NewConnection to)) handled new h = done c (bytes ∷ []) mid new under_way h.1
  unbound_for (Some (NewChannel transport channel peer)) handled new h =
      subst (λ (p : Protocol). IsRunStep c (bytes ∷ []) None [] p) (sym h.1) (unbound_step transport peer (permission_with number mid.allocations))
  unbound_for (Some (ChannelRenewal transport channel peer)) handled new h = subst (λ (p : Protocol). IsRunStep c (bytes ∷ []) None [] p) (sym h.1) (expires_step transport peer)
  unbound_for (Some (NewPermission transport ip)) handled new h = done c (bytes ∷ []) mid new under_way h.1
  unbound_for (Some (Renewal transport ip)) handled new h = done c (bytes ∷ []) mid new under_way h.1

  -- ---- granted

  renews_step : IsRunStep c (bytes ∷ []) None [] (renews_channels number now mid)
  unfolding renews_channels
  renews_step =
      left_step c mid bytes under_way (renews_channels number now mid) (map (channels.renewed number now) mid.allocations)
      (each_permitting none_gained none_asks (channels.renewed number now) (renewed_permitting number now) mid.allocations)
      (each_stay_distinct mid.allocations (channels.renewed number now) (renewed_uses_less number now) under_way.orderly.distinct) refl refl

  -- A requested channel is granted.
  abbrev pub BindsOne : Type 0
  BindsOne = (transport : TransportType) (channel : ℕ) (peer : SocketAddr) → pending_request number mid.allocations ≡ Some (NewChannel transport channel peer) → is_error_class (class_of (kind_at bytes)) ≡ false
      → IsRunStep c (bytes ∷ []) None [] (bound transport channel peer (permission_with number mid.allocations) number now mid)

  bound_for : BindsOne → (what : Option PendingRequest) (handled : Bool) (new : Protocol) → pending_request number mid.allocations ≡ what → is_error_class (class_of (kind_at bytes)) ≡ false
      → IsBoundFor what mid number now handled new → IsRunStep c (bytes ∷ []) None [] new
  bound_for binds None handled new at ok h = done c (bytes ∷ []) mid new under_way h.1
  bound_for binds (Some (Lifetime lifetime)) handled new at ok h = done c (bytes ∷ []) mid new under_way h.1
  bound_for binds (Some (NewConnection to)) handled new at ok h = done c (bytes ∷ []) mid new under_way h.1
  bound_for binds (Some (NewChannel transport channel peer)) handled new at ok h = subst (λ (p : Protocol). IsRunStep c (bytes ∷ []) None [] p) (sym h.1) (binds transport channel peer at ok)
  bound_for binds (Some (ChannelRenewal transport channel peer)) handled new at ok h = subst (λ (p : Protocol). IsRunStep c (bytes ∷ []) None [] p) (sym h.1) renews_step
  bound_for binds (Some (NewPermission transport ip)) handled new at ok h = done c (bytes ∷ []) mid new under_way h.1
  bound_for binds (Some (Renewal transport ip)) handled new at ok h = done c (bytes ∷ []) mid new under_way h.1

  pub bind_responded : BindsOne → (handled : Bool) (new : Protocol) → IsBindResponded mid bytes now handled new → IsRunStep c (bytes ∷ []) None [] new
  bind_responded binds handled new h =
      by_test (is_error_class (class_of (kind_at bytes)))
      (λ (_ : is_error_class (class_of (kind_at bytes)) ≡ true) one. unbound_for (pending_request number mid.allocations) handled new one)
      (λ (ok : is_error_class (class_of (kind_at bytes)) ≡ false) one. bound_for binds (pending_request number mid.allocations) handled new refl ok one) h
