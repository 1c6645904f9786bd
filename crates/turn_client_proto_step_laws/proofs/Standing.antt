-- What a client that has allocated does with a message is a step of a run.
use Rattle.std.proofs.Common.{◌≡◌, ℕ, ◌==◌, Bool, true, false, ◌&&◌, List, [], ◌∷◌, map, Option, Some, None, Result, Ok, Err, if◌then◌else◌, refl, sym, subst}
use Rattle.std.specs.List.{list_any}
use Rattle.turn_client_proto_timers.specs.StunTypesWire.Attributes.{kind_at}
use Rattle.std.specs.FinMap as finite
use Rattle.std.specs.Prelude.{is_some}
use Rattle.std.specs.declared.net.ip_addr.IpAddr.{IpAddr}
use Rattle.turn_client_proto_timers.specs.StunTypesWire.Grammar.{number_at, refusal}
use Rattle.turn_client_proto_timers.specs.StunTypesWire.Headers.{AreBytes}
use Rattle.turn_client_proto_timers.specs.StunTypesWire.declared.algorithm.IntegrityAlgorithm.{IntegrityAlgorithm}
use Rattle.turn_client_proto_timers.specs.StunTypesWire.declared.class.MessageClass.{MessageClass}
use Rattle.turn_client_proto_timers.specs.StunTypesWire.declared.class.MessageClass.TheVariants.{Request, Indication, Success, Error}
use Rattle.turn_client_proto_timers.specs.StunTypesWire.Types.{class_of, is_response_class, method_of}
use Rattle.turn_client_proto_timers.specs.StunTypesBase.declared.transport.TransportType.{TransportType}
use Rattle.turn_client_proto_timers.specs.StunProtoTransaction.Agents.{Transaction}
use Rattle.turn_client_proto_recv.specs.StunProtoClient.Client as signers
use Rattle.turn_client_proto_recv.specs.StunProtoClient.declared.error.LongTermClientAuthError.{LongTermClientAuthError}
use Rattle.turn_client_proto_recv.specs.StunProtoClient.declared.error.LongTermClientAuthError.TheVariants.{Unauthorized, IntegrityFailed, UnsupportedFeature, NoMemory}
use Rattle.turn_client_proto_recv.specs.StunProtoClient.declared.validation.LongTermClientValidation.{LongTermClientValidation}
use Rattle.turn_client_proto_recv.specs.StunProtoClient.declared.validation.LongTermClientValidation.TheVariants.{ResendRequest, Validated}
use Rattle.turn_client_proto_timers.specs.StunProtoAgent.Handling.{is_awaited, is_response}
use Rattle.turn_client_proto_recv.specs.TurnTypesAttributes.TurnRegistry.{channel_bind_method, connect_method, create_permission_method, refresh_method}
use Rattle.turn_client_proto_timers.specs.Allocation.Refreshing.{ends_by, least_of, renewed}
use Rattle.turn_client_proto_timers.specs.Api.declared.event.TurnEvent.TheVariants.{PermissionCreateFailed}
use Rattle.turn_client_proto_timers.specs.Allocation.PendingRequests.{addresses_for, pending_request}
use Rattle.turn_client_proto_timers.specs.Allocation.declared.pending.PendingRequest.{PendingRequest}
use Rattle.turn_client_proto_timers.specs.Allocation.declared.pending.PendingRequest.TheVariants.{ChannelRenewal, Lifetime, NewChannel, NewConnection, NewPermission, Renewal}
use Rattle.turn_client_proto_timers.specs.Peers.Permission.Granted as granted_again
use Rattle.turn_client_proto_timers.specs.Peers.Permission.Granted.{rejected}
use Rattle.turn_client_proto_timers.specs.Messages.Judging.{IsJudged}
use Rattle.turn_client_proto_timers.specs.Messages.Reported.{lifetime_reported}
use Rattle.turn_client_proto_timers.specs.Core.Permitting as permission
use Rattle.turn_client_proto_timers.specs.Core.Permitting.{IsGrantedFor, IsPermissionResponded, IsRefusedFor, refused, renews}
use Rattle.turn_client_proto_timers.specs.Core.Responding.{accepted, is_error_class, judged}
use Rattle.turn_client_proto_timers.specs.Core.Standing.{IsJudgedStanding, IsRequestAnswered, IsTakenUp, after_refresh, deallocated, is_refreshed, refreshed}
use Rattle.turn_client_proto_timers.specs.Core.declared.protocol.Phase.TheVariants.{Authenticated, Ended}
use Rattle.turn_client_proto_timers.specs.Core.declared.protocol.Protocol.{Protocol}
use Rattle.turn_client_proto_step_laws.specs.Adding.{IsSignedFor}
use Rattle.turn_client_proto_step_laws.specs.Held.{Allocation}
use Rattle.turn_client_proto_step_laws.specs.RunClient.{Client, Parts, parts_of}
use Rattle.turn_client_proto_step_laws.specs.RunSteps.{IsRunStep}
use Rattle.turn_client_proto_step_laws.specs.Sound.{CanAsk, IsOrderly}
use Rattle.turn_client_proto_step_laws.proofs.Adding.{AreLess, adds_both, allocations_less, phase_moved}
use Rattle.turn_client_proto_step_laws.proofs.Asking.{IsUnderWay, once_accepted, once_judged}
use Rattle.turn_client_proto_step_laws.proofs.Attempting.{attempt_step}
use Rattle.turn_client_proto_step_laws.proofs.Awaited.{found_by}
use Rattle.turn_client_proto_step_laws.proofs.Connecting.{KnowsOne, connect_found, connect_responded, known_step}
use Rattle.turn_client_proto_step_laws.proofs.Granting.{requested_in, granted_step}
use Rattle.turn_client_proto_step_laws.proofs.GrantingChannels.{bound_step}
use Rattle.turn_client_proto_step_laws.proofs.Processing.{done}
use Rattle.turn_client_proto_step_laws.proofs.Leaving.{left_step}
use Rattle.turn_client_proto_step_laws.proofs.Lessening.{all_renewed, none_distinct, none_less, renewed_distinct, same_distinct}
use Rattle.turn_client_proto_step_laws.proofs.Lists.{both_so}
use Rattle.turn_client_proto_step_laws.proofs.Permissions.{renewed_alike, renewed_permitting, rejected_alike, rejected_permitting}
use Rattle.turn_client_proto_step_laws.proofs.Permitting.{each_permitting, none_asks, none_gained}
use Rattle.turn_client_proto_step_laws.proofs.Orderly.{allocations_orderly, phase_orderly, until_all}
use Rattle.turn_client_proto_step_laws.proofs.Plain.{counts_none, none_decoded, nothing_transmitted, quiet, run_step}
use Rattle.turn_client_proto_step_laws.proofs.Polling.{by_test, none_created}
use Rattle.turn_client_proto_step_laws.proofs.Realms.{IsGoing, ended_realm, going_at}
use Rattle.turn_client_proto_step_laws.proofs.Rechallenging.{rechallenged}
use Rattle.turn_client_proto_step_laws.proofs.Signed.{validated_own}
use Rattle.turn_client_proto_step_laws.proofs.StandingChannels.{BindsOne, bind_responded}

-- ---- a response to a REFRESH

module _ (c : Client) (mid : Protocol) (bytes : List ℕ) (now : ℕ) (under_way : IsUnderWay c (bytes ∷ []) mid) where
  all_gone : IsRunStep c (bytes ∷ []) None [] (deallocated mid)
  unfolding deallocated
  all_gone =
      let gone : Parts = record (parts_of mid) { allocations = [] } in
      let core : Protocol = deallocated mid in
      let adds = adds_both [] (parts_of c.core) (parts_of mid) (parts_of core) under_way.adds
      (adds_both [] (parts_of mid) gone (parts_of core) (allocations_less [] [] (parts_of mid) [] (none_less mid.allocations) (λ r h. absurd h)) (phase_moved [] gone Ended (λ n h. absurd h))) in
      run_step [] (bytes ∷ []) None [] c c.transmitted core
      (quiet None [] c c.transmitted core (counts_none c core under_way.rng) (ended_realm (bytes ∷ []) c.core core refl) adds (nothing_transmitted [] c) under_way.reported)
      (phase_orderly gone Ended tt (allocations_orderly [] (parts_of mid) [] (none_less mid.allocations) (λ r h. absurd h) none_distinct under_way.orderly)) tt

  all_renew : IsRunStep c (bytes ∷ []) None [] (record mid { allocations = map (renewed (least_of mid.short_lifetimes) (number_at bytes) now (lifetime_reported bytes)) mid.allocations })
  all_renew =
      let left : List Allocation = map (renewed (least_of mid.short_lifetimes) (number_at bytes) now (lifetime_reported bytes)) mid.allocations in
      let core : Protocol = record mid { allocations = left } in
      let less : AreLess [] mid.allocations left = all_renewed (least_of mid.short_lifetimes) (number_at bytes) now (lifetime_reported bytes) mid.allocations in
      let adds = adds_both [] (parts_of c.core) (parts_of mid) (parts_of core) under_way.adds (allocations_less [] [] (parts_of mid) left less (λ r h. absurd h)) in
      run_step [] (bytes ∷ []) None [] c c.transmitted core
      (quiet None [] c c.transmitted core (counts_none c core under_way.rng) under_way.realms adds (nothing_transmitted [] c) under_way.reported)
      (allocations_orderly [] (parts_of mid) left less (λ r h. absurd h)
      (renewed_distinct (least_of mid.short_lifetimes) (number_at bytes) now (lifetime_reported bytes) mid.allocations under_way.orderly.distinct) under_way.orderly) (until_all mid.phase (record {
        account = under_way.can_ask.account;
        settled = under_way.can_ask.settled;
        texts = under_way.can_ask.texts;
        settings = under_way.can_ask.settings;
        words = under_way.can_ask.words;
      }))

  refresh : IsRunStep c (bytes ∷ []) None [] (refreshed bytes now mid)
  unfolding refreshed
  refresh =
      elim (list_any (ends_by (number_at bytes)) mid.allocations) as (λ b. IsRunStep c (bytes ∷ []) None [] (if b then deallocated mid else record mid { allocations = map (renewed (least_of mid.short_lifetimes) (number_at bytes) now (lifetime_reported bytes)) mid.allocations })) [
        | true ↦ all_gone
        | false ↦ all_renew
      ]

  granted : IsRunStep c (bytes ∷ []) None [] (after_refresh bytes now mid)
  unfolding after_refresh
  granted =
      elim (is_refreshed bytes) as (λ b. IsRunStep c (bytes ∷ []) None [] (if b then refreshed bytes now mid else mid)) [
        | true ↦ refresh
        | false ↦ done c (bytes ∷ []) mid mid under_way refl
      ]

  refused_step : (transport : TransportType) (ips : List IpAddr) (new : Protocol) → new ≡ refused transport ips (number_at bytes) mid → IsRunStep c (bytes ∷ []) None [] new
  unfolding refused
  refused_step transport ips new is =
      subst (λ (p : Protocol). IsRunStep c (bytes ∷ []) None [] p) (sym is)
      (left_step c mid bytes under_way (refused transport ips (number_at bytes) mid) (map (rejected (number_at bytes)) mid.allocations)
      (each_permitting none_gained none_asks (rejected (number_at bytes)) (rejected_permitting (number_at bytes)) mid.allocations)
      (same_distinct (rejected (number_at bytes)) (rejected_alike (number_at bytes)) mid.allocations under_way.orderly.distinct) refl
      (none_decoded mid.events (map (PermissionCreateFailed transport) ips) (none_created transport ips)))

  renews_step : (new : Protocol) → new ≡ renews (number_at bytes) now mid → IsRunStep c (bytes ∷ []) None [] new
  unfolding renews
  renews_step new is =
      subst (λ (p : Protocol). IsRunStep c (bytes ∷ []) None [] p) (sym is)
      (left_step c mid bytes under_way (renews (number_at bytes) now mid) (map (granted_again.renewed (number_at bytes) now) mid.allocations)
      (each_permitting none_gained none_asks (granted_again.renewed (number_at bytes) now) (renewed_permitting (number_at bytes) now) mid.allocations)
      (same_distinct (granted_again.renewed (number_at bytes) now) (renewed_alike (number_at bytes) now) mid.allocations under_way.orderly.distinct) refl refl)

  refused_for : (what : Option PendingRequest) (handled : Bool) (new : Protocol) → IsRefusedFor what mid (number_at bytes) handled new → IsRunStep c (bytes ∷ []) None [] new
  refused_for None handled new h = done c (bytes ∷ []) mid new under_way h.1
  refused_for (Some (Lifetime lifetime)) handled new h = done c (bytes ∷ []) mid new under_way h.1
  refused_for (Some (NewConnection to)) handled new h = done c (bytes ∷ []) mid new under_way h.1
  refused_for (Some (NewChannel transport channel peer)) handled new h = done c (bytes ∷ []) mid new under_way h.1
  refused_for (Some (ChannelRenewal transport channel peer)) handled new h = done c (bytes ∷ []) mid new under_way h.1
  refused_for (Some (NewPermission transport ip)) handled new h = refused_step transport (addresses_for (number_at bytes) mid.allocations) new h.1
  refused_for (Some (Renewal transport ip)) handled new h = refused_step transport (ip ∷ []) new h.1

  -- The requested permissions are granted.
  abbrev pub GrantsOne : Type 0
  GrantsOne = (transport : TransportType) (ip : IpAddr) → pending_request (number_at bytes) mid.allocations ≡ Some (NewPermission transport ip) → is_error_class (class_of (kind_at bytes)) ≡ false
      → IsRunStep c (bytes ∷ []) None [] (permission.granted transport (addresses_for (number_at bytes) mid.allocations) (number_at bytes) now mid)

  granted_for : GrantsOne → (what : Option PendingRequest) (handled : Bool) (new : Protocol) → pending_request (number_at bytes) mid.allocations ≡ what → is_error_class (class_of (kind_at bytes)) ≡ false
      → IsGrantedFor what mid (number_at bytes) now handled new → IsRunStep c (bytes ∷ []) None [] new
  granted_for grants None handled new at ok h = done c (bytes ∷ []) mid new under_way h.1
  granted_for grants (Some (Lifetime lifetime)) handled new at ok h = done c (bytes ∷ []) mid new under_way h.1
  granted_for grants (Some (NewConnection to)) handled new at ok h = done c (bytes ∷ []) mid new under_way h.1
  granted_for grants (Some (NewChannel transport channel peer)) handled new at ok h = done c (bytes ∷ []) mid new under_way h.1
  granted_for grants (Some (ChannelRenewal transport channel peer)) handled new at ok h = done c (bytes ∷ []) mid new under_way h.1
  granted_for grants (Some (NewPermission transport ip)) handled new at ok h = subst (λ (p : Protocol). IsRunStep c (bytes ∷ []) None [] p) (sym h.1) (grants transport ip at ok)
  granted_for grants (Some (Renewal transport ip)) handled new at ok h = renews_step new h.1

  permission_responded : GrantsOne → (handled : Bool) (new : Protocol) → IsPermissionResponded mid bytes now handled new → IsRunStep c (bytes ∷ []) None [] new
  permission_responded grants handled new h =
      by_test (is_error_class (class_of (kind_at bytes)))
      (λ (_ : is_error_class (class_of (kind_at bytes)) ≡ true) one. refused_for (pending_request (number_at bytes) mid.allocations) handled new one)
      (λ (ok : is_error_class (class_of (kind_at bytes)) ≡ false) one. granted_for grants (pending_request (number_at bytes) mid.allocations) handled new refl ok one) h

  request_answered : GrantsOne → BindsOne c mid bytes now under_way → KnowsOne c mid bytes under_way → (handled : Bool) (new : Protocol) → IsRequestAnswered mid bytes now handled new → IsRunStep c (bytes ∷ []) None [] new
  request_answered grants binds knows handled new h =
      by_test (method_of (kind_at bytes) == refresh_method)
      (λ (_ : (method_of (kind_at bytes) == refresh_method) ≡ true) (o : (handled ≡ true) × (new ≡ after_refresh bytes now mid)). subst (λ (p : Protocol). IsRunStep c (bytes ∷ []) None [] p) (sym o.1) granted)
      (λ (_ : (method_of (kind_at bytes) == refresh_method) ≡ false) one. by_test (method_of (kind_at bytes) == create_permission_method)
      (λ (_ : (method_of (kind_at bytes) == create_permission_method) ≡ true) two. permission_responded grants handled new two)
      (λ (_ : (method_of (kind_at bytes) == create_permission_method) ≡ false) two. by_test (method_of (kind_at bytes) == channel_bind_method)
      (λ (_ : (method_of (kind_at bytes) == channel_bind_method) ≡ true) three. bind_responded c mid bytes now under_way binds handled new three)
      (λ (_ : (method_of (kind_at bytes) == channel_bind_method) ≡ false) three. by_test (method_of (kind_at bytes) == connect_method)
      (λ (_ : (method_of (kind_at bytes) == connect_method) ≡ true) four. connect_responded c mid bytes under_way knows handled new four)
      (λ (_ : (method_of (kind_at bytes) == connect_method) ≡ false) (o : (handled ≡ false) × (new ≡ mid)). done c (bytes ∷ []) mid new under_way o.1) three) two) one) h

-- ---- by the verdict

-- A response that is no error is a success.
success_class : (class : MessageClass) → is_response_class class ≡ true → is_error_class class ≡ false → class ≡ Success
success_class Success response ok = refl
success_class Error response ok = absurd (Prim.cc ok)
success_class Request response ok = absurd (Prim.cc response)
success_class Indication response ok = absurd (Prim.cc response)

module _ (c : Client) (bytes : List ℕ) (now : ℕ) (orderly : IsOrderly (parts_of c.core)) (can : CanAsk c) (occurs : c.core.phase ≡ Authenticated) (are_bytes : AreBytes bytes) (message : refusal bytes ≡ None) where
  going : IsGoing c.core.phase
  going = going_at c.core.phase Authenticated occurs (λ stored. refl)

  -- A response that was accepted, to a request that is outstanding.
  module _ (algorithm : IntegrityAlgorithm) (signer : signers.Client) (is : IsJudged c.core.auth bytes (Ok (Validated algorithm)) signer) (taken : (is_response bytes && is_awaited c.core.agent bytes) ≡ true)
      (under_way : IsUnderWay c (bytes ∷ []) (accepted bytes (judged signer c.core))) where
    succeeds : is_error_class (class_of (kind_at bytes)) ≡ false → class_of (kind_at bytes) ≡ Success
    succeeds ok = success_class (class_of (kind_at bytes)) (both_so (is_response bytes) (is_awaited c.core.agent bytes) taken).0 ok

    own : IsSignedFor c bytes
    own = validated_own c signer bytes algorithm are_bytes can going is

    grants_one : (found : Option Transaction) → finite.get c.core.agent.outstanding (number_at bytes) ≡ found → is_some found ≡ true → GrantsOne c (accepted bytes (judged signer c.core)) bytes now under_way
    unfolding accepted
    grants_one None there some transport ip at ok = absurd (Prim.cc some)
    grants_one (Some t) there some transport ip at ok =
        granted_step c signer bytes now message (succeeds ok) taken own transport ip (requested_in (number_at bytes) transport ip c.core.allocations at) t there orderly under_way

    binds_one : (found : Option Transaction) → finite.get c.core.agent.outstanding (number_at bytes) ≡ found → is_some found ≡ true → BindsOne c (accepted bytes (judged signer c.core)) bytes now under_way
    unfolding accepted
    binds_one None there some transport channel peer at ok = absurd (Prim.cc some)
    binds_one (Some t) there some transport channel peer at ok =
        bound_step c signer bytes now message (succeeds ok) taken own transport channel peer at t there orderly under_way

    knows_one : (found : Option Transaction) → finite.get c.core.agent.outstanding (number_at bytes) ≡ found → is_some found ≡ true → KnowsOne c (accepted bytes (judged signer c.core)) bytes under_way
    unfolding accepted
    knows_one None there some peer connection at reported = absurd (Prim.cc some)
    knows_one (Some t) there some peer connection at reported =
        known_step c signer bytes message (both_so (is_response bytes) (is_awaited c.core.agent bytes) taken).0 own peer connection reported
        (connect_found (number_at bytes) peer c.core.allocations (found_by (number_at bytes) c.core.allocations (NewConnection peer) at)) t there orderly under_way

  taken_up : (algorithm : IntegrityAlgorithm) (signer : signers.Client) (handled : Bool) (new : Protocol) → IsJudged c.core.auth bytes (Ok (Validated algorithm)) signer
      → IsTakenUp (judged signer c.core) bytes now handled new → IsRunStep c (bytes ∷ []) None [] new
  taken_up algorithm signer handled new is h =
      let under_way = once_judged c bytes (Ok (Validated algorithm)) signer orderly can is in
      by_test (is_response bytes && is_awaited c.core.agent bytes)
      (λ (taken : (is_response bytes && is_awaited c.core.agent bytes) ≡ true) one.
      let accepts = once_accepted c (judged signer c.core) bytes under_way in
      let found = finite.get c.core.agent.outstanding (number_at bytes) in
      let some = (both_so (is_response bytes) (is_awaited c.core.agent bytes) taken).1 in
      request_answered c (accepted bytes (judged signer c.core)) bytes now accepts
      (grants_one algorithm signer is taken accepts found refl some) (binds_one algorithm signer is taken accepts found refl some) (knows_one algorithm signer is taken accepts found refl some) handled new one)
      (λ (_ : (is_response bytes && is_awaited c.core.agent bytes) ≡ false) other.
      attempt_step c signer bytes message (validated_own c signer bytes algorithm are_bytes can going is) under_way handled new other) h

  pub standing_judged : (verdict : Result LongTermClientValidation LongTermClientAuthError) (signer : signers.Client) (handled : Bool) (new : Protocol) → IsJudged c.core.auth bytes verdict signer
      → IsJudgedStanding verdict (judged signer c.core) bytes now handled new → IsRunStep c (bytes ∷ []) None [] new
  standing_judged (Ok (ResendRequest choice)) signer handled new is h =
      rechallenged c (judged signer c.core) bytes now (once_judged c bytes (Ok (ResendRequest choice)) signer orderly can is) occurs handled new h
  standing_judged (Ok (Validated algorithm)) signer handled new is h = taken_up algorithm signer handled new is h
  standing_judged (Err NoMemory) signer handled new is h = absurd h
  standing_judged (Err Unauthorized) signer handled new is h = done c (bytes ∷ []) (judged signer c.core) new (once_judged c bytes (Err Unauthorized) signer orderly can is) h.1
  standing_judged (Err (IntegrityFailed algorithm)) signer handled new is h = done c (bytes ∷ []) (judged signer c.core) new (once_judged c bytes (Err (IntegrityFailed algorithm)) signer orderly can is) h.1
  standing_judged (Err UnsupportedFeature) signer handled new is h = done c (bytes ∷ []) (judged signer c.core) new (once_judged c bytes (Err UnsupportedFeature) signer orderly can is) h.1
