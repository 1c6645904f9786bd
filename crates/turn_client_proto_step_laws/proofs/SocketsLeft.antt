-- A message from the control connection brings no bytes of a peer: each connection that a client has after
-- it, it had before.
use Rattle.std.proofs.Common.{◌≡◌, ℕ, ◌==◌, Bool, true, false, ◌&&◌, List, [], ◌∷◌, length, map, Option, Some, None, Ok, Err, if◌then◌else◌, refl, sym, ap, ◌∙◌, subst, inl, inr}
use Rattle.std.proofs.lemmas.Bool.{cases_Bool}
use Rattle.std.specs.Bool.{MatchBool}
use Rattle.std.specs.List.{find, list_any}
use Rattle.std.specs.Prelude.{option_and_then}
use Rattle.std.specs.declared.net.ip_addr.IpAddr.{IpAddr}
use Rattle.std.specs.declared.net.socket_addr.SocketAddr.{SocketAddr}
use Rattle.turn_client_proto_timers.specs.StunTypesWire.Attributes.{kind_at}
use Rattle.turn_client_proto_timers.specs.StunTypesWire.Grammar.{number_at}
use Rattle.turn_client_proto_timers.specs.StunTypesWire.declared.class.MessageClass.{MessageClass}
use Rattle.turn_client_proto_timers.specs.StunTypesWire.declared.class.MessageClass.TheVariants.{Request, Indication, Success, Error}
use Rattle.turn_client_proto_timers.specs.StunTypesWire.Types.{class_of, method_of}
use Rattle.turn_client_proto_timers.specs.StunTypesBase.declared.family.AddressFamily.{AddressFamily}
use Rattle.turn_client_proto_recv.specs.StunProtoClient.declared.error.LongTermClientAuthError.TheVariants.{Unauthorized, IntegrityFailed, UnsupportedFeature, NoMemory}
use Rattle.turn_client_proto_recv.specs.StunProtoClient.declared.validation.LongTermClientValidation.TheVariants.{ResendRequest, Validated}
use Rattle.turn_client_proto_timers.specs.StunProtoAgent.Handling.{is_awaited, is_response}
use Rattle.turn_client_proto_recv.specs.TurnTypesAttributes.TurnRegistry.{channel_bind_method, connect_method, create_permission_method, refresh_method}
use Rattle.turn_client_proto_timers.specs.TurnRuns.Members.{IsIn}
use Rattle.turn_client_proto_timers.specs.Allocation.Awaited.{asks_for_permission, has_number}
use Rattle.turn_client_proto_timers.specs.Allocation.Changes.{change_first}
use Rattle.turn_client_proto_timers.specs.Allocation.Refreshing.{ends_by, granted, least_of, renewed}
use Rattle.turn_client_proto_timers.specs.Allocation.PendingRequests.{addresses_for, pending_request, reissued_under, awaits_reply, permission_too}
use Rattle.turn_client_proto_timers.specs.Peers.Channel.Granted as channels
use Rattle.turn_client_proto_timers.specs.Allocation.declared.pending.PendingRequest.{PendingRequest}
use Rattle.turn_client_proto_timers.specs.Allocation.declared.pending.PendingRequest.TheVariants.{ChannelRenewal, Lifetime, NewChannel, NewConnection, NewPermission, Renewal}
use Rattle.turn_client_proto_timers.specs.Connection.Attempts as attempts
use Rattle.turn_client_proto_timers.specs.Connection.Streams.{first_raw, has_raw, is_any_raw}
use Rattle.turn_client_proto_timers.specs.Connection.Reported as connections
use Rattle.turn_client_proto_timers.specs.Peers.Permission.Granted as permissions
use Rattle.turn_client_proto_timers.specs.Allocation.Permissions as permissions_requested
use Rattle.turn_client_proto_timers.specs.TurnRuns.Indications.{is_indication}
use Rattle.turn_client_proto_timers.specs.Messages.Reported.{connection_reported, lifetime_reported, peer_reported}
use Rattle.turn_client_proto_timers.specs.Messages.declared.answer.AttemptAnswer.{AttemptAnswer}
use Rattle.turn_client_proto_timers.specs.Messages.declared.answer.AttemptAnswer.TheVariants.{AlreadyExists, BadRequest, Failed}
use Rattle.turn_client_proto_timers.specs.Core.Allocating.{IsAllocatedFor, allocated, brought}
use Rattle.turn_client_proto_timers.specs.Core.Asking.{requested}
use Rattle.turn_client_proto_timers.specs.Core.Attempting.{IsAttemptTaken, IsIndicationTaken, after_attempt, after_attempt_in, after_attempt_of, after_offer, answering, is_at_limit, is_attempt, may_join, rejecting, takes_offer}
use Rattle.turn_client_proto_timers.specs.Core.Authenticating.{IsAccepted, IsAllocateAnswered, IsAllocatingAgain, IsChallenged, IsErrorAnswered, IsFirstJudged, IsSignedJudged, IsUnauthenticated, allocates_again, allocates_other, ends_unsigned, family_left}
use Rattle.turn_client_proto_timers.specs.Core.Binding.{IsBindResponded, IsBoundFor, IsUnboundFor, bound, expires_due, permission_with, permitted_with, renews_channels, rejected_with, unbound}
use Rattle.turn_client_proto_timers.specs.Core.Ending.{ended}
use Rattle.turn_client_proto_timers.specs.Core.Outcomes.{IsHandled, IsIgnored}
use Rattle.turn_client_proto_timers.specs.Core.Permitting as asking
use Rattle.turn_client_proto_timers.specs.Core.Permitting.{IsGrantedFor, IsPermissionResponded, IsRefusedFor}
use Rattle.turn_client_proto_timers.specs.Core.Receiving.{Follows, IsFollowed, IsProcessed, IsProcessedIn, is_unawaited}
use Rattle.turn_client_proto_timers.specs.Core.Responding.{accepted, answered, challenged, is_error_class, is_tired, judged}
use Rattle.turn_client_proto_timers.specs.Core.Standing.{IsRequestedAgain, IsConnectResponded, IsJudgedStanding, IsRechallenged, IsRequestAnswered, IsTakenUp, after_connect, after_refresh, asks_again, deallocated, is_refreshed, refreshed}
use Rattle.turn_client_proto_timers.specs.Core.declared.protocol.Phase.{Phase}
use Rattle.turn_client_proto_timers.specs.Core.declared.protocol.Phase.TheVariants.{Initial, InitialSent, Authenticating, Authenticated, Ended}
use Rattle.turn_client_proto_timers.specs.Core.declared.protocol.Protocol.{Protocol}
use Rattle.turn_client_proto_step_laws.specs.Held.{Allocation, Connection}
use Rattle.turn_client_proto_step_laws.proofs.Adding.{AreLess}
use Rattle.turn_client_proto_step_laws.proofs.Lessening.{all_renewed}
use Rattle.turn_client_proto_step_laws.proofs.Lists.{any_passes, found_in, found_passes, in_changed, in_map, passes_one}
use Rattle.turn_client_proto_step_laws.proofs.Offering.{offer_so}
use Rattle.turn_client_proto_step_laws.proofs.Once.Judging.{Verdict}
use Rattle.turn_client_proto_step_laws.proofs.Streaming.{raw_first}

-- ---- connections of before

-- A connection of an earlier allocation.
pub record WasOf (old : List Allocation) (c : Connection) : Type 0 where
  pub before : Allocation
  pub listed : IsIn before old
  pub has : IsIn c before.connections

abbrev pub AreOf : List Allocation → List Allocation → Type 0
AreOf old new = (a : Allocation) → IsIn a new → (c : Connection) → IsIn c a.connections → WasOf old c

pub of_all : (all : List Allocation) → AreOf all all
of_all all a listed c there = record { before = a; listed = listed; has = there }

of_none : (old : List Allocation) → AreOf old []
of_none old a listed = absurd listed

pub of_less : (old new : List Allocation) → AreLess [] old new → AreOf old new
of_less old new less a listed c there =
    let was = less a listed in
    record { before = was.before; listed = was.listed; has = was.less.connections c there }

-- One change and then another.
of_both : (old mid new : List Allocation) → AreOf old mid → AreOf mid new → AreOf old new
of_both old mid new first second a listed c there =
    let was = second a listed c there in
    first was.before was.listed c was.has

-- Each allocation, or the first that passes, is changed so that its connections stay.
module _ (f : Allocation → Allocation) (stay : (a : Allocation) → (f a).connections ≡ a.connections) where
  of_each : (old : List Allocation) → AreOf old (map f old)
  of_each old a listed c there =
      let image = in_map f a old listed in
      record {
        before = image.source;
        listed = image.listed;
        has = subst (λ (l : List Connection). IsIn c l) (ap (λ (x : Allocation). x.connections) image.is ∙ stay image.source) there;
      }

  of_first : (passes : Allocation → Bool) (old : List Allocation) → AreOf old (change_first passes f old)
  of_first passes old a listed c there = elim (in_changed passes f a old listed) [
    | inl was ↦ record { before = a; listed = was; has = there }
    | inr image ↦ record {
      before = image.source;
      listed = image.listed;
      has = subst (λ (l : List Connection). IsIn c l) (ap (λ (x : Allocation). x.connections) image.is ∙ stay image.source) there;
    }
  ]

-- ---- what each change does

permission_stay : (old number : ℕ) (a : Allocation) → (permission_too old number a).connections ≡ a.connections
unfolding permission_too
permission_stay old number a = by (list_any (asks_for_permission old) a.pending_permissions)
  where
    by : (b : Bool) → (if b then record a { pending_permissions = permissions_requested.requested_again old number a.pending_permissions }
        else record a { permissions = permissions_requested.renewed_again old number a.permissions }).connections ≡ a.connections
    by true = refl
    by false = refl

requested_stay : (what : PendingRequest) (old number : ℕ) (a : Allocation) → (reissued_under what old number a).connections ≡ a.connections
requested_stay (Lifetime lifetime) old number a = refl
requested_stay (NewChannel transport channel peer) old number a = permission_stay old number _
requested_stay (ChannelRenewal transport channel peer) old number a = permission_stay old number _
requested_stay (NewPermission transport ip) old number a = refl
requested_stay (Renewal transport ip) old number a = refl
requested_stay (NewConnection peer) old number a = refl

down_stay : (number : ℕ) (a : Allocation) → (permissions.rejected number a).connections ≡ a.connections
unfolding permissions.rejected
down_stay number a = refl

renewed_stay : (number now : ℕ) (a : Allocation) → (permissions.renewed number now a).connections ≡ a.connections
unfolding permissions.renewed
renewed_stay number now a = refl

channel_down_stay : (number : ℕ) (a : Allocation) → (channels.rejected number a).connections ≡ a.connections
unfolding channels.rejected
channel_down_stay number a = refl

channel_renewed_stay : (number now : ℕ) (a : Allocation) → (channels.renewed number now a).connections ≡ a.connections
unfolding channels.renewed
channel_renewed_stay number now a = refl

expire_stay : (number : ℕ) (a : Allocation) → (channels.expire_due number a).connections ≡ a.connections
unfolding channels.expire_due
expire_stay number a = refl

given_up_stay : (over : Option ℕ) (a : Allocation) → (connections.given_up over a).connections ≡ a.connections
unfolding connections.given_up
given_up_stay over a = refl

-- ---- a relation after which they are of before

pub record Keeps (old : List Allocation) (leads : Bool → Protocol → Type 0) : Type 0 where
  pub keeps : (handled : Bool) (new : Protocol) → leads handled new → AreOf old new.allocations

outcome : (wanted : Bool) (old : List Allocation) (after : Protocol) → AreOf old after.allocations → Keeps old (λ handled new. (handled ≡ wanted) × (new ≡ after))
outcome wanted old after are = record { keeps = λ handled new h. subst (λ (p : Protocol). AreOf old p.allocations) (sym h.1) are }

handled_so : (old : List Allocation) (after : Protocol) → AreOf old after.allocations → Keeps old (IsHandled after)
handled_so old after are = outcome true old after are

ignored : (p : Protocol) → Keeps p.allocations (IsIgnored p)
ignored p = outcome false p.allocations p (of_all p.allocations)

never : (old : List Allocation) → Keeps old (λ handled new. ⊥)
never old = record { keeps = λ handled new h. absurd h }

tested : {old : List Allocation} {P Q : Bool → Protocol → Type 0} (b : Bool) → Keeps old P → Keeps old Q → Keeps old (λ (handled : Bool) (new : Protocol). MatchBool b (P handled new) (Q handled new))
tested true p q = record { keeps = p.keeps }
tested false p q = record { keeps = q.keeps }

-- ---- where the client has not allocated

module _ (bytes : List ℕ) (now : ℕ) where
  over : (p : Protocol) → AreOf p.allocations (ended p).allocations
  unfolding ended
  over p = of_all p.allocations

  over_answered : (p : Protocol) → AreOf p.allocations (ended (answered bytes p)).allocations
  unfolding ended answered
  over_answered p = of_all p.allocations

  requested_again : (p : Protocol) (number : ℕ) → AreOf p.allocations (challenged bytes (allocates_again number now p)).allocations
  unfolding challenged allocates_again requested
  requested_again p number = of_all p.allocations

  again_keeps : (p : Protocol) → Keeps p.allocations (IsAllocatingAgain p bytes now)
  again_keeps p = record { keeps = λ handled new h. (handled_so p.allocations _ (requested_again p h.number)).keeps handled new h.outcome }

  challenged_keeps : (p : Protocol) → Keeps p.allocations (IsChallenged p bytes now)
  challenged_keeps p = tested (is_awaited p.agent bytes) (tested (is_tired p) (handled_so p.allocations (ended p) (over p)) (again_keeps p)) (ignored p)

  turned_keeps : (p : Protocol) → Keeps p.allocations (IsUnauthenticated p bytes)
  turned_keeps p = tested (is_awaited p.agent bytes && ends_unsigned p bytes) (handled_so p.allocations (ended (answered bytes p)) (over_answered p)) (ignored p)

  other_requested : (p : Protocol) (family : AddressFamily) (number : ℕ) → AreOf p.allocations (allocates_other family number now p).allocations
  unfolding allocates_other requested
  other_requested p family number = of_all p.allocations

  error_keeps : (left : Option AddressFamily) (p : Protocol) → Keeps p.allocations (IsErrorAnswered left p now)
  error_keeps None p = handled_so p.allocations (ended p) (over p)
  error_keeps (Some family) p = record { keeps = λ handled new h. (handled_so p.allocations _ (other_requested p family h.number)).keeps handled new h.outcome }

  -- A fresh allocation has no connection.
  fresh_of : (p : Protocol) (lifetime : ℕ) (old : List Allocation) → AreOf old (allocated (brought p bytes lifetime now) p).allocations
  unfolding allocated
  fresh_of p lifetime old a listed c there =
      let image = in_map (λ (address : SocketAddr). granted p.allocates address lifetime now) a _ listed in
      absurd (subst (λ (x : Allocation). IsIn c x.connections) image.is there)

  allocated_keeps : (reported : Option ℕ) (p : Protocol) → Keeps p.allocations (IsAllocatedFor reported p bytes now)
  allocated_keeps None p = handled_so p.allocations (ended p) (over p)
  allocated_keeps (Some lifetime) p = handled_so p.allocations (allocated (brought p bytes lifetime now) p) (fresh_of p lifetime p.allocations)

  class_keeps : (class : MessageClass) (p : Protocol) → Keeps p.allocations (IsAllocateAnswered class p bytes now)
  class_keeps Error p = error_keeps (family_left p bytes) p
  class_keeps Success p = allocated_keeps (lifetime_reported bytes) p
  class_keeps Request p = handled_so p.allocations p (of_all p.allocations)
  class_keeps Indication p = handled_so p.allocations p (of_all p.allocations)

  class_accepted : (p : Protocol) → Keeps p.allocations (IsAllocateAnswered (class_of (kind_at bytes)) (accepted bytes p) bytes now)
  unfolding accepted
  class_accepted p = record { keeps = (class_keeps (class_of (kind_at bytes)) (accepted bytes p)).keeps }

  accepted_keeps : (p : Protocol) → Keeps p.allocations (IsAccepted p bytes now)
  accepted_keeps p = tested (is_awaited p.agent bytes) (class_accepted p) (handled_so p.allocations p (of_all p.allocations))

  first_keeps : (verdict : Verdict) (p : Protocol) → Keeps p.allocations (IsFirstJudged verdict p bytes now)
  first_keeps (Ok (ResendRequest choice)) p = challenged_keeps p
  first_keeps (Ok (Validated algorithm)) p = outcome false p.allocations (ended p) (over p)
  first_keeps (Err NoMemory) p = never p.allocations
  first_keeps (Err Unauthorized) p = turned_keeps p
  first_keeps (Err (IntegrityFailed algorithm)) p = turned_keeps p
  first_keeps (Err UnsupportedFeature) p = turned_keeps p

  signed_keeps : (verdict : Verdict) (p : Protocol) → Keeps p.allocations (IsSignedJudged verdict p bytes now)
  signed_keeps (Ok (ResendRequest choice)) p = challenged_keeps p
  signed_keeps (Ok (Validated algorithm)) p = accepted_keeps p
  signed_keeps (Err (IntegrityFailed algorithm)) p = tested p.auth.hardened (ignored p) (handled_so p.allocations (ended p) (over p))
  signed_keeps (Err NoMemory) p = never p.allocations
  signed_keeps (Err Unauthorized) p = ignored p
  signed_keeps (Err UnsupportedFeature) p = ignored p

  -- ---- where the server has allocated

  sent_again : (what : PendingRequest) (p : Protocol) (number : ℕ) → AreOf p.allocations (challenged bytes (asks_again what (number_at bytes) number now p)).allocations
  unfolding challenged asks_again requested
  sent_again what p number = of_first (reissued_under what (number_at bytes) number) (requested_stay what (number_at bytes) number) (awaits_reply (number_at bytes)) p.allocations

  requested_keeps : (what : Option PendingRequest) (p : Protocol) → Keeps p.allocations (IsRequestedAgain what p bytes now)
  requested_keeps None p = ignored p
  requested_keeps (Some what) p = record { keeps = λ handled new h. (handled_so p.allocations _ (sent_again what p h.number)).keeps handled new h.outcome }

  rechallenged_keeps : (p : Protocol) → Keeps p.allocations (IsRechallenged p bytes now)
  rechallenged_keeps p = tested (is_tired p) (handled_so p.allocations (ended p) (over p))
      (tested (is_awaited p.agent bytes) (requested_keeps (pending_request (number_at bytes) p.allocations) p) (ignored p))

  -- The response to a REFRESH.
  gone : (p : Protocol) → AreOf p.allocations (deallocated p).allocations
  unfolding deallocated
  gone p = of_none p.allocations

  refreshes : (p : Protocol) → AreOf p.allocations (refreshed bytes now p).allocations
  unfolding refreshed
  refreshes p =
      let left : List Allocation = map (renewed (least_of p.short_lifetimes) (number_at bytes) now (lifetime_reported bytes)) p.allocations in
      elim (list_any (ends_by (number_at bytes)) p.allocations) as (λ (b : Bool). AreOf p.allocations (if b then deallocated p else record p { allocations = left }).allocations) [
        | true ↦ gone p
        | false ↦ of_less p.allocations left (all_renewed (least_of p.short_lifetimes) (number_at bytes) now (lifetime_reported bytes) p.allocations)
      ]

  refresh_after : (p : Protocol) → AreOf p.allocations (after_refresh bytes now p).allocations
  unfolding after_refresh
  refresh_after p =
      elim (is_refreshed bytes) as (λ (b : Bool). AreOf p.allocations (if b then refreshed bytes now p else p).allocations) [
        | true ↦ refreshes p
        | false ↦ of_all p.allocations
      ]

  -- The response to a CREATE_PERMISSION.
  permitted_first : (ips : List IpAddr) (number : ℕ) (old : List Allocation) → AreOf old (change_first (awaits_reply number) (permissions.permitted_all ips number now) old)
  permitted_first ips number old = of_first (permissions.permitted_all ips number now) (λ a. refl) (awaits_reply number) old

  granted_keeps : (what : Option PendingRequest) (p : Protocol) → Keeps p.allocations (IsGrantedFor what p (number_at bytes) now)
  unfolding asking.granted asking.renews
  granted_keeps None p = ignored p
  granted_keeps (Some (Lifetime lifetime)) p = ignored p
  granted_keeps (Some (NewConnection to)) p = ignored p
  granted_keeps (Some (NewChannel transport channel peer)) p = ignored p
  granted_keeps (Some (ChannelRenewal transport channel peer)) p = ignored p
  granted_keeps (Some (NewPermission transport ip)) p =
      let ips = addresses_for (number_at bytes) p.allocations in
      handled_so p.allocations (asking.granted transport ips (number_at bytes) now p) (permitted_first ips (number_at bytes) p.allocations)
  granted_keeps (Some (Renewal transport ip)) p =
      handled_so p.allocations (asking.renews (number_at bytes) now p) (of_each (permissions.renewed (number_at bytes) now) (renewed_stay (number_at bytes) now) p.allocations)

  refused : (p : Protocol) → AreOf p.allocations (map (permissions.rejected (number_at bytes)) p.allocations)
  refused p = of_each (permissions.rejected (number_at bytes)) (down_stay (number_at bytes)) p.allocations

  refused_keeps : (what : Option PendingRequest) (p : Protocol) → Keeps p.allocations (IsRefusedFor what p (number_at bytes))
  unfolding asking.refused
  refused_keeps None p = ignored p
  refused_keeps (Some (Lifetime lifetime)) p = ignored p
  refused_keeps (Some (NewConnection to)) p = ignored p
  refused_keeps (Some (NewChannel transport channel peer)) p = ignored p
  refused_keeps (Some (ChannelRenewal transport channel peer)) p = ignored p
  refused_keeps (Some (NewPermission transport ip)) p = handled_so p.allocations (asking.refused transport (addresses_for (number_at bytes) p.allocations) (number_at bytes) p) (refused p)
  refused_keeps (Some (Renewal transport ip)) p = handled_so p.allocations (asking.refused transport (ip ∷ []) (number_at bytes) p) (refused p)

  permission_keeps : (p : Protocol) → Keeps p.allocations (IsPermissionResponded p bytes now)
  permission_keeps p = tested (is_error_class (class_of (kind_at bytes)))
      (refused_keeps (pending_request (number_at bytes) p.allocations) p) (granted_keeps (pending_request (number_at bytes) p.allocations) p)

  -- The response to a CHANNEL_BIND.
  with_permission : (ip : Option IpAddr) (old : List Allocation) → AreOf old (permitted_with ip (number_at bytes) now old)
  with_permission None old = of_all old
  with_permission (Some ip) old = permitted_first (ip ∷ []) (number_at bytes) old

  binds : (channel : ℕ) (peer : SocketAddr) (ip : Option IpAddr) (old : List Allocation)
      → AreOf old (channels.all_bound channel peer (number_at bytes) now (permitted_with ip (number_at bytes) now old))
  binds channel peer ip old =
      of_both old (permitted_with ip (number_at bytes) now old) _ (with_permission ip old)
      (of_first (channels.bound channel peer (number_at bytes) now) (λ a. refl) (awaits_reply (number_at bytes)) (permitted_with ip (number_at bytes) now old))

  without_permission : (ip : Option IpAddr) (old : List Allocation) → AreOf old (rejected_with ip (number_at bytes) old)
  without_permission None old = of_all old
  without_permission (Some ip) old = of_each (permissions.rejected (number_at bytes)) (down_stay (number_at bytes)) old

  unbinds : (ip : Option IpAddr) (old : List Allocation) → AreOf old (rejected_with ip (number_at bytes) (map (channels.rejected (number_at bytes)) old))
  unbinds ip old =
      of_both old (map (channels.rejected (number_at bytes)) old) _ (of_each (channels.rejected (number_at bytes)) (channel_down_stay (number_at bytes)) old)
      (without_permission ip (map (channels.rejected (number_at bytes)) old))

  bound_keeps : (what : Option PendingRequest) (p : Protocol) → Keeps p.allocations (IsBoundFor what p (number_at bytes) now)
  unfolding bound renews_channels
  bound_keeps None p = ignored p
  bound_keeps (Some (Lifetime lifetime)) p = ignored p
  bound_keeps (Some (NewConnection to)) p = ignored p
  bound_keeps (Some (NewChannel transport channel peer)) p =
      handled_so p.allocations (bound transport channel peer (permission_with (number_at bytes) p.allocations) (number_at bytes) now p)
      (binds channel peer (permission_with (number_at bytes) p.allocations) p.allocations)
  bound_keeps (Some (ChannelRenewal transport channel peer)) p =
      handled_so p.allocations (renews_channels (number_at bytes) now p) (of_each (channels.renewed (number_at bytes) now) (channel_renewed_stay (number_at bytes) now) p.allocations)
  bound_keeps (Some (NewPermission transport ip)) p = ignored p
  bound_keeps (Some (Renewal transport ip)) p = ignored p

  unbound_keeps : (what : Option PendingRequest) (p : Protocol) → Keeps p.allocations (IsUnboundFor what p (number_at bytes))
  unfolding unbound expires_due
  unbound_keeps None p = ignored p
  unbound_keeps (Some (Lifetime lifetime)) p = ignored p
  unbound_keeps (Some (NewConnection to)) p = ignored p
  unbound_keeps (Some (NewChannel transport channel peer)) p =
      handled_so p.allocations (unbound transport peer (permission_with (number_at bytes) p.allocations) (number_at bytes) p)
      (unbinds (permission_with (number_at bytes) p.allocations) p.allocations)
  unbound_keeps (Some (ChannelRenewal transport channel peer)) p =
      handled_so p.allocations (expires_due transport peer (number_at bytes) p) (of_each (channels.expire_due (number_at bytes)) (expire_stay (number_at bytes)) p.allocations)
  unbound_keeps (Some (NewPermission transport ip)) p = ignored p
  unbound_keeps (Some (Renewal transport ip)) p = ignored p

  binding_keeps : (p : Protocol) → Keeps p.allocations (IsBindResponded p bytes now)
  binding_keeps p = tested (is_error_class (class_of (kind_at bytes)))
      (unbound_keeps (pending_request (number_at bytes) p.allocations) p) (bound_keeps (pending_request (number_at bytes) p.allocations) p)

  -- The response to a CONNECT.
  connects : (what : Option PendingRequest) (reported : Option ℕ) (old : List Allocation) → AreOf old (connections.answered what reported (number_at bytes) old)
  connects None reported old = of_all old
  connects (Some (Lifetime lifetime)) reported old = of_all old
  connects (Some (NewChannel transport channel peer)) reported old = of_all old
  connects (Some (ChannelRenewal transport channel peer)) reported old = of_all old
  connects (Some (NewPermission transport ip)) reported old = of_all old
  connects (Some (Renewal transport ip)) reported old = of_all old
  connects (Some (NewConnection peer)) None old = of_each (connections.given_up (Some (number_at bytes))) (given_up_stay (Some (number_at bytes))) old
  connects (Some (NewConnection peer)) (Some connection) old = of_first (connections.connected connection peer (number_at bytes)) (λ a. refl) (awaits_reply (number_at bytes)) old

  connect_after : (p : Protocol) → AreOf p.allocations (after_connect bytes p).allocations
  unfolding after_connect
  connect_after p = connects (pending_request (number_at bytes) p.allocations) (connection_reported bytes) p.allocations

  connect_keeps : (p : Protocol) → Keeps p.allocations (IsConnectResponded p bytes)
  connect_keeps p = outcome (connections.is_connect (pending_request (number_at bytes) p.allocations)) p.allocations (after_connect bytes p) (connect_after p)

  request_keeps : (p : Protocol) → Keeps p.allocations (IsRequestAnswered p bytes now)
  request_keeps p = tested (method_of (kind_at bytes) == refresh_method) (handled_so p.allocations (after_refresh bytes now p) (refresh_after p))
      (tested (method_of (kind_at bytes) == create_permission_method) (permission_keeps p)
      (tested (method_of (kind_at bytes) == channel_bind_method) (binding_keeps p)
      (tested (method_of (kind_at bytes) == connect_method) (connect_keeps p) (ignored p))))

  request_accepted : (p : Protocol) → Keeps p.allocations (IsRequestAnswered (accepted bytes p) bytes now)
  unfolding accepted
  request_accepted p = record { keeps = (request_keeps (accepted bytes p)).keeps }

  -- The server's own request changes no connection.
  answer_stays : (answer : AttemptAnswer) (p : Protocol) → AreOf p.allocations (answering answer (number_at bytes) p).allocations
  unfolding answering
  answer_stays answer p = of_all p.allocations

  reject_stays : (answer : AttemptAnswer) (p : Protocol) → AreOf p.allocations (rejecting answer (number_at bytes) p).allocations
  unfolding rejecting
  reject_stays answer p =
      elim (is_at_limit p.max_connection_attempts (length p.queue)) as (λ (b : Bool). AreOf p.allocations (if b then p else answering answer (number_at bytes) p).allocations) [
        | true ↦ of_all p.allocations
        | false ↦ answer_stays answer p
      ]

  attempt_in : (found : Option Allocation) (connection : ℕ) (peer : SocketAddr) (p : Protocol) → AreOf p.allocations (after_attempt_in found connection peer (number_at bytes) p).allocations
  attempt_in None connection peer p = reject_stays BadRequest p
  attempt_in (Some a) connection peer p =
      let change = attempts.attempted connection peer (number_at bytes) in
      let begun : Protocol = record p { allocations = change_first (may_join peer p) change p.allocations } in
      let full : Bool = is_at_limit p.max_connection_attempts (length a.waiting) in
      elim (attempts.is_joining peer a) as (λ (b : Bool). AreOf p.allocations (if b then rejecting AlreadyExists (number_at bytes) p
      else if full then rejecting Failed (number_at bytes) p else begun).allocations) [
        | true ↦ reject_stays AlreadyExists p
        | false ↦ elim full as (λ (b : Bool). AreOf p.allocations (if b then rejecting Failed (number_at bytes) p else begun).allocations) [
          | true ↦ reject_stays Failed p
          | false ↦ of_first change (λ a. refl) (may_join peer p) p.allocations
        ]
      ]

  attempt_of : (connection : Option ℕ) (peer : Option SocketAddr) (p : Protocol) → AreOf p.allocations (after_attempt_of connection peer (number_at bytes) p).allocations
  attempt_of None peer p = reject_stays BadRequest p
  attempt_of (Some connection) None p = reject_stays BadRequest p
  attempt_of (Some connection) (Some peer) p = attempt_in (find (may_join peer p) p.allocations) connection peer p

  attempt_keeps : (p : Protocol) → Keeps p.allocations (IsAttemptTaken p bytes)
  attempt_keeps p = tested (is_attempt bytes) (handled_so p.allocations (after_attempt bytes p) (attempt_of (connection_reported bytes) (peer_reported bytes) p)) (ignored p)

  -- An indication changes no connection.
  indication_keeps : (p : Protocol) → Keeps p.allocations (IsIndicationTaken p bytes)
  indication_keeps p =
      tested (takes_offer p bytes)
      (handled_so p.allocations (after_offer bytes p)
      (offer_so bytes p (λ q. AreOf p.allocations q.allocations) (of_all p.allocations)
      (λ connection peer a reported named found room. of_first (attempts.offered connection peer) (λ x. refl) (may_join peer p) p.allocations)))
      (ignored p)

  taken_keeps : (p : Protocol) → Keeps p.allocations (IsTakenUp p bytes now)
  taken_keeps p = tested (is_response bytes && is_awaited p.agent bytes) (request_accepted p) (attempt_keeps p)

  standing_keeps : (verdict : Verdict) (p : Protocol) → Keeps p.allocations (IsJudgedStanding verdict p bytes now)
  standing_keeps (Ok (ResendRequest choice)) p = rechallenged_keeps p
  standing_keeps (Ok (Validated algorithm)) p = taken_keeps p
  standing_keeps (Err NoMemory) p = never p.allocations
  standing_keeps (Err Unauthorized) p = ignored p
  standing_keeps (Err (IntegrityFailed algorithm)) p = ignored p
  standing_keeps (Err UnsupportedFeature) p = ignored p

  -- ---- any message

  module _ (old : Protocol) where
    followed_keeps : (follows : Follows) → ((verdict : Verdict) (p : Protocol) → Keeps p.allocations (follows verdict p bytes now)) → Keeps old.allocations (IsFollowed follows old bytes now)
    followed_keeps follows each = record { keeps = λ handled new h. (each h.verdict (judged h.auth old)).keeps handled new h.outcome }

    processed_in : (phase : Phase) → Keeps old.allocations (IsProcessedIn phase old bytes now)
    processed_in Initial = ignored old
    processed_in (InitialSent numbers) = tested (is_response bytes) (followed_keeps IsFirstJudged first_keeps) (ignored old)
    processed_in (Authenticating numbers) = tested (is_response bytes && has_number (number_at bytes) numbers) (followed_keeps IsSignedJudged signed_keeps) (ignored old)
    processed_in Authenticated = tested (is_indication (class_of (kind_at bytes))) (indication_keeps old) (followed_keeps IsJudgedStanding standing_keeps)
    processed_in Ended = ignored old

    pub processed_keeps : Keeps old.allocations (IsProcessed old bytes now)
    processed_keeps = tested (is_unawaited old bytes) (ignored old) (processed_in old.phase)

-- ---- bytes that wait

-- No connection buffers bytes of its peer.
abbrev pub NoneRaw : List Allocation → Type 0
NoneRaw all = (a : Allocation) → IsIn a all → (c : Connection) → IsIn c a.connections → has_raw c ≡ true → ⊥

-- If an element passes, one is found.
found_one : {X : Type 0} (p : X → Bool) (xs : List X) (x : X) → IsIn x xs → p x ≡ true → find p xs ≡ None → ⊥
found_one p [] x h is none = h
found_one p (y ∷ ys) x h is none = elim (cases_Bool (p y)) [
  | inl passes ↦
      let here : find p (y ∷ ys) ≡ Some y = rw passes refl in
      Prim.cc (sym here ∙ none)
  | inr fails ↦
      let later : find p (y ∷ ys) ≡ find p ys = rw fails refl in
      elim h [
        | inl same ↦ Prim.cc (sym (ap p same ∙ is) ∙ fails)
        | inr rest ↦ found_one p ys x rest is (sym later ∙ none)
      ]
]

none_passes : {X : Type 0} (p : X → Bool) (xs : List X) → list_any p xs ≡ true → find p xs ≡ None → ⊥
none_passes p xs any none = let one = passes_one p xs any in found_one p xs one.one one.listed one.passes none

pub none_raw : (all : List Allocation) → first_raw all ≡ None → NoneRaw all
none_raw all none a listed c there raw = by (find is_any_raw all) refl none
  where
    some : is_any_raw a ≡ true
    some = any_passes has_raw a.connections c there raw

    in_it : (x : Allocation) → find is_any_raw all ≡ Some x → (o : Option Connection) → find has_raw x.connections ≡ o → o ≡ None → ⊥
    in_it x at None is h =
        let any : list_any has_raw x.connections ≡ true = found_passes is_any_raw all x at in
        none_passes has_raw x.connections any is
    in_it x at (Some k) is h = Prim.cc h

    by : (o : Option Allocation) → find is_any_raw all ≡ o → option_and_then (λ (x : Allocation). find has_raw x.connections) o ≡ None → ⊥
    by None at h = found_one is_any_raw all a listed some at
    by (Some x) at h = in_it x at (find has_raw x.connections) refl h

pub raw_none : (all : List Allocation) → NoneRaw all → first_raw all ≡ None
raw_none all none = by (first_raw all) refl
  where
    by : (o : Option Connection) → first_raw all ≡ o → o ≡ None
    by None at = refl
    by (Some k) at =
        let first = raw_first all k at in
        absurd (none first.allocation (found_in is_any_raw all first.allocation first.found) k (found_in has_raw first.allocation.connections k first.at)
        (found_passes has_raw first.allocation.connections k first.at))

pub still_none : (old new : List Allocation) → AreOf old new → first_raw old ≡ None → first_raw new ≡ None
still_none old new are none = raw_none new (λ a listed c there raw. let was = are a listed c there in none_raw old none was.before was.listed c was.has raw)

pub processed_none : (old : Protocol) (bytes : List ℕ) (now : ℕ) (handled : Bool) (new : Protocol) → IsProcessed old bytes now handled new → first_raw old.allocations ≡ None → first_raw new.allocations ≡ None
processed_none old bytes now handled new is none = still_none old.allocations new.allocations ((processed_keeps bytes now old).keeps handled new is) none
