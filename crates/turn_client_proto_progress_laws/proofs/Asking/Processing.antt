-- An established client stays so when it handles a message, if that is no challenge of another realm.
use Rattle.std.proofs.Common.{◌≡◌, ℕ, zero, suc, Bool, List, [], ◌∷◌, length, map, Option, Some, None, refl, sym, ap, ◌∙◌, subst, inl, inr}
use Rattle.std.specs.Prelude.{◌==◌, ◌&&◌, nat_le, Result, Ok, Err, find}
use Rattle.std.specs.List.{list_any}
use Rattle.std.specs.declared.net.ip_addr.IpAddr.{IpAddr}
use Rattle.std.specs.declared.net.socket_addr.SocketAddr.{SocketAddr}
use Rattle.std.proofs.lemmas.Bool.{cases_Bool}
use Rattle.turn_client_proto_messages.specs.StunTypesWire.Attributes.{kind_at}
use Rattle.turn_client_proto_messages.specs.StunTypesWire.Grammar.{number_at}
use Rattle.turn_client_proto_messages.specs.StunTypesWire.declared.algorithm.IntegrityAlgorithm.{IntegrityAlgorithm}
use Rattle.turn_client_proto_messages.specs.StunTypesWire.Types.{class_of, method_of}
use Rattle.turn_client_proto_messages.specs.StunTypesBase.declared.transport.TransportType.{TransportType}
use Rattle.turn_client_proto_messages.specs.StunProtoClient.Challenges.{list_for_choice}
use Rattle.turn_client_proto_messages.specs.StunProtoClient.Client as auth
use Rattle.turn_client_proto_messages.specs.StunProtoClient.declared.error.LongTermClientAuthError.{LongTermClientAuthError}
use Rattle.turn_client_proto_messages.specs.StunProtoClient.declared.error.LongTermClientAuthError.TheVariants.{Unauthorized, IntegrityFailed, UnsupportedFeature, NoMemory}
use Rattle.turn_client_proto_messages.specs.StunProtoClient.ClientValidation.{going_by}
use Rattle.turn_client_proto_messages.specs.StunProtoClient.declared.validation.LongTermClientValidation.{LongTermClientValidation}
use Rattle.turn_client_proto_messages.specs.StunProtoClient.declared.validation.LongTermClientValidation.TheVariants.{ResendRequest, Validated}
use Rattle.turn_client_proto_messages.specs.StunProtoAgent.Handling.{is_awaited, is_response}
use Rattle.turn_client_proto_messages.proofs.StunProtoClient.Stepping.{step_of}
use Rattle.turn_client_proto_messages.specs.TurnTypesAttributes.TurnRegistry.{channel_bind_method, connect_method, create_permission_method, refresh_method}
use Rattle.turn_client_proto_messages.specs.Allocation.Awaited.{asks_for_permission}
use Rattle.turn_client_proto_messages.specs.Allocation.Changes.{change_first}
use Rattle.turn_client_proto_messages.specs.Allocation.Refreshing.{ends_by, least_of, lifetime_requested, renewed, renewed_by}
use Rattle.turn_client_proto_messages.specs.Allocation.declared.allocation.Allocation.{Allocation}
use Rattle.turn_client_proto_messages.specs.Allocation.PendingRequests.{addresses_for, pending_request, reissued_under, awaits_reply, permission_too}
use Rattle.turn_client_proto_step_laws.specs.Peers.Channel.Granted as channel_granted
use Rattle.turn_client_proto_messages.specs.Allocation.declared.pending.PendingRequest.{PendingRequest}
use Rattle.turn_client_proto_messages.specs.Allocation.declared.pending.PendingRequest.TheVariants.{ChannelRenewal, Lifetime, NewChannel, NewConnection, NewPermission, Renewal}
use Rattle.turn_client_proto_step_laws.specs.Connection.Attempts.{attempted, is_joining, offered}
use Rattle.turn_client_proto_step_laws.specs.Connection.Reported.{answered as connections_answered, connected, given_up}
use Rattle.turn_client_proto_handshake_laws.specs.Core.Asking.{requested}
use Rattle.turn_client_proto_handshake_laws.specs.Core.Attempting.{IsAttemptTaken, IsIndicationTaken, after_attempt_in, after_attempt_of, after_offer, answering, is_at_limit, is_attempt, may_join, rejecting, takes_offer}
use Rattle.turn_client_proto_handshake_laws.specs.Core.Binding as binding
use Rattle.turn_client_proto_handshake_laws.specs.Core.Binding.{IsBindResponded, IsBoundFor, IsUnboundFor, expires_due, permission_with, permitted_with, renews_channels, rejected_with, unbound}
use Rattle.turn_client_proto_handshake_laws.specs.Core.Ending.{ended}
use Rattle.turn_client_proto_handshake_laws.specs.Core.Outcomes.{IsHandled, IsIgnored}
use Rattle.turn_client_proto_handshake_laws.specs.Core.Permitting as permitting
use Rattle.turn_client_proto_handshake_laws.specs.Core.Permitting.{IsGrantedFor, IsPermissionResponded, IsRefusedFor, refused, renews}
use Rattle.turn_client_proto_handshake_laws.specs.Core.Receiving.{IsFollowed, IsProcessed, IsProcessedIn, is_unawaited}
use Rattle.turn_client_proto_handshake_laws.specs.Core.Responding.{accepted, challenged, is_error_class, is_tired, judged}
use Rattle.turn_client_proto_handshake_laws.specs.Core.Standing.{IsRequestedAgain, IsConnectResponded, IsJudgedStanding, IsRechallenged, IsRequestAnswered, IsSentAgain, IsTakenUp, after_connect, after_refresh, asks_again, deallocated, is_refreshed, refreshed}
use Rattle.turn_client_proto_messages.specs.Judging.{IsJudged}
use Rattle.turn_client_proto_messages.specs.declared.answer.AttemptAnswer.{AttemptAnswer}
use Rattle.turn_client_proto_messages.specs.declared.answer.AttemptAnswer.TheVariants.{AlreadyExists, BadRequest, Failed}
use Rattle.turn_client_proto_messages.specs.Reported.{connection_reported, lifetime_reported, peer_reported}
use Rattle.turn_client_proto_handshake_laws.specs.Core.declared.protocol.Phase.{Phase}
use Rattle.turn_client_proto_handshake_laws.specs.Core.declared.protocol.Phase.TheVariants.{Initial, InitialSent, Authenticating, Authenticated, Ended}
use Rattle.turn_client_proto_handshake_laws.specs.Core.declared.protocol.Protocol.{Protocol}
use Rattle.turn_client_proto_messages.specs.TurnRuns.Indications.{is_indication}
use Rattle.turn_client_proto_step_laws.specs.Peers.Permission.Granted as permission_granted
use Rattle.turn_client_proto_messages.proofs.Readable.{stay_readable}
use Rattle.turn_client_proto_messages.proofs.Short.{stay_short}
use Rattle.turn_client_proto_handshake_laws.specs.Sent.{Beginning}
use Rattle.turn_client_proto_progress_laws.specs.Speaking.{HasAtMost, HasBeenServed, Signs, Speaks, ReportsRealm}
use Rattle.turn_client_proto_step_laws.proofs.Offering.{offer_so}
use Rattle.turn_client_proto_progress_laws.proofs.Asking.Between.{tested}
use Rattle.turn_client_proto_progress_laws.proofs.Asking.Granted.{after_like}
use Rattle.turn_client_proto_progress_laws.proofs.Asking.Others.{end_speaks}
use Rattle.turn_client_proto_progress_laws.proofs.Asking.Moving.{asked_of}
use Rattle.turn_client_proto_progress_laws.proofs.Asking.Speaking.{AllStay, IsLike, Stays, as_it_is, most_changed, most_mapped, own_agent, speaks_with}

-- ---- who signs

module _ (b : Beginning) (realm message : List ℕ) (decodes : ReportsRealm realm message) (old new : auth.Client) (is : Signs b realm old) where
  -- The challenge that is stored afterwards.
  record IsStored : Type 0 where
    challenge : auth.Challenge
    stored : new.challenge ≡ Some challenge
    realm_is : challenge.realm ≡ realm

  going : (integrity : Option IntegrityAlgorithm) → new ≡ going_by old integrity → IsStored
  going integrity same = record { challenge = is.challenge; stored = ap (λ (c : auth.Client). c.challenge) same ∙ is.stored; realm_is = is.realm_is }

  as_before : new ≡ old → IsStored
  as_before same = record { challenge = is.challenge; stored = ap (λ (c : auth.Client). c.challenge) same ∙ is.stored; realm_is = is.realm_is }

  by_verdict : (verdict : Result LongTermClientValidation LongTermClientAuthError) → IsJudged old message verdict new → IsStored
  by_verdict (Ok (ResendRequest choice)) r = record {
    challenge = record { realm = r.reported.realm; nonce = r.reported.nonce; offered = list_for_choice old.hardened r.reported; choice = choice };
    stored = ap (λ (c : auth.Client). c.challenge) r.stored;
    realm_is = decodes r.reported r.visible;
  }
  by_verdict (Ok (Validated algorithm)) r = going (Some algorithm) r.stored
  by_verdict (Err Unauthorized) r = going None r.stored
  by_verdict (Err (IntegrityFailed algorithm)) r = going (Some r.standing.challenge.choice) r.stored
  by_verdict (Err UnsupportedFeature) r = as_before r.unchanged
  by_verdict (Err NoMemory) r = as_before r.unchanged

  pub judged_signs : (verdict : Result LongTermClientValidation LongTermClientAuthError) → IsJudged old message verdict new → Signs b realm new
  judged_signs verdict r =
      let step = step_of old new message verdict r in
      let k = by_verdict verdict r in
      record {
        account = step.account is.settled ∙ is.account;
        settled = step.next_account is.settled;
        hides = step.anonymous_username ∙ is.hides;
        algorithms = step.algorithms ∙ is.algorithms;
        hardened = step.hardened ∙ is.hardened;
        challenge = k.challenge;
        stored = k.stored;
        realm_is = k.realm_is;
        short = stay_short old new message verdict r is.short;
        read = stay_readable old new message verdict r is.read;
      }

-- ---- what becomes of an allocation

too_stay : (old number : ℕ) → AllStay (permission_too old number)
unfolding permission_too
too_stay old number a = elim (cases_Bool (list_any (asks_for_permission old) a.pending_permissions)) [
  | inl asks ↦ rw asks (record { transport = refl; address = refl })
  | inr none ↦ rw none (record { transport = refl; address = refl })
]

again_stay : (what : PendingRequest) (old number : ℕ) → AllStay (reissued_under what old number)
again_stay (Lifetime lifetime) old number a = record { transport = refl; address = refl }
again_stay (NewChannel transport channel peer) old number a = (let more = too_stay old number _ in record { transport = more.transport; address = more.address })
again_stay (ChannelRenewal transport channel peer) old number a = (let more = too_stay old number _ in record { transport = more.transport; address = more.address })
again_stay (NewPermission transport ip) old number a = record { transport = refl; address = refl }
again_stay (Renewal transport ip) old number a = record { transport = refl; address = refl }
again_stay (NewConnection peer) old number a = record { transport = refl; address = refl }

refreshed_stay : (least number now : ℕ) (reported : Option ℕ) → AllStay (renewed least number now reported)
unfolding renewed
refreshed_stay least number now reported a = by (lifetime_requested number a.pending_refreshes) reported
  where
    by : (lifetime reported : Option ℕ) → Stays a (renewed_by least now reported lifetime a)
    by None reported = as_it_is a
    by (Some zero) reported = record { transport = refl; address = refl }
    by (Some (suc n)) None = as_it_is a
    by (Some (suc n)) (Some lifetime) = elim (cases_Bool (nat_le least lifetime)) [
      | inl enough ↦ rw enough (record { transport = refl; address = refl })
      | inr short ↦ rw short (as_it_is a)
    ]

permissions_stay : (number now : ℕ) → AllStay (permission_granted.renewed number now)
unfolding permission_granted.renewed
permissions_stay number now a = record { transport = refl; address = refl }

turned_stay : (number : ℕ) → AllStay (permission_granted.rejected number)
unfolding permission_granted.rejected
turned_stay number a = record { transport = refl; address = refl }

channels_stay : (number now : ℕ) → AllStay (channel_granted.renewed number now)
unfolding channel_granted.renewed
channels_stay number now a = record { transport = refl; address = refl }

unbound_stay : (number : ℕ) → AllStay (channel_granted.rejected number)
unfolding channel_granted.rejected
unbound_stay number a = record { transport = refl; address = refl }

expire_stay : (number : ℕ) → AllStay (channel_granted.expire_due number)
unfolding channel_granted.expire_due
expire_stay number a = record { transport = refl; address = refl }

given_up_stay : (over : Option ℕ) → AllStay (given_up over)
unfolding given_up
given_up_stay over a = record { transport = refl; address = refl }

-- ---- what becomes of the client

module _ (b : Beginning) (realm : List ℕ) (address : SocketAddr) where
  abbrev Speaking : Protocol → Type 0
  Speaking q = Speaks b realm address q

  -- The message is handled, or ignored.
  handled_so : (after : Protocol) (handled : Bool) (q : Protocol) → Speaking after → IsHandled after handled q → Speaking q
  handled_so after handled q is r = subst (λ (y : Protocol). Speaking y) (sym r.1) is

  ignored_so : (after : Protocol) (handled : Bool) (q : Protocol) → Speaking after → IsIgnored after handled q → Speaking q
  ignored_so after handled q is r = subst (λ (y : Protocol). Speaking y) (sym r.1) is

  module _ (p : Protocol) (is : Speaks b realm address p) where
    -- The client with other allocations.
    with_allocations : (q : Protocol) → IsLike b realm address p is q.agent → q.server ≡ p.server → q.allocates ≡ p.allocates → asked_of q ≡ asked_of p → q.auth ≡ p.auth → q.phase ≡ p.phase → HasAtMost b address q.allocations → Speaking q
    with_allocations q = speaks_with b realm address p is q

    accepted_so : (bytes : List ℕ) → Speaking (accepted bytes p)
    unfolding accepted
    accepted_so bytes = (let like = after_like p.agent bytes p.server in
        with_allocations (accepted bytes p) (record { remote = like.remote; transport = like.transport; here = like.here; waits = like.waits }) refl refl refl refl refl is.one)

    -- ---- a challenge

    sent_again : (what : PendingRequest) (bytes : List ℕ) (now : ℕ) (handled : Bool) (q : Protocol) → IsSentAgain what p bytes now handled q → Speaking q
    unfolding challenged asks_again requested
    sent_again what bytes now handled q r = subst (λ (y : Protocol). Speaking y) (sym r.outcome.1) (
        let like = after_like (asks_again what (number_at bytes) r.number now p).agent bytes p.server in
        with_allocations _ (record { remote = like.remote; transport = like.transport; here = like.here; waits = like.waits }) refl refl refl refl refl
        (most_changed b address (awaits_reply (number_at bytes)) (reissued_under what (number_at bytes) r.number) (again_stay what (number_at bytes) r.number) p.allocations is.one))

    requested_again : (what : Option PendingRequest) (bytes : List ℕ) (now : ℕ) (handled : Bool) (q : Protocol) → IsRequestedAgain what p bytes now handled q → Speaking q
    requested_again None bytes now handled q r = ignored_so p handled q is r
    requested_again (Some what) bytes now handled q r = sent_again what bytes now handled q r

    rechallenged : (bytes : List ℕ) (now : ℕ) (handled : Bool) (q : Protocol) → IsRechallenged p bytes now handled q → Speaking q
    rechallenged bytes now handled q r = tested (is_tired p) (λ _ x. handled_so (ended p) handled q (end_speaks b realm address p is) x)
        (λ _ x. tested (is_awaited p.agent bytes) (λ _ y. requested_again (pending_request (number_at bytes) p.allocations) bytes now handled q y) (λ _ y. ignored_so p handled q is y) x) r

    -- ---- the response to a REFRESH

    gone : Speaking (deallocated p)
    unfolding deallocated
    gone = record {
      settings = record {
        server = is.settings.server;
        remote = is.settings.remote;
        transport = is.settings.transport;
        here = is.settings.here;
        waits = is.settings.waits;
        allocates = is.settings.allocates;
        families = is.settings.families;
        options = is.settings.options;
        pace = is.settings.pace;
        indications = is.settings.indications;
        usual = is.settings.usual;
      };
      signs = is.signs;
      served = tt;
      one = tt;
    }

    refreshed_so : (bytes : List ℕ) (now : ℕ) → Speaking (refreshed bytes now p)
    unfolding refreshed
    refreshed_so bytes now = elim (cases_Bool (list_any (ends_by (number_at bytes)) p.allocations)) [
      | inl ends ↦ rw ends gone
      | inr stays ↦ rw stays (with_allocations (record p { allocations = map (renewed (least_of p.short_lifetimes) (number_at bytes) now (lifetime_reported bytes)) p.allocations }) (own_agent b realm address p is) refl refl refl refl refl
          (most_mapped b address (renewed (least_of p.short_lifetimes) (number_at bytes) now (lifetime_reported bytes)) (refreshed_stay (least_of p.short_lifetimes) (number_at bytes) now (lifetime_reported bytes)) p.allocations is.one))
    ]

    refresh_so : (bytes : List ℕ) (now : ℕ) → Speaking (after_refresh bytes now p)
    unfolding after_refresh
    refresh_so bytes now = elim (cases_Bool (is_refreshed bytes)) [
      | inl granted ↦ rw granted (refreshed_so bytes now)
      | inr not ↦ rw not is
    ]

    -- ---- the response to a CREATE_PERMISSION

    granted_so : (transport : TransportType) (ips : List IpAddr) (number now : ℕ) → Speaking (permitting.granted transport ips number now p)
    unfolding permitting.granted
    granted_so transport ips number now = with_allocations (permitting.granted transport ips number now p) (own_agent b realm address p is) refl refl refl refl refl
        (most_changed b address (awaits_reply number) (permission_granted.permitted_all ips number now) (λ a. record { transport = refl; address = refl }) p.allocations is.one)

    renewed_so : (number now : ℕ) → Speaking (renews number now p)
    unfolding renews
    renewed_so number now = with_allocations (renews number now p) (own_agent b realm address p is) refl refl refl refl refl (most_mapped b address (permission_granted.renewed number now) (permissions_stay number now) p.allocations is.one)

    refused_so : (transport : TransportType) (ips : List IpAddr) (number : ℕ) → Speaking (refused transport ips number p)
    unfolding refused
    refused_so transport ips number = with_allocations (refused transport ips number p) (own_agent b realm address p is) refl refl refl refl refl (most_mapped b address (permission_granted.rejected number) (turned_stay number) p.allocations is.one)

    permission_granted_for : (what : Option PendingRequest) (number now : ℕ) (handled : Bool) (q : Protocol) → IsGrantedFor what p number now handled q → Speaking q
    permission_granted_for (Some (NewPermission transport ip)) number now handled q r = handled_so _ handled q (granted_so transport (addresses_for number p.allocations) number now) r
    permission_granted_for (Some (Renewal transport ip)) number now handled q r = handled_so _ handled q (renewed_so number now) r
    permission_granted_for (Some (Lifetime lifetime)) number now handled q r = ignored_so p handled q is r
    permission_granted_for (Some (NewConnection to)) number now handled q r = ignored_so p handled q is r
    permission_granted_for (Some (NewChannel transport channel peer)) number now handled q r = ignored_so p handled q is r
    permission_granted_for (Some (ChannelRenewal transport channel peer)) number now handled q r = ignored_so p handled q is r
    permission_granted_for None number now handled q r = ignored_so p handled q is r

    permission_refused_for : (what : Option PendingRequest) (number : ℕ) (handled : Bool) (q : Protocol) → IsRefusedFor what p number handled q → Speaking q
    permission_refused_for (Some (NewPermission transport ip)) number handled q r = handled_so _ handled q (refused_so transport (addresses_for number p.allocations) number) r
    permission_refused_for (Some (Renewal transport ip)) number handled q r = handled_so _ handled q (refused_so transport (ip ∷ []) number) r
    permission_refused_for (Some (Lifetime lifetime)) number handled q r = ignored_so p handled q is r
    permission_refused_for (Some (NewConnection to)) number handled q r = ignored_so p handled q is r
    permission_refused_for (Some (NewChannel transport channel peer)) number handled q r = ignored_so p handled q is r
    permission_refused_for (Some (ChannelRenewal transport channel peer)) number handled q r = ignored_so p handled q is r
    permission_refused_for None number handled q r = ignored_so p handled q is r

    permission_responded : (bytes : List ℕ) (now : ℕ) (handled : Bool) (q : Protocol) → IsPermissionResponded p bytes now handled q → Speaking q
    permission_responded bytes now handled q r = tested (is_error_class (class_of (kind_at bytes)))
        (λ _ x. permission_refused_for (pending_request (number_at bytes) p.allocations) (number_at bytes) handled q x)
        (λ _ x. permission_granted_for (pending_request (number_at bytes) p.allocations) (number_at bytes) now handled q x) r

    -- ---- the response to a CHANNEL_BIND

    most_permitted : (ip : Option IpAddr) (number now : ℕ) → HasAtMost b address (permitted_with ip number now p.allocations)
    most_permitted None number now = is.one
    most_permitted (Some ip) number now = most_changed b address (awaits_reply number) (permission_granted.permitted ip number now) (λ a. record { transport = refl; address = refl }) p.allocations is.one

    most_turned : (ip : Option IpAddr) (number : ℕ) (l : List Allocation) → HasAtMost b address l → HasAtMost b address (rejected_with ip number l)
    most_turned None number l one = one
    most_turned (Some ip) number l one = most_mapped b address (permission_granted.rejected number) (turned_stay number) l one

    bound_so : (transport : TransportType) (channel : ℕ) (peer : SocketAddr) (ip : Option IpAddr) (number now : ℕ) → Speaking (binding.bound transport channel peer ip number now p)
    unfolding binding.bound
    bound_so transport channel peer ip number now = with_allocations (binding.bound transport channel peer ip number now p) (own_agent b realm address p is) refl refl refl refl refl
        (most_changed b address (awaits_reply number) (channel_granted.bound channel peer number now) (λ a. record { transport = refl; address = refl }) (permitted_with ip number now p.allocations) (most_permitted ip number now))

    channels_so : (number now : ℕ) → Speaking (renews_channels number now p)
    unfolding renews_channels
    channels_so number now = with_allocations (renews_channels number now p) (own_agent b realm address p is) refl refl refl refl refl (most_mapped b address (channel_granted.renewed number now) (channels_stay number now) p.allocations is.one)

    unbound_so : (transport : TransportType) (peer : SocketAddr) (ip : Option IpAddr) (number : ℕ) → Speaking (unbound transport peer ip number p)
    unfolding unbound
    unbound_so transport peer ip number = with_allocations (unbound transport peer ip number p) (own_agent b realm address p is) refl refl refl refl refl
        (most_turned ip number (map (channel_granted.rejected number) p.allocations) (most_mapped b address (channel_granted.rejected number) (unbound_stay number) p.allocations is.one))

    expire_so : (transport : TransportType) (peer : SocketAddr) (number : ℕ) → Speaking (expires_due transport peer number p)
    unfolding expires_due
    expire_so transport peer number = with_allocations (expires_due transport peer number p) (own_agent b realm address p is) refl refl refl refl refl (most_mapped b address (channel_granted.expire_due number) (expire_stay number) p.allocations is.one)

    bound_for : (what : Option PendingRequest) (number now : ℕ) (handled : Bool) (q : Protocol) → IsBoundFor what p number now handled q → Speaking q
    bound_for (Some (NewChannel transport channel peer)) number now handled q r = handled_so _ handled q (bound_so transport channel peer (permission_with number p.allocations) number now) r
    bound_for (Some (ChannelRenewal transport channel peer)) number now handled q r = handled_so _ handled q (channels_so number now) r
    bound_for (Some (NewPermission transport ip)) number now handled q r = ignored_so p handled q is r
    bound_for (Some (Renewal transport ip)) number now handled q r = ignored_so p handled q is r
    bound_for (Some (Lifetime lifetime)) number now handled q r = ignored_so p handled q is r
    bound_for (Some (NewConnection to)) number now handled q r = ignored_so p handled q is r
    bound_for None number now handled q r = ignored_so p handled q is r

    unbound_for : (what : Option PendingRequest) (number : ℕ) (handled : Bool) (q : Protocol) → IsUnboundFor what p number handled q → Speaking q
    unbound_for (Some (NewChannel transport channel peer)) number handled q r = handled_so _ handled q (unbound_so transport peer (permission_with number p.allocations) number) r
    unbound_for (Some (ChannelRenewal transport channel peer)) number handled q r = handled_so _ handled q (expire_so transport peer number) r
    unbound_for (Some (NewPermission transport ip)) number handled q r = ignored_so p handled q is r
    unbound_for (Some (Renewal transport ip)) number handled q r = ignored_so p handled q is r
    unbound_for (Some (Lifetime lifetime)) number handled q r = ignored_so p handled q is r
    unbound_for (Some (NewConnection to)) number handled q r = ignored_so p handled q is r
    unbound_for None number handled q r = ignored_so p handled q is r

    bind_responded : (bytes : List ℕ) (now : ℕ) (handled : Bool) (q : Protocol) → IsBindResponded p bytes now handled q → Speaking q
    bind_responded bytes now handled q r = tested (is_error_class (class_of (kind_at bytes)))
        (λ _ x. unbound_for (pending_request (number_at bytes) p.allocations) (number_at bytes) handled q x)
        (λ _ x. bound_for (pending_request (number_at bytes) p.allocations) (number_at bytes) now handled q x) r

    -- ---- the response to a CONNECT, and a request of the server's

    most_connected : (what : Option PendingRequest) (connection : Option ℕ) (number : ℕ) → HasAtMost b address (connections_answered what connection number p.allocations)
    most_connected (Some (NewConnection peer)) (Some connection) number = most_changed b address (awaits_reply number) (connected connection peer number) (λ a. record { transport = refl; address = refl }) p.allocations is.one
    most_connected (Some (NewConnection peer)) None number = most_mapped b address (given_up (Some number)) (given_up_stay (Some number)) p.allocations is.one
    most_connected (Some (Lifetime lifetime)) connection number = is.one
    most_connected (Some (NewChannel transport channel peer)) connection number = is.one
    most_connected (Some (ChannelRenewal transport channel peer)) connection number = is.one
    most_connected (Some (NewPermission transport ip)) connection number = is.one
    most_connected (Some (Renewal transport ip)) connection number = is.one
    most_connected None connection number = is.one

    connect_responded : (bytes : List ℕ) (handled : Bool) (q : Protocol) → IsConnectResponded p bytes handled q → Speaking q
    unfolding after_connect
    connect_responded bytes handled q r = subst (λ (y : Protocol). Speaking y) (sym r.1)
        (with_allocations (after_connect bytes p) (own_agent b realm address p is) refl refl refl refl refl (most_connected (pending_request (number_at bytes) p.allocations) (connection_reported bytes) (number_at bytes)))

    answers_so : (ret : AttemptAnswer) (number : ℕ) → Speaking (answering ret number p)
    unfolding answering
    answers_so ret number = with_allocations (answering ret number p) (own_agent b realm address p is) refl refl refl refl refl is.one

    rejects_so : (ret : AttemptAnswer) (number : ℕ) → Speaking (rejecting ret number p)
    unfolding rejecting
    rejects_so ret number = elim (cases_Bool (is_at_limit p.max_connection_attempts (length p.queue))) [
      | inl full ↦ rw full is
      | inr room ↦ rw room (answers_so ret number)
    ]

    attempt_in : (found : Option Allocation) (connection : ℕ) (peer : SocketAddr) (number : ℕ) → Speaking (after_attempt_in found connection peer number p)
    attempt_in None connection peer number = rejects_so BadRequest number
    attempt_in (Some a) connection peer number = elim (cases_Bool (is_joining peer a)) [
      | inl joining ↦ rw joining (rejects_so AlreadyExists number)
      | inr new ↦ elim (cases_Bool (is_at_limit p.max_connection_attempts (length a.waiting))) [
        | inl full ↦ rw (new, full) (rejects_so Failed number)
        | inr room ↦ rw (new, room) (with_allocations (record p { allocations = change_first (may_join peer p) (attempted connection peer number) p.allocations }) (own_agent b realm address p is) refl refl refl refl refl
            (most_changed b address (may_join peer p) (attempted connection peer number) (λ x. record { transport = refl; address = refl }) p.allocations is.one))
      ]
    ]

    attempt_of : (connection : Option ℕ) (peer : Option SocketAddr) (number : ℕ) → Speaking (after_attempt_of connection peer number p)
    attempt_of (Some connection) (Some peer) number = attempt_in (find (may_join peer p) p.allocations) connection peer number
    attempt_of (Some connection) None number = rejects_so BadRequest number
    attempt_of None peer number = rejects_so BadRequest number

    attempt_taken : (bytes : List ℕ) (handled : Bool) (q : Protocol) → IsAttemptTaken p bytes handled q → Speaking q
    attempt_taken bytes handled q r = tested (is_attempt bytes) (λ _ x. handled_so _ handled q (attempt_of (connection_reported bytes) (peer_reported bytes) (number_at bytes)) x) (λ _ x. ignored_so p handled q is x) r

    -- ---- an indication

    indication_taken : (bytes : List ℕ) (handled : Bool) (q : Protocol) → IsIndicationTaken p bytes handled q → Speaking q
    indication_taken bytes handled q r = tested (takes_offer p bytes)
        (λ _ x. handled_so (after_offer bytes p) handled q
        (offer_so bytes p Speaking is
        (λ connection peer a reported named found room. with_allocations (record p { allocations = change_first (may_join peer p) (offered connection peer) p.allocations }) (own_agent b realm address p is) refl refl refl refl refl
        (most_changed b address (may_join peer p) (offered connection peer) (λ y. record { transport = refl; address = refl }) p.allocations is.one))) x)
        (λ _ x. ignored_so p handled q is x) r

    -- ---- all responses

    request_answered : (bytes : List ℕ) (now : ℕ) (handled : Bool) (q : Protocol) → IsRequestAnswered p bytes now handled q → Speaking q
    request_answered bytes now handled q r =
        tested (method_of (kind_at bytes) == refresh_method) (λ _ x. handled_so _ handled q (refresh_so bytes now) x)
        (λ _ x. tested (method_of (kind_at bytes) == create_permission_method) (λ _ y. permission_responded bytes now handled q y)
        (λ _ y. tested (method_of (kind_at bytes) == channel_bind_method) (λ _ z. bind_responded bytes now handled q z)
        (λ _ z. tested (method_of (kind_at bytes) == connect_method) (λ _ u. connect_responded bytes handled q u) (λ _ u. ignored_so p handled q is u) z) y) x) r

  -- ---- by the verdict

  module _ (p : Protocol) (is : Speaks b realm address p) (message : List ℕ) (now : ℕ) (handled : Bool) (q : Protocol) where
    taken_up : IsTakenUp p message now handled q → Speaking q
    taken_up r = tested (is_response message && is_awaited p.agent message)
        (λ _ x. request_answered (accepted message p) (accepted_so p is message) message now handled q x) (λ _ x. attempt_taken p is message handled q x) r

    by_standing : (verdict : Result LongTermClientValidation LongTermClientAuthError) → IsJudgedStanding verdict p message now handled q → Speaking q
    by_standing (Ok (ResendRequest choice)) r = rechallenged p is message now handled q r
    by_standing (Ok (Validated algorithm)) r = taken_up r
    by_standing (Err NoMemory) r = absurd r
    by_standing (Err Unauthorized) r = ignored_so p handled q is r
    by_standing (Err (IntegrityFailed algorithm)) r = ignored_so p handled q is r
    by_standing (Err UnsupportedFeature) r = ignored_so p handled q is r

  judged_speaks : (p : Protocol) → Speaks b realm address p → (client : auth.Client) → Signs b realm client → Speaking (judged client p)
  judged_speaks p is client signs = record {
    settings = record {
      server = is.settings.server;
      remote = is.settings.remote;
      transport = is.settings.transport;
      here = is.settings.here;
      waits = is.settings.waits;
      allocates = is.settings.allocates;
      families = is.settings.families;
      options = is.settings.options;
      pace = is.settings.pace;
      indications = is.settings.indications;
      usual = is.settings.usual;
    };
    signs = signs;
    served = is.served;
    one = is.one;
  }

  followed : (p : Protocol) → Speaks b realm address p → (message : List ℕ) → ReportsRealm realm message → (now : ℕ) (handled : Bool) (q : Protocol) → IsFollowed IsJudgedStanding p message now handled q → Speaking q
  followed p is message decodes now handled q f =
      let signs = judged_signs b realm message decodes p.auth f.auth is.signs f.verdict f.is_judged in
      by_standing (judged f.auth p) (judged_speaks p is f.auth signs) message now handled q f.verdict f.outcome

  in_phase : (p : Protocol) → Speaks b realm address p → (message : List ℕ) → ReportsRealm realm message → (now : ℕ) (handled : Bool) (q : Protocol) (f : Phase) → HasBeenServed f → IsProcessedIn f p message now handled q → Speaking q
  in_phase p is message decodes now handled q Initial served r = absurd served
  in_phase p is message decodes now handled q (InitialSent numbers) served r = absurd served
  in_phase p is message decodes now handled q (Authenticating numbers) served r = absurd served
  in_phase p is message decodes now handled q Authenticated served r =
      tested (is_indication (class_of (kind_at message))) (λ _ x. indication_taken p is message handled q x) (λ _ x. followed p is message decodes now handled q x) r
  in_phase p is message decodes now handled q Ended served r = ignored_so p handled q is r

  pub processed_speaks : (p : Protocol) → Speaks b realm address p → (message : List ℕ) → ReportsRealm realm message → (now : ℕ) (handled : Bool) (q : Protocol) → IsProcessed p message now handled q → Speaking q
  processed_speaks p is message decodes now handled q r =
      tested (is_unawaited p message) (λ _ x. ignored_so p handled q is x) (λ _ x. in_phase p is message decodes now handled q p.phase is.served x) r
