-- What becomes of a client's items, by the outcome of a message: nothing is there that wasn't before; or the
-- message was awaited and accepted, and no transaction ID was generated.
use Rattle.std.proofs.Common.{◌≡◌, ◌⊎◌, ℕ, ◌==◌, Bool, true, false, ◌&&◌, List, [], ◌∷◌, length, map, Option, Some, None, Ok, Err, if◌then◌else◌, refl, sym, ap, ◌∙◌, subst, inl, inr}
use Rattle.std.specs.Bool.{MatchBool}
use Rattle.std.specs.List.{find, list_any}
use Rattle.std.specs.declared.net.socket_addr.SocketAddr.{SocketAddr}
use Rattle.rand_chacha.specs.ChaCha.{ChaCha}
use Rattle.turn_client_proto_timers.specs.StunTypesWire.Attributes.{kind_at}
use Rattle.turn_client_proto_timers.specs.StunTypesWire.Grammar.{number_at}
use Rattle.turn_client_proto_timers.specs.StunTypesWire.declared.algorithm.IntegrityAlgorithm.{IntegrityAlgorithm}
use Rattle.turn_client_proto_timers.specs.StunTypesWire.declared.class.MessageClass.{MessageClass}
use Rattle.turn_client_proto_timers.specs.StunTypesWire.declared.class.MessageClass.TheVariants.{Request, Indication, Success, Error}
use Rattle.turn_client_proto_timers.specs.StunTypesWire.Types.{class_of, method_of}
use Rattle.turn_client_proto_timers.specs.StunTypesBase.declared.family.AddressFamily.{AddressFamily}
use Rattle.turn_client_proto_recv.specs.StunProtoClient.Client as signers
use Rattle.turn_client_proto_recv.specs.StunProtoClient.declared.error.LongTermClientAuthError.TheVariants.{Unauthorized, IntegrityFailed, UnsupportedFeature, NoMemory}
use Rattle.turn_client_proto_recv.specs.StunProtoClient.declared.validation.LongTermClientValidation.TheVariants.{ResendRequest, Validated}
use Rattle.turn_client_proto_timers.specs.StunProtoAgent.Handling.{is_awaited, is_response}
use Rattle.turn_client_proto_timers.specs.StunProtoAgent.State.{Agent}
use Rattle.turn_client_proto_recv.specs.TurnTypesAttributes.TurnRegistry.{channel_bind_method, connect_method, connection_bind_method, create_permission_method, refresh_method}
use Rattle.turn_client_proto_timers.specs.TurnRuns.Messages as run
use Rattle.turn_client_proto_timers.specs.Allocation.Awaited.{asks_for_permission, has_number, renews_channel, renews_permission}
use Rattle.turn_client_proto_timers.specs.Allocation.Changes.{change_first}
use Rattle.turn_client_proto_timers.specs.Allocation.Permissions as permissions
use Rattle.turn_client_proto_timers.specs.Allocation.Refreshing.{ends_by, least_of, refreshing, renewed}
use Rattle.turn_client_proto_timers.specs.Allocation.PendingRequests.{addresses_for, pending_request, reissued_under, awaits_reply, permission_too}
use Rattle.turn_client_proto_timers.specs.Allocation.Channels as channels
use Rattle.turn_client_proto_timers.specs.Allocation.declared.pending.PendingRequest.{PendingRequest}
use Rattle.turn_client_proto_timers.specs.Allocation.declared.pending.PendingRequest.TheVariants.{ChannelRenewal, Lifetime, NewChannel, NewConnection, NewPermission, Renewal}
use Rattle.turn_client_proto_timers.specs.Connection.Attempts.{attempted, is_joining, offered}
use Rattle.turn_client_proto_timers.specs.Connection.Sockets.{closed, has_from, is_from}
use Rattle.turn_client_proto_timers.specs.Connection.Streams.{awaiting, waits_in}
use Rattle.turn_client_proto_timers.specs.Connection.Reported.{is_connect}
use Rattle.turn_client_proto_recv.specs.Processing.{IsAnswerProcessed, IsAnswerJudged, IsRequestedAnew, IsProcessedAt, IsOfBinding, IsSettled, requested_anew, awaited_at, bound_at, aborted, is_answer, is_of_binding, is_success_class}
use Rattle.turn_client_proto_recv.specs.declared.processing.Joining.{Joining}
use Rattle.turn_client_proto_timers.specs.TurnRuns.Indications.{is_indication}
use Rattle.turn_client_proto_timers.specs.Messages.Reported.{connection_reported, lifetime_reported, peer_reported}
use Rattle.turn_client_proto_timers.specs.Messages.Judging.{IsJudged}
use Rattle.turn_client_proto_timers.specs.Messages.declared.answer.AttemptAnswer.{AttemptAnswer}
use Rattle.turn_client_proto_timers.specs.Messages.declared.answer.AttemptAnswer.TheVariants.{AlreadyExists, BadRequest, Failed}
use Rattle.turn_client_proto_recv.specs.Sockets.{binding_time}
use Rattle.turn_client_proto_timers.specs.Core.Allocating.{IsAllocatedFor, allocated, brought}
use Rattle.turn_client_proto_timers.specs.Core.Asking.{requested}
use Rattle.turn_client_proto_timers.specs.Core.Attempting.{IsAttemptTaken, IsIndicationTaken, after_attempt, after_attempt_in, after_attempt_of, after_offer, answering, is_at_limit, is_attempt, may_join, rejecting, takes_offer}
use Rattle.turn_client_proto_timers.specs.Core.Authenticating.{IsAccepted, IsAllocateAnswered, IsAllocatingAgain, IsChallenged, IsErrorAnswered, IsFirstJudged, IsSignedJudged, IsUnauthenticated, allocates_again, allocates_other, ends_unsigned, family_left}
use Rattle.turn_client_proto_timers.specs.Core.Binding.{IsBindResponded, IsBoundFor, IsUnboundFor, bound, expires_due, permission_with, renews_channels, unbound}
use Rattle.turn_client_proto_timers.specs.Core.Deleting.{is_authenticated}
use Rattle.turn_client_proto_timers.specs.Core.Ending.{ended}
use Rattle.turn_client_proto_timers.specs.StunTypesBase.Times.{time_after}
use Rattle.turn_client_proto_timers.specs.Core.Outcomes.{IsHandled, IsIgnored}
use Rattle.turn_client_proto_timers.specs.Core.Permitting as asking
use Rattle.turn_client_proto_timers.specs.Core.Permitting.{IsGrantedFor, IsPermissionResponded, IsRefusedFor}
use Rattle.turn_client_proto_timers.specs.Core.Receiving.{Follows, IsFollowed, IsProcessed, IsProcessedIn, is_unawaited}
use Rattle.turn_client_proto_timers.specs.Core.Responding.{accepted, answered, challenged, is_error_class, is_tired, judged}
use Rattle.turn_client_proto_timers.specs.Core.Standing.{IsRequestedAgain, IsConnectResponded, IsJudgedStanding, IsRechallenged, IsRequestAnswered, IsTakenUp, after_connect, after_refresh, asks_again, deallocated, is_refreshed, refreshed}
use Rattle.turn_client_proto_timers.specs.Core.declared.protocol.Phase.{Phase}
use Rattle.turn_client_proto_timers.specs.Core.declared.protocol.Phase.TheVariants.{Initial, InitialSent, Authenticating, Authenticated, Ended}
use Rattle.turn_client_proto_timers.specs.Core.declared.protocol.Protocol.{Protocol}
use Rattle.turn_client_proto_step_laws.specs.ClientWords.{Has, HasItself, HasPermission, HasChannel, HasConnection, IsStored}
use Rattle.turn_client_proto_step_laws.specs.Held.{Allocation, Binding, Channel, Connection, PendingRefresh, Permission}
use Rattle.turn_client_proto_step_laws.specs.RunClient.{parts_of}
use Rattle.turn_client_proto_step_laws.proofs.Adding.{AreLess, allocations_less}
use Rattle.turn_client_proto_step_laws.proofs.Lessening.{each_less}
use Rattle.turn_client_proto_step_laws.proofs.Lists.{both_so, in_changed}
use Rattle.turn_client_proto_step_laws.proofs.Offering.{offer_so}
use Rattle.turn_client_proto_step_laws.proofs.Once.Judging.{Verdict}
use Rattle.turn_client_proto_step_laws.proofs.Parting.{closed_less}
use Rattle.turn_client_proto_step_laws.proofs.Polling.{by_test}
use Rattle.turn_client_proto_step_laws.proofs.Realms.{IsGoing, going_at}
use Rattle.turn_client_proto_step_laws.proofs.Requesting.{authenticated}

-- ---- nothing is stored that wasn't

abbrev pub NoMore : List Allocation → List Allocation → Type 0
NoMore old new = (h : run.Held) → IsStored new h → IsStored old h

same_more : (all : List Allocation) → NoMore all all
same_more all h k = k

less_more : (p : Protocol) (new : List Allocation) → AreLess [] p.allocations new → NoMore p.allocations new
less_more p new less = (allocations_less [] [] (parts_of p) new less (λ r h. absurd h)).stored

-- A change after which an allocation has nothing more.
abbrev NothingMore : (Allocation → Allocation) → Type 0
NothingMore f = (a : Allocation) (h : run.Held) → Has (f a) h → Has a h

-- The first allocation that passes is changed in this way.
first_more : (f : Allocation → Allocation) → NothingMore f → (passes : Allocation → Bool) (old : List Allocation) → NoMore old (change_first passes f old)
first_more f none passes old h k = elim (in_changed passes f k.allocation old k.listed) [
  | inl was ↦ record { allocation = k.allocation; listed = was; has = k.has }
  | inr image ↦ record {
    allocation = image.source;
    listed = image.listed;
    has = none image.source h (subst (λ (a : Allocation). Has a h) image.is k.has);
  }
]

-- ---- a request that is made once more

module _ (old number : ℕ) where
  new_permissions : NothingMore (λ a. record a { pending_permissions = permissions.requested_again old number a.pending_permissions })
  new_permissions a h HasItself = HasItself
  new_permissions a h (HasPermission p listed) = HasPermission p listed
  new_permissions a h (HasChannel c listed) = HasChannel c listed
  new_permissions a h (HasConnection c listed bound) = HasConnection c listed bound

  renewed_permissions : NothingMore (λ a. record a { permissions = permissions.renewed_again old number a.permissions })
  renewed_permissions a h HasItself = HasItself
  renewed_permissions a h (HasPermission p listed) = elim (in_changed (renews_permission old) (permissions.awaiting number) p a.permissions listed) [
    | inl was ↦ HasPermission p was
    | inr image ↦ subst (λ (x : Permission). Has a (run.Permission a.transport x.ip)) (sym image.is) (HasPermission image.source image.listed)
  ]
  renewed_permissions a h (HasChannel c listed) = HasChannel c listed
  renewed_permissions a h (HasConnection c listed bound) = HasConnection c listed bound

  with_permission : NothingMore (permission_too old number)
  unfolding permission_too
  with_permission a h = by (list_any (asks_for_permission old) a.pending_permissions)
    where
      by : (b : Bool) → Has (if b then record a { pending_permissions = permissions.requested_again old number a.pending_permissions }
          else record a { permissions = permissions.renewed_again old number a.permissions }) h → Has a h
      by true = new_permissions a h
      by false = renewed_permissions a h

  new_channels : NothingMore (λ a. record a { pending_channels = channels.requested_again old number a.pending_channels })
  new_channels a h HasItself = HasItself
  new_channels a h (HasPermission p listed) = HasPermission p listed
  new_channels a h (HasChannel c listed) = HasChannel c listed
  new_channels a h (HasConnection c listed bound) = HasConnection c listed bound

  renewed_channels : NothingMore (λ a. record a { channels = channels.renewed_again old number a.channels })
  renewed_channels a h HasItself = HasItself
  renewed_channels a h (HasPermission p listed) = HasPermission p listed
  renewed_channels a h (HasChannel c listed) = elim (in_changed (renews_channel old) (channels.awaiting number) c a.channels listed) [
    | inl was ↦ HasChannel c was
    | inr image ↦ subst (λ (x : Channel). Has a (run.Channel x.number x.peer)) (sym image.is) (HasChannel image.source image.listed)
  ]
  renewed_channels a h (HasConnection c listed bound) = HasConnection c listed bound

  one_refresh : (refresh : PendingRefresh) → NothingMore (refreshing refresh)
  one_refresh refresh a h HasItself = HasItself
  one_refresh refresh a h (HasPermission p listed) = HasPermission p listed
  one_refresh refresh a h (HasChannel c listed) = HasChannel c listed
  one_refresh refresh a h (HasConnection c listed bound) = HasConnection c listed bound

  one_connect : (peer : SocketAddr) → NothingMore (reissued_under (NewConnection peer) old number)
  one_connect peer a h HasItself = HasItself
  one_connect peer a h (HasPermission p listed) = HasPermission p listed
  one_connect peer a h (HasChannel c listed) = HasChannel c listed
  one_connect peer a h (HasConnection c listed bound) = HasConnection c listed bound

  requested_more : (what : PendingRequest) → NothingMore (reissued_under what old number)
  requested_more (Lifetime lifetime) a h has = one_refresh (record { number = number; lifetime = lifetime }) a h has
  requested_more (NewChannel transport channel peer) a h has = new_channels a h (with_permission _ h has)
  requested_more (ChannelRenewal transport channel peer) a h has = renewed_channels a h (with_permission _ h has)
  requested_more (NewPermission transport ip) a h has = new_permissions a h has
  requested_more (Renewal transport ip) a h has = renewed_permissions a h has
  requested_more (NewConnection peer) a h has = one_connect peer a h has

-- ---- other changes

attempt_more : (connection : ℕ) (peer : SocketAddr) (number : ℕ) → NothingMore (attempted connection peer number)
attempt_more connection peer number a h HasItself = HasItself
attempt_more connection peer number a h (HasPermission p listed) = HasPermission p listed
attempt_more connection peer number a h (HasChannel c listed) = HasChannel c listed
attempt_more connection peer number a h (HasConnection c listed bound) = HasConnection c listed bound

offer_more : (connection : ℕ) (peer : SocketAddr) → NothingMore (offered connection peer)
offer_more connection peer a h HasItself = HasItself
offer_more connection peer a h (HasPermission p listed) = HasPermission p listed
offer_more connection peer a h (HasChannel c listed) = HasChannel c listed
offer_more connection peer a h (HasConnection c listed bound) = HasConnection c listed bound

-- A connection that awaits a response is not bound.
waits_more : (here : SocketAddr) (b : Binding) → NothingMore (waits_in here (Some b))
waits_more here b a h HasItself = HasItself
waits_more here b a h (HasPermission p listed) = HasPermission p listed
waits_more here b a h (HasChannel c listed) = HasChannel c listed
waits_more here b a h (HasConnection c listed bound) = elim (in_changed (is_from here) (awaiting (Some b)) c a.connections listed) [
  | inl was ↦ HasConnection c was bound
  | inr image ↦ absurd (Prim.cc (sym (ap (λ (x : Connection). x.awaited) image.is) ∙ bound))
]

-- ---- what came of a message

-- A client that has not ended accepted the message, by some algorithm.
pub record IsAcceptedBy (old : Protocol) (bytes : List ℕ) : Type 0 where
  pub going : IsGoing old.phase
  pub algorithm : IntegrityAlgorithm
  pub signer : signers.Client
  pub valid : IsJudged old.auth bytes (Ok (Validated algorithm)) signer

-- Nothing is there that wasn't before; or the message was awaited and accepted, and no transaction ID was
-- generated.
abbrev pub Comes : (Signed : Type 0) → (bytes : List ℕ) → List Allocation → Agent → ChaCha → Protocol → Type 0
Comes Signed bytes allocations agent rng new = NoMore allocations new.allocations ⊎ ((is_awaited agent bytes ≡ true) × (new.rng ≡ rng) × Signed)

-- Nothing is there that wasn't before, or no transaction ID was generated.
abbrev ComesQuietly : Protocol → Protocol → Type 0
ComesQuietly p new = NoMore p.allocations new.allocations ⊎ (new.rng ≡ p.rng)

abbrev Leads : Type 1
Leads = Bool → Protocol → Type 0

pub record Keeps (Signed : Type 0) (bytes : List ℕ) (p : Protocol) (leads : Leads) : Type 0 where
  pub keeps : (handled : Bool) (new : Protocol) → leads handled new → Comes Signed bytes p.allocations p.agent p.rng new

record IsQuiet (p : Protocol) (leads : Leads) : Type 0 where
  quiet : (handled : Bool) (new : Protocol) → leads handled new → ComesQuietly p new

module _ {Signed : Type 0} (bytes : List ℕ) where
  outcome : (wanted : Bool) (p after : Protocol) → NoMore p.allocations after.allocations → Keeps Signed bytes p (λ handled new. (handled ≡ wanted) × (new ≡ after))
  outcome wanted p after more = record { keeps = λ handled new h. inl (subst (λ (x : Protocol). NoMore p.allocations x.allocations) (sym h.1) more) }

  handled_so : (p after : Protocol) → NoMore p.allocations after.allocations → Keeps Signed bytes p (IsHandled after)
  handled_so p after more = outcome true p after more

  ignored : (p : Protocol) → Keeps Signed bytes p (IsIgnored p)
  ignored p = outcome false p p (same_more p.allocations)

  never : (p : Protocol) → Keeps Signed bytes p (λ handled new. ⊥)
  never p = record { keeps = λ handled new h. absurd h }

  tested : {p : Protocol} {P Q : Leads} (b : Bool) → (b ≡ true → Keeps Signed bytes p P) → (b ≡ false → Keeps Signed bytes p Q) → Keeps Signed bytes p (λ (handled : Bool) (new : Protocol). MatchBool b (P handled new) (Q handled new))
  tested true p q = record { keeps = (p refl).keeps }
  tested false p q = record { keeps = (q refl).keeps }

module _ {p : Protocol} where
  quiet_so : (wanted : Bool) (after : Protocol) → after.rng ≡ p.rng → IsQuiet p (λ handled new. (handled ≡ wanted) × (new ≡ after))
  quiet_so wanted after same = record { quiet = λ handled new h. inr (ap (λ (x : Protocol). x.rng) h.1 ∙ same) }

  quiet_still : IsQuiet p (IsIgnored p)
  quiet_still = quiet_so false p refl

  quiet_handled : (after : Protocol) → after.rng ≡ p.rng → IsQuiet p (IsHandled after)
  quiet_handled after same = quiet_so true after same

  quiet_tested : {P Q : Leads} (b : Bool) → IsQuiet p P → IsQuiet p Q → IsQuiet p (λ (handled : Bool) (new : Protocol). MatchBool b (P handled new) (Q handled new))
  quiet_tested true one other = record { quiet = one.quiet }
  quiet_tested false one other = record { quiet = other.quiet }

-- ---- where the client has not allocated

module _ (Signed : Type 0) (bytes : List ℕ) (now : ℕ) where
  over : (p : Protocol) → NoMore p.allocations (ended p).allocations
  unfolding ended
  over p = same_more p.allocations

  over_answered : (p : Protocol) → NoMore p.allocations (ended (answered bytes p)).allocations
  unfolding ended answered
  over_answered p = same_more p.allocations

  requested_again : (p : Protocol) (number : ℕ) → NoMore p.allocations (challenged bytes (allocates_again number now p)).allocations
  unfolding challenged allocates_again requested
  requested_again p number = same_more p.allocations

  again_keeps : (p : Protocol) → Keeps Signed bytes p (IsAllocatingAgain p bytes now)
  again_keeps p = record { keeps = λ handled new h. (handled_so bytes p _ (requested_again p h.number)).keeps handled new h.outcome }

  challenged_keeps : (p : Protocol) → Keeps Signed bytes p (IsChallenged p bytes now)
  challenged_keeps p =
      tested bytes (is_awaited p.agent bytes)
      (λ _. tested bytes (is_tired p) (λ _. handled_so bytes p (ended p) (over p)) (λ _. again_keeps p))
      (λ _. ignored bytes p)

  turned_keeps : (p : Protocol) → Keeps Signed bytes p (IsUnauthenticated p bytes)
  turned_keeps p = tested bytes (is_awaited p.agent bytes && ends_unsigned p bytes) (λ _. handled_so bytes p (ended (answered bytes p)) (over_answered p)) (λ _. ignored bytes p)

  -- The response to an ALLOCATE.
  over_rng : (p : Protocol) → (ended p).rng ≡ p.rng
  unfolding ended
  over_rng p = refl

  other_requested : (p : Protocol) (family : AddressFamily) (number : ℕ) → NoMore p.allocations (allocates_other family number now p).allocations
  unfolding allocates_other requested
  other_requested p family number = same_more p.allocations

  error_quiet : (left : Option AddressFamily) (p : Protocol) → IsQuiet p (IsErrorAnswered left p now)
  error_quiet None p = quiet_handled (ended p) (over_rng p)
  error_quiet (Some family) p = record {
    quiet = λ handled new h. inl (subst (λ (x : Protocol). NoMore p.allocations x.allocations) (sym h.outcome.1) (other_requested p family h.number));
  }

  allocated_rng : (p : Protocol) (all : List Allocation) → (allocated all p).rng ≡ p.rng
  unfolding allocated
  allocated_rng p all = refl

  allocated_quiet : (reported : Option ℕ) (p : Protocol) → IsQuiet p (IsAllocatedFor reported p bytes now)
  allocated_quiet None p = quiet_handled (ended p) (over_rng p)
  allocated_quiet (Some lifetime) p = quiet_handled (allocated (brought p bytes lifetime now) p) (allocated_rng p (brought p bytes lifetime now))

  class_quiet : (class : MessageClass) (p : Protocol) → IsQuiet p (IsAllocateAnswered class p bytes now)
  class_quiet Error p = error_quiet (family_left p bytes) p
  class_quiet Success p = allocated_quiet (lifetime_reported bytes) p
  class_quiet Request p = quiet_handled p refl
  class_quiet Indication p = quiet_handled p refl

  -- An awaited message was accepted.
  accepts : Signed → (p : Protocol) (leads : Leads) → is_awaited p.agent bytes ≡ true → IsQuiet (accepted bytes p) leads → Keeps Signed bytes p leads
  unfolding accepted
  accepts own p leads awaited is = record {
    keeps = λ handled new h. elim (is.quiet handled new h) [ inl more ↦ inl more | inr same ↦ inr (awaited, same, own) ];
  }

  -- The message was accepted, if this verdict accepts it.
  abbrev SignedIf : Verdict → Type 0
  SignedIf verdict = (algorithm : IntegrityAlgorithm) → verdict ≡ Ok (Validated algorithm) → Signed

  accepted_keeps : Signed → (p : Protocol) → Keeps Signed bytes p (IsAccepted p bytes now)
  accepted_keeps own p =
      tested bytes (is_awaited p.agent bytes)
      (λ awaited. accepts own p (IsAllocateAnswered (class_of (kind_at bytes)) (accepted bytes p) bytes now) awaited (class_quiet (class_of (kind_at bytes)) (accepted bytes p)))
      (λ _. handled_so bytes p p (same_more p.allocations))

  first_keeps : (verdict : Verdict) → SignedIf verdict → (p : Protocol) → Keeps Signed bytes p (IsFirstJudged verdict p bytes now)
  first_keeps (Ok (ResendRequest choice)) own p = challenged_keeps p
  first_keeps (Ok (Validated algorithm)) own p = outcome bytes false p (ended p) (over p)
  first_keeps (Err NoMemory) own p = never bytes p
  first_keeps (Err Unauthorized) own p = turned_keeps p
  first_keeps (Err (IntegrityFailed algorithm)) own p = turned_keeps p
  first_keeps (Err UnsupportedFeature) own p = turned_keeps p

  signed_keeps : (verdict : Verdict) → SignedIf verdict → (p : Protocol) → Keeps Signed bytes p (IsSignedJudged verdict p bytes now)
  signed_keeps (Ok (ResendRequest choice)) own p = challenged_keeps p
  signed_keeps (Ok (Validated algorithm)) own p = accepted_keeps (own algorithm refl) p
  signed_keeps (Err (IntegrityFailed algorithm)) own p = tested bytes p.auth.hardened (λ _. ignored bytes p) (λ _. handled_so bytes p (ended p) (over p))
  signed_keeps (Err NoMemory) own p = never bytes p
  signed_keeps (Err Unauthorized) own p = ignored bytes p
  signed_keeps (Err UnsupportedFeature) own p = ignored bytes p

  -- ---- where the server has allocated

  sent_again : (what : PendingRequest) (p : Protocol) (number : ℕ) → NoMore p.allocations (challenged bytes (asks_again what (number_at bytes) number now p)).allocations
  unfolding challenged asks_again requested
  sent_again what p number = first_more (reissued_under what (number_at bytes) number) (requested_more (number_at bytes) number what) (awaits_reply (number_at bytes)) p.allocations

  requested_keeps : (what : Option PendingRequest) (p : Protocol) → Keeps Signed bytes p (IsRequestedAgain what p bytes now)
  requested_keeps None p = ignored bytes p
  requested_keeps (Some what) p = record { keeps = λ handled new h. (handled_so bytes p _ (sent_again what p h.number)).keeps handled new h.outcome }

  rechallenged_keeps : (p : Protocol) → Keeps Signed bytes p (IsRechallenged p bytes now)
  rechallenged_keeps p =
      tested bytes (is_tired p) (λ _. handled_so bytes p (ended p) (over p))
      (λ _. tested bytes (is_awaited p.agent bytes) (λ _. requested_keeps (pending_request (number_at bytes) p.allocations) p) (λ _. ignored bytes p))

  -- The response to a REFRESH.
  refreshed_rng : (p : Protocol) → (refreshed bytes now p).rng ≡ p.rng
  unfolding refreshed deallocated
  refreshed_rng p =
      elim (list_any (ends_by (number_at bytes)) p.allocations) as (λ (b : Bool). (if b then deallocated p else record p { allocations = map (renewed (least_of p.short_lifetimes) (number_at bytes) now (lifetime_reported bytes)) p.allocations }).rng ≡ p.rng) [
        | true ↦ refl
        | false ↦ refl
      ]

  refresh_rng : (p : Protocol) → (after_refresh bytes now p).rng ≡ p.rng
  unfolding after_refresh
  refresh_rng p =
      elim (is_refreshed bytes) as (λ (b : Bool). (if b then refreshed bytes now p else p).rng ≡ p.rng) [
        | true ↦ refreshed_rng p
        | false ↦ refl
      ]

  -- The response to a CREATE_PERMISSION.
  granted_quiet : (what : Option PendingRequest) (p : Protocol) → IsQuiet p (IsGrantedFor what p (number_at bytes) now)
  unfolding asking.granted asking.renews
  granted_quiet None p = quiet_still
  granted_quiet (Some (Lifetime lifetime)) p = quiet_still
  granted_quiet (Some (NewConnection to)) p = quiet_still
  granted_quiet (Some (NewChannel transport channel peer)) p = quiet_still
  granted_quiet (Some (ChannelRenewal transport channel peer)) p = quiet_still
  granted_quiet (Some (NewPermission transport ip)) p = quiet_handled (asking.granted transport (addresses_for (number_at bytes) p.allocations) (number_at bytes) now p) refl
  granted_quiet (Some (Renewal transport ip)) p = quiet_handled (asking.renews (number_at bytes) now p) refl

  refused_quiet : (what : Option PendingRequest) (p : Protocol) → IsQuiet p (IsRefusedFor what p (number_at bytes))
  unfolding asking.refused
  refused_quiet None p = quiet_still
  refused_quiet (Some (Lifetime lifetime)) p = quiet_still
  refused_quiet (Some (NewConnection to)) p = quiet_still
  refused_quiet (Some (NewChannel transport channel peer)) p = quiet_still
  refused_quiet (Some (ChannelRenewal transport channel peer)) p = quiet_still
  refused_quiet (Some (NewPermission transport ip)) p = quiet_handled (asking.refused transport (addresses_for (number_at bytes) p.allocations) (number_at bytes) p) refl
  refused_quiet (Some (Renewal transport ip)) p = quiet_handled (asking.refused transport (ip ∷ []) (number_at bytes) p) refl

  permission_quiet : (p : Protocol) → IsQuiet p (IsPermissionResponded p bytes now)
  permission_quiet p = quiet_tested (is_error_class (class_of (kind_at bytes)))
      (refused_quiet (pending_request (number_at bytes) p.allocations) p) (granted_quiet (pending_request (number_at bytes) p.allocations) p)

  -- The response to a CHANNEL_BIND.
  bound_quiet : (what : Option PendingRequest) (p : Protocol) → IsQuiet p (IsBoundFor what p (number_at bytes) now)
  unfolding bound renews_channels
  bound_quiet None p = quiet_still
  bound_quiet (Some (Lifetime lifetime)) p = quiet_still
  bound_quiet (Some (NewConnection to)) p = quiet_still
  bound_quiet (Some (NewChannel transport channel peer)) p = quiet_handled (bound transport channel peer (permission_with (number_at bytes) p.allocations) (number_at bytes) now p) refl
  bound_quiet (Some (ChannelRenewal transport channel peer)) p = quiet_handled (renews_channels (number_at bytes) now p) refl
  bound_quiet (Some (NewPermission transport ip)) p = quiet_still
  bound_quiet (Some (Renewal transport ip)) p = quiet_still

  unbound_quiet : (what : Option PendingRequest) (p : Protocol) → IsQuiet p (IsUnboundFor what p (number_at bytes))
  unfolding unbound expires_due
  unbound_quiet None p = quiet_still
  unbound_quiet (Some (Lifetime lifetime)) p = quiet_still
  unbound_quiet (Some (NewConnection to)) p = quiet_still
  unbound_quiet (Some (NewChannel transport channel peer)) p = quiet_handled (unbound transport peer (permission_with (number_at bytes) p.allocations) (number_at bytes) p) refl
  unbound_quiet (Some (ChannelRenewal transport channel peer)) p = quiet_handled (expires_due transport peer (number_at bytes) p) refl
  unbound_quiet (Some (NewPermission transport ip)) p = quiet_still
  unbound_quiet (Some (Renewal transport ip)) p = quiet_still

  binding_quiet : (p : Protocol) → IsQuiet p (IsBindResponded p bytes now)
  binding_quiet p = quiet_tested (is_error_class (class_of (kind_at bytes)))
      (unbound_quiet (pending_request (number_at bytes) p.allocations) p) (bound_quiet (pending_request (number_at bytes) p.allocations) p)

  -- The response to a CONNECT.
  connect_rng : (p : Protocol) → (after_connect bytes p).rng ≡ p.rng
  unfolding after_connect
  connect_rng p = refl

  connect_quiet : (p : Protocol) → IsQuiet p (IsConnectResponded p bytes)
  connect_quiet p = quiet_so (is_connect (pending_request (number_at bytes) p.allocations)) (after_connect bytes p) (connect_rng p)

  request_quiet : (p : Protocol) → IsQuiet p (IsRequestAnswered p bytes now)
  request_quiet p = quiet_tested (method_of (kind_at bytes) == refresh_method) (quiet_handled (after_refresh bytes now p) (refresh_rng p))
      (quiet_tested (method_of (kind_at bytes) == create_permission_method) (permission_quiet p)
      (quiet_tested (method_of (kind_at bytes) == channel_bind_method) (binding_quiet p)
      (quiet_tested (method_of (kind_at bytes) == connect_method) (connect_quiet p) quiet_still)))

  -- The server's own request.
  answer_more : (answer : AttemptAnswer) (p : Protocol) → NoMore p.allocations (answering answer (number_at bytes) p).allocations
  unfolding answering
  answer_more answer p = same_more p.allocations

  reject_more : (answer : AttemptAnswer) (p : Protocol) → NoMore p.allocations (rejecting answer (number_at bytes) p).allocations
  unfolding rejecting
  reject_more answer p =
      elim (is_at_limit p.max_connection_attempts (length p.queue)) as (λ (b : Bool). NoMore p.allocations (if b then p else answering answer (number_at bytes) p).allocations) [
        | true ↦ same_more p.allocations
        | false ↦ answer_more answer p
      ]

  attempt_in : (found : Option Allocation) (connection : ℕ) (peer : SocketAddr) (p : Protocol) → NoMore p.allocations (after_attempt_in found connection peer (number_at bytes) p).allocations
  attempt_in None connection peer p = reject_more BadRequest p
  attempt_in (Some a) connection peer p =
      let change = attempted connection peer (number_at bytes) in
      let begun : Protocol = record p { allocations = change_first (may_join peer p) change p.allocations } in
      let full : Bool = is_at_limit p.max_connection_attempts (length a.waiting) in
      elim (is_joining peer a) as (λ (b : Bool). NoMore p.allocations (if b then rejecting AlreadyExists (number_at bytes) p
      else if full then rejecting Failed (number_at bytes) p else begun).allocations) [
        | true ↦ reject_more AlreadyExists p
        | false ↦ elim full as (λ (b : Bool). NoMore p.allocations (if b then rejecting Failed (number_at bytes) p else begun).allocations) [
          | true ↦ reject_more Failed p
          | false ↦ first_more change (attempt_more connection peer (number_at bytes)) (may_join peer p) p.allocations
        ]
      ]

  attempt_of : (connection : Option ℕ) (peer : Option SocketAddr) (p : Protocol) → NoMore p.allocations (after_attempt_of connection peer (number_at bytes) p).allocations
  attempt_of None peer p = reject_more BadRequest p
  attempt_of (Some connection) None p = reject_more BadRequest p
  attempt_of (Some connection) (Some peer) p = attempt_in (find (may_join peer p) p.allocations) connection peer p

  attempt_keeps : (p : Protocol) → Keeps Signed bytes p (IsAttemptTaken p bytes)
  attempt_keeps p =
      tested bytes (is_attempt bytes)
      (λ _. handled_so bytes p (after_attempt bytes p) (attempt_of (connection_reported bytes) (peer_reported bytes) p)) (λ _. ignored bytes p)

  -- An indication.
  indication_keeps : (p : Protocol) → Keeps Signed bytes p (IsIndicationTaken p bytes)
  indication_keeps p =
      tested bytes (takes_offer p bytes)
      (λ _. handled_so bytes p (after_offer bytes p)
      (offer_so bytes p (λ q. NoMore p.allocations q.allocations) (same_more p.allocations)
      (λ connection peer a reported named found room. first_more (offered connection peer) (offer_more connection peer) (may_join peer p) p.allocations)))
      (λ _. ignored bytes p)

  taken_keeps : Signed → (p : Protocol) → Keeps Signed bytes p (IsTakenUp p bytes now)
  taken_keeps own p =
      tested bytes (is_response bytes && is_awaited p.agent bytes)
      (λ taken. accepts own p (IsRequestAnswered (accepted bytes p) bytes now) (both_so (is_response bytes) (is_awaited p.agent bytes) taken).1 (request_quiet (accepted bytes p)))
      (λ _. attempt_keeps p)

  standing_keeps : (verdict : Verdict) → SignedIf verdict → (p : Protocol) → Keeps Signed bytes p (IsJudgedStanding verdict p bytes now)
  standing_keeps (Ok (ResendRequest choice)) own p = rechallenged_keeps p
  standing_keeps (Ok (Validated algorithm)) own p = taken_keeps (own algorithm refl) p
  standing_keeps (Err NoMemory) own p = never bytes p
  standing_keeps (Err Unauthorized) own p = ignored bytes p
  standing_keeps (Err (IntegrityFailed algorithm)) own p = ignored bytes p
  standing_keeps (Err UnsupportedFeature) own p = ignored bytes p

-- ---- any message

module _ (bytes : List ℕ) (now : ℕ) (old : Protocol) where
  followed_keeps : (follows : Follows) → IsGoing old.phase
      → ((verdict : Verdict) → ((algorithm : IntegrityAlgorithm) → verdict ≡ Ok (Validated algorithm) → IsAcceptedBy old bytes) → (p : Protocol) → Keeps (IsAcceptedBy old bytes) bytes p (follows verdict p bytes now))
      → Keeps (IsAcceptedBy old bytes) bytes old (IsFollowed follows old bytes now)
  followed_keeps follows going each = record {
    keeps = λ handled new h.
        let own : (algorithm : IntegrityAlgorithm) → h.verdict ≡ Ok (Validated algorithm) → IsAcceptedBy old bytes =
        λ algorithm same. record { going = going; algorithm = algorithm; signer = h.auth; valid = subst (λ (v : Verdict). IsJudged old.auth bytes v h.auth) same h.is_judged } in
        (each h.verdict own (judged h.auth old)).keeps handled new h.outcome;
  }

  processed_in : (phase : Phase) → old.phase ≡ phase → Keeps (IsAcceptedBy old bytes) bytes old (IsProcessedIn phase old bytes now)
  processed_in Initial at = ignored bytes old
  processed_in (InitialSent numbers) at =
      tested bytes (is_response bytes) (λ _. followed_keeps IsFirstJudged (going_at old.phase (InitialSent numbers) at (λ stored. refl)) (first_keeps (IsAcceptedBy old bytes) bytes now)) (λ _. ignored bytes old)
  processed_in (Authenticating numbers) at =
      tested bytes (is_response bytes && has_number (number_at bytes) numbers)
      (λ _. followed_keeps IsSignedJudged (going_at old.phase (Authenticating numbers) at (λ stored. refl)) (signed_keeps (IsAcceptedBy old bytes) bytes now)) (λ _. ignored bytes old)
  processed_in Authenticated at =
      tested bytes (is_indication (class_of (kind_at bytes))) (λ _. indication_keeps (IsAcceptedBy old bytes) bytes now old)
      (λ _. followed_keeps IsJudgedStanding (going_at old.phase Authenticated at (λ stored. refl)) (standing_keeps (IsAcceptedBy old bytes) bytes now))
  processed_in Ended at = ignored bytes old

  pub processed_keeps : Keeps (IsAcceptedBy old bytes) bytes old (IsProcessed old bytes now)
  processed_keeps = tested bytes (is_unawaited old bytes) (λ _. ignored bytes old) (λ _. processed_in old.phase refl)

-- ---- a message that came over the socket of a connection

module _ (Signed : Type 0) (here : SocketAddr) (bytes : List ℕ) (now : ℕ) (new : Protocol) where
  abbrev ComesTo : Protocol → Type 0
  ComesTo p = Comes Signed bytes p.allocations p.agent p.rng new

  breaks : (p : Protocol) → new.allocations ≡ map (closed here) p.allocations → ComesTo p
  breaks p is =
      inl (subst (λ (l : List Allocation). NoMore p.allocations l) (sym is)
      (less_more p (map (closed here) p.allocations) (each_less [] (closed here) (closed_less here) p.allocations)))

  invalid : (peer : SocketAddr) (p : Protocol) → new ≡ aborted here peer p → ComesTo p
  unfolding aborted
  invalid peer p is = breaks p (ap (λ (x : Protocol). x.allocations) is)

  invalid_accepted : (peer : SocketAddr) (p : Protocol) → new ≡ aborted here peer (accepted bytes p) → ComesTo p
  unfolding aborted accepted
  invalid_accepted peer p is = breaks p (ap (λ (x : Protocol). x.allocations) is)

  invalid_answered : (peer : SocketAddr) (p : Protocol) → new ≡ aborted here peer (answered bytes p) → ComesTo p
  unfolding aborted answered
  invalid_answered peer p is = breaks p (ap (λ (x : Protocol). x.allocations) is)

  binds : Signed → (peer : SocketAddr) (p : Protocol) → is_awaited p.agent bytes ≡ true → new ≡ bound_at here peer (accepted bytes p) → ComesTo p
  unfolding bound_at accepted
  binds own peer p awaited is = inr (awaited, ap (λ (x : Protocol). x.rng) is, own)

  asks_anew : (connection : ℕ) (p : Protocol) → IsRequestedAnew here connection now p new → ComesTo p
  unfolding requested_anew
  asks_anew connection p is =
      let binding : Binding = record { number = is.number; expiry = time_after now binding_time } in
      inl (subst (λ (l : List Allocation). NoMore p.allocations l) (sym (ap (λ (x : Protocol). x.allocations) is.after))
      (first_more (waits_in here (Some binding)) (waits_more here binding) (has_from here) p.allocations))

  settles : Signed → (peer : SocketAddr) (p : Protocol) → IsSettled here peer p bytes new → ComesTo p
  settles own peer p h =
      by_test (is_awaited p.agent bytes)
      (λ (awaited : is_awaited p.agent bytes ≡ true) one. by_test (is_success_class (class_of (kind_at bytes)))
      (λ (_ : is_success_class (class_of (kind_at bytes)) ≡ true) (o : new ≡ bound_at here peer (accepted bytes p)). binds own peer p awaited o)
      (λ (_ : is_success_class (class_of (kind_at bytes)) ≡ false) (o : new ≡ aborted here peer (accepted bytes p)). invalid_accepted peer p o)
      one)
      (λ (_ : is_awaited p.agent bytes ≡ false) (o : new ≡ aborted here peer p). invalid peer p o) h

  judges : (verdict : Verdict) → ((algorithm : IntegrityAlgorithm) → verdict ≡ Ok (Validated algorithm) → Signed) → (j : Joining) (p : Protocol) → IsAnswerJudged verdict here j p bytes now new → ComesTo p
  judges (Ok (ResendRequest choice)) own j p h = asks_anew j.connection p h
  judges (Ok (Validated algorithm)) own j p h = settles (own algorithm refl) j.peer p h
  judges (Err NoMemory) own j p h = absurd h
  judges (Err Unauthorized) own j p h = invalid_answered j.peer p h
  judges (Err (IntegrityFailed algorithm)) own j p h = invalid_answered j.peer p h
  judges (Err UnsupportedFeature) own j p h = invalid_answered j.peer p h

module _ (here : SocketAddr) (bytes : List ℕ) (now : ℕ) (new old : Protocol) where
  abbrev ComesOf : Type 0
  ComesOf = Comes (IsAcceptedBy old bytes) bytes old.allocations old.agent old.rng new

  stays : new ≡ old → ComesOf
  stays is = inl (subst (λ (l : List Allocation). NoMore old.allocations l) (sym (ap (λ (x : Protocol). x.allocations) is)) (same_more old.allocations))

  of_binding : (o : Option Joining) → IsGoing old.phase → IsOfBinding o here old bytes now new → ComesOf
  of_binding None going h = stays h
  of_binding (Some j) going h =
      by_test (is_answer j.number bytes)
      (λ (_ : is_answer j.number bytes ≡ true) (o : IsAnswerProcessed here j old bytes now new).
      let own : (algorithm : IntegrityAlgorithm) → o.verdict ≡ Ok (Validated algorithm) → IsAcceptedBy old bytes =
      λ algorithm same. record { going = going; algorithm = algorithm; signer = o.auth; valid = subst (λ (v : Verdict). IsJudged old.auth bytes v o.auth) same o.is_judged } in
      judges (IsAcceptedBy old bytes) here bytes now new o.verdict own j (judged o.auth old) o.outcome)
      (λ (_ : is_answer j.number bytes ≡ false) (o : new ≡ aborted here j.peer old). invalid (IsAcceptedBy old bytes) here bytes now new j.peer old o) h

  pub processed_at_comes : IsProcessedAt here old bytes now new → ComesOf
  processed_at_comes is =
      by_test (is_of_binding old bytes)
      (λ (passes : is_of_binding old bytes ≡ true) (o : IsOfBinding (awaited_at here old.allocations) here old bytes now new).
      let occurs = authenticated old.phase (both_so (is_authenticated old.phase) (method_of (kind_at bytes) == connection_bind_method) passes).0 in
      of_binding (awaited_at here old.allocations) (going_at old.phase Authenticated occurs (λ stored. refl)) o)
      (λ (_ : is_of_binding old bytes ≡ false) (o : new ≡ old). stays o) is

-- ---- where it is not awaited

pub none_more : {Signed : Type 0} (bytes : List ℕ) (old new : Protocol) → is_awaited old.agent bytes ≡ false → Comes Signed bytes old.allocations old.agent old.rng new → NoMore old.allocations new.allocations
none_more bytes old new isnt (inl more) = more
none_more bytes old new isnt (inr taken) = absurd (Prim.cc (sym taken.0 ∙ isnt))
