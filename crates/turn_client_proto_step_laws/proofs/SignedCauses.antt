-- A message that both ends a transaction and queues an event was validated, once an ALLOCATE was sent with
-- credentials; and so was the one by which the server allocated.
use Rattle.std.proofs.Common.{◌≡◌, ◌⊎◌, ℕ, ◌<◌, Bool, true, false, not, ◌&&◌, List, length, nat_lt, Option, Some, None, is_some, Ok, Err, if◌then◌else◌, refl, sym, ap, ◌∙◌, subst, arith, inl, inr}
use Rattle.std.proofs.lemmas.Bool.{cases_Bool, ltb-true}
use Rattle.std.specs.Bool.{MatchBool}
use Rattle.turn_client_proto_timers.specs.StunTypesWire.Attributes.{kind_at}
use Rattle.turn_client_proto_timers.specs.StunTypesWire.Grammar.{number_at}
use Rattle.turn_client_proto_timers.specs.StunTypesWire.Headers.{AreBytes}
use Rattle.turn_client_proto_timers.specs.StunTypesWire.Registry.{nonce_kind, realm_kind}
use Rattle.turn_client_proto_timers.specs.StunTypesWire.Types.{class_of}
use Rattle.turn_client_proto_timers.specs.TurnTypesPeer.TurnShows.{first_visible}
use Rattle.turn_client_proto_timers.specs.StunTypesWire.declared.algorithm.IntegrityAlgorithm.{IntegrityAlgorithm}
use Rattle.turn_client_proto_recv.specs.StunProtoClient.Client as signers
use Rattle.turn_client_proto_recv.specs.StunProtoClient.declared.error.LongTermClientAuthError.TheVariants.{Unauthorized, IntegrityFailed, UnsupportedFeature, NoMemory}
use Rattle.turn_client_proto_recv.specs.StunProtoClient.declared.validation.LongTermClientValidation.TheVariants.{ResendRequest, Validated}
use Rattle.turn_client_proto_timers.specs.StunProtoAgent.Handling.{is_awaited, is_response}
use Rattle.turn_client_proto_timers.specs.Allocation.Awaited.{has_number}
use Rattle.turn_client_proto_timers.specs.Allocation.PendingRequests.{pending_request}
use Rattle.turn_client_proto_timers.specs.Allocation.declared.pending.PendingRequest.{PendingRequest}
use Rattle.turn_client_proto_timers.specs.Api.declared.cause.TurnCause.{TurnCause}
use Rattle.turn_client_proto_timers.specs.Api.declared.cause.TurnCause.TheVariants.{Rejected, Unanswered, Integrity, NoCommonAlgorithm, OtherFamily, OutOfMemory, Deleted, Expired, SocketClosed, Unusable}
use Rattle.turn_client_proto_timers.specs.TurnRuns.Indications.{is_indication}
use Rattle.turn_client_proto_timers.specs.Messages.Judging.{IsJudged}
use Rattle.turn_client_proto_timers.specs.Messages.Reported.{first_code, lifetime_reported}
use Rattle.turn_client_proto_timers.specs.Messages.Noted.{is_relaying}
use Rattle.turn_client_proto_timers.specs.Core.Asking.{requested}
use Rattle.turn_client_proto_timers.specs.Core.Attempting.{IsIndicationTaken, after_offer, takes_offer}
use Rattle.turn_client_proto_timers.specs.Core.Authenticating.{IsAllocatingAgain, IsChallenged, IsSignedJudged, allocates_again}
use Rattle.turn_client_proto_timers.specs.Core.Deleting.{is_authenticated}
use Rattle.turn_client_proto_timers.specs.Core.Ending.{ended}
use Rattle.turn_client_proto_timers.specs.Core.Outcomes.{IsHandled, IsIgnored}
use Rattle.turn_client_proto_timers.specs.Core.Receiving.{Follows, IsFollowed, IsProcessed, IsProcessedIn, is_unawaited}
use Rattle.turn_client_proto_timers.specs.Core.Responding.{challenged, is_error_class, is_tired, judged}
use Rattle.turn_client_proto_timers.specs.Core.Standing.{IsJudgedStanding, IsRechallenged, IsRequestedAgain, asks_again}
use Rattle.turn_client_proto_timers.specs.Core.declared.protocol.Phase.{Phase}
use Rattle.turn_client_proto_timers.specs.Core.declared.protocol.Phase.TheVariants.{Initial, InitialSent, Authenticating, Authenticated, Ended}
use Rattle.turn_client_proto_timers.specs.Core.declared.protocol.Protocol.{Protocol}
use Rattle.turn_client_proto_recv.specs.Notes.{before_of, cause_of, cause_signed, cause_unended, cause_unsigned, has_end, has_ended, is_allocated, is_allocating, is_challenge, is_redirected, is_unsigned, rejected_in, rejected_or}
use Rattle.turn_client_proto_step_laws.specs.Adding.{IsSignedFor}
use Rattle.turn_client_proto_step_laws.specs.Causes.{IsSignedErrorTo}
use Rattle.turn_client_proto_step_laws.specs.RunClient.{Client}
use Rattle.turn_client_proto_step_laws.specs.Sound.{IsSound}
use Rattle.turn_client_proto_step_laws.proofs.Answered.{signed_by}
use Rattle.turn_client_proto_step_laws.proofs.Lists.{both_so}
use Rattle.turn_client_proto_step_laws.proofs.Offering.{offer_so}
use Rattle.turn_client_proto_step_laws.proofs.Once.Judging.{Verdict}
use Rattle.turn_client_proto_step_laws.proofs.Polling.{by_test}
use Rattle.turn_client_proto_step_laws.proofs.Realms.{IsGoing, going_at}
use Rattle.turn_client_proto_step_laws.proofs.Unasked.{IsAcceptedBy}

-- No event was queued, and the client hasn't ended by it; or every transaction stands as it did; or the message was
-- validated.
abbrev Ends : (Signed : Type 0) → Protocol → Protocol → Type 0
Ends Signed p new = (((new.events ≡ p.events) × (has_end new.phase ≡ true → has_end p.phase ≡ true)) ⊎ (new.agent ≡ p.agent)) ⊎ Signed

-- The server has not allocated; or the message was validated, and its transaction was outstanding.
abbrev Allocates : (Signed : Type 0) → (bytes : List ℕ) → Protocol → Protocol → Type 0
Allocates Signed bytes p new = (is_authenticated new.phase ≡ false) ⊎ ((is_awaited p.agent bytes ≡ true) × Signed)

abbrev Leads : Type 1
Leads = Bool → Protocol → Type 0

-- Whatever the outcome, it is one of these.
record Gives (Of : Protocol → Type 0) (leads : Leads) : Type 0 where
  gives : (handled : Bool) (new : Protocol) → leads handled new → Of new

module _ {Of : Protocol → Type 0} where
  outcome : (wanted : Bool) (after : Protocol) → Of after → Gives Of (λ handled new. (handled ≡ wanted) × (new ≡ after))
  outcome wanted after is = record { gives = λ handled new h. subst Of (sym h.1) is }

  none : Gives Of (λ handled new. ⊥)
  none = record { gives = λ handled new h. absurd h }

  tested : {P Q : Leads} (b : Bool) → (b ≡ true → Gives Of P) → (b ≡ false → Gives Of Q) → Gives Of (λ (handled : Bool) (new : Protocol). MatchBool b (P handled new) (Q handled new))
  tested true p q = record { gives = (p refl).gives }
  tested false p q = record { gives = (q refl).gives }

-- ---- an event, and the end of a transaction

module _ (Signed : Type 0) (bytes : List ℕ) (now : ℕ) where
  ignored : (p : Protocol) → Gives (Ends Signed p) (IsIgnored p)
  ignored p = outcome false p (inl (inl (refl, λ h. h)))

  over : (p : Protocol) → Gives (Ends Signed p) (IsHandled (ended p))
  unfolding ended
  over p = outcome true (ended p) (inl (inr refl))

  indicated : (p : Protocol) → Gives (Ends Signed p) (IsIndicationTaken p bytes)
  indicated p = tested (takes_offer p bytes)
      (λ _. outcome true (after_offer bytes p)
      (offer_so bytes p (λ q. Ends Signed p q) (inl (inl (refl, λ h. h))) (λ connection peer a reported named found room. inl (inl (refl, λ h. h)))))
      (λ _. ignored p)

  again_allocates : (p : Protocol) (number : ℕ) → Ends Signed p (challenged bytes (allocates_again number now p))
  unfolding challenged allocates_again requested
  again_allocates p number = inl (inl (refl, λ h. absurd (Prim.cc h)))

  again_gives : (p : Protocol) → Gives (Ends Signed p) (IsAllocatingAgain p bytes now)
  again_gives p = record { gives = λ handled new h. subst (Ends Signed p) (sym h.outcome.1) (again_allocates p h.number) }

  challenged_gives : (p : Protocol) → Gives (Ends Signed p) (IsChallenged p bytes now)
  challenged_gives p = tested (is_awaited p.agent bytes) (λ _. tested (is_tired p) (λ _. over p) (λ _. again_gives p)) (λ _. ignored p)

  -- The message was validated, if this verdict says so.
  abbrev SignedIf : Verdict → Type 0
  SignedIf verdict = (algorithm : IntegrityAlgorithm) → verdict ≡ Ok (Validated algorithm) → Signed

  signed_gives : (verdict : Verdict) → SignedIf verdict → (p : Protocol) → Gives (Ends Signed p) (IsSignedJudged verdict p bytes now)
  signed_gives (Ok (ResendRequest choice)) own p = challenged_gives p
  signed_gives (Ok (Validated algorithm)) own p = record { gives = λ handled new h. inr (own algorithm refl) }
  signed_gives (Err (IntegrityFailed algorithm)) own p = tested p.auth.hardened (λ _. ignored p) (λ _. over p)
  signed_gives (Err NoMemory) own p = none
  signed_gives (Err Unauthorized) own p = ignored p
  signed_gives (Err UnsupportedFeature) own p = ignored p

  sent_again : (what : PendingRequest) (p : Protocol) (number : ℕ) → Ends Signed p (challenged bytes (asks_again what (number_at bytes) number now p))
  unfolding challenged asks_again requested
  sent_again what p number = inl (inl (refl, λ h. h))

  requested_gives : (what : Option PendingRequest) (p : Protocol) → Gives (Ends Signed p) (IsRequestedAgain what p bytes now)
  requested_gives None p = ignored p
  requested_gives (Some what) p = record { gives = λ handled new h. subst (Ends Signed p) (sym h.outcome.1) (sent_again what p h.number) }

  rechallenged_gives : (p : Protocol) → Gives (Ends Signed p) (IsRechallenged p bytes now)
  rechallenged_gives p =
      tested (is_tired p) (λ _. over p)
      (λ _. tested (is_awaited p.agent bytes) (λ _. requested_gives (pending_request (number_at bytes) p.allocations) p) (λ _. ignored p))

  standing_gives : (verdict : Verdict) → SignedIf verdict → (p : Protocol) → Gives (Ends Signed p) (IsJudgedStanding verdict p bytes now)
  standing_gives (Ok (ResendRequest choice)) own p = rechallenged_gives p
  standing_gives (Ok (Validated algorithm)) own p = record { gives = λ handled new h. inr (own algorithm refl) }
  standing_gives (Err NoMemory) own p = none
  standing_gives (Err Unauthorized) own p = ignored p
  standing_gives (Err (IntegrityFailed algorithm)) own p = ignored p
  standing_gives (Err UnsupportedFeature) own p = ignored p

-- ---- the server allocates

module _ (Signed : Type 0) (bytes : List ℕ) (now : ℕ) (numbers : List ℕ) where
  abbrev Allocates_ : Protocol → Protocol → Type 0
  Allocates_ p new = Allocates Signed bytes p new

  not_yet : (p : Protocol) → p.phase ≡ Authenticating numbers → (new : Protocol) → new.phase ≡ p.phase → Allocates_ p new
  not_yet p at new same = inl (ap is_authenticated (same ∙ at))

  still : (p : Protocol) → p.phase ≡ Authenticating numbers → Gives (Allocates_ p) (IsIgnored p)
  still p at = outcome false p (not_yet p at p refl)

  ends : (p : Protocol) → Gives (Allocates_ p) (IsHandled (ended p))
  unfolding ended
  ends p = outcome true (ended p) (inl refl)

  allocating_again : (p : Protocol) (number : ℕ) → Allocates_ p (challenged bytes (allocates_again number now p))
  unfolding challenged allocates_again requested
  allocating_again p number = inl refl

  again_given : (p : Protocol) → Gives (Allocates_ p) (IsAllocatingAgain p bytes now)
  again_given p = record { gives = λ handled new h. subst (Allocates_ p) (sym h.outcome.1) (allocating_again p h.number) }

  challenged_given : (p : Protocol) → p.phase ≡ Authenticating numbers → Gives (Allocates_ p) (IsChallenged p bytes now)
  challenged_given p at = tested (is_awaited p.agent bytes) (λ _. tested (is_tired p) (λ _. ends p) (λ _. again_given p)) (λ _. still p at)

  signed_given : (verdict : Verdict) → SignedIf Signed bytes now verdict → (p : Protocol) → p.phase ≡ Authenticating numbers → Gives (Allocates_ p) (IsSignedJudged verdict p bytes now)
  signed_given (Ok (ResendRequest choice)) own p at = challenged_given p at
  signed_given (Ok (Validated algorithm)) own p at =
      tested (is_awaited p.agent bytes) (λ awaited. record { gives = λ handled new h. inr (awaited, own algorithm refl) }) (λ _. outcome true p (not_yet p at p refl))
  signed_given (Err (IntegrityFailed algorithm)) own p at = tested p.auth.hardened (λ _. still p at) (λ _. ends p)
  signed_given (Err NoMemory) own p at = none
  signed_given (Err Unauthorized) own p at = still p at
  signed_given (Err UnsupportedFeature) own p at = still p at

-- ---- any message

module _ (bytes : List ℕ) (now : ℕ) (old : Protocol) where
  followed : (Of : Protocol → Type 0) (follows : Follows) → IsGoing old.phase
      → ((auth : signers.Client) (verdict : Verdict) → ((algorithm : IntegrityAlgorithm) → verdict ≡ Ok (Validated algorithm) → IsAcceptedBy old bytes) → Gives Of (follows verdict (judged auth old) bytes now))
      → Gives Of (IsFollowed follows old bytes now)
  followed Of follows going each = record {
    gives = λ handled new h.
        let own : (algorithm : IntegrityAlgorithm) → h.verdict ≡ Ok (Validated algorithm) → IsAcceptedBy old bytes =
        λ algorithm same. record { going = going; algorithm = algorithm; signer = h.auth; valid = subst (λ (v : Verdict). IsJudged old.auth bytes v h.auth) same h.is_judged } in
        (each h.auth h.verdict own).gives handled new h.outcome;
  }

  abbrev Signs : Type 0
  Signs = IsAcceptedBy old bytes

  processed_in : (phase : Phase) → old.phase ≡ phase → is_unsigned phase ≡ false → Gives (Ends Signs old) (IsProcessedIn phase old bytes now)
  processed_in Initial at isnt = ignored Signs bytes now old
  processed_in (InitialSent numbers) at isnt = absurd (Prim.cc isnt)
  processed_in (Authenticating numbers) at isnt =
      tested (is_response bytes && has_number (number_at bytes) numbers)
      (λ _. followed (Ends Signs old) IsSignedJudged (going_at old.phase (Authenticating numbers) at (λ stored. refl)) (λ auth verdict own. signed_gives Signs bytes now verdict own (judged auth old)))
      (λ _. ignored Signs bytes now old)
  processed_in Authenticated at isnt =
      tested (is_indication (class_of (kind_at bytes))) (λ _. indicated Signs bytes now old)
      (λ _. followed (Ends Signs old) IsJudgedStanding (going_at old.phase Authenticated at (λ stored. refl)) (λ auth verdict own. standing_gives Signs bytes now verdict own (judged auth old)))
  processed_in Ended at isnt = ignored Signs bytes now old

  processed_gives : is_unsigned old.phase ≡ false → Gives (Ends Signs old) (IsProcessed old bytes now)
  processed_gives isnt = tested (is_unawaited old bytes) (λ _. ignored Signs bytes now old) (λ _. processed_in old.phase refl isnt)

  allocated_in : (phase : Phase) → old.phase ≡ phase → is_allocating phase ≡ true → Gives (Allocates Signs bytes old) (IsProcessedIn phase old bytes now)
  allocated_in Initial at is = absurd (Prim.cc is)
  allocated_in (InitialSent numbers) at is = absurd (Prim.cc is)
  allocated_in (Authenticating numbers) at is =
      tested (is_response bytes && has_number (number_at bytes) numbers)
      (λ _. followed (Allocates Signs bytes old) IsSignedJudged (going_at old.phase (Authenticating numbers) at (λ stored. refl)) (λ auth verdict own. signed_given Signs bytes now numbers verdict own (judged auth old) at))
      (λ _. still Signs bytes now numbers old at)
  allocated_in Authenticated at is = absurd (Prim.cc is)
  allocated_in Ended at is = absurd (Prim.cc is)

  unawaited_still : (phase : Phase) → old.phase ≡ phase → is_allocating phase ≡ true → Gives (Allocates Signs bytes old) (IsIgnored old)
  unawaited_still Initial at is = absurd (Prim.cc is)
  unawaited_still (InitialSent numbers) at is = absurd (Prim.cc is)
  unawaited_still (Authenticating numbers) at is = still Signs bytes now numbers old at
  unawaited_still Authenticated at is = absurd (Prim.cc is)
  unawaited_still Ended at is = absurd (Prim.cc is)

  processed_allocates : is_allocating old.phase ≡ true → Gives (Allocates Signs bytes old) (IsProcessed old bytes now)
  processed_allocates is = tested (is_unawaited old bytes) (λ _. unawaited_still old.phase refl is) (λ _. allocated_in old.phase refl is)

-- ---- the cause

-- Whether a cause is said to be of a validated response.
abbrev says_signed : TurnCause → Bool
says_signed (Rejected code reason signed) = signed
says_signed Unanswered = false
says_signed Integrity = false
says_signed NoCommonAlgorithm = false
says_signed OtherFamily = false
says_signed OutOfMemory = false
says_signed Deleted = false
says_signed Expired = false
says_signed SocketClosed = false
says_signed Unusable = false

abbrev code_in : TurnCause → Option ℕ
code_in (Rejected code reason signed) = Some code
code_in _ = None

module _ (bytes : List ℕ) where
  unsigned_in : (code : Option ℕ) → says_signed (rejected_in code false Unusable bytes) ≡ false
  unsigned_in None = refl
  unsigned_in (Some code) = refl

  unsigned_or : says_signed (rejected_or false Unusable bytes) ≡ false
  unsigned_or = elim (cases_Bool (is_error_class (class_of (kind_at bytes)))) [
    | inl is ↦ rw is (unsigned_in (first_code bytes))
    | inr is ↦ rw is refl
  ]

  unended : says_signed (cause_unended bytes) ≡ false
  unended = elim (cases_Bool (is_challenge bytes)) [
    | inl is ↦ rw is unsigned_or
    | inr is ↦ rw is refl
  ]

  unsigned_first : says_signed (cause_unsigned bytes) ≡ false
  unsigned_first = elim (cases_Bool (is_challenge bytes && (is_some (first_visible realm_kind bytes) && is_some (first_visible nonce_kind bytes)))) [
    | inl is ↦ rw is refl
    | inr is ↦ rw is unsigned_or
  ]

-- Of three causes the third is taken, if the others aren't said to be signed.
chosen : (ends unsigned : Bool) (one two three : TurnCause) → says_signed one ≡ false → says_signed two ≡ false
    → says_signed (if not ends then one else if unsigned then two else three) ≡ true → (ends ≡ true) × (unsigned ≡ false)
chosen false unsigned one two three first second h = absurd (Prim.cc (sym first ∙ h))
chosen true true one two three first second h = absurd (Prim.cc (sym second ∙ h))
chosen true false one two three first second h = (refl, refl)

third : (ends unsigned : Bool) (one two three : TurnCause) → ends ≡ true → unsigned ≡ false
    → (if not ends then one else if unsigned then two else three) ≡ three
third false unsigned one two three e u = absurd (Prim.cc e)
third true true one two three e u = absurd (Prim.cc u)
third true false one two three e u = refl

-- Only an error response has a code.
coded : (bytes : List ℕ) (code : ℕ) (error : Bool) (first : Option ℕ) (other : TurnCause) → code_in other ≡ None
    → code_in (if error then (if error then rejected_in first true Unusable bytes else Unusable) else other) ≡ Some code → (error ≡ true) × (first ≡ Some code)
coded bytes code false first other none h = absurd (Prim.cc (sym none ∙ h))
coded bytes code true None other none h = absurd (Prim.cc h)
coded bytes code true (Some found) other none h = (refl, h)

no_code : (relays : Bool) → code_in (if relays then OtherFamily else Unusable) ≡ None
no_code true = refl
no_code false = refl

not_so : (b : Bool) → not b ≡ true → b ≡ false
not_so true h = absurd (Prim.cc h)
not_so false h = refl

never_less : (n : ℕ) → nat_lt n n ≡ true → ⊥
never_less n h =
    let less : n < n = ltb-true n n h in
    omega (arith, less)

module _ (old : Protocol) (bytes : List ℕ) (new : Protocol) where
  abbrev HasEnded : Type 0
  HasEnded = has_ended (before_of old bytes) bytes new ≡ true

  pub waited_spent : HasEnded → (is_awaited old.agent bytes ≡ true) × (is_awaited new.agent bytes ≡ false)
  waited_spent h =
      let two = both_so (is_awaited old.agent bytes) (not (is_awaited new.agent bytes)) h in
      (two.0, not_so (is_awaited new.agent bytes) two.1)

  other_agent : HasEnded → new.agent ≡ old.agent → ⊥
  other_agent h same =
      let two = waited_spent h in
      Prim.cc (sym two.0 ∙ (ap (λ a. is_awaited a bytes) (sym same) ∙ two.1))

  grown : nat_lt (length old.events) (length new.events) ≡ true → new.events ≡ old.events → ⊥
  grown more same = never_less (length old.events) (subst (λ l. nat_lt (length old.events) (length l) ≡ true) same more)

  -- A signed cause is that of the response whose code it has.
  caused : (code : ℕ) (reason : List ℕ) → cause_of (before_of old bytes) bytes new ≡ Rejected code reason true
      → HasEnded × (is_unsigned old.phase ≡ false) × (is_error_class (class_of (kind_at bytes)) ≡ true) × (first_code bytes ≡ Some code)
  caused code reason is =
      let b = before_of old bytes in
      let two = chosen (has_ended b bytes new) b.is_unsigned (cause_unended bytes) (cause_unsigned bytes) (cause_signed b.is_allocating bytes) (unended bytes) (unsigned_first bytes) (ap says_signed is) in
      let same = third (has_ended b bytes new) b.is_unsigned (cause_unended bytes) (cause_unsigned bytes) (cause_signed b.is_allocating bytes) two.0 two.1 in
      let relays = b.is_allocating && (is_some (lifetime_reported bytes) && is_relaying bytes) in
      let error = coded bytes code (is_error_class (class_of (kind_at bytes))) (first_code bytes) (if relays then OtherFamily else Unusable) (no_code relays) (ap code_in (sym same ∙ is)) in
      (two.0, two.1, error.0, error.1)

  pub redirect_waited : is_redirected (before_of old bytes) bytes new ≡ true → HasEnded × (has_end new.phase ≡ true)
  redirect_waited h =
      let two = both_so (has_ended (before_of old bytes) bytes new) _ h in
      let three = both_so (has_end new.phase) _ two.1 in
      (two.0, three.0)

-- A client that has ended processes nothing.
module _ (bytes : List ℕ) (now : ℕ) (handled : Bool) (new : Protocol) where
  still_in : (old : Protocol) (phase : Phase) → has_end phase ≡ true → IsProcessedIn phase old bytes now handled new → new.agent ≡ old.agent
  still_in old Initial at is = absurd (Prim.cc at)
  still_in old (InitialSent numbers) at is = absurd (Prim.cc at)
  still_in old (Authenticating numbers) at is = absurd (Prim.cc at)
  still_in old Authenticated at is = absurd (Prim.cc at)
  still_in old Ended at is = ap (λ (p : Protocol). p.agent) is.1

ended_still : (old : Protocol) (bytes : List ℕ) (now : ℕ) (handled : Bool) (new : Protocol) → has_end old.phase ≡ true → IsProcessed old bytes now handled new → new.agent ≡ old.agent
ended_still old bytes now handled new at is = by_test (is_unawaited old bytes)
    (λ (_ : is_unawaited old bytes ≡ true) (o : IsIgnored old handled new). ap (λ (p : Protocol). p.agent) o.1)
    (λ (_ : is_unawaited old bytes ≡ false) (o : IsProcessedIn old.phase old bytes now handled new). still_in bytes now handled new old old.phase at o) is

module _ (c : Client) (bytes : List ℕ) (now : ℕ) (handled : Bool) (new : Protocol) (sound : IsSound c) (are_bytes : AreBytes bytes)
    (is : IsProcessed c.core bytes now handled new) where
  signed_event : is_unsigned c.core.phase ≡ false → HasEnded c.core bytes new → nat_lt (length c.core.events) (length new.events) ≡ true → IsSignedFor c bytes
  signed_event isnt h more = elim ((processed_gives bytes now c.core isnt).gives handled new is) [
    | inl quiet ↦ elim quiet [
      | inl same ↦ absurd (grown c.core bytes new more same.0)
      | inr agent ↦ absurd (other_agent c.core bytes new h agent)
    ]
    | inr own ↦ signed_by c bytes sound are_bytes own
  ]

  pub signed_cause : (code : ℕ) (reason : List ℕ) → nat_lt (length c.core.events) (length new.events) ≡ true
      → cause_of (before_of c.core bytes) bytes new ≡ Rejected code reason true → IsSignedErrorTo c bytes new code
  signed_cause code reason more of =
      let all = caused c.core bytes new code reason of in
      let two = waited_spent c.core bytes new all.0 in
      record {
        is = record { error = all.2; code_is = all.3; waited = two.0; spent = two.1 };
        signed = signed_event all.1 all.0 more;
      }

  pub signed_address : is_allocated (before_of c.core bytes) new ≡ true → (is_awaited c.core.agent bytes ≡ true) × IsSignedFor c bytes
  signed_address h =
      let two = both_so (is_allocating c.core.phase) (is_authenticated new.phase) h in
      elim ((processed_allocates bytes now c.core two.0).gives handled new is) [
        | inl isnt ↦ absurd (Prim.cc (sym isnt ∙ two.1))
        | inr own ↦ (own.0, signed_by c bytes sound are_bytes own.1)
      ]

  pub signed_redirect : is_redirected (before_of c.core bytes) bytes new ≡ true → is_unsigned c.core.phase ≡ false → IsSignedFor c bytes
  signed_redirect h isnt =
      let two = redirect_waited c.core bytes new h in
      elim ((processed_gives bytes now c.core isnt).gives handled new is) [
        | inl quiet ↦ elim quiet [
          | inl same ↦ absurd (other_agent c.core bytes new two.0 (ended_still c.core bytes now handled new (same.1 two.1) is))
          | inr agent ↦ absurd (other_agent c.core bytes new two.0 agent)
        ]
        | inr own ↦ signed_by c bytes sound are_bytes own
      ]
