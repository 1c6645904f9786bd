-- What a client that has not allocated does with a message is a step of a run.
use Rattle.std.proofs.Common.{◌≡◌, ◌⊎◌, ℕ, Bool, true, false, ◌&&◌, List, [], ◌∷◌, ◌++◌, Option, Some, None, Result, Ok, Err, refl, sym, ap, ◌∙◌, subst, arith, inl, inr}
use Rattle.turn_client_proto_timers.specs.StunTypesWire.Attributes.{kind_at}
use Rattle.turn_client_proto_timers.specs.StunTypesWire.Grammar.{refusal}
use Rattle.turn_client_proto_timers.specs.StunTypesWire.Headers.{AreBytes}
use Rattle.turn_client_proto_timers.specs.StunTypesWire.declared.algorithm.IntegrityAlgorithm.{IntegrityAlgorithm}
use Rattle.turn_client_proto_timers.specs.StunTypesWire.declared.class.MessageClass.{MessageClass}
use Rattle.turn_client_proto_timers.specs.StunTypesWire.declared.class.MessageClass.TheVariants.{Request, Indication, Success, Error}
use Rattle.turn_client_proto_timers.specs.StunTypesWire.Types.{class_of}
use Rattle.turn_client_proto_timers.specs.StunTypesBase.declared.family.AddressFamily.{AddressFamily}
use Rattle.turn_client_proto_timers.specs.StunTypesBase.declared.family.AddressFamily.TheVariants.{IPV4}
use Rattle.turn_client_proto_recv.specs.StunProtoClient.Client as signers
use Rattle.turn_client_proto_recv.specs.StunProtoClient.declared.error.LongTermClientAuthError.{LongTermClientAuthError}
use Rattle.turn_client_proto_recv.specs.StunProtoClient.declared.error.LongTermClientAuthError.TheVariants.{Unauthorized, IntegrityFailed, UnsupportedFeature, NoMemory}
use Rattle.turn_client_proto_recv.specs.StunProtoClient.declared.validation.LongTermClientValidation.{LongTermClientValidation}
use Rattle.turn_client_proto_recv.specs.StunProtoClient.declared.validation.LongTermClientValidation.TheVariants.{ResendRequest, Validated}
use Rattle.turn_client_proto_timers.specs.StunProtoAgent.Handling.{after_message, ends_one, is_awaited, is_response}
use Rattle.turn_client_proto_timers.specs.StunProtoAgent.Numbers.{NothingNew}
use Rattle.turn_client_proto_timers.specs.StunProtoAgent.State.{Agent}
use Rattle.turn_client_proto_timers.proofs.StunProtoAgent.Numbers.{handled_new}
use Rattle.turn_client_proto_recv.specs.TurnTypesAttributes.TurnRegistry.{allocate_method}
use Rattle.turn_client_proto_timers.specs.TurnRuns.Members.{IsIn}
use Rattle.turn_client_proto_timers.specs.TurnRuns.Messages as run
use Rattle.turn_client_proto_timers.specs.TurnRuns.StunWire.{decoded_by}
use Rattle.turn_client_proto_timers.specs.Api.declared.event.TurnEvent.TheVariants.{AllocationCreateFailed}
use Rattle.turn_client_proto_timers.specs.Messages.Judging.{IsJudged}
use Rattle.turn_client_proto_timers.specs.Messages.Requests.{request_text}
use Rattle.turn_client_proto_timers.specs.Messages.ReportedRequests.{reported_request}
use Rattle.turn_client_proto_timers.specs.Messages.declared.request.TurnRequest.{TurnRequest}
use Rattle.turn_client_proto_timers.specs.Messages.declared.request.TurnRequest.TheVariants.{Allocate}
use Rattle.turn_client_proto_timers.specs.Messages.Reported.{lifetime_reported}
use Rattle.turn_client_proto_timers.specs.Core.Allocating.{IsAllocatedFor}
use Rattle.turn_client_proto_timers.specs.Core.Asking.{requested}
use Rattle.turn_client_proto_timers.specs.Core.Authenticating.{IsAccepted, IsAllocateAnswered, IsAllocatingAgain, IsChallenged, IsErrorAnswered, IsFirstJudged, IsSignedJudged, IsUnauthenticated, allocates_again, allocates_other, ends_unsigned, family_left, numbers_sent}
use Rattle.turn_client_proto_timers.specs.Core.Ending.{ended}
use Rattle.turn_client_proto_timers.specs.Core.Numbering.{after_number}
use Rattle.turn_client_proto_timers.specs.Core.Responding.{accepted, answered, challenged, is_tired, judged}
use Rattle.turn_client_proto_timers.specs.Core.declared.protocol.Phase.{Phase}
use Rattle.turn_client_proto_timers.specs.Core.declared.protocol.Phase.TheVariants.{Initial, InitialSent, Authenticating, Authenticated, Ended}
use Rattle.turn_client_proto_timers.specs.Core.declared.protocol.Protocol.{Protocol}
use Rattle.turn_client_proto_step_laws.specs.ClientWords.{challenge_of, realm_in}
use Rattle.turn_client_proto_step_laws.specs.RunClient.{Client, Parts, parts_of}
use Rattle.turn_client_proto_step_laws.specs.RunSteps.{IsRunStep}
use Rattle.turn_client_proto_step_laws.specs.Sound.{AreAllocates, BeforeAllocated, CanAsk, IsOrderly}
use Rattle.turn_client_proto_step_laws.proofs.Adding.{HasNumber, adds_both, agent_less, phase_moved}
use Rattle.turn_client_proto_step_laws.proofs.Allocating.{allocate_sent, allocated_step}
use Rattle.turn_client_proto_step_laws.proofs.Asking.{IsMade, IsUnderWay, requested_adds, requested_orderly, asks, made, once_accepted, once_answered, once_judged}
use Rattle.turn_client_proto_step_laws.proofs.Drawing.{one_number}
use Rattle.turn_client_proto_step_laws.proofs.Ending.{ends}
use Rattle.turn_client_proto_step_laws.proofs.Lists.{in_either}
use Rattle.turn_client_proto_step_laws.proofs.Orderly.{IsAllocate, agent_orderly, before_all, phase_orderly, until_all}
use Rattle.turn_client_proto_step_laws.proofs.Plain.{counts_none, none_decoded, nothing_transmitted, quiet, run_step}
use Rattle.turn_client_proto_step_laws.proofs.Polling.{by_test}
use Rattle.turn_client_proto_step_laws.proofs.Realms.{IsGoing, realm_going}
use Rattle.turn_client_proto_step_laws.proofs.Signed.{validated_own}

-- ---- nothing is requested

-- A client that requested nothing in a call.
pub done : (c : Client) (came : List (List ℕ)) (mid new : Protocol) → IsUnderWay c came mid → new ≡ mid → IsRunStep c came None [] new
done c came mid new is same =
    subst (λ (p : Protocol). IsRunStep c came None [] p) (sym same)
    (run_step [] came None [] c c.transmitted mid
    (quiet None [] c c.transmitted mid (counts_none c mid is.rng) is.realms is.adds (nothing_transmitted [] c) is.reported)
    is.orderly (until_all mid.phase is.can_ask))

-- A client that has ended.
pub over : (c : Client) (came : List (List ℕ)) (mid new : Protocol) → IsUnderWay c came mid → new ≡ ended mid → IsRunStep c came None [] new
over c came mid new is same =
    subst (λ (p : Protocol). IsRunStep c came None [] p) (sym same) (ends c came mid is.adds is.orderly is.reported is.rng)

-- ---- ALLOCATE once more

-- The server has not allocated yet.
abbrev pub IsAllocating : Phase → Type 1
IsAllocating phase = (A : Type 0) → BeforeAllocated phase A → A

-- Until then the client has not ended.
going_first : (phase : Phase) → IsAllocating phase → IsGoing phase
going_first Initial allocating stored = refl
going_first (InitialSent numbers) allocating stored = refl
going_first (Authenticating numbers) allocating stored = refl
going_first Authenticated allocating stored = refl
going_first Ended allocating stored = absurd (allocating ⊥ tt)

module _ (c : Client) (mid : Protocol) (bytes : List ℕ) (now : ℕ) (under_way : IsUnderWay c (bytes ∷ []) mid) (allocating : IsAllocating mid.phase) where
  abbrev text_of : TurnRequest → ℕ → List ℕ
  text_of request number = request_text mid.auth request number

  is_allocate : (request : TurnRequest) (number : ℕ) → IsMade mid request number → (reported_request request number).method ≡ allocate_method → (reported_request request number).transport ≡ Some mid.allocates
      → IsAllocate (parts_of mid) (text_of request number)
  is_allocate request number is method transport = (ap (λ (m : run.Message). m.method) is.reported ∙ method, ap (λ (m : run.Message). m.transport) is.reported ∙ transport)

  -- The stored realm is still the client's.
  same_realm : (realm : List ℕ) → realm_in mid.auth.challenge ≡ Some realm → realm_in (challenge_of mid) ≡ Some realm
  same_realm realm h = realm_going mid.phase mid.auth.challenge realm (going_first mid.phase allocating) h

  again : (number : ℕ) → IsMade mid (Allocate mid.allocates mid.families mid.options) number → IsRunStep c (bytes ∷ []) None [] (challenged bytes (allocates_again number now mid))
  unfolding challenged allocates_again requested
  again number is =
      let request : TurnRequest = Allocate mid.allocates mid.families mid.options in
      let started : List run.Message = decoded_by (text_of request number) ∷ [] in
      let made_it : Parts = parts_of (requested (after_number mid) request number now) in
      let orderly = requested_orderly mid request number now is (before_all mid.phase (is_allocate request number is refl refl)) under_way.orderly in
      let phase : Phase = Authenticating (numbers_sent mid.phase ++ number ∷ []) in
      let moved : Parts = record made_it { phase = phase } in
      let agent : Agent = after_message made_it.agent bytes mid.server in
      let none : NothingNew made_it.agent agent = handled_new made_it.agent bytes mid.server in
      let core : Protocol = challenged bytes (allocates_again number now mid) in
      let alone : AreAllocates mid.allocates made_it.agent = allocating (AreAllocates mid.allocates made_it.agent) orderly.allocates in
      let adds = adds_both started (parts_of mid) made_it (parts_of core) (requested_adds mid request number now)
      (adds_both started made_it moved (parts_of core)
      (phase_moved started made_it phase (numbers_again number (decoded_by (text_of request number)) is.number_is))
      (agent_less started moved agent none)) in
      asks c mid request number under_way is None core adds
      (agent_orderly moved agent none (phase_orderly made_it phase alone orderly)) refl same_realm under_way.can_ask.settings refl refl (nothing_transmitted started c)
    where
      numbers_again : (number : ℕ) (m : run.Message) → m.number ≡ number → (n : ℕ) → IsIn n (numbers_sent mid.phase ++ number ∷ []) → IsIn n (numbers_sent mid.phase) ⊎ HasNumber n (m ∷ [])
      numbers_again number m same n h = elim (in_either n (numbers_sent mid.phase) (number ∷ []) h) [ inl was ↦ inl was | inr now ↦ inr (one_number n number m same now) ]

  other : (family : AddressFamily) (number : ℕ) → IsMade mid (Allocate mid.allocates (family ∷ []) mid.options) number → IsRunStep c (bytes ∷ []) None [] (allocates_other family number now mid)
  unfolding allocates_other requested
  other family number is =
      let request : TurnRequest = Allocate mid.allocates (family ∷ []) mid.options in
      let started : List run.Message = decoded_by (text_of request number) ∷ [] in
      let made_it : Parts = parts_of (requested (after_number mid) request number now) in
      let orderly = requested_orderly mid request number now is (before_all mid.phase (is_allocate request number is refl refl)) under_way.orderly in
      let phase : Phase = Authenticating (number ∷ []) in
      let core : Protocol = allocates_other family number now mid in
      let alone : AreAllocates mid.allocates made_it.agent = allocating (AreAllocates mid.allocates made_it.agent) orderly.allocates in
      let adds = adds_both started (parts_of mid) made_it (parts_of core) (requested_adds mid request number now)
      (phase_moved started made_it phase (λ n h. inr (one_number n number (decoded_by (text_of request number)) is.number_is h))) in
      asks c mid request number under_way is None core adds
      (phase_orderly made_it phase alone orderly) refl same_realm (omega arith, under_way.can_ask.settings.1) refl
      (none_decoded mid.events (AllocationCreateFailed IPV4 ∷ []) refl) (nothing_transmitted started c)

  pub challenge : (handled : Bool) (new : Protocol) → IsChallenged mid bytes now handled new → IsRunStep c (bytes ∷ []) None [] new
  challenge handled new h =
      by_test (is_awaited mid.agent bytes)
      (λ (_ : is_awaited mid.agent bytes ≡ true) one. by_test (is_tired mid)
      (λ (_ : is_tired mid ≡ true) (o : (handled ≡ true) × (new ≡ ended mid)). over c (bytes ∷ []) mid new under_way o.1)
      (λ (_ : is_tired mid ≡ false) (o : IsAllocatingAgain mid bytes now handled new).
      subst (λ (p : Protocol). IsRunStep c (bytes ∷ []) None [] p) (sym o.outcome.1)
      (again o.number (made c mid (Allocate mid.allocates mid.families mid.options) o.number under_way o.lawful tt o.is_next)))
      one)
      (λ (_ : is_awaited mid.agent bytes ≡ false) (o : (handled ≡ false) × (new ≡ mid)). done c (bytes ∷ []) mid new under_way o.1) h

  pub error : (left : Option AddressFamily) (handled : Bool) (new : Protocol) → IsErrorAnswered left mid now handled new → IsRunStep c (bytes ∷ []) None [] new
  error None handled new o = over c (bytes ∷ []) mid new under_way o.1
  error (Some family) handled new o =
      subst (λ (p : Protocol). IsRunStep c (bytes ∷ []) None [] p) (sym o.outcome.1)
      (other family o.number (made c mid (Allocate mid.allocates (family ∷ []) mid.options) o.number under_way o.lawful tt o.is_next))

  pub unauthenticated : (handled : Bool) (new : Protocol) → IsUnauthenticated mid bytes handled new → IsRunStep c (bytes ∷ []) None [] new
  unauthenticated handled new h =
      by_test (is_awaited mid.agent bytes && ends_unsigned mid bytes)
      (λ (_ : (is_awaited mid.agent bytes && ends_unsigned mid bytes) ≡ true) (o : (handled ≡ true) × (new ≡ ended (answered bytes mid))).
      over c (bytes ∷ []) (answered bytes mid) new (once_answered c mid bytes under_way) o.1)
      (λ (_ : (is_awaited mid.agent bytes && ends_unsigned mid bytes) ≡ false) (o : (handled ≡ false) × (new ≡ mid)). done c (bytes ∷ []) mid new under_way o.1) h

-- ---- by the verdict

module _ (c : Client) (bytes : List ℕ) (now : ℕ) (orderly : IsOrderly (parts_of c.core)) (can : CanAsk c) (allocating : IsAllocating c.core.phase) where
  pub first_judged : (verdict : Result LongTermClientValidation LongTermClientAuthError) (signer : signers.Client) (handled : Bool) (new : Protocol) → IsJudged c.core.auth bytes verdict signer
      → IsFirstJudged verdict (judged signer c.core) bytes now handled new → IsRunStep c (bytes ∷ []) None [] new
  first_judged (Ok (ResendRequest choice)) signer handled new is h =
      challenge c (judged signer c.core) bytes now (once_judged c bytes (Ok (ResendRequest choice)) signer orderly can is) allocating handled new h
  first_judged (Ok (Validated algorithm)) signer handled new is h = over c (bytes ∷ []) (judged signer c.core) new (once_judged c bytes (Ok (Validated algorithm)) signer orderly can is) h.1
  first_judged (Err NoMemory) signer handled new is h = absurd h
  first_judged (Err Unauthorized) signer handled new is h = unauthenticated c (judged signer c.core) bytes now (once_judged c bytes (Err Unauthorized) signer orderly can is) allocating handled new h
  first_judged (Err (IntegrityFailed algorithm)) signer handled new is h = unauthenticated c (judged signer c.core) bytes now (once_judged c bytes (Err (IntegrityFailed algorithm)) signer orderly can is) allocating handled new h
  first_judged (Err UnsupportedFeature) signer handled new is h = unauthenticated c (judged signer c.core) bytes now (once_judged c bytes (Err UnsupportedFeature) signer orderly can is) allocating handled new h

  module _ (are_bytes : AreBytes bytes) (message : refusal bytes ≡ None) (response : is_response bytes ≡ true) where
    -- A success response with a lifetime allocates; one without ends the client.
    success : (algorithm : IntegrityAlgorithm) (signer : signers.Client) (reported : Option ℕ) (handled : Bool) (new : Protocol) → IsJudged c.core.auth bytes (Ok (Validated algorithm)) signer
        → class_of (kind_at bytes) ≡ Success → is_awaited c.core.agent bytes ≡ true → IsAllocatedFor reported (accepted bytes (judged signer c.core)) bytes now handled new → IsRunStep c (bytes ∷ []) None [] new
    success algorithm signer None handled new is class awaited h =
        over c (bytes ∷ []) (accepted bytes (judged signer c.core)) new (once_accepted c (judged signer c.core) bytes (once_judged c bytes (Ok (Validated algorithm)) signer orderly can is)) h.1
    success algorithm signer (Some lifetime) handled new is class awaited h =
        let ends_it : ends_one c.core.agent bytes ≡ true = (rw (response, awaited) refl) in
        subst (λ (p : Protocol). IsRunStep c (bytes ∷ []) None [] p) (sym h.1)
        (allocated_step c signer bytes lifetime now message class ends_it
        (validated_own c signer bytes algorithm are_bytes can (going_first c.core.phase allocating) is)
        (allocate_sent c bytes (allocating (AreAllocates c.core.allocates c.core.agent) orderly.allocates) awaited)
        orderly (going_first c.core.phase allocating) (once_accepted c (judged signer c.core) bytes (once_judged c bytes (Ok (Validated algorithm)) signer orderly can is)))

    still_allocating : (signer : signers.Client) → IsAllocating (accepted bytes (judged signer c.core)).phase
    unfolding accepted
    still_allocating signer = allocating

    by_class : (algorithm : IntegrityAlgorithm) (signer : signers.Client) (class : MessageClass) (handled : Bool) (new : Protocol) → IsJudged c.core.auth bytes (Ok (Validated algorithm)) signer
        → class_of (kind_at bytes) ≡ class → is_awaited c.core.agent bytes ≡ true → IsAllocateAnswered class (accepted bytes (judged signer c.core)) bytes now handled new → IsRunStep c (bytes ∷ []) None [] new
    by_class algorithm signer Error handled new is class awaited h =
        let mid : Protocol = accepted bytes (judged signer c.core) in
        let under_way = once_accepted c (judged signer c.core) bytes (once_judged c bytes (Ok (Validated algorithm)) signer orderly can is) in
        error c mid bytes now under_way (still_allocating signer) (family_left mid bytes) handled new h
    by_class algorithm signer Success handled new is class awaited h = success algorithm signer (lifetime_reported bytes) handled new is class awaited h
    by_class algorithm signer Request handled new is class awaited h =
        done c (bytes ∷ []) (accepted bytes (judged signer c.core)) new (once_accepted c (judged signer c.core) bytes (once_judged c bytes (Ok (Validated algorithm)) signer orderly can is)) h.1
    by_class algorithm signer Indication handled new is class awaited h =
        done c (bytes ∷ []) (accepted bytes (judged signer c.core)) new (once_accepted c (judged signer c.core) bytes (once_judged c bytes (Ok (Validated algorithm)) signer orderly can is)) h.1

    accept : (algorithm : IntegrityAlgorithm) (signer : signers.Client) (handled : Bool) (new : Protocol) → IsJudged c.core.auth bytes (Ok (Validated algorithm)) signer
        → IsAccepted (judged signer c.core) bytes now handled new → IsRunStep c (bytes ∷ []) None [] new
    accept algorithm signer handled new is h =
        by_test (is_awaited c.core.agent bytes)
        (λ (awaited : is_awaited c.core.agent bytes ≡ true) one. by_class algorithm signer (class_of (kind_at bytes)) handled new is refl awaited one)
        (λ (_ : is_awaited c.core.agent bytes ≡ false) (o : (handled ≡ true) × (new ≡ judged signer c.core)). done c (bytes ∷ []) (judged signer c.core) new (once_judged c bytes (Ok (Validated algorithm)) signer orderly can is) o.1) h

    pub signed_judged : (verdict : Result LongTermClientValidation LongTermClientAuthError) (signer : signers.Client) (handled : Bool) (new : Protocol) → IsJudged c.core.auth bytes verdict signer
        → IsSignedJudged verdict (judged signer c.core) bytes now handled new → IsRunStep c (bytes ∷ []) None [] new
    signed_judged (Ok (ResendRequest choice)) signer handled new is h =
        challenge c (judged signer c.core) bytes now (once_judged c bytes (Ok (ResendRequest choice)) signer orderly can is) allocating handled new h
    signed_judged (Ok (Validated algorithm)) signer handled new is h = accept algorithm signer handled new is h
    signed_judged (Err (IntegrityFailed algorithm)) signer handled new is h =
        let under_way = once_judged c bytes (Err (IntegrityFailed algorithm)) signer orderly can is in
        by_test signer.hardened
        (λ (_ : signer.hardened ≡ true) (o : (handled ≡ false) × (new ≡ judged signer c.core)). done c (bytes ∷ []) (judged signer c.core) new under_way o.1)
        (λ (_ : signer.hardened ≡ false) (o : (handled ≡ true) × (new ≡ ended (judged signer c.core))). over c (bytes ∷ []) (judged signer c.core) new under_way o.1) h
    signed_judged (Err NoMemory) signer handled new is h = absurd h
    signed_judged (Err Unauthorized) signer handled new is h = done c (bytes ∷ []) (judged signer c.core) new (once_judged c bytes (Err Unauthorized) signer orderly can is) h.1
    signed_judged (Err UnsupportedFeature) signer handled new is h = done c (bytes ∷ []) (judged signer c.core) new (once_judged c bytes (Err UnsupportedFeature) signer orderly can is) h.1
