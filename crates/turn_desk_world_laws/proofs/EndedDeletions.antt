-- A granted deletion leaves no allocation, and so no connection.
use Rattle.std.proofs.Common.{◌≡◌, ◌≢◌, ◌==◌, ◌++◌, ◌&&◌, ℕ, Bool, true, false, not, List, [], Option, Some, None, Ok, Err, Vec, Global, refl, sym, ap, ◌∙◌, subst, inl, inr, if◌then◌else◌}
use Rattle.std.proofs.lemmas.Bool.{eq-eqb}
use Rattle.std.specs.Bool.{MatchBool}
use Rattle.std.specs.FinMap as map
use Rattle.std.specs.Prelude.{MatchOption, Result, is_some}
use Rattle.std.specs.List.{list_any}
use Rattle.std.specs.Borrow.{Bor}
use Rattle.std.specs.declared.net.socket_addr.SocketAddr.{SocketAddr}
use Rattle.turn_desk_core.specs.StunTypesBase.declared.transmit.Transmit.{Transmit}
use Rattle.turn_desk_core.specs.StunTypesWire.Attributes.{kind_at}
use Rattle.turn_desk_core.specs.StunTypesWire.Grammar.{number_at, refusal}
use Rattle.turn_desk_core.specs.StunTypesWire.Registry.{allocation_mismatch_code}
use Rattle.turn_desk_core.specs.StunTypesWire.Types.{class_of, is_response_class, method_of}
use Rattle.turn_desk_core.specs.StunTypesWire.declared.class.MessageClass.{MessageClass}
use Rattle.turn_desk_core.specs.StunTypesWire.declared.class.MessageClass.TheVariants.{Request, Indication, Success, Error}
use Rattle.turn_desk_core.specs.StunTypesWire.declared.error.StunParseError.{StunParseError}
use Rattle.turn_desk_core.specs.TurnTypesAttributes.TurnRegistry.{refresh_method}
use Rattle.turn_client_proto_messages.specs.StunProtoClient.Client as auth
use Rattle.turn_client_proto_messages.specs.StunProtoClient.ClientValidation.{IsResent, IsUnsupported, IsValidated, going_by}
use Rattle.turn_client_proto_messages.specs.StunProtoClient.declared.error.LongTermClientAuthError.{LongTermClientAuthError}
use Rattle.turn_client_proto_messages.specs.StunProtoClient.declared.error.LongTermClientAuthError.TheVariants.{Unauthorized, IntegrityFailed, UnsupportedFeature, NoMemory}
use Rattle.turn_client_proto_messages.specs.StunProtoClient.declared.validation.LongTermClientValidation.{LongTermClientValidation}
use Rattle.turn_client_proto_messages.specs.StunProtoClient.declared.validation.LongTermClientValidation.TheVariants.{ResendRequest, Validated}
use Rattle.turn_client_proto_messages.specs.Reported.{first_code, is_code}
use Rattle.turn_client_proto_messages.specs.Judging.{IsJudged}
use Rattle.turn_client_proto_messages.specs.TurnRuns.Indications.{is_indication}
use Rattle.turn_client_proto_messages.specs.TurnRuns.Members.{IsIn}
use Rattle.turn_client_proto_messages.specs.Allocation.Refreshing.{ends_by, is_end}
use Rattle.turn_client_proto_api.specs.Payloads.{PeerPayload}
use Rattle.turn_client_proto_api.specs.StunProtoAgent.Handling.{is_awaited, is_response}
use Rattle.turn_client_proto_api.specs.declared.answer.TurnRecvRet.{TurnRecvRet}
use Rattle.turn_client_proto_api.specs.declared.answer.TurnRecvRet.TheVariants as recv
use Rattle.turn_client_proto_core.specs.Outcomes.{IsHandled, IsIgnored}
use Rattle.turn_client_proto_core.specs.Receiving.{IsFollowed, IsProcessed, IsProcessedIn, is_unawaited}
use Rattle.turn_client_proto_core.specs.Responding.{accepted, is_error_class, judged}
use Rattle.turn_client_proto_core.specs.Standing.{IsJudgedStanding, IsRequestAnswered, IsTakenUp, after_refresh, deallocated, is_refreshed, refreshed}
use Rattle.turn_client_proto_core.specs.declared.protocol.Phase.{Phase}
use Rattle.turn_client_proto_core.specs.declared.protocol.Phase.TheVariants.{Ended}
use Rattle.turn_client_proto_step_laws.specs.Held.{Allocation}
use Rattle.turn_client_proto_step_laws.specs.Payload.Payloads.{payload_of}
use Rattle.turn_client_proto_step_laws.specs.Payload.declared.payload.Payload.{Payload}
use Rattle.turn_client_proto_step_laws.specs.Recv.Chunks.{First, Following, IsChunkTaken, IsFirstTaken, IsFrameHandled, Lost, Takes, Waits, Invalid as FrameInvalid}
use Rattle.turn_client_proto_step_laws.specs.Recv.ClientState.{ClientState, Protocol}
use Rattle.turn_client_proto_step_laws.specs.Recv.Control.{Control}
use Rattle.turn_client_proto_step_laws.specs.Recv.HandingIn.{IsDispatched, IsFrameTaken, taken_as}
use Rattle.turn_client_proto_step_laws.specs.Recv.Pulls.{Ends, Gives, Goes, IsPulled, frame_of}
use Rattle.turn_client_proto_step_laws.specs.Recv.Receipts.{Chunk, End, IsOfStream, IsReceivedBy, IsStreamed, Strange}
use Rattle.turn_client_proto_step_laws.specs.Recv.declared.handing.Taken.{Taken}
use Rattle.turn_client_proto_step_laws.specs.Recv.declared.handing.Taken.TheVariants.{Garbled, Given}
use Rattle.turn_client_proto_step_laws.proofs.Lists.{any_passes, inside}
use Rattle.turn_client_proto_step_laws.proofs.Once.Judging.{judged_same}
use Rattle.turn_client_proto_step_laws.proofs.Polling.{by_test}
use Rattle.turn_desk_world_laws.proofs.Streaming.{not_garbled}
use Rattle.turn_client_proto_progress_laws.proofs.Asking.Given.{no_payload_of}
use Rattle.turn_client_proto_progress_laws.proofs.TcpBinding.Heads.{whole_frame, whole_look}
use Rattle.turn_desk_event.specs.TurnTypesFrame.StreamAnswers.{IsNone, after_look, joined, looked}
use Rattle.turn_desk_event.specs.TurnTypesFrame.Streams.{Stream, alive}
use Rattle.turn_desk_event.specs.declared.answer.Answer.{Answer}
use Rattle.turn_desk_event.specs.declared.event.Event.TheVariants as event
use Rattle.turn_desk_world.specs.Calls.{IsFed, IsReported}
use Rattle.turn_desk_world.specs.Model.{World}
use Rattle.turn_desk_world.specs.Runs.{IsAtClient, IsInRange, IsStep, is_in_range}
use Rattle.turn_desk_world_laws.specs.Ended.{GrantsDeletion, HasNoneAt, IsDeleting}
use Rattle.turn_desk_world_laws.proofs.EndedStreams.{contents}

-- ---- a client that has ended

module _ (now : ℕ) where
  -- It handles no frame.
  ended_message : (p : Protocol) → p.phase ≡ Ended → (frame : List ℕ) (handled : Bool) (new : Protocol) → IsProcessed p frame now handled new → new ≡ p
  ended_message p ends frame handled new is =
      by (is_unawaited p frame) (subst (λ (f : Phase). MatchBool (is_unawaited p frame) (IsIgnored p handled new) (IsProcessedIn f p frame now handled new)) ends is)
    where
      by : (b : Bool) → MatchBool b (IsIgnored p handled new) (IsIgnored p handled new) → new ≡ p
      by true ignored = ignored.1
      by false ignored = ignored.1

  ended_frame : (p : Protocol) → p.phase ≡ Ended → (frame : List ℕ) (taken : Taken) (new : Protocol) → IsFrameTaken p frame now taken new → new ≡ p
  ended_frame p ends frame taken new is = by (payload_of p frame) (refusal frame) is
    where
      by : (o : Option Payload) (e : Option StunParseError) → MatchOption o (IsDispatched e p frame now taken new) (λ payload. (taken ≡ Given payload) × (new ≡ p)) → new ≡ p
      by None None is = ended_message p ends frame is.0 new is.2
      by None (Some error) is = is.1
      by (Some payload) e is = is.1

  ended_pulls : (s : Stream) (p : Protocol) (given : Option PeerPayload) (left : Stream) (new : Protocol) → IsPulled (IsFrameHandled now) s p given left new → p.phase ≡ Ended → new ≡ p
  ended_pulls _ _ _ _ _ (Ends s p none) ends = refl
  ended_pulls _ _ _ _ _ (Gives s p payload after some is) ends = ended_frame p ends (frame_of s) is.taken after is.is_taken
  ended_pulls _ _ _ _ _ (Goes s p middle given left after some is more) ends =
      let same : middle ≡ p = ended_frame p ends (frame_of s) is.taken middle is.is_taken in
      ended_pulls (after_look s) middle given left after more (ap (λ (q : Protocol). q.phase) same ∙ ends) ∙ same

-- ---- the response

-- The client has ended, and has no allocations.
abbrev IsGone : Protocol → Type 0
IsGone p = (p.phase ≡ Ended) × (p.allocations ≡ [])

no_indication : (c : MessageClass) → is_response_class c ≡ true → is_indication c ≡ false
no_indication Request is = absurd (Prim.cc is)
no_indication Indication is = absurd (Prim.cc is)
no_indication Success is = refl
no_indication Error is = refl

module _ (here there : SocketAddr) (w : World) (transaction_id : ℕ) (head : List ℕ) (is : IsDeleting here there transaction_id head w) (message : List ℕ) (grants : GrantsDeletion transaction_id is.standing message) (now : ℕ) where
  abbrev p : Protocol
  p = is.client.core

  -- It is a response, and grants the REFRESH.
  response : is_response message ≡ true
  response = elim grants.granting [ inl success ↦ ap is_response_class success | inr error ↦ ap is_response_class error.0 ]

  granted : is_refreshed message ≡ true
  granted = elim grants.granting [
    | inl success ↦ ap (λ (c : MessageClass). if is_error_class c then is_code allocation_mismatch_code (first_code message) else true) success
    | inr error ↦
        ap (λ (c : MessageClass). if is_error_class c then is_code allocation_mismatch_code (first_code message) else true) error.0
        ∙ ap (is_code allocation_mismatch_code) error.1
  ]

  awaited : is_awaited p.agent message ≡ true
  awaited = ap is_some (ap (map.get p.agent.outstanding) grants.number ∙ is.outstanding)

  -- It deletes the allocations.
  gone_after : (q : Protocol) → q.allocations ≡ p.allocations → IsGone (after_refresh message now (accepted message q))
  unfolding after_refresh refreshed accepted deallocated ends_by
  gone_after q same =
      let ends : ends_by (number_at message) is.allocation ≡ true = ap (λ (n : ℕ). ends_by n is.allocation) grants.number ∙ ap is_end is.deletes in
      let any : list_any (ends_by (number_at message)) q.allocations ≡ true =
      ap (list_any (ends_by (number_at message))) same ∙ any_passes (ends_by (number_at message)) p.allocations is.allocation is.listed ends in
      rw (granted, any) (refl, refl)

  taken_up : (q : Protocol) (handled : Bool) (new : Protocol) → q.allocations ≡ p.allocations → q.agent ≡ p.agent → IsTakenUp q message now handled new → IsGone new
  taken_up q handled new same agent up =
      let counts : (is_response message && is_awaited q.agent message) ≡ true = rw (response, agent, awaited) refl in
      let method : (method_of (kind_at message) == refresh_method) ≡ true = eq-eqb (method_of (kind_at message)) refresh_method grants.method in
      by_test (is_response message && is_awaited q.agent message)
      (λ _ (responds : IsRequestAnswered (accepted message q) message now handled new).
      by_test (method_of (kind_at message) == refresh_method)
      (λ _ (outcome : IsHandled (after_refresh message now (accepted message q)) handled new). subst IsGone (sym outcome.1) (gone_after q same))
      (λ (other : (method_of (kind_at message) == refresh_method) ≡ false) _. absurd (let never : ⊥ = Prim.cc (sym method ∙ other) in never)) responds)
      (λ (other : (is_response message && is_awaited q.agent message) ≡ false) _. absurd (let never : ⊥ = Prim.cc (sym counts ∙ other) in never)) up

  -- It validates.
  valid : IsValidated p.auth message is.standing.challenge.choice (going_by p.auth (Some is.standing.challenge.choice))
  valid = record { no_challenge = grants.no_challenge; standing = is.standing; occurs = is.signs; chosen = refl; right = grants.right; stored = refl }

  abbrev Verdict : Type 0
  Verdict = Result LongTermClientValidation LongTermClientAuthError

  no_other : {A : Type 0} (error : LongTermClientAuthError) (a : auth.Client) → error ≢ NoMemory → IsJudged p.auth message (Err error) a → A
  no_other error a ample other =
      let same = judged_same p.auth message (going_by p.auth (Some is.standing.challenge.choice)) a (Ok (Validated is.standing.challenge.choice)) (Err error) (λ e. Prim.cc e) (λ e. ample (Prim.cc e)) valid other in
      absurd (Prim.cc same.0)

  by_verdict : (verdict : Verdict) (a : auth.Client) (handled : Bool) (new : Protocol) → IsJudged p.auth message verdict a → IsJudgedStanding verdict (judged a p) message now handled new → IsGone new
  by_verdict (Ok (ResendRequest choice)) a handled new so outcome = let r : IsResent p.auth message choice a = so in absurd (Prim.cc (sym grants.no_challenge ∙ r.visible))
  by_verdict (Ok (Validated algorithm)) a handled new so outcome = taken_up (judged a p) handled new refl refl outcome
  by_verdict (Err Unauthorized) a handled new so outcome = no_other Unauthorized a (λ e. Prim.cc e) so
  by_verdict (Err (IntegrityFailed algorithm)) a handled new so outcome = no_other (IntegrityFailed algorithm) a (λ e. Prim.cc e) so
  by_verdict (Err UnsupportedFeature) a handled new so outcome = let r : IsUnsupported p.auth message a = so in absurd (Prim.cc (sym grants.no_challenge ∙ r.visible))
  by_verdict (Err NoMemory) a handled new so outcome = absurd outcome

  processed : (handled : Bool) (new : Protocol) → IsProcessed p message now handled new → IsGone new
  unfolding is_unawaited
  processed handled new so =
      let taken : (p.auth.hardened && (is_response message && not (is_awaited p.agent message))) ≡ false = rw (response, awaited) (and_false p.auth.hardened) in
      let class : is_indication (class_of (kind_at message)) ≡ false = no_indication (class_of (kind_at message)) response in
      by_test (is_unawaited p message)
      (λ ignored _. absurd (let never : ⊥ = Prim.cc (sym taken ∙ ignored) in never))
      (λ _ in_phase.
      by_test (is_indication (class_of (kind_at message)))
      (λ indicates _. absurd (let never : ⊥ = Prim.cc (sym class ∙ indicates) in never))
      (λ _ followed. let f : IsFollowed IsJudgedStanding p message now handled new = followed in by_verdict f.verdict f.auth handled new f.is_judged f.outcome)
      (subst (λ (f : Phase). IsProcessedIn f p message now handled new) is.phase in_phase)) so
    where
      and_false : (b : Bool) → (b && false) ≡ false
      and_false true = refl
      and_false false = refl

  -- ---- the chunk that completes it

  module _ (more : List ℕ) (came : Transmit (Bor (List ℕ))) (took : TurnRecvRet (Bor (List ℕ))) (ret : Answer) (reported : IsReported took ret) where
    no_memory : {A : Type 0} → took ≡ recv.NoMemory came → A
    no_memory lost = absurd (subst (λ (t : TurnRecvRet (Bor (List ℕ))). IsReported t ret) lost reported)

    no_payload : payload_of p message ≡ None
    no_payload = no_payload_of p message grants.is_message (no_indication (class_of (kind_at message)) response)

    -- The message at the head is handled.
    dispatched : (taken : Taken) (new : Protocol) → IsFrameTaken p message now taken new → (handled : Bool) × (taken ≡ taken_as handled) × IsProcessed p message now handled new
    dispatched taken new frame =
        let sent = subst (λ (o : Option Payload). MatchOption o (IsDispatched (refusal message) p message now taken new) (λ payload. (taken ≡ Given payload) × (new ≡ p))) no_payload frame in
        subst (λ (o : Option StunParseError). IsDispatched o p message now taken new) grants.is_message sent

    first_taken : (owned : Bool) (s left : Stream) (new : Protocol) → IsFirstTaken now owned message s p came took left new → IsGone new
    first_taken owned s left new (First payload gives delivered left_so same) = absurd (Prim.cc (sym gives ∙ no_payload))
    first_taken owned s left new (FrameInvalid frame handled left_so) = (let h = dispatched Garbled new frame in absurd (not_garbled h.0 (sym h.1)))
    first_taken owned s left new (Following handled middle frame given pulled following) =
        let h = dispatched (taken_as handled) middle frame in
        let gone = processed h.0 middle h.2 in
        subst IsGone (sym (ended_pulls now s middle given left new pulled gone.0)) gone

    chunk_taken : (left : Stream) (new : Protocol) → joined (alive head) came.bytes.now ≡ alive (message ++ more) → IsChunkTaken contents now (alive head) p came took left new → IsGone new
    chunk_taken left new whole (Waits none handled left_is same) = absurd (subst IsNone (ap looked whole ∙ whole_look message more grants.is_message) none)
    chunk_taken left new whole (Takes some owned started first) =
        let frame : frame_of (joined (alive head) came.bytes.now) ≡ message = ap frame_of whole ∙ whole_frame message more grants.is_message in
        first_taken owned (after_look (joined (alive head) came.bytes.now)) left new
        (subst (λ (l : List ℕ). IsFirstTaken now owned l (after_look (joined (alive head) came.bytes.now)) p came took left new) frame first)
    chunk_taken left new whole (Lost lost chunk) = no_memory lost

    streamed : (q : ClientState) → IsOfStream p came → came.bytes.now ≢ [] → joined (alive head) came.bytes.now ≡ alive (message ++ more) → IsStreamed contents now (alive head) p came took q → IsGone q.core
    streamed q own some whole (Chunk of full left opens taken) = chunk_taken left q.core whole taken
    streamed q own some whole (End of none handled same closes) = absurd (some none)
    streamed q own some whole (Strange other at opens) = absurd (other own)

  module _ (bytes : Vec ℕ Global) (some : bytes.items ≢ []) (more : List ℕ) (parts : head ++ bytes.items ≡ message ++ more) (ret : Answer) (v : World) (early : is_in_range now ≡ true) where
    fed_gone : (q : ClientState) → IsFed ret is.client bytes.items there here now q → IsGone q.core
    fed_gone q fed =
        let own : IsOfStream p fed.came =
        record { of_server = record { transport = fed.transport_is; from = fed.from_is ∙ sym is.server; to = fed.to_is ∙ sym is.own }; works = is.works } in
        streamed more fed.came fed.took ret fed.reported q own (λ none. some (sym fed.bytes_are ∙ none))
        (ap (λ (l : List ℕ). alive (head ++ l)) fed.bytes_are ∙ ap alive parts)
        (subst (λ (c : Control). IsReceivedBy contents now c p fed.came fed.took q) is.opens fed.received)

    at_client : (o : Option ClientState) → IsAtClient now (λ p q. IsFed ret p bytes.items there here now q) (Some is.client) ret o → (k : ClientState) → o ≡ Some k → IsGone k.core
    unfolding IsAtClient IsInRange
    at_client None so k at = absurd so
    at_client (Some q) so k at =
        subst (λ (x : ClientState). IsGone x.core) (inside at)
        (by_test (is_in_range now) (λ _ fed. fed_gone q fed) (λ out _. absurd (let never : ⊥ = Prim.cc (sym early ∙ out) in never)) so)

    pub deletions_end : (other : SocketAddr) → IsStep (event.ToClient bytes there here now) w ret v → HasNoneAt other v
    deletions_end other step k at a listed =
        let gone = at_client v.client (subst (λ (o : Option ClientState). IsAtClient now (λ p q. IsFed ret p bytes.items there here now q) o ret v.client) is.client_is step.0) k at in
        absurd (subst (λ (l : List Allocation). IsIn a l) gone.1 listed)
