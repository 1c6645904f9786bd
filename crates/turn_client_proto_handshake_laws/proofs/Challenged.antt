-- What a client that awaits the response to its first request does with a challenge, by the contract of
-- `handle_message` alone.
use Rattle.std.proofs.Common.{◌≡◌, ℕ, ◌+◌, ◌++◌, map as map_list, arith, Bool, true, false, List, [], ◌∷◌, Option, Some, None, refl, sym, ap, ◌∙◌, subst, ◌⊎◌, inl, inr}
use Rattle.std.specs.Prelude.{nat_lt, ◌==◌, ◌&&◌, ◌||◌, not, Result, Ok, Err, is_some, if◌then◌else◌}
use Rattle.std.specs.Bool.{MatchBool}
use Rattle.std.specs.Cmp.{eq_by_cmp_equiv, nat_cmp_total}
use Rattle.std.specs.FinMap as map
use Rattle.std.specs.Ordering.{is_eq, nat_cmp}
use Rattle.std.specs.declared.net.socket_addr.SocketAddr.{SocketAddr}
use Rattle.std.proofs.lemmas.Bool.{eqb-true}
use Rattle.turn_client_proto_api.specs.StunTypesWire.Attributes.{kind_at}
use Rattle.turn_client_proto_api.specs.StunTypesWire.Grammar.{number_at}
use Rattle.turn_client_proto_api.specs.StunTypesWire.declared.algorithm.IntegrityAlgorithm.{IntegrityAlgorithm}
use Rattle.turn_client_proto_api.specs.StunTypesWire.declared.algorithm.IntegrityAlgorithm.TheVariants.{Sha1, Sha256, Sha512}
use Rattle.turn_client_proto_api.specs.StunTypesWire.declared.class.MessageClass.{MessageClass}
use Rattle.turn_client_proto_api.specs.StunTypesWire.declared.class.MessageClass.TheVariants.{Request, Indication, Success, Error}
use Rattle.turn_client_proto_api.specs.StunTypesWire.Registry.{stale_nonce_code, unauthorized_code}
use Rattle.turn_client_proto_api.specs.StunTypesWire.Strength.{is_stronger}
use Rattle.turn_client_proto_api.specs.StunTypesWire.Types.{class_of, is_response_class}
use Rattle.stun_types_base.specs.declared.family.AddressFamily.{AddressFamily}
use Rattle.stun_types_base.specs.declared.transport.TransportType.{TransportType}
use Rattle.turn_client_proto_messages.specs.StunProtoClient.Challenges.{ChallengeFields, challenge_visible, is_anonymous_enough, is_challenge_code, is_error, is_listed_enough, list_for_choice, reported_of}
use Rattle.turn_client_proto_messages.specs.StunProtoClient.Choice.{is_common}
use Rattle.turn_client_proto_api.specs.StunProtoAuth.Claims.{claimed, code_visible}
use Rattle.turn_client_proto_messages.specs.StunProtoClient.Client as auth
use Rattle.turn_client_proto_messages.specs.StunProtoClient.declared.error.LongTermClientAuthError.{LongTermClientAuthError}
use Rattle.turn_client_proto_messages.specs.StunProtoClient.declared.error.LongTermClientAuthError.TheVariants.{Unauthorized, IntegrityFailed, UnsupportedFeature, NoMemory}
use Rattle.turn_client_proto_messages.specs.StunProtoClient.ClientValidation.{IsAnswerable, IsUnanswerable, keeping}
use Rattle.turn_client_proto_messages.specs.StunProtoClient.declared.validation.LongTermClientValidation.{LongTermClientValidation}
use Rattle.turn_client_proto_messages.specs.StunProtoClient.declared.validation.LongTermClientValidation.TheVariants.{ResendRequest, Validated}
use Rattle.turn_client_proto_api.specs.StunProtoTransaction.Agents.{Transaction}
use Rattle.turn_client_proto_api.specs.StunProtoAgent.Handling.{after_message, answered as answered_by, is_awaited, is_response}
use Rattle.turn_client_proto_api.specs.StunProtoAgent.Sending.{started, with_request}
use Rattle.turn_client_proto_api.specs.StunProtoAgent.State as agents
use Rattle.turn_client_proto_api.proofs.StunProtoTransaction.Leasts.{same_number}
use Rattle.turn_client_proto_api.specs.Config.{Config}
use Rattle.turn_client_proto_api.specs.declared.event.TurnEvent.{TurnEvent}
use Rattle.turn_client_proto_api.specs.declared.event.TurnEvent.TheVariants.{AllocationCreateFailed}
use Rattle.turn_client_proto_messages.specs.Allocation.Listed.{is_any_awaited}
use Rattle.turn_client_proto_core.proofs.Awaiting.{processed_awaited}
use Rattle.turn_client_proto_core.specs.Asking.{requested, queued_request}
use Rattle.turn_client_proto_api.specs.declared.options.AllocateOptions.{AllocateOptions}
use Rattle.turn_client_proto_core.specs.Authenticating.{IsAllocatingAgain, IsFirstJudged, allocates_again, ends_unsigned, is_final_error, numbers_sent}
use Rattle.turn_client_proto_core.specs.Ending.{ended}
use Rattle.turn_client_proto_core.specs.Numbering.{IsNextNumber, awaits, is_taken}
use Rattle.turn_client_proto_core.specs.Outcomes.{IsHandled, IsIgnored}
use Rattle.turn_client_proto_core.specs.Receiving.{IsFollowed, IsProcessed, IsProcessedIn}
use Rattle.turn_client_proto_core.specs.Responding.{answered, challenged, is_tired, judged}
use Rattle.turn_client_proto_messages.specs.Waiting.{Queued}
use Rattle.turn_client_proto_core.specs.declared.protocol.Phase.{Phase}
use Rattle.turn_client_proto_core.specs.declared.protocol.Phase.TheVariants.{InitialSent, Authenticating}
use Rattle.turn_client_proto_core.specs.declared.protocol.Protocol.{Protocol}
use Rattle.turn_client_proto_messages.specs.Judging.{IsJudged}
use Rattle.turn_client_proto_messages.specs.Requests.{request_text}
use Rattle.turn_client_proto_messages.specs.declared.request.TurnRequest.TheVariants.{Allocate}
use Rattle.turn_client_proto_handshake_laws.specs.Requested.{IsOnlyRequested, transaction_of}
use Rattle.turn_client_proto_handshake_laws.specs.Choosing.{Choice, IsAnsweredBy, IsBarring, IsChallenge, IsChoice, signed_requested, signed_request, signer_by}
use Rattle.turn_client_proto_handshake_laws.specs.Stages.{HasChosen, HasEnded, IsAsking, failures, first_requested}
use Rattle.turn_client_proto_handshake_laws.proofs.Only.{Table, clash, none_left, put_or, put_there, stays_there, taken_out, where_false, where_true}
use Rattle.turn_client_proto_handshake_laws.specs.Sent.{Beginning, first_number}

-- ---- which choice

-- A challenge is a response.
pub challenges_respond : (bytes : List ℕ) (reported : ChallengeFields) → challenge_visible bytes ≡ Some reported → is_response bytes ≡ true
challenges_respond bytes reported is = by (class_of (kind_at bytes)) is
  where
    by : (c : MessageClass) → (if is_error c && is_challenge_code (code_visible bytes) then reported_of (claimed bytes) else None) ≡ Some reported → is_response_class c ≡ true
    by Request none = absurd (Prim.cc none)
    by Indication none = absurd (Prim.cc none)
    by Success none = refl
    by Error some = refl

-- A challenge ends also a hardened client that can't answer it.
final_codes : (code : Option ℕ) → is_challenge_code code ≡ true → is_final_error Error code ≡ true
final_codes None is = absurd (Prim.cc is)
final_codes (Some code) is = by_code (code == unauthorized_code) (code == stale_nonce_code) refl refl is
  where
    by_code : (one two : Bool) → (code == unauthorized_code) ≡ one → (code == stale_nonce_code) ≡ two → (one || two) ≡ true → is_final_error Error (Some code) ≡ true
    by_code true two first second is = ap (λ (n : ℕ). is_final_error Error (Some n)) (eqb-true code unauthorized_code first)
    by_code false true first second is = ap (λ (n : ℕ). is_final_error Error (Some n)) (eqb-true code stale_nonce_code second)
    by_code false false first second is = absurd (Prim.cc is)

challenges_end : (hardened : Bool) (bytes : List ℕ) (reported : ChallengeFields) → challenge_visible bytes ≡ Some reported
    → (not hardened || is_final_error (class_of (kind_at bytes)) (code_visible bytes)) ≡ true
challenges_end false bytes reported is = refl
challenges_end true bytes reported is = by (class_of (kind_at bytes)) (is_challenge_code (code_visible bytes)) refl is
  where
    by : (c : MessageClass) (known : Bool) → is_challenge_code (code_visible bytes) ≡ known → (if is_error c && known then reported_of (claimed bytes) else None) ≡ Some reported → is_final_error c (code_visible bytes) ≡ true
    by Request known same none = absurd (Prim.cc none)
    by Indication known same none = absurd (Prim.cc none)
    by Success known same none = absurd (Prim.cc none)
    by Error true same some = final_codes (code_visible bytes) same
    by Error false same none = absurd (Prim.cc none)

-- Two algorithms of which neither is stronger are equal.
as_strong : (one other : IntegrityAlgorithm) → is_stronger one other ≡ false → is_stronger other one ≡ false → one ≡ other
as_strong Sha1 Sha1 no_less no_more = refl
as_strong Sha256 Sha256 no_less no_more = refl
as_strong Sha512 Sha512 no_less no_more = refl
as_strong Sha1 Sha256 no_less no_more = absurd (Prim.cc no_more)
as_strong Sha1 Sha512 no_less no_more = absurd (Prim.cc no_more)
as_strong Sha256 Sha512 no_less no_more = absurd (Prim.cc no_more)
as_strong Sha256 Sha1 no_less no_more = absurd (Prim.cc no_less)
as_strong Sha512 Sha1 no_less no_more = absurd (Prim.cc no_less)
as_strong Sha512 Sha256 no_less no_more = absurd (Prim.cc no_less)

-- A challenge is answered by one algorithm alone.
pub one_choice : (config : Config) (reported : ChallengeFields) (one other : IntegrityAlgorithm) → IsAnsweredBy config reported one → IsAnsweredBy config reported other → one ≡ other
one_choice config reported one other first second = as_strong one other (second.strongest.greatest one first.strongest.common) (first.strongest.greatest other second.strongest.common)

-- A challenge that is answered does not end the client.
pub none_barred : {A : Type 0} (config : Config) (reported : ChallengeFields) (choice : IntegrityAlgorithm) → IsAnsweredBy config reported choice → IsBarring config reported → A
none_barred config reported choice is (inl none) = clash (is_common config.algorithms config.hardened (list_for_choice config.hardened reported) choice) is.strongest.common (none choice)
none_barred config reported choice is (inr (inl named)) = clash (is_anonymous_enough config.anonymous_username reported.nonce) is.anonymous named
none_barred config reported choice is (inr (inr bare)) = clash (is_listed_enough config.hardened reported) is.listed bare

-- Numbers that differ compare as different.
apart : (m n : ℕ) → (m ≡ n → ⊥) → is_eq (nat_cmp m n) ≡ false
apart m n differ = elim (is_eq (nat_cmp m n)) as (λ (z : Bool). is_eq (nat_cmp m n) ≡ z → z ≡ false) [
  | true ↦ λ same. absurd (differ (same_number m n same))
  | false ↦ λ is. refl
] refl

-- ---- what becomes of the client

module _ (b : Beginning) (many last : ℕ) (p : Protocol) (w : IsAsking b many last p) (reported : ChallengeFields) (bytes : List ℕ) (is : IsChallenge b reported bytes) (now : ℕ) (handled : Bool) (q : Protocol) where
  awaited : is_awaited p.agent bytes ≡ true
  awaited = ap (λ (n : ℕ). is_some (map.get p.agent.outstanding n)) is.number ∙ ap is_some w.requested.there

  responds : is_response bytes ≡ true
  responds = challenges_respond bytes reported is.visible

  -- The challenge was answered.
  pub record HasAnswered : Type 0 where
    pub algorithm : IntegrityAlgorithm
    pub answered_by : IsAnsweredBy b.config reported algorithm
    pub number : ℕ
    pub is_next : IsNextNumber (judged (keeping p.auth reported algorithm) p) number
    pub is_handled : handled ≡ true
    pub after : q ≡ challenged bytes (allocates_again number now (judged (keeping p.auth reported algorithm) p))

  -- The challenge ended the client.
  pub record IsOver : Type 0 where
    pub barring : IsBarring b.config reported
    pub is_handled : handled ≡ true
    pub after : q ≡ ended (answered bytes p)

  none_decoded : {A : Type 0} → challenge_visible bytes ≡ None → A
  none_decoded none = absurd (Prim.cc (sym is.visible ∙ none))

  same_decoded : (other : ChallengeFields) → challenge_visible bytes ≡ Some other → other ≡ reported
  same_decoded other e = Prim.cc (sym e ∙ is.visible)

  by_verdict : (verdict : Result LongTermClientValidation LongTermClientAuthError) (client : auth.Client) → IsJudged p.auth bytes verdict client → IsFirstJudged verdict (judged client p) bytes now handled q → HasAnswered ⊎ IsOver
  by_verdict (Ok (ResendRequest choice)) client j out =
      let a = where_true (MatchBool (is_tired (judged client p)) (IsHandled (ended (judged client p)) handled q) (IsAllocatingAgain (judged client p) bytes now handled q)) (IsIgnored (judged client p) handled q) (is_awaited p.agent bytes) awaited out in
      let tired : is_tired p ≡ false = ap (λ (n : ℕ). nat_lt 8 n) w.resends in
      let again = where_false (IsHandled (ended (judged client p)) handled q) (IsAllocatingAgain (judged client p) bytes now handled q) (is_tired (judged client p)) tired a in
      let same = same_decoded j.reported j.visible in
      let stored : client ≡ keeping p.auth reported choice = j.stored ∙ ap (λ (t : ChallengeFields). keeping p.auth t choice) same in
      inl (record {
        algorithm = choice;
        answered_by = subst (λ (x : auth.Client). IsAnswerable x reported choice) w.auth (subst (λ (t : ChallengeFields). IsAnswerable p.auth t choice) same j.answerable);
        number = again.number;
        is_next = subst (λ (x : auth.Client). IsNextNumber (judged x p) again.number) stored again.is_next;
        is_handled = again.outcome.0;
        after = again.outcome.1 ∙ ap (λ (x : auth.Client). challenged bytes (allocates_again again.number now (judged x p))) stored;
      })
  by_verdict (Ok (Validated algorithm)) client j out = none_decoded j.no_challenge
  by_verdict (Err Unauthorized) client j out = none_decoded j.no_challenge
  by_verdict (Err (IntegrityFailed algorithm)) client j out = none_decoded j.no_challenge
  by_verdict (Err UnsupportedFeature) client j out =
      let a = where_true (IsHandled (ended (answered bytes (judged client p))) handled q) (IsIgnored (judged client p) handled q) (is_awaited p.agent bytes && ends_unsigned (judged client p) bytes)
      (ap (λ (x : Bool). x && ends_unsigned (judged client p) bytes) awaited ∙ challenges_end client.hardened bytes reported is.visible) out in
      inr (record {
        barring = subst (λ (x : auth.Client). IsUnanswerable x reported) w.auth (subst (λ (t : ChallengeFields). IsUnanswerable p.auth t) (same_decoded j.reported j.visible) j.unanswerable);
        is_handled = a.0;
        after = a.1 ∙ ap (λ (x : auth.Client). ended (answered bytes (judged x p))) j.unchanged;
      })
  by_verdict (Err NoMemory) client j out = absurd out

  pub challenge_processed : IsProcessed p bytes now handled q → HasAnswered ⊎ IsOver
  challenge_processed processed =
      let in_phase : IsProcessedIn (InitialSent (first_number b ∷ [])) p bytes now handled q = subst (λ (f : Phase). IsProcessedIn f p bytes now handled q) w.phase (processed_awaited p bytes now handled q awaited processed) in
      let f = where_true (IsFollowed IsFirstJudged p bytes now handled q) (IsIgnored p handled q) (is_response bytes) responds in_phase in
      by_verdict f.verdict f.auth f.is_judged f.outcome

  -- ---- an end

  agent_after : after_message p.agent bytes p.server ≡ answered_by p.agent bytes p.server
  agent_after = ap (λ (x : Bool). if x then answered_by p.agent bytes p.server else p.agent) (ap (λ (x : Bool). x && is_awaited p.agent bytes) responds ∙ awaited)

  over_after : HasEnded b (failures b) (ended (record p { agent = answered_by p.agent bytes p.server }))
  unfolding ended
  over_after = record {
    settings = record {
      server = w.settings.server;
      remote = w.settings.remote;
      transport = w.settings.transport;
      here = w.settings.here;
      waits = w.settings.waits;
      allocates = w.settings.allocates;
      families = w.settings.families;
      options = w.settings.options;
      pace = w.settings.pace;
      indications = w.settings.indications;
      usual = w.settings.usual;
    };
    none_requested = λ number. ap (λ (n : ℕ). map.get (map.remove p.agent.outstanding n) number) is.number ∙ none_left b (first_requested b) many p w.settings w.requested number;
    phase = refl;
    allocations = w.allocations;
    queue = w.queue;
    events_are = ap (λ (l : List TurnEvent). l ++ map_list AllocationCreateFailed p.families) w.events
        ∙ ap (λ (l : List AddressFamily). map_list AllocationCreateFailed l) w.settings.families;
  }

  pub is_over : IsOver → HasEnded b (failures b) q
  unfolding answered
  is_over over = subst (λ (x : Protocol). HasEnded b (failures b) x)
      (sym (over.after ∙ ap (λ (y : agents.Agent). ended (record p { agent = y })) agent_after)) over_after

  -- ---- a choice

  module _ (h : HasAnswered) (numbered : IsChoice b (record { reported = reported; algorithm = h.algorithm; number = h.number; made = now }) → number_at (signed_request b (record { reported = reported; algorithm = h.algorithm; number = h.number; made = now })) ≡ h.number) where
    abbrev pub choice : Choice
    choice = record { reported = reported; algorithm = h.algorithm; number = h.number; made = now }

    -- The transaction ID is a new one.
    new_number : h.number ≡ first_number b → ⊥
    unfolding is_taken
    new_number same =
        let free = h.is_next.free in
        let there : is_some (map.get p.agent.outstanding h.number) ≡ true = ap (λ (n : ℕ). is_some (map.get p.agent.outstanding n)) same ∙ ap is_some w.requested.there in
        let taken : (is_some (map.get p.agent.outstanding h.number) || (awaits h.number p.phase || is_any_awaited h.number p.allocations)) ≡ true =
        ap (λ (x : Bool). x || (awaits h.number p.phase || is_any_awaited h.number p.allocations)) there in
        absurd (Prim.cc (sym taken ∙ free))

    chosen : IsChoice b choice
    chosen =
        let e = h.is_next.is in
        record { message = bytes; visible = is.visible; answered = h.answered_by; fits = omega (arith, e); new = new_number }

    abbrev client : auth.Client
    client = keeping p.auth reported h.algorithm

    abbrev text : List ℕ
    text = request_text client (Allocate p.allocates p.families p.options) h.number

    text_is : text ≡ signed_request b choice
    text_is =
        ap (λ (x : auth.Client). request_text (keeping x reported h.algorithm) (Allocate p.allocates p.families p.options) h.number) w.auth
        ∙ (ap (λ (t : TransportType). request_text (signer_by b choice) (Allocate t p.families p.options) h.number) w.settings.allocates
        ∙ (ap (λ (l : List AddressFamily). request_text (signer_by b choice) (Allocate b.config.transport l p.options) h.number) w.settings.families
        ∙ ap (λ (o : AllocateOptions). request_text (signer_by b choice) (Allocate b.config.transport b.config.families o) h.number) w.settings.options))

    key_is : number_at text ≡ h.number
    key_is = ap number_at text_is ∙ numbered chosen

    abbrev made : Transaction
    made = started p.agent text p.server now

    made_is : made ≡ transaction_of b (signed_requested b choice) 1
    made_is =
        ap (λ (l : List ℕ). started p.agent l p.server now) text_is
        ∙ (ap (λ (s : SocketAddr). started p.agent (signed_request b choice) s now) w.settings.server
        ∙ Prim.cc w.settings.waits)

    -- Both requests are outstanding, and then the second alone.
    abbrev both : Table
    both = map.insert p.agent.outstanding (number_at text) made

    first_stays : map.get both (first_number b) ≡ Some (transaction_of b (first_requested b) many)
    first_stays =
        let differ : is_eq (nat_cmp (first_number b) (number_at text)) ≡ false = apart (first_number b) (number_at text) (λ same. new_number (sym (same ∙ key_is))) in
        map.get-insert nat_cmp_total p.agent.outstanding (number_at text) made (first_number b)
        ∙ (ap (λ (z : Bool). if z then Some made else map.get p.agent.outstanding (first_number b)) differ ∙ w.requested.there)

    second_only : IsOnlyRequested b (signed_requested b choice) 1 (answered_by (with_request p.agent text p.server now) bytes p.server)
    second_only = record {
      there =
          ap (λ (n : ℕ). map.get (map.remove both n) h.number) is.number
          ∙ (stays_there both (first_number b) h.number (apart h.number (first_number b) new_number)
          ∙ (ap (map.get both) (sym key_is) ∙ (put_there p.agent.outstanding (number_at text) made ∙ ap Some made_is)));
      only = λ other y there. (
          let found = taken_out both (number_at bytes) other y there in
          elim (put_or p.agent.outstanding (number_at text) made other y found.1) [
            | inl same ↦ same.0 ∙ key_is
            | inr old ↦ clash (is_eq (nat_cmp other (number_at bytes)))
                (ap (λ (n : ℕ). is_eq (nat_cmp n (number_at bytes))) (w.requested.only other y old.1 ∙ sym is.number) ∙ (eq_by_cmp_equiv nat_cmp_total).refl (number_at bytes)) found.0
          ]);
    }

    both_after : after_message (with_request p.agent text p.server now) bytes p.server ≡ answered_by (with_request p.agent text p.server now) bytes p.server
    both_after =
        let there : is_awaited (with_request p.agent text p.server now) bytes ≡ true = ap (λ (n : ℕ). is_some (map.get both n)) is.number ∙ ap is_some first_stays in
        ap (λ (x : Bool). if x then answered_by (with_request p.agent text p.server now) bytes p.server else with_request p.agent text p.server now)
        (ap (λ (x : Bool). x && is_awaited (with_request p.agent text p.server now) bytes) responds ∙ there)

    -- The client's state afterwards.
    chooses_after : HasChosen b choice 1 last (challenged bytes (allocates_again h.number now (judged client p)))
    unfolding challenged allocates_again requested
    chooses_after = record {
      settings = record {
        server = w.settings.server;
        remote = ap (λ (y : agents.Agent). y.remote) both_after ∙ w.settings.remote;
        transport = ap (λ (y : agents.Agent). y.transport) both_after ∙ w.settings.transport;
        here = ap (λ (y : agents.Agent). y.here) both_after ∙ w.settings.here;
        waits = ap (λ (y : agents.Agent). y.waits) both_after ∙ w.settings.waits;
        allocates = w.settings.allocates;
        families = w.settings.families;
        options = w.settings.options;
        pace = w.settings.pace;
        indications = w.settings.indications;
        usual = w.settings.usual;
      };
      choice = chosen;
      requested = subst (λ (y : agents.Agent). IsOnlyRequested b (signed_requested b choice) 1 y) (sym both_after) second_only;
      phase = ap (λ (f : Phase). Authenticating (numbers_sent f ++ h.number ∷ [])) w.phase;
      auth = ap (λ (x : auth.Client). keeping x reported h.algorithm) w.auth;
      allocations = w.allocations;
      queue_is =
          ap (λ (l : List Queued). l ++ queued_request p.agent.here text ∷ []) w.queue
          ∙ (ap (λ (a : SocketAddr). queued_request a text ∷ []) w.settings.here
          ∙ ap (λ (l : List ℕ). queued_request b.here l ∷ []) text_is);
      last_send = w.last_send;
      events = w.events;
      closing = w.closing;
      resends = ap (λ (n : ℕ). n + 1) w.resends;
    }

    pub chooses : HasChosen b choice 1 last q
    chooses = subst (λ (x : Protocol). HasChosen b choice 1 last x) (sym h.after) chooses_after
