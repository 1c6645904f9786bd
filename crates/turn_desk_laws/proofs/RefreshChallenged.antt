-- What a client that awaits the response to its REFRESH does with a challenge, by the contract of `handle_message`
-- alone.
use Rattle.std.proofs.Common.{◌≡◌, ℕ, ◌+◌, ◌<◌, ◌++◌, ◌^◌, arith, Bool, true, false, List, [], ◌∷◌, Option, Some, None, refl, sym, ap, ◌∙◌, subst, inl, inr}
use Rattle.std.specs.Prelude.{◌&&◌, ◌||◌, Result, Ok, Err, is_some, if◌then◌else◌, length}
use Rattle.std.specs.Bool.{MatchBool}
use Rattle.std.specs.Cmp.{eq_by_cmp_equiv, nat_cmp_total}
use Rattle.std.specs.FinMap as map
use Rattle.std.specs.Option.{option_and_then, option_map, option_or}
use Rattle.std.specs.Ordering.{is_eq, nat_cmp}
use Rattle.std.specs.declared.net.socket_addr.SocketAddr.{SocketAddr}
use Rattle.std.proofs.lemmas.Bool.{le-ltb}
use Rattle.turn_client_proto_messages.specs.StunTypesWire.Attributes.{kind_at}
use Rattle.turn_client_proto_messages.specs.StunTypesWire.Grammar.{number_at}
use Rattle.turn_client_proto_messages.specs.StunTypesWire.declared.algorithm.IntegrityAlgorithm.{IntegrityAlgorithm}
use Rattle.turn_client_proto_messages.specs.StunTypesWire.declared.class.MessageClass.{MessageClass}
use Rattle.turn_client_proto_messages.specs.StunTypesWire.declared.class.MessageClass.TheVariants.{Request, Indication, Success, Error}
use Rattle.turn_client_proto_messages.specs.StunTypesWire.Types.{class_of, is_response_class}
use Rattle.turn_client_proto_messages.specs.StunProtoClient.Challenges.{ChallengeFields, challenge_visible}
use Rattle.turn_client_proto_messages.specs.StunProtoClient.Client as auth
use Rattle.turn_client_proto_messages.specs.StunProtoClient.declared.error.LongTermClientAuthError.{LongTermClientAuthError}
use Rattle.turn_client_proto_messages.specs.StunProtoClient.declared.error.LongTermClientAuthError.TheVariants.{Unauthorized, IntegrityFailed, UnsupportedFeature, NoMemory}
use Rattle.turn_client_proto_messages.specs.StunProtoClient.ClientValidation.{IsAnswerable, IsUnanswerable, keeping}
use Rattle.turn_client_proto_messages.specs.StunProtoClient.declared.validation.LongTermClientValidation.{LongTermClientValidation}
use Rattle.turn_client_proto_messages.specs.StunProtoClient.declared.validation.LongTermClientValidation.TheVariants.{ResendRequest, Validated}
use Rattle.turn_client_proto_messages.specs.StunProtoTransaction.Agents.{Transaction}
use Rattle.turn_client_proto_messages.specs.StunProtoAgent.Handling.{after_message, answered as answered_by, is_awaited, is_response}
use Rattle.turn_client_proto_messages.specs.StunProtoAgent.Sending.{started, with_request}
use Rattle.turn_client_proto_messages.specs.StunProtoAgent.State as agents
use Rattle.turn_client_proto_messages.specs.Allocation.Listed.{is_any_awaited}
use Rattle.turn_client_proto_messages.specs.Allocation.PendingRequests.{all_reissued_under, awaits_reply, channel_renewal_requested, channel_requested, connection_requested, new_requested, pending_request, renewal_requested, requested_of}
use Rattle.turn_client_proto_messages.specs.Allocation.declared.allocation.Allocation.{Allocation}
use Rattle.turn_client_proto_messages.specs.Allocation.declared.pending.PendingRequest.{PendingRequest}
use Rattle.turn_client_proto_messages.specs.Allocation.declared.pending.PendingRequest.TheVariants.{Lifetime}
use Rattle.turn_client_proto_messages.specs.Allocation.declared.refresh.PendingRefresh.{PendingRefresh}
use Rattle.turn_client_proto_messages.specs.Api.declared.event.TurnEvent.{TurnEvent}
use Rattle.turn_client_proto_messages.specs.TurnRuns.Indications.{is_indication}
use Rattle.turn_client_proto_core.proofs.Awaiting.{processed_awaited}
use Rattle.turn_client_proto_handshake_laws.specs.Core.Asking.{requested, queued_request}
use Rattle.turn_client_proto_handshake_laws.specs.Core.Ending.{ended}
use Rattle.turn_client_proto_handshake_laws.specs.Core.Numbering.{IsNextNumber, awaits, is_taken}
use Rattle.turn_client_proto_handshake_laws.specs.Core.Outcomes.{IsHandled, IsIgnored}
use Rattle.turn_client_proto_handshake_laws.specs.Core.Attempting.{IsIndicationTaken}
use Rattle.turn_client_proto_handshake_laws.specs.Core.Receiving.{IsFollowed, IsProcessed, IsProcessedIn}
use Rattle.turn_client_proto_handshake_laws.specs.Core.Responding.{challenged, is_tired, judged}
use Rattle.turn_client_proto_handshake_laws.specs.Core.Standing.{IsJudgedStanding, IsRequestedAgain, asks_again}
use Rattle.turn_client_proto_messages.specs.Waiting.{Queued}
use Rattle.turn_client_proto_handshake_laws.specs.Core.declared.protocol.Phase.{Phase}
use Rattle.turn_client_proto_handshake_laws.specs.Core.declared.protocol.Protocol.{Protocol}
use Rattle.turn_client_proto_messages.specs.Judging.{IsJudged}
use Rattle.turn_client_proto_messages.specs.Api.Options.{allocation_lifetime}
use Rattle.turn_client_proto_messages.specs.Requests.{request_text}
use Rattle.turn_client_proto_handshake_laws.specs.Requested.{IsOnlyRequested, transaction_of}
use Rattle.turn_client_proto_handshake_laws.specs.Choosing.{Choice, IsAnsweredBy, IsChoice}
use Rattle.turn_client_proto_handshake_laws.proofs.Challenged.{challenges_respond, none_barred}
use Rattle.turn_client_proto_handshake_laws.proofs.Only.{Table, clash, put_or, put_there, stays_there, taken_out, where_false, where_true}
use Rattle.turn_client_proto_handshake_laws.specs.Sent.{Beginning}
use Rattle.turn_client_proto_progress_laws.specs.Keeping.{Term, held_for}
use Rattle.turn_client_proto_progress_laws.specs.Refreshed.{refresh_for, refresh_request, refresh_requested, signed_by}
use Rattle.turn_client_proto_messages.proofs.StunProtoTransaction.Leasts.{same_number}
use Rattle.turn_desk_laws.specs.RefreshStages.{IsRefreshChallenge, IsRefreshedAgain, IsRefreshingOn, request_made_as, request_made_by, most_challenges, rechosen, refresh_queued}
use Rattle.turn_desk_laws.proofs.RefreshHeld.{lifetime_found}

-- ---- tools

-- Numbers that differ compare as different.
apart : (m n : ℕ) → (m ≡ n → ⊥) → is_eq (nat_cmp m n) ≡ false
apart m n differ = elim (is_eq (nat_cmp m n)) as (λ (z : Bool). is_eq (nat_cmp m n) ≡ z → z ≡ false) [
  | true ↦ λ same. absurd (differ (same_number m n same))
  | false ↦ λ is. refl
] refl

asked_more : (l : List ℕ) (number : ℕ) → request_made_by l ++ request_made_as number ∷ [] ≡ request_made_by (l ++ number ∷ [])
asked_more [] number = refl
asked_more (n ∷ rest) number = ap (λ (l : List PendingRefresh). request_made_as n ∷ l) (asked_more rest number)

pub one_longer : (l : List ℕ) (number : ℕ) → length (l ++ number ∷ []) ≡ length l + 1
one_longer [] number = refl
one_longer (n ∷ rest) number = let e = one_longer rest number in omega (arith, e)

-- ---- what becomes of the client

module _ (b : Beginning) (c : Choice) (chosen_before : IsChoice b c) (address : SocketAddr) (t : Term) (earlier : List ℕ) (number made many last : ℕ) (queue : List Queued) (events : List TurnEvent) (p : Protocol)
    (w : IsRefreshingOn b c address t earlier number made many last queue events p) (few : length earlier < most_challenges) (reported : ChallengeFields) (bytes : List ℕ) (is : IsRefreshChallenge reported number bytes) (some : IntegrityAlgorithm)
    (can : IsAnsweredBy b.config reported some) (now : ℕ) (handled : Bool) (q : Protocol) where
  awaited : is_awaited p.agent bytes ≡ true
  awaited = ap (λ (n : ℕ). is_some (map.get p.agent.outstanding n)) is.number_is ∙ ap is_some w.requested.there

  responds : is_response bytes ≡ true
  responds = challenges_respond bytes reported is.visible

  no_indication : is_indication (class_of (kind_at bytes)) ≡ false
  no_indication = by (class_of (kind_at bytes)) responds
    where
      by : (k : MessageClass) → is_response_class k ≡ true → is_indication k ≡ false
      by Request wrong = absurd (Prim.cc wrong)
      by Indication wrong = absurd (Prim.cc wrong)
      by Success response = refl
      by Error response = refl

  -- ---- what its request asks for

  abbrev pending : Allocation
  pending = held_for b address t (request_made_by (earlier ++ number ∷ []))

  its_own : requested_of (number_at bytes) pending ≡ Some (Lifetime allocation_lifetime)
  unfolding requested_of
  its_own = ap (λ (o : Option ℕ). option_or (option_map Lifetime o)
      (option_or (channel_requested (number_at bytes) pending) (option_or (channel_renewal_requested (number_at bytes) pending)
      (option_or (new_requested (number_at bytes) pending) (option_or (renewal_requested (number_at bytes) pending) (connection_requested (number_at bytes) pending))))))
      (lifetime_found earlier number (number_at bytes) is.number_is)

  awaits_it : awaits_reply (number_at bytes) pending ≡ true
  awaits_it = ap is_some its_own

  request_made : pending_request (number_at bytes) p.allocations ≡ Some (Lifetime allocation_lifetime)
  request_made = ap (λ (l : List Allocation). pending_request (number_at bytes) l) w.allocations
      ∙ (ap (λ (x : Bool). option_and_then (requested_of (number_at bytes)) (if x then Some pending else None)) awaits_it ∙ its_own)

  -- ---- it is answered

  -- The challenge was answered.
  pub record HasAnswered : Type 0 where
    pub algorithm : IntegrityAlgorithm
    pub answered_by : IsAnsweredBy b.config reported algorithm
    pub next : ℕ
    pub is_next : IsNextNumber (judged (keeping p.auth reported algorithm) p) next
    pub is_handled : handled ≡ true
    pub after : q ≡ challenged bytes (asks_again (Lifetime allocation_lifetime) (number_at bytes) next now (judged (keeping p.auth reported algorithm) p))

  none_decoded : {A : Type 0} → challenge_visible bytes ≡ None → A
  none_decoded none = absurd (Prim.cc (sym is.visible ∙ none))

  same_decoded : (other : ChallengeFields) → challenge_visible bytes ≡ Some other → other ≡ reported
  same_decoded other e = Prim.cc (sym e ∙ is.visible)

  answerable_so : (choice : IntegrityAlgorithm) → IsAnswerable (signed_by b c) reported choice → IsAnsweredBy b.config reported choice
  answerable_so choice a = record { strongest = a.strongest; anonymous = a.anonymous; listed = a.listed }

  unanswerable_so : IsUnanswerable (signed_by b c) reported → ⊥
  unanswerable_so u = none_barred b.config reported some can u

  by_verdict : (verdict : Result LongTermClientValidation LongTermClientAuthError) (client : auth.Client) → IsJudged p.auth bytes verdict client → IsJudgedStanding verdict (judged client p) bytes now handled q → HasAnswered
  by_verdict (Ok (ResendRequest choice)) client j out =
      let resends = w.resends in
      let tired : is_tired p ≡ false = le-ltb 8 p.resends (omega (arith, resends, few)) in
      let on = where_false (IsHandled (ended (judged client p)) handled q)
      (MatchBool (is_awaited p.agent bytes) (IsRequestedAgain (pending_request (number_at bytes) p.allocations) (judged client p) bytes now handled q) (IsIgnored (judged client p) handled q)) (is_tired (judged client p)) tired out in
      let asks = where_true (IsRequestedAgain (pending_request (number_at bytes) p.allocations) (judged client p) bytes now handled q) (IsIgnored (judged client p) handled q) (is_awaited p.agent bytes) awaited on in
      let again = subst (λ (o : Option PendingRequest). IsRequestedAgain o (judged client p) bytes now handled q) request_made asks in
      let same = same_decoded j.reported j.visible in
      let stored : client ≡ keeping p.auth reported choice = j.stored ∙ ap (λ (x : ChallengeFields). keeping p.auth x choice) same in
      record {
        algorithm = choice;
        answered_by = answerable_so choice (subst (λ (x : auth.Client). IsAnswerable x reported choice) w.auth (subst (λ (x : ChallengeFields). IsAnswerable p.auth x choice) same j.answerable));
        next = again.number;
        is_next = subst (λ (x : auth.Client). IsNextNumber (judged x p) again.number) stored again.is_next;
        is_handled = again.outcome.0;
        after = again.outcome.1 ∙ ap (λ (x : auth.Client). challenged bytes (asks_again (Lifetime allocation_lifetime) (number_at bytes) again.number now (judged x p))) stored;
      }
  by_verdict (Ok (Validated algorithm)) client j out = none_decoded j.no_challenge
  by_verdict (Err Unauthorized) client j out = none_decoded j.no_challenge
  by_verdict (Err (IntegrityFailed algorithm)) client j out = none_decoded j.no_challenge
  by_verdict (Err UnsupportedFeature) client j out =
      absurd (unanswerable_so (subst (λ (x : auth.Client). IsUnanswerable x reported) w.auth (subst (λ (x : ChallengeFields). IsUnanswerable p.auth x) (same_decoded j.reported j.visible) j.unanswerable)))
  by_verdict (Err NoMemory) client j out = absurd out

  pub challenge_processed : IsProcessed p bytes now handled q → HasAnswered
  challenge_processed processed =
      let in_phase = subst (λ (f : Phase). IsProcessedIn f p bytes now handled q) w.phase (processed_awaited p bytes now handled q awaited processed) in
      let f = where_false (IsIndicationTaken p bytes handled q) (IsFollowed IsJudgedStanding p bytes now handled q) (is_indication (class_of (kind_at bytes))) no_indication in_phase in
      by_verdict f.verdict f.auth f.is_judged f.outcome

  -- ---- the next request

  module _ (h : HasAnswered) (numbered : (k : Choice) → IsChoice b k → (n : ℕ) → n < 2 ^ 96 → number_at (refresh_request b k n) ≡ n) where
    abbrev pub choice : Choice
    choice = rechosen c reported h.algorithm

    chosen : IsChoice b choice
    chosen = record { message = bytes; visible = is.visible; answered = h.answered_by; fits = chosen_before.fits; new = chosen_before.new }

    pub next_fits : h.next < 2 ^ 96
    next_fits = let e = h.is_next.is in omega (arith, e)

    -- The transaction ID is a new one.
    pub new_number : h.next ≡ number → ⊥
    unfolding is_taken
    new_number same =
        let free = h.is_next.free in
        let there : is_some (map.get p.agent.outstanding h.next) ≡ true = ap (λ (n : ℕ). is_some (map.get p.agent.outstanding n)) same ∙ ap is_some w.requested.there in
        let taken : (is_some (map.get p.agent.outstanding h.next) || (awaits h.next p.phase || is_any_awaited h.next p.allocations)) ≡ true =
        ap (λ (x : Bool). x || (awaits h.next p.phase || is_any_awaited h.next p.allocations)) there in
        absurd (Prim.cc (sym taken ∙ free))

    abbrev client : auth.Client
    client = keeping p.auth reported h.algorithm

    abbrev text : List ℕ
    text = request_text client refresh_for h.next

    client_is : client ≡ signed_by b choice
    client_is = ap (λ (x : auth.Client). keeping x reported h.algorithm) w.auth

    text_is : text ≡ refresh_request b choice h.next
    text_is = ap (λ (x : auth.Client). request_text x refresh_for h.next) client_is

    key_is : number_at text ≡ h.next
    key_is = ap number_at text_is ∙ numbered choice chosen h.next next_fits

    abbrev loop_end : Transaction
    loop_end = started p.agent text p.server now

    begun_is : loop_end ≡ transaction_of b (refresh_requested b choice h.next now) 1
    begun_is =
        ap (λ (l : List ℕ). started p.agent l p.server now) text_is
        ∙ (ap (λ (s : SocketAddr). started p.agent (refresh_request b choice h.next) s now) w.settings.server
        ∙ Prim.cc w.settings.waits)

    -- Both requests are outstanding, and then the second alone.
    abbrev both : Table
    both = map.insert p.agent.outstanding (number_at text) loop_end

    first_stays : map.get both number ≡ Some (transaction_of b (refresh_requested b c number made) many)
    first_stays =
        let differ : is_eq (nat_cmp number (number_at text)) ≡ false = apart number (number_at text) (λ same. new_number (sym (same ∙ key_is))) in
        map.get-insert nat_cmp_total p.agent.outstanding (number_at text) loop_end number
        ∙ (ap (λ (z : Bool). if z then Some loop_end else map.get p.agent.outstanding number) differ ∙ w.requested.there)

    second_only : IsOnlyRequested b (refresh_requested b choice h.next now) 1 (answered_by (with_request p.agent text p.server now) bytes p.server)
    second_only = record {
      there =
          ap (λ (n : ℕ). map.get (map.remove both n) h.next) is.number_is
          ∙ (stays_there both number h.next (apart h.next number new_number)
          ∙ (ap (map.get both) (sym key_is) ∙ (put_there p.agent.outstanding (number_at text) loop_end ∙ ap Some begun_is)));
      only = λ other y there. (
          let found = taken_out both (number_at bytes) other y there in
          elim (put_or p.agent.outstanding (number_at text) loop_end other y found.1) [
            | inl same ↦ same.0 ∙ key_is
            | inr old ↦ clash (is_eq (nat_cmp other (number_at bytes)))
                (ap (λ (n : ℕ). is_eq (nat_cmp n (number_at bytes))) (w.requested.only other y old.1 ∙ sym is.number_is) ∙ (eq_by_cmp_equiv nat_cmp_total).refl (number_at bytes)) found.0
          ]);
    }

    both_after : after_message (with_request p.agent text p.server now) bytes p.server ≡ answered_by (with_request p.agent text p.server now) bytes p.server
    both_after =
        let there : is_awaited (with_request p.agent text p.server now) bytes ≡ true = ap (λ (n : ℕ). is_some (map.get both n)) is.number_is ∙ ap is_some first_stays in
        ap (λ (x : Bool). if x then answered_by (with_request p.agent text p.server now) bytes p.server else with_request p.agent text p.server now)
        (ap (λ (x : Bool). x && is_awaited (with_request p.agent text p.server now) bytes) responds ∙ there)

    abbrev more : Allocation
    more = held_for b address t (request_made_by ((earlier ++ number ∷ []) ++ h.next ∷ []))

    allocations_after : all_reissued_under (Lifetime allocation_lifetime) (number_at bytes) h.next p.allocations ≡ more ∷ []
    allocations_after =
        ap (λ (l : List Allocation). all_reissued_under (Lifetime allocation_lifetime) (number_at bytes) h.next l) w.allocations
        ∙ (ap (λ (x : Bool). if x then held_for b address t (request_made_by (earlier ++ number ∷ []) ++ request_made_as h.next ∷ []) ∷ [] else pending ∷ []) awaits_it
        ∙ ap (λ (l : List PendingRefresh). held_for b address t l ∷ []) (asked_more (earlier ++ number ∷ []) h.next))

    -- The client's state afterwards.
    goes_after : IsRefreshingOn b choice address t (earlier ++ number ∷ []) h.next now 1 last (queue ++ refresh_queued b choice h.next ∷ []) events (challenged bytes (asks_again (Lifetime allocation_lifetime) (number_at bytes) h.next now (judged client p)))
    unfolding challenged asks_again requested
    goes_after = record {
      settings = record {
        server = w.settings.server;
        remote = ap (λ (y : agents.Agent). y.remote) both_after ∙ w.settings.remote;
        transport = ap (λ (y : agents.Agent). y.transport) both_after ∙ w.settings.transport;
        here = ap (λ (y : agents.Agent). y.here) both_after ∙ w.settings.here;
        waits = ap (λ (y : agents.Agent). y.waits) both_after ∙ w.settings.waits;
        allocates = w.settings.allocates;
        families = w.settings.families;
        options = w.settings.options;
        pace = w.settings.pace;
        indications = w.settings.indications;
        usual = w.settings.usual;
      };
      requested = subst (λ (y : agents.Agent). IsOnlyRequested b (refresh_requested b choice h.next now) 1 y) (sym both_after) second_only;
      phase = w.phase;
      auth = client_is;
      allocations = allocations_after;
      queue_is =
          ap (λ (l : List Queued). l ++ queued_request p.agent.here text ∷ []) w.queue_is
          ∙ (ap (λ (x : SocketAddr). queue ++ queued_request x text ∷ []) w.settings.here
          ∙ ap (λ (l : List ℕ). queue ++ queued_request b.here l ∷ []) text_is);
      last_send = w.last_send;
      events_are = w.events_are;
      closing = w.closing;
      resends = ap (λ (n : ℕ). n + 1) w.resends ∙ sym (one_longer earlier number);
    }

    pub goes : IsRefreshedAgain b c reported address t earlier number now last queue events q
    goes = record {
      algorithm = h.algorithm;
      answered = h.answered_by;
      number = h.next;
      fits = next_fits;
      other = new_number;
      refreshing = subst (λ (x : Protocol). IsRefreshingOn b choice address t (earlier ++ number ∷ []) h.next now 1 last (queue ++ refresh_queued b choice h.next ∷ []) events x) (sym h.after) goes_after;
    }
