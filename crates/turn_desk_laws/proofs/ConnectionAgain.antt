-- A challenge to a client's request comes to a client that holds an allocation over TCP, by the contract of
-- `handle_message` alone: the request is queued again, and the challenged one is outstanding no more.
use Rattle.std.proofs.Common.{◌≡◌, ◌≢◌, ℕ, ◌<◌, ◌≤◌, ◌+◌, ◌^◌, ◌++◌, Bool, true, false, List, [], ◌∷◌, Option, Some, None, cond, refl, sym, ap, ◌∙◌, subst, inl, inr}
use Rattle.std.specs.Option.{option_or}
use Rattle.std.specs.Prelude.{◌&&◌, ◌||◌, Result, Ok, Err, is_some, if◌then◌else◌}
use Rattle.std.specs.FinMap as map
use Rattle.std.specs.Cmp.{eq_by_cmp_equiv, nat_cmp_total}
use Rattle.std.specs.Ordering.{is_eq, nat_cmp}
use Rattle.std.proofs.lemmas.Bool.{le-ltb}
use Rattle.std.specs.declared.net.socket_addr.SocketAddr.{SocketAddr}
use Rattle.turn_client_proto_messages.specs.StunTypesIntegrity.Credentials.{NameAndPassword}
use Rattle.turn_client_proto_messages.specs.StunTypesWire.Attributes.{kind_at}
use Rattle.turn_client_proto_messages.specs.StunTypesWire.Grammar.{number_at}
use Rattle.turn_client_proto_messages.specs.StunTypesWire.Types.{class_of}
use Rattle.turn_client_proto_messages.specs.StunTypesWire.declared.algorithm.IntegrityAlgorithm.{IntegrityAlgorithm}
use Rattle.turn_client_proto_messages.specs.StunTypesWire.declared.class.MessageClass.{MessageClass}
use Rattle.turn_client_proto_messages.specs.StunTypesWire.declared.class.MessageClass.TheVariants.{Success, Request, Indication, Error}
use Rattle.turn_client_proto_messages.specs.StunProtoAuth.Claims.{claimed, code_visible}
use Rattle.turn_client_proto_messages.specs.StunProtoClient.Challenges.{ChallengeFields, challenge_visible, is_anonymous_enough, is_challenge_code, is_error, is_listed_enough, list_for_choice, reported_of}
use Rattle.turn_client_proto_messages.specs.StunProtoClient.Choice.{is_common}
use Rattle.turn_client_proto_messages.specs.StunProtoClient.Client as auth
use Rattle.turn_client_proto_messages.specs.StunProtoClient.ClientValidation.{IsAnswerable, IsTaken, IsUnanswerable, keeping}
use Rattle.turn_client_proto_messages.specs.StunProtoClient.declared.error.LongTermClientAuthError.{LongTermClientAuthError}
use Rattle.turn_client_proto_messages.specs.StunProtoClient.declared.error.LongTermClientAuthError.TheVariants.{Unauthorized, IntegrityFailed, UnsupportedFeature, NoMemory}
use Rattle.turn_client_proto_messages.specs.StunProtoClient.declared.validation.LongTermClientValidation.{LongTermClientValidation}
use Rattle.turn_client_proto_messages.specs.StunProtoClient.declared.validation.LongTermClientValidation.TheVariants.{ResendRequest, Validated}
use Rattle.turn_client_proto_messages.specs.StunProtoTransaction.Agents.{Transaction}
use Rattle.turn_client_proto_messages.proofs.StunProtoTransaction.Leasts.{same_number}
use Rattle.turn_client_proto_messages.specs.StunProtoAgent.Handling.{after_message, answered as answered_by, is_awaited, is_response}
use Rattle.turn_client_proto_messages.specs.StunProtoAgent.Sending.{with_request}
use Rattle.turn_client_proto_messages.specs.StunProtoAgent.State as agents
use Rattle.turn_client_proto_messages.specs.Allocation.Listed.{is_any_awaited}
use Rattle.turn_client_proto_messages.specs.Allocation.declared.allocation.Allocation.{Allocation}
use Rattle.turn_client_proto_messages.specs.Allocation.PendingRequests.{all_reissued_under, pending_request}
use Rattle.turn_client_proto_messages.specs.Allocation.declared.pending.PendingRequest.{PendingRequest as Wanted}
use Rattle.turn_client_proto_messages.specs.Api.declared.event.TurnEvent.{TurnEvent}
use Rattle.turn_client_proto_messages.specs.Judging.{IsJudged}
use Rattle.turn_client_proto_messages.specs.ReportedRequests.{IsLawfulRequest}
use Rattle.turn_client_proto_messages.specs.Requests.{request_text}
use Rattle.turn_client_proto_messages.specs.TurnRuns.Indications.{is_indication}
use Rattle.turn_client_proto_messages.specs.Waiting.{Queued}
use Rattle.turn_client_proto_messages.specs.declared.request.TurnRequest.{TurnRequest}
use Rattle.turn_client_proto_handshake_laws.specs.Core.Asking.{queued_request, requested}
use Rattle.turn_client_proto_handshake_laws.specs.Core.Ending.{ended}
use Rattle.turn_client_proto_handshake_laws.specs.Core.Numbering.{after_draw, after_number, awaits, is_taken}
use Rattle.turn_client_proto_handshake_laws.specs.Core.Outcomes.{IsHandled, IsIgnored}
use Rattle.turn_client_proto_core.proofs.Awaiting.{processed_awaited}
use Rattle.turn_client_proto_handshake_laws.specs.Core.Attempting.{IsIndicationTaken}
use Rattle.turn_client_proto_handshake_laws.specs.Core.Receiving.{IsFollowed, IsProcessed, IsProcessedIn}
use Rattle.turn_client_proto_handshake_laws.specs.Core.Responding.{challenged, is_tired, judged, most_resends}
use Rattle.turn_client_proto_handshake_laws.specs.Core.Standing.{IsJudgedStanding, IsRequestedAgain, IsSentAgain, asks_again, request_again}
use Rattle.turn_client_proto_handshake_laws.specs.Core.declared.protocol.Phase.{Phase}
use Rattle.turn_client_proto_handshake_laws.specs.Core.declared.protocol.Phase.TheVariants.{Authenticated}
use Rattle.turn_client_proto_handshake_laws.specs.Core.declared.protocol.Protocol.{Protocol}
use Rattle.turn_client_proto_handshake_laws.specs.Requested.{Requested, transaction_of}
use Rattle.turn_client_proto_progress_laws.proofs.TcpBinding.Asks.{has_requested, number_fits}
use Rattle.turn_client_proto_progress_laws.proofs.TcpBinding.Tools.{AreNumbered, StayRead, StayShort, challenges_respond, clash, taken_out, where_false, where_true}
use Rattle.turn_client_proto_progress_laws.specs.Holders.{AreOutstanding, CanSign, Holder, IsListed, IsOneOf, queued_from, signed_by}
use Rattle.turn_client_proto_progress_laws.specs.Replies.{CanAnswer, IsChallengeOf, challenged_by}
use Rattle.turn_client_proto_progress_laws.specs.TcpBinding.{IsTcpBinding}

-- A challenge isn't an indication.
pub no_indication : (bytes : List ℕ) (reported : ChallengeFields) → challenge_visible bytes ≡ Some reported → is_indication (class_of (kind_at bytes)) ≡ false
no_indication bytes reported is = by (class_of (kind_at bytes)) is
  where
    by : (c : MessageClass) → (if is_error c && is_challenge_code (code_visible bytes) then reported_of (claimed bytes) else None) ≡ Some reported → is_indication c ≡ false
    by Request none = absurd (Prim.cc none)
    by Indication none = absurd (Prim.cc none)
    by Success none = absurd (Prim.cc none)
    by Error some = refl

-- A challenge that can be answered isn't one that can't.
none_barred : {A : Type 0} (client : auth.Client) (reported : ChallengeFields) (choice : IntegrityAlgorithm) → IsAnswerable client reported choice → IsUnanswerable client reported → A
none_barred client reported choice is (inl none) = clash (is_common client.algorithms client.hardened (list_for_choice client.hardened reported) choice) is.strongest.common (none choice)
none_barred client reported choice is (inr (inl named)) = clash (is_anonymous_enough client.anonymous_username reported.nonce) is.anonymous named
none_barred client reported choice is (inr (inr bare)) = clash (is_listed_enough client.hardened reported) is.listed bare

-- The client's account is that of the credentials in use.
account_is : (client : auth.Client) (s : auth.Standing) → auth.standing_of client ≡ Some s → client.account ≡ Some s.account
account_is client s is = by client.account client.challenge is
  where
    by : (a : Option NameAndPassword) (c : Option auth.Challenge) → auth.standing_by a c ≡ Some s → a ≡ Some s.account
    by (Some account) (Some challenge) is = ap (λ (o : Option auth.Standing). account_of o) is
      where
        account_of : Option auth.Standing → Option NameAndPassword
        account_of None = None
        account_of (Some x) = Some x.account
    by (Some account) None is = absurd (Prim.cc is)
    by None (Some challenge) is = absurd (Prim.cc is)
    by None None is = absurd (Prim.cc is)

-- ---- the challenged request is outstanding no more

module _ (h : Holder) (one two : Requested) (b : Allocation) (queue : List Queued) (last : ℕ) (events : List TurnEvent) (x : Protocol) (w : IsTcpBinding h (Some two) (one ∷ []) b queue last events x)
    (bytes : List ℕ) (number_is : number_at bytes ≡ one.number) (responds : is_response bytes ≡ true) (other : two.number ≢ one.number) (resends : ℕ) where
  -- What is left is the new one.
  only_two : (number : ℕ) (t : Transaction) → (number ≢ one.number) → (o : IsOneOf h.started (two ∷ one ∷ []) number t) → IsListed o.requested (two ∷ one ∷ []) → IsOneOf h.started (two ∷ []) number t
  only_two number t differs o (inl same) = record { requested = o.requested; listed = inl same; number_is = o.number_is; transaction_is = o.transaction_is }
  only_two number t differs o (inr (inl same)) = absurd (differs (o.number_is ∙ ap (λ (r : Requested). r.number) same))
  only_two number t differs o (inr (inr listed)) = absurd listed

  unequal : (number : ℕ) → is_eq (nat_cmp number (number_at bytes)) ≡ false → number ≢ one.number
  unequal number apart same = clash (is_eq (nat_cmp number (number_at bytes)))
      (ap (λ (n : ℕ). is_eq (nat_cmp n (number_at bytes))) (same ∙ sym number_is) ∙ (eq_by_cmp_equiv nat_cmp_total).refl (number_at bytes)) apart

  still_there : (e : Bool) → is_eq (nat_cmp two.number (number_at bytes)) ≡ e → map.get (map.remove x.agent.outstanding (number_at bytes)) two.number ≡ Some (transaction_of h.started two 1)
  still_there true same = absurd (other (same_number two.number (number_at bytes) same ∙ number_is))
  still_there false apart =
      map.get-remove nat_cmp_total x.agent.outstanding (number_at bytes) two.number
      ∙ (ap (λ (z : Bool). cond z None (map.get x.agent.outstanding two.number)) apart ∙ w.outstanding.newest)

  abbrev agent_if : Bool → agents.Agent
  agent_if awaited = if awaited then answered_by x.agent bytes x.server else x.agent

  left_so : (awaited : Bool) → is_awaited x.agent bytes ≡ awaited → AreOutstanding h.started (Some two) [] (agent_if awaited)
  left_so true is = record {
    newest = still_there (is_eq (nat_cmp two.number (number_at bytes))) refl;
    only = λ number t there. (
        let was = taken_out x.agent.outstanding (number_at bytes) number t there in
        let o = w.outstanding.only number t was.1 in
        only_two number t (unequal number was.0) o o.listed);
  }
  left_so false is = record {
    newest = w.outstanding.newest;
    only = λ number t there. (
        let o = w.outstanding.only number t there in
        only_two number t
        (λ same. clash (is_awaited x.agent bytes) (ap (λ (n : ℕ). is_some (map.get x.agent.outstanding n)) (number_is ∙ sym same) ∙ ap is_some there) is)
        o o.listed);
  }

  left_alone : (awaited : Bool) → is_awaited x.agent bytes ≡ awaited → IsTcpBinding h (Some two) [] b queue last events (record x { agent = agent_if awaited; resends = resends })
  left_alone true is = record {
    settings = record {
      server = w.settings.server;
      remote = w.settings.remote;
      transport = w.settings.transport;
      here = w.settings.here;
      waits = w.settings.waits;
      allocates = w.settings.allocates;
      families = w.settings.families;
      options = w.settings.options;
      pace = w.settings.pace;
      indications = w.settings.indications;
      usual = w.settings.usual;
    };
    signs = w.signs;
    outstanding = left_so true is;
    phase = w.phase;
    auth_is = w.auth_is;
    allocations = w.allocations;
    queue_is = w.queue_is;
    last_send = w.last_send;
    events_are = w.events_are;
    closing = w.closing;
  }
  left_alone false is = record {
    settings = record {
      server = w.settings.server;
      remote = w.settings.remote;
      transport = w.settings.transport;
      here = w.settings.here;
      waits = w.settings.waits;
      allocates = w.settings.allocates;
      families = w.settings.families;
      options = w.settings.options;
      pace = w.settings.pace;
      indications = w.settings.indications;
      usual = w.settings.usual;
    };
    signs = w.signs;
    outstanding = left_so false is;
    phase = w.phase;
    auth_is = w.auth_is;
    allocations = w.allocations;
    queue_is = w.queue_is;
    last_send = w.last_send;
    events_are = w.events_are;
    closing = w.closing;
  }

  agent_is : after_message x.agent bytes x.server ≡ agent_if (is_awaited x.agent bytes)
  agent_is = ap (λ (r : Bool). if r && is_awaited x.agent bytes then answered_by x.agent bytes x.server else x.agent) responds

  pub challenged_so : IsTcpBinding h (Some two) [] b queue last events (record x { agent = after_message x.agent bytes x.server; resends = resends })
  challenged_so = subst (λ (g : agents.Agent). IsTcpBinding h (Some two) [] b queue last events (record x { agent = g; resends = resends })) (sym agent_is) (left_alone (is_awaited x.agent bytes) refl)

-- ---- the challenge

-- Of what is pending, the transaction ID asks for this, and then for the same under another one.
module _ (h : Holder) (one : Requested) (a : Allocation) (last : ℕ) (events : List TurnEvent) (p : Protocol) (w : IsTcpBinding h (Some one) [] a [] last events p)
    (fewer : p.resends ≤ most_resends) (method : ℕ) (reported : ChallengeFields) (bytes : List ℕ) (is : IsChallengeOf reported method one.number bytes)
    (numbered : AreNumbered) (stay_short : StayShort) (stay_read : StayRead)
    (what : Wanted) (asks : TurnRequest) (again_is : request_again what one.number (a ∷ []) ≡ asks) (pending : pending_request one.number (a ∷ []) ≡ Some what) (after : ℕ → Allocation) (reissued : (n : ℕ) → all_reissued_under what one.number n (a ∷ []) ≡ after n ∷ []) where
  awaited_is : is_awaited p.agent bytes ≡ true
  awaited_is = ap (λ (n : ℕ). is_some (map.get p.agent.outstanding n)) is.number_is ∙ ap is_some w.outstanding.newest

  responds_so : is_response bytes ≡ true
  responds_so = challenges_respond bytes reported is.visible

  -- The client that stores the challenge.
  module _ (choice : IntegrityAlgorithm) (answerable : CanAnswer h reported choice) where
    abbrev h2 : Holder
    h2 = challenged_by h reported choice

    taken : IsTaken h.auth bytes (ResendRequest choice) h2.auth
    taken = record { reported = reported; visible = is.visible; answerable = answerable; stored = refl }

    signs : CanSign h2
    signs = record {
      over = w.signs.over;
      relays = w.signs.relays;
      short = stay_short h.auth h2.auth bytes (Ok (ResendRequest choice)) taken w.signs.short;
      read = stay_read h.auth h2.auth bytes (Ok (ResendRequest choice)) taken w.signs.read;
      occurs = ap (λ (o : Option NameAndPassword). auth.standing_by o h2.auth.challenge) (ap (λ (o : Option NameAndPassword). option_or o h.auth.account) w.signs.settled ∙ account_is h.auth h.standing w.signs.occurs);
      settled = refl;
      goes_by = refl;
    }

    keeps : (client : auth.Client) → client ≡ h2.auth → IsTcpBinding h2 (Some one) [] a [] last events (judged client p)
    keeps client client_is = record {
      settings = record {
        server = w.settings.server;
        remote = w.settings.remote;
        transport = w.settings.transport;
        here = w.settings.here;
        waits = w.settings.waits;
        allocates = w.settings.allocates;
        families = w.settings.families;
        options = w.settings.options;
        pace = w.settings.pace;
        indications = w.settings.indications;
        usual = w.settings.usual;
      };
      signs = signs;
      outstanding = w.outstanding;
      phase = w.phase;
      auth_is = client_is;
      allocations = w.allocations;
      queue_is = w.queue_is;
      last_send = w.last_send;
      events_are = w.events_are;
      closing = w.closing;
    }

  -- Another transaction ID.
  fresh : (client : auth.Client) (number : ℕ) → is_taken (judged client p) number ≡ false → number ≢ one.number
  unfolding is_taken
  fresh client number free same = clash (is_taken (judged client p) number)
      (ap (λ (b : Bool). b || (awaits number p.phase || is_any_awaited number p.allocations)) (ap (λ (n : ℕ). is_some (map.get p.agent.outstanding n)) same ∙ ap is_some w.outstanding.newest)) free

  request_is : request_again what (number_at bytes) p.allocations ≡ asks
  request_is = ap (λ (n : ℕ). request_again what n p.allocations) is.number_is ∙ (ap (request_again what one.number) w.allocations ∙ again_is)

  -- Another request is queued.
  pub record IsAskedAgain (now : ℕ) (q : Protocol) : Type 0 where
    pub choice : IntegrityAlgorithm
    pub answerable : CanAnswer h reported choice
    pub next : ℕ
    pub fits : next < 2 ^ 96
    pub other : next ≢ one.number
    pub lawful : IsLawfulRequest asks
    pub counted : q.resends ≡ p.resends + 1
    pub requested_is : IsTcpBinding (challenged_by h reported choice) (Some (signed_by (challenged_by h reported choice) asks next now)) [] (after next)
        (queued_from h.started.here (signed_by (challenged_by h reported choice) asks next now) ∷ []) last events q

  module _ (now : ℕ) (q : Protocol) where
    again : (choice : IntegrityAlgorithm) (answerable : CanAnswer h reported choice) (client : auth.Client) → client ≡ keeping h.auth reported choice → (handled : Bool) → IsSentAgain what (judged client p) bytes now handled q → IsAskedAgain now q
    unfolding challenged asks_again requested
    again choice answerable client client_is handled k =
        let fits = number_fits (judged client p) k.number k.is_next in
        let differs = fresh client k.number k.is_next.free in
        let lawful : IsLawfulRequest asks = subst (λ (r : TurnRequest). IsLawfulRequest r) request_is k.lawful in
        let two : Requested = signed_by (challenged_by h reported choice) asks k.number now in
        let all : all_reissued_under what (number_at bytes) k.number p.allocations ≡ after k.number ∷ [] =
        ap (λ (n : ℕ). all_reissued_under what n k.number p.allocations) is.number_is ∙ (ap (all_reissued_under what one.number k.number) w.allocations ∙ reissued k.number) in
        let queued = has_requested (challenged_by h reported choice) (Some one) [] a [] last events (judged client p) (keeps choice answerable client client_is) asks k.number now fits lawful numbered
        (after k.number) (all_reissued_under what (number_at bytes) k.number p.allocations) all p.agent.here h.started.here w.settings.here (after_draw p.rng) in
        let alone = challenged_so (challenged_by h reported choice) one two (after k.number) (queued_from h.started.here two ∷ []) last events
        (record p {
          auth = client;
          rng = after_draw p.rng;
          agent = with_request p.agent (request_text client asks k.number) p.server now;
          queue = p.queue ++ queued_request p.agent.here (request_text client asks k.number) ∷ [];
          allocations = all_reissued_under what (number_at bytes) k.number p.allocations;
        }) queued bytes is.number_is responds_so differs (p.resends + 1) in
        record {
          choice = choice;
          answerable = answerable;
          next = k.number;
          fits = fits;
          other = differs;
          lawful = lawful;
          counted = ap (λ (x : Protocol). x.resends) k.outcome.1;
          requested_is = subst (λ (x : Protocol). IsTcpBinding (challenged_by h reported choice) (Some two) [] (after k.number) (queued_from h.started.here two ∷ []) last events x) (sym (k.outcome.1
              ∙ ap (λ (r : TurnRequest). challenged bytes (record (requested (after_number (judged client p)) r k.number now) { allocations = all_reissued_under what (number_at bytes) k.number p.allocations })) request_is)) alone;
        }

    none_decoded : {A : Type 0} → challenge_visible bytes ≡ None → A
    none_decoded none = absurd (Prim.cc (sym is.visible ∙ none))

    same_decoded : (other : ChallengeFields) → challenge_visible bytes ≡ Some other → other ≡ reported
    same_decoded other e = Prim.cc (sym e ∙ is.visible)

    not_tired : (client : auth.Client) → is_tired (judged client p) ≡ false
    not_tired client = le-ltb most_resends p.resends fewer

    sent_again : (client : auth.Client) (choice : IntegrityAlgorithm) (handled : Bool) → IsJudgedStanding (Ok (ResendRequest choice)) (judged client p) bytes now handled q → IsSentAgain what (judged client p) bytes now handled q
    sent_again client choice handled out =
        let first = where_false (IsHandled (ended (judged client p)) handled q) _ (is_tired (judged client p)) (not_tired client) out in
        let second = where_true (IsRequestedAgain (pending_request (number_at bytes) p.allocations) (judged client p) bytes now handled q) (IsIgnored (judged client p) handled q) (is_awaited p.agent bytes) awaited_is first in
        let found : pending_request (number_at bytes) p.allocations ≡ Some what = ap (λ (n : ℕ). pending_request n p.allocations) is.number_is ∙ (ap (pending_request one.number) w.allocations ∙ pending) in
        subst (λ (o : Option Wanted). IsRequestedAgain o (judged client p) bytes now handled q) found second

    by_verdict : (handled : Bool) (some : IntegrityAlgorithm) → CanAnswer h reported some → (verdict : Result LongTermClientValidation LongTermClientAuthError) (client : auth.Client) → IsJudged p.auth bytes verdict client
        → IsJudgedStanding verdict (judged client p) bytes now handled q → IsAskedAgain now q
    by_verdict handled some can (Ok (ResendRequest choice)) client j out =
        let same = same_decoded j.reported j.visible in
        let stored : client ≡ keeping h.auth reported choice = j.stored ∙ (ap (λ (t : ChallengeFields). keeping p.auth t choice) same ∙ ap (λ (x : auth.Client). keeping x reported choice) w.auth_is) in
        again choice (subst (λ (x : auth.Client). IsAnswerable x reported choice) w.auth_is (subst (λ (t : ChallengeFields). IsAnswerable p.auth t choice) same j.answerable)) client stored handled (sent_again client choice handled out)
    by_verdict handled some can (Ok (Validated algorithm)) client j out = none_decoded j.no_challenge
    by_verdict handled some can (Err Unauthorized) client j out = none_decoded j.no_challenge
    by_verdict handled some can (Err (IntegrityFailed algorithm)) client j out = none_decoded j.no_challenge
    by_verdict handled some can (Err UnsupportedFeature) client j out =
        none_barred h.auth reported some can (subst (λ (x : auth.Client). IsUnanswerable x reported) w.auth_is (subst (λ (t : ChallengeFields). IsUnanswerable p.auth t) (same_decoded j.reported j.visible) j.unanswerable))
    by_verdict handled some can (Err NoMemory) client j out = absurd out

    pub challenge_processed : (handled : Bool) (some : IntegrityAlgorithm) → CanAnswer h reported some → IsProcessed p bytes now handled q → IsAskedAgain now q
    challenge_processed handled some can processed =
        let in_phase : IsProcessedIn Authenticated p bytes now handled q = subst (λ (f : Phase). IsProcessedIn f p bytes now handled q) w.phase (processed_awaited p bytes now handled q awaited_is processed) in
        let f = where_false (IsIndicationTaken p bytes handled q) (IsFollowed IsJudgedStanding p bytes now handled q) (is_indication (class_of (kind_at bytes))) (no_indication bytes reported is.visible) in_phase in
        by_verdict handled some can f.verdict f.auth f.is_judged f.outcome
