-- What a client with a pending request does with a challenge.
use Rattle.std.proofs.Common.{◌≡◌, ◌≢◌, ℕ, ◌<◌, ◌≤◌, ◌+◌, ◌^◌, arith, Bool, true, false, cond, ◌||◌, List, [], ◌∷◌, ◌++◌, Option, Some, None, refl, sym, ap, ◌∙◌, subst, ◌⊎◌, inl, inr}
use Rattle.std.specs.Prelude.{◌==◌, ◌&&◌, nat_lt, Result, Ok, Err, find, is_some, if◌then◌else◌}
use Rattle.std.specs.FinMap as finite
use Rattle.std.specs.Cmp.{eq_by_cmp_equiv, nat_cmp_total}
use Rattle.std.specs.List.{list_any}
use Rattle.std.specs.Option.{option_and_then}
use Rattle.std.specs.Ordering.{is_eq, nat_cmp}
use Rattle.std.specs.declared.net.ip_addr.IpAddr.{IpAddr}
use Rattle.std.specs.declared.net.socket_addr.SocketAddr.{SocketAddr}
use Rattle.std.proofs.lemmas.Bool.{cases_Bool, eq-eqb, eqb-true, le-ltb, lt-leb}
use Rattle.turn_client_proto_messages.specs.StunTypesBase.declared.transport.TransportType.{TransportType}
use Rattle.turn_client_proto_messages.specs.StunTypesWire.Attributes.{kind_at}
use Rattle.turn_client_proto_messages.specs.StunTypesWire.Grammar.{number_at}
use Rattle.turn_client_proto_messages.specs.StunTypesWire.Types.{class_of, is_response_class}
use Rattle.turn_client_proto_messages.specs.StunTypesWire.declared.algorithm.IntegrityAlgorithm.{IntegrityAlgorithm}
use Rattle.turn_client_proto_messages.specs.StunTypesWire.declared.class.MessageClass.{MessageClass}
use Rattle.turn_client_proto_messages.specs.StunTypesWire.declared.class.MessageClass.TheVariants as class
use Rattle.turn_client_proto_messages.specs.StunProtoAuth.Claims.{Claimed, claimed}
use Rattle.turn_client_proto_messages.specs.StunProtoClient.Challenges.{ChallengeFields, challenge_visible, is_anonymous_enough, is_listed_enough, list_for_choice}
use Rattle.turn_client_proto_messages.specs.StunProtoClient.Choice.{is_common}
use Rattle.turn_client_proto_messages.specs.StunProtoClient.Client as auth
use Rattle.turn_client_proto_messages.specs.StunProtoClient.ClientValidation.{IsAnswerable, IsTaken, IsUnanswerable, keeping}
use Rattle.turn_client_proto_messages.specs.StunProtoClient.declared.error.LongTermClientAuthError.{LongTermClientAuthError}
use Rattle.turn_client_proto_messages.specs.StunProtoClient.declared.error.LongTermClientAuthError.TheVariants.{Unauthorized, IntegrityFailed, UnsupportedFeature, NoMemory}
use Rattle.turn_client_proto_messages.specs.StunProtoClient.declared.validation.LongTermClientValidation.{LongTermClientValidation}
use Rattle.turn_client_proto_messages.specs.StunProtoClient.declared.validation.LongTermClientValidation.TheVariants.{ResendRequest, Validated}
use Rattle.turn_client_proto_messages.specs.StunProtoAgent.Handling.{after_message, ends_one, is_awaited, is_response}
use Rattle.turn_client_proto_messages.specs.StunProtoAgent.Sending.{started, with_request}
use Rattle.turn_client_proto_messages.specs.StunProtoAgent.State as agents
use Rattle.turn_client_proto_messages.specs.StunProtoTransaction.Agents.{Transaction, is_ended}
use Rattle.turn_client_proto_messages.specs.StunProtoTransaction.Schedule.{end_at}
use Rattle.turn_client_proto_messages.proofs.StunProtoTransaction.Leasts.{same_number}
use Rattle.turn_client_proto_messages.specs.Allocation.Awaited.{asks_for_channel, asks_for_permission, has_number, is_awaited as awaits_number, is_refresh, renews_channel, renews_permission}
use Rattle.turn_client_proto_messages.specs.Allocation.Changes.{change_first}
use Rattle.turn_client_proto_messages.specs.Allocation.Channels as channel_lists
use Rattle.turn_client_proto_messages.specs.Allocation.Listed.{is_any_awaited}
use Rattle.turn_client_proto_messages.specs.Allocation.Permissions as permissions
use Rattle.turn_client_proto_messages.specs.Allocation.PendingRequests.{all_reissued_under, awaits_reply, pending_request, permission_too, reissued_under, requested_of}
use Rattle.turn_client_proto_messages.specs.Allocation.declared.allocation.Allocation.{Allocation}
use Rattle.turn_client_proto_messages.specs.Allocation.declared.pending.PendingRequest.{PendingRequest}
use Rattle.turn_client_proto_messages.specs.Allocation.declared.pending.PendingRequest.TheVariants.{NewChannel, NewPermission}
use Rattle.turn_client_proto_messages.specs.Judging.{IsJudged}
use Rattle.turn_client_proto_messages.specs.Requests.{request_text}
use Rattle.turn_client_proto_messages.specs.ReportedRequests.{IsLawfulRequest}
use Rattle.turn_client_proto_messages.specs.TurnRuns.Indications.{is_indication}
use Rattle.turn_client_proto_messages.specs.Waiting.{Queued}
use Rattle.turn_client_proto_messages.specs.declared.request.TurnRequest.{TurnRequest}
use Rattle.turn_client_proto_messages.proofs.Reading.{number_law}
use Rattle.turn_client_proto_core.proofs.Awaiting.{processed_awaited}
use Rattle.turn_client_proto_step_laws.proofs.Lists.{found_in, inside}
use Rattle.turn_client_proto_step_laws.proofs.Numbers.{number_small}
use Rattle.turn_client_proto_handshake_laws.specs.Core.Asking.{queued_request, requested}
use Rattle.turn_client_proto_handshake_laws.specs.Core.Ending.{ended}
use Rattle.turn_client_proto_handshake_laws.specs.Core.Numbering.{IsNextNumber, after_number, awaits, is_taken}
use Rattle.turn_client_proto_handshake_laws.specs.Core.Outcomes.{IsHandled, IsIgnored}
use Rattle.turn_client_proto_handshake_laws.specs.Core.Attempting.{IsIndicationTaken}
use Rattle.turn_client_proto_handshake_laws.specs.Core.Receiving.{IsFollowed, IsProcessed, IsProcessedIn}
use Rattle.turn_client_proto_handshake_laws.specs.Core.Responding.{challenged, is_tired, judged, most_resends}
use Rattle.turn_client_proto_messages.specs.declared.request.TurnRequest.TheVariants.{CreatePermission}
use Rattle.turn_client_proto_handshake_laws.specs.Core.Standing.{IsJudgedStanding, IsRechallenged, IsRequestedAgain, IsSentAgain, asks_again, request_again}
use Rattle.turn_client_proto_handshake_laws.specs.Core.declared.protocol.Phase.{Phase}
use Rattle.turn_client_proto_handshake_laws.specs.Core.declared.protocol.Phase.TheVariants.{Authenticated}
use Rattle.turn_client_proto_handshake_laws.specs.Core.declared.protocol.Protocol.{Protocol}
use Rattle.turn_client_proto_handshake_laws.specs.Sent.{Beginning}
use Rattle.turn_client_proto_progress_laws.specs.Asking.{APermission, AChannel, Awaits, AwaitsChannel, HasMadeRequest, IsMade, NonePasses, Wanted, request_for}
use Rattle.turn_client_proto_progress_laws.specs.Speaking.{ReportsRealm, Signs, Speaks}
use Rattle.turn_client_proto_progress_laws.proofs.Asking.Addresses.{one_address}
use Rattle.turn_client_proto_progress_laws.proofs.Asking.Lists.{first_not, second_not, none_found, none_of_any, not_both, one_changed, one_found}
use Rattle.turn_client_proto_progress_laws.proofs.Asking.Moving.{beside_put}
use Rattle.turn_client_proto_progress_laws.proofs.Asking.Own.{DoClaim, claims_own}
use Rattle.turn_client_proto_progress_laws.proofs.Asking.Processing.{judged_signs, processed_speaks}
use Rattle.turn_client_proto_progress_laws.proofs.Asking.Tools.{Table, put_there, stays_there, where_false, where_true}
use Rattle.turn_client_proto_progress_laws.proofs.TcpBinding.Tools.{challenges_respond, clash}
use Rattle.turn_client_proto_progress_laws.specs.RequestChallenges.{Counted, IsChallengeTo, IsMadeAgain, MayAnswer}

-- ---- tools

-- What is found first and then changed is found by another test that it passes then, and nothing else did.
found_changed : {X : Type 0} (q r : X → Bool) (f : X → X) (xs : List X) (x : X) → find r xs ≡ Some x → NonePasses q xs → q (f x) ≡ true → find q (change_first r f xs) ≡ Some (f x)
found_changed q r f [] x is none passes = absurd (Prim.cc is)
found_changed q r f (y ∷ ys) x is none passes = elim (cases_Bool (r y)) [
  | inl first ↦
      let here : find r (y ∷ ys) ≡ Some y = rw first refl in
      let same : y ≡ x = inside (sym here ∙ is) in
      let changed : change_first r f (y ∷ ys) ≡ f y ∷ ys = rw first refl in
      let own : q (f y) ≡ true = ap (λ z. q (f z)) same ∙ passes in
      let found : find q (f y ∷ ys) ≡ Some (f y) = rw own refl in
      ap (find q) changed ∙ found ∙ ap (λ z. Some (f z)) same
  | inr fails ↦
      let here : find r (y ∷ ys) ≡ find r ys = rw fails refl in
      let changed : change_first r f (y ∷ ys) ≡ y ∷ change_first r f ys = rw fails refl in
      let other : q y ≡ false = none y (inl refl) in
      let found : find q (y ∷ change_first r f ys) ≡ find q (change_first r f ys) = rw other refl in
      ap (find q) changed ∙ found ∙ found_changed q r f ys x (sym here ∙ is) (λ z listed. none z (inr listed)) passes
]

gone_there : (m : Table) (key : ℕ) → finite.get (finite.remove m key) key ≡ None
gone_there m key =
    let same : is_eq (nat_cmp key key) ≡ true = (eq_by_cmp_equiv nat_cmp_total).refl key in
    finite.get-remove nat_cmp_total m key key ∙ ap (λ (z : Bool). cond z None (finite.get m key)) same

unlike : (a c : ℕ) → (a ≡ c → ⊥) → is_eq (nat_cmp a c) ≡ false
unlike a c apart = elim (cases_Bool (is_eq (nat_cmp a c))) [
  | inl same ↦ absurd (apart (same_number a c same))
  | inr fails ↦ fails
]

-- The last of the transaction IDs is listed.
has_last : (n : ℕ) (numbers : List ℕ) → has_number n (numbers ++ n ∷ []) ≡ true
has_last n [] = ap (λ (x : Bool). x || false) (eq-eqb n n refl)
has_last n (x ∷ numbers) = elim (cases_Bool (x == n)) [
  | inl is ↦ rw is refl
  | inr fails ↦ (let here : has_number n (x ∷ (numbers ++ n ∷ [])) ≡ has_number n (numbers ++ n ∷ []) = rw fails refl in here ∙ has_last n numbers)
]

-- Any other one was listed before.
had_before : (n last : ℕ) (numbers : List ℕ) → (n ≡ last → ⊥) → has_number n (numbers ++ last ∷ []) ≡ true → has_number n numbers ≡ true
had_before n last [] other has = elim (cases_Bool (last == n)) [
  | inl is ↦ absurd (other (sym (eqb-true last n is)))
  | inr fails ↦ (let here : has_number n (last ∷ []) ≡ false = rw fails refl in not_both (has_number n (last ∷ [])) has here)
]
had_before n last (x ∷ numbers) other has = elim (cases_Bool (x == n)) [
  | inl is ↦ rw is refl
  | inr fails ↦ (
      let here : has_number n (x ∷ (numbers ++ last ∷ [])) ≡ has_number n (numbers ++ last ∷ []) = rw fails refl in
      let there : has_number n (x ∷ numbers) ≡ has_number n numbers = rw fails refl in
      there ∙ had_before n last numbers other (sym here ∙ has))
]

-- A response is no indication.
pub no_indication : (c : MessageClass) → is_response_class c ≡ true → is_indication c ≡ false
no_indication class.Request responds = absurd (Prim.cc responds)
no_indication class.Indication responds = absurd (Prim.cc responds)
no_indication class.Success responds = refl
no_indication class.Error responds = refl

-- A challenge that can be answered isn't one that can't.
none_barred : {A : Type 0} (client : auth.Client) (reported : ChallengeFields) (choice : IntegrityAlgorithm) → IsAnswerable client reported choice → IsUnanswerable client reported → A
none_barred client reported choice is (inl none) = clash (is_common client.algorithms client.hardened (list_for_choice client.hardened reported) choice) is.strongest.common (none choice)
none_barred client reported choice is (inr (inl named)) = clash (is_anonymous_enough client.anonymous_username reported.nonce) is.anonymous named
none_barred client reported choice is (inr (inr bare)) = clash (is_listed_enough client.hardened reported) is.listed bare

-- ---- what is asked for

abbrev what_of : Wanted → TransportType → PendingRequest
what_of (APermission ip) transport = NewPermission transport ip
what_of (AChannel channel peer) transport = NewChannel transport channel peer

same_request : (wanted : Wanted) (numbers : List ℕ) (number : ℕ) (a : Allocation) → awaits_reply number a ≡ true → Awaits numbers number wanted a → request_again (what_of wanted a.transport) number (a ∷ []) ≡ request_for wanted
same_request (APermission ip) numbers number a awaits is = ap CreatePermission (one_address number ip numbers a awaits is.requested)
same_request (AChannel channel peer) numbers number a awaits is = refl

asks_of : (wanted : Wanted) (numbers : List ℕ) (number : ℕ) (a : Allocation) → Awaits numbers number wanted a → requested_of number a ≡ Some (what_of wanted a.transport)
unfolding requested_of
asks_of (APermission ip) numbers number a is =
    let one = none_found (is_refresh number) a.pending_refreshes is.no_refresh in
    let two = none_found (asks_for_channel number) a.pending_channels is.no_channel in
    let three = none_found (renews_channel number) a.channels is.no_renewal in
    let four = is.requested in
    rw (one, two, three, four) refl
asks_of (AChannel channel peer) numbers number a is =
    let one = none_found (is_refresh number) a.pending_refreshes is.no_refresh in
    let two = is.requested in
    rw (one, two) refl

-- ---- the allocation, once it is requested again

module _ (old number : ℕ) (a : Allocation) (unawaited : awaits_number number a ≡ false) where
  record AreFree : Type 0 where
    no_refresh : NonePasses (is_refresh number) a.pending_refreshes
    no_channel : NonePasses (asks_for_channel number) a.pending_channels
    no_renewal : NonePasses (renews_channel number) a.channels
    no_permission : NonePasses (asks_for_permission number) a.pending_permissions

  are_free : AreFree
  unfolding awaits_number
  are_free =
      let one = second_not (list_any (renews_permission number) a.permissions) _ unawaited in
      let two = second_not (list_any (renews_channel number) a.channels) _ one in
      let three = second_not (list_any (asks_for_permission number) a.pending_permissions) _ two in
      let four = second_not (list_any (asks_for_channel number) a.pending_channels) _ three in
      record {
        no_refresh = none_of_any (is_refresh number) a.pending_refreshes (first_not (list_any (is_refresh number) a.pending_refreshes) _ four);
        no_channel = none_of_any (asks_for_channel number) a.pending_channels (first_not (list_any (asks_for_channel number) a.pending_channels) _ three);
        no_renewal = none_of_any (renews_channel number) a.channels (first_not (list_any (renews_channel number) a.channels) _ one);
        no_permission = none_of_any (asks_for_permission number) a.pending_permissions (first_not (list_any (asks_for_permission number) a.pending_permissions) _ two);
      }

  -- The allocation is the one that it was, and awaits the new request.
  record IsReissued (numbers : List ℕ) (wanted : Wanted) (after : Allocation) : Type 0 where
    occurs : after.is_expired ≡ a.is_expired
    expiry : after.expiry ≡ a.expiry
    awaits : Awaits numbers number wanted after

  too_awaits : (numbers : List ℕ) (channel : ℕ) (peer : SocketAddr) (x : Allocation) → x.is_expired ≡ a.is_expired → x.expiry ≡ a.expiry → AwaitsChannel numbers number channel peer x → IsReissued numbers (AChannel channel peer) (permission_too old number x)
  unfolding permission_too
  too_awaits numbers channel peer x occurs expiry is = elim (cases_Bool (list_any (asks_for_permission old) x.pending_permissions)) [
    | inl asks ↦ rw asks (record { occurs = occurs; expiry = expiry; awaits = record { no_refresh = is.no_refresh; requested = is.requested; free = is.free } })
    | inr none ↦ rw none (record { occurs = occurs; expiry = expiry; awaits = record { no_refresh = is.no_refresh; requested = is.requested; free = is.free } })
  ]

  reissued : (wanted : Wanted) (numbers : List ℕ) → Awaits numbers old wanted a → IsReissued (numbers ++ number ∷ []) wanted (reissued_under (what_of wanted a.transport) old number a)
  reissued (APermission ip) numbers is =
      let f = are_free in
      record {
        occurs = refl;
        expiry = refl;
        awaits = record {
          no_refresh = f.no_refresh;
          no_channel = f.no_channel;
          no_renewal = f.no_renewal;
          requested = found_changed (asks_for_permission number) (asks_for_permission old) (permissions.with_number number) a.pending_permissions (record { ip = ip; others = []; numbers = numbers }) is.requested f.no_permission (has_last number numbers);
        };
      }
  reissued (AChannel channel peer) numbers is =
      let f = are_free in
      too_awaits (numbers ++ number ∷ []) channel peer (record a { pending_channels = channel_lists.requested_again old number a.pending_channels }) refl refl (record {
        no_refresh = f.no_refresh;
        requested = found_changed (asks_for_channel number) (asks_for_channel old) (channel_lists.with_number number) a.pending_channels (record { channel = channel; peer = peer; numbers = numbers }) is.requested f.no_channel (has_last number numbers);
        free = is.free;
      })

-- ---- the challenge is answered

module _ (b : Beginning) (realm : List ℕ) (address : SocketAddr) (wanted : Wanted) (request : List ℕ) (until beyond : ℕ) (Counts : ℕ → Type 0) (p : Protocol) (h : HasMadeRequest b realm address wanted request until beyond Counts p) (claim : DoClaim) (message : List ℕ) (reported : ChallengeFields) (is : IsChallengeTo realm request reported message)
    (times : ℕ) (may : MayAnswer reported (times + 1) p) (now later : ℕ) (early : later < end_at now b.config.waits) where
  abbrev a : Allocation
  a = h.allocation

  abbrev what : PendingRequest
  what = what_of wanted a.transport

  old_number : number_at message ≡ h.number
  old_number = is.number ∙ (ap number_at h.text ∙ number_law p.auth (request_for wanted) h.number h.speaks.signs.short h.lawful h.fits)

  decodes : ReportsRealm realm message
  decodes other shows = (let same : other ≡ reported = Prim.cc (sym shows ∙ is.visible) in ap (λ (t : ChallengeFields). t.realm) same ∙ is.realm_is)

  awaited : is_awaited p.agent message ≡ true
  awaited = ap (λ (n : ℕ). is_some (finite.get p.agent.outstanding n)) old_number ∙ ap is_some h.outstanding

  responds : is_response message ≡ true
  responds = challenges_respond message reported is.visible

  own_awaits : Awaits h.numbers (number_at message) wanted a
  own_awaits = subst (λ (n : ℕ). Awaits h.numbers n wanted a) (sym old_number) h.awaits

  asks_it : requested_of (number_at message) a ≡ Some what
  asks_it = asks_of wanted h.numbers (number_at message) a own_awaits

  awaits_it : awaits_reply (number_at message) a ≡ true
  awaits_it = ap is_some asks_it

  requested_here : pending_request (number_at message) p.allocations ≡ Some what
  requested_here =
      ap (λ (l : List Allocation). pending_request (number_at message) l) h.only
      ∙ (ap (λ (o : Option Allocation). option_and_then (requested_of (number_at message)) o) (one_found (awaits_reply (number_at message)) a awaits_it) ∙ asks_it)

  request_is : request_again what (number_at message) p.allocations ≡ request_for wanted
  request_is = ap (λ (l : List Allocation). request_again what (number_at message) l) h.only ∙ same_request wanted h.numbers (number_at message) a awaits_it own_awaits

  -- ---- the client then

  module _ (client : auth.Client) (signs : Signs b realm client) (nonce_so : (x : auth.Challenge) → client.challenge ≡ Some x → x.nonce ≡ reported.nonce) (number : ℕ) (next : IsNextNumber (judged client p) number) (lawful : IsLawfulRequest (request_again what (number_at message) p.allocations)) where
    abbrev k : Protocol
    k = judged client p

    own_lawful : IsLawfulRequest (request_for wanted)
    own_lawful = subst (λ (r : TurnRequest). IsLawfulRequest r) request_is lawful

    fits : number < 2 ^ 96
    fits = number_small k number next

    abbrev text : List ℕ
    text = request_text client (request_again what (number_at message) p.allocations) number

    own_text : text ≡ request_text client (request_for wanted) number
    own_text = ap (λ (r : TurnRequest). request_text client r number) request_is

    shows : number_at text ≡ number
    shows = ap number_at own_text ∙ number_law client (request_for wanted) number signs.short own_lawful fits

    free : is_some (finite.get p.agent.outstanding number) ≡ false
    unfolding is_taken
    free = first_not (is_some (finite.get p.agent.outstanding number)) _ next.free

    unawaited : awaits_number number a ≡ false
    unfolding is_taken
    unawaited =
        let other : (awaits number p.phase || is_any_awaited number p.allocations) ≡ false = second_not (is_some (finite.get p.agent.outstanding number)) _ next.free in
        let any : is_any_awaited number p.allocations ≡ false = second_not (awaits number p.phase) _ other in
        first_not (awaits_number number a) false (ap (λ (l : List Allocation). is_any_awaited number l) (sym h.only) ∙ any)

    -- Its transaction ID is another one.
    pub other_number : number ≡ number_at message → ⊥
    other_number same = not_both (is_awaited p.agent message) awaited (ap (λ (n : ℕ). is_some (finite.get p.agent.outstanding n)) (sym same) ∙ free)

    abbrev transaction : Transaction
    transaction = started p.agent text p.server now

    abbrev more : agents.Agent
    more = with_request p.agent text p.server now

    ends : ends_one more message ≡ true
    ends =
        let beside : finite.get more.outstanding (number_at message) ≡ finite.get p.agent.outstanding (number_at message) = beside_put p.agent.outstanding (number_at text) (number_at message) transaction (λ same. other_number (sym (same ∙ shows))) in
        ap (λ (x : Bool). x && is_awaited more message) responds ∙ ap is_some beside ∙ awaited

    outstanding_is : (n : ℕ) → finite.get (after_message more message p.server).outstanding n ≡ finite.get (finite.remove (finite.insert p.agent.outstanding (number_at text) transaction) (number_at message)) n
    outstanding_is n = rw ends refl

    there : finite.get (after_message more message p.server).outstanding number ≡ Some transaction
    there =
        outstanding_is number
        ∙ stays_there (finite.insert p.agent.outstanding (number_at text) transaction) (number_at message) number (unlike number (number_at message) other_number)
        ∙ ap (λ (n : ℕ). finite.get (finite.insert p.agent.outstanding (number_at text) transaction) n) (sym shows)
        ∙ put_there p.agent.outstanding (number_at text) transaction

    others : (n : ℕ) → has_number n (h.numbers ++ number ∷ []) ≡ true → n ≢ number → finite.get (after_message more message p.server).outstanding n ≡ None
    others n has apart = elim (cases_Bool (n == number_at message)) [
      | inl same ↦ (
          let own : n ≡ number_at message = eqb-true n (number_at message) same in
          outstanding_is n ∙ ap (λ (x : ℕ). finite.get (finite.remove (finite.insert p.agent.outstanding (number_at text) transaction) (number_at message)) x) own
          ∙ gone_there (finite.insert p.agent.outstanding (number_at text) transaction) (number_at message))
      | inr differs ↦ (
          let not_old : n ≡ number_at message → ⊥ = λ same. not_both (n == number_at message) (eq-eqb n (number_at message) same) differs in
          outstanding_is n
          ∙ stays_there (finite.insert p.agent.outstanding (number_at text) transaction) (number_at message) n (unlike n (number_at message) not_old)
          ∙ beside_put p.agent.outstanding (number_at text) n transaction (λ same. apart (same ∙ shows))
          ∙ h.others n (had_before n number h.numbers apart has) (λ same. not_old (same ∙ sym old_number)))
    ]

    abbrev changed : Allocation
    changed = reissued_under what (number_at message) number a

    only : all_reissued_under what (number_at message) number p.allocations ≡ changed ∷ []
    only =
        ap (λ (l : List Allocation). change_first (awaits_reply (number_at message)) (reissued_under what (number_at message) number) l) h.only
        ∙ one_changed (awaits_reply (number_at message)) (reissued_under what (number_at message) number) a awaits_it

    abbrev after : Protocol
    after = challenged message (asks_again what (number_at message) number now k)

    after_agent : after.agent ≡ after_message more message p.server
    unfolding challenged asks_again requested
    after_agent = refl

    after_allocations : after.allocations ≡ all_reissued_under what (number_at message) number p.allocations
    unfolding challenged asks_again requested
    after_allocations = refl

    after_phase : after.phase ≡ p.phase
    unfolding challenged asks_again requested
    after_phase = refl

    after_auth : after.auth ≡ client
    unfolding challenged asks_again requested
    after_auth = refl

    after_queue : after.queue ≡ p.queue ++ queued_request p.agent.here text ∷ []
    unfolding challenged asks_again requested
    after_queue = refl

    after_resends : after.resends ≡ p.resends + 1
    unfolding challenged asks_again requested
    after_resends = refl

    asks_after : Speaks b realm address after → HasMadeRequest b realm address wanted text later beyond (Counted (p.resends + 1)) after
    asks_after speaks =
        let r = reissued (number_at message) number a unawaited wanted h.numbers own_awaits in
        let ends_then : end_at now p.agent.waits ≡ end_at now b.config.waits = ap (λ w. end_at now w) h.speaks.settings.waits in
        record {
          speaks = speaks;
          phase = after_phase ∙ h.phase;
          allocation = changed;
          only = after_allocations ∙ only;
          occurs = r.occurs ∙ h.occurs;
          later = subst (λ (n : ℕ). beyond < n) (sym r.expiry) h.later;
          number = number;
          fits = fits;
          lawful = own_lawful;
          text = own_text ∙ ap (λ (x : auth.Client). request_text x (request_for wanted) number) (sym after_auth);
          numbers = h.numbers ++ number ∷ [];
          awaits = r.awaits;
          others = λ n has apart. ap (λ (x : agents.Agent). finite.get x.outstanding n) after_agent ∙ others n has apart;
          transaction = transaction;
          outstanding = ap (λ (x : agents.Agent). finite.get x.outstanding number) after_agent ∙ there;
          continues = lt-leb (end_at now p.agent.waits) later (omega (arith, ends_then, early));
          counts = after_resends;
        }

    none_there : (o : Option Transaction) → finite.get p.agent.outstanding number ≡ o → o ≡ None
    none_there None at_it = refl
    none_there (Some t) at_it = absurd (Prim.cc (sym (ap is_some at_it) ∙ free))

    is_made : IsMade p after text
    is_made = record {
      number = number;
      transaction = transaction;
      there = ap (λ (x : agents.Agent). finite.get x.outstanding number) after_agent ∙ there;
      none = none_there (finite.get p.agent.outstanding number) refl;
      bytes = refl;
    }

    -- It is under the nonce of the challenge.
    nonce_is : Speaks b realm address after → (claimed text).nonce ≡ Some reported.nonce
    nonce_is speaks =
        let asks = asks_after speaks in
        let claims = claims_own b realm address wanted text later beyond (Counted (p.resends + 1)) after asks claim in
        ap (λ (x : Claimed). x.nonce) claims
        ∙ ap Some (nonce_so asks.speaks.signs.challenge (sym (ap (λ (x : auth.Client). x.challenge) after_auth) ∙ asks.speaks.signs.stored))

    made_again : (q : Protocol) → q ≡ after → Speaks b realm address q → IsMadeAgain b realm address wanted request reported later beyond p q
    made_again q same speaks = (let here = subst (λ (x : Protocol). Speaks b realm address x) same speaks in subst (λ (x : Protocol). IsMadeAgain b realm address wanted request reported later beyond p x) (sym same) (record {
      request = text;
      asks = asks_after here;
      made = is_made;
      other = λ same_number. other_number (sym shows ∙ same_number ∙ sym is.number);
      nonce = nonce_is here;
      queue_is = after_queue ∙ ap (λ (x : SocketAddr). p.queue ++ queued_request x text ∷ []) h.speaks.settings.here;
      resends_is = after_resends;
    }))

  -- ---- by the verdict

  not_tired : (client : auth.Client) → is_tired (judged client p) ≡ false
  not_tired client = (let few = may.few in le-ltb most_resends p.resends (omega (arith, few)))

  module _ (q : Protocol) (speaks : Speaks b realm address q) where
    abbrev Again : Type 0
    Again = IsMadeAgain b realm address wanted request reported later beyond p q

    abbrev ShowsNonce : auth.Client → Type 0
    ShowsNonce client = (x : auth.Challenge) → client.challenge ≡ Some x → x.nonce ≡ reported.nonce

    sent_again : (client : auth.Client) → Signs b realm client → ShowsNonce client → (handled : Bool) → IsSentAgain what (judged client p) message now handled q → Again
    sent_again client signs nonce_so handled s = made_again client signs nonce_so s.number s.is_next s.lawful q s.outcome.1 speaks

    rechallenged : (client : auth.Client) → Signs b realm client → ShowsNonce client → (handled : Bool) → IsRechallenged (judged client p) message now handled q → Again
    rechallenged client signs nonce_so handled r =
        let on = where_false _ _ (is_tired (judged client p)) (not_tired client) r in
        let own = where_true _ _ (is_awaited p.agent message) awaited on in
        sent_again client signs nonce_so handled (subst (λ (o : Option PendingRequest). IsRequestedAgain o (judged client p) message now handled q) requested_here own)

    -- The challenge is the one that it stores.
    stores : (choice : IntegrityAlgorithm) (client : auth.Client) → IsTaken p.auth message (ResendRequest choice) client → ShowsNonce client
    stores choice client j x there =
        let own : j.reported ≡ reported = Prim.cc (sym j.visible ∙ is.visible) in
        let kept : client.challenge ≡ (keeping p.auth j.reported choice).challenge = ap (λ (y : auth.Client). y.challenge) j.stored in
        let same : x ≡ record { realm = j.reported.realm; nonce = j.reported.nonce; offered = list_for_choice p.auth.hardened j.reported; choice = choice } = Prim.cc (sym there ∙ kept) in
        ap (λ (y : auth.Challenge). y.nonce) same ∙ ap (λ (t : ChallengeFields). t.nonce) own

    none_decoded : {A : Type 0} → challenge_visible message ≡ None → A
    none_decoded none = absurd (Prim.cc (sym is.visible ∙ none))

    by_verdict : (verdict : Result LongTermClientValidation LongTermClientAuthError) (client : auth.Client) (handled : Bool) → IsJudged p.auth message verdict client → IsJudgedStanding verdict (judged client p) message now handled q → Again
    by_verdict (Ok (ResendRequest choice)) client handled j out = rechallenged client (judged_signs b realm message decodes p.auth client h.speaks.signs (Ok (ResendRequest choice)) j) (stores choice client j) handled out
    by_verdict (Ok (Validated algorithm)) client handled j out = none_decoded j.no_challenge
    by_verdict (Err Unauthorized) client handled j out = none_decoded j.no_challenge
    by_verdict (Err (IntegrityFailed algorithm)) client handled j out = none_decoded j.no_challenge
    by_verdict (Err UnsupportedFeature) client handled j out =
        none_barred p.auth reported may.choice may.can (subst (λ (t : ChallengeFields). IsUnanswerable p.auth t) (let same : j.reported ≡ reported = Prim.cc (sym j.visible ∙ is.visible) in same) j.unanswerable)
    by_verdict (Err NoMemory) client handled j out = absurd out

  pub challenge_answered : (handled : Bool) (q : Protocol) → IsProcessed p message now handled q → IsMadeAgain b realm address wanted request reported later beyond p q
  challenge_answered handled q processed =
      let in_phase : IsProcessedIn Authenticated p message now handled q = subst (λ (f : Phase). IsProcessedIn f p message now handled q) h.phase (processed_awaited p message now handled q awaited processed) in
      let none : is_indication (class_of (kind_at message)) ≡ false = no_indication (class_of (kind_at message)) responds in
      let f = where_false (IsIndicationTaken p message handled q) (IsFollowed IsJudgedStanding p message now handled q) (is_indication (class_of (kind_at message))) none in_phase in
      by_verdict q (processed_speaks b realm address p h.speaks message decodes now handled q processed) f.verdict f.auth handled f.is_judged f.outcome
